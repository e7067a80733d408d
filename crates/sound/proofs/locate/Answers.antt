-- The goals of `sound::locate` that want a word.
use Prim.Native.Nat.{◌≤◌}
use mathlib.Core.Path.{sym, ap, ◌∙◌}
use native.Mathlib.Omega.{arith}
use Rattle.std.specs.Prelude.{Ok}
use Rattle.rules.specs.Rows.{none}
use Rattle.rules.specs.Words.{table_of, rows_of}
use Rattle.laws.proofs.Words.{next-doc-in}
use Rattle.sound.specs.declared.Windows.TheVariants.{One}
use Rattle.sound.proofs.Checks.{checked-short, checked-unsound, checked-fine, found-one, found-several, alone-so}
use Rattle.sound.proofs.Verdict.{sound-stops, sound-goes, told-fails, told-holds}
use Rattle.sound.proofs.locate.Goals as goal

pub returns-then-is_short : goal.returns-then-is_short
returns-then-is_short c = checked-short _ c.args.words.now (sym c.is_short.ensures ∙ c.if-is_short.true)

pub returns-in_default : goal.returns-in_default
returns-in_default c = let word : (table_of c.args.words.now).next_doc ≤ none = omega (arith, c.shared_slice_known-1.given 1, next-doc-in c.args.words.now) in
    checked-unsound _ c.args.words.now (sym c.is_short.ensures ∙ c.if-is_short.false) (sound-stops c.args.words.now word (told-fails (rows_of c.args.words.now) _ _ _ c.test.ensures c.in_default.is))

pub returns-then-not-is_in_order : goal.returns-then-not-is_in_order
returns-then-not-is_in_order c = let word : (table_of c.args.words.now).next_doc ≤ none = omega (arith, c.shared_slice_known-1.given 1, next-doc-in c.args.words.now) in
    let told = told-holds (rows_of c.args.words.now) _ _ _ c.test.ensures _ c.in-Some.is in
    checked-unsound _ c.args.words.now (sym c.is_short.ensures ∙ c.if-is_short.false) (sym (sound-goes c.args.words.now word _ told.0 c.is_in_order.ensures) ∙ c.if-not-is_in_order.true)

pub returns-then-p : goal.returns-then-p
returns-then-p c = let word : (table_of c.args.words.now).next_doc ≤ none = omega (arith, c.shared_slice_known-1.given 1, next-doc-in c.args.words.now) in
    let told = told-holds (rows_of c.args.words.now) _ _ _ c.test.ensures _ c.in-Some.is in
    ap Ok (found-several (rows_of c.args.words.now) _ told.1 c.if-p.true)
    ∙ checked-fine _ c.args.words.now (sym c.is_short.ensures ∙ c.if-is_short.false) (sym (sound-goes c.args.words.now word _ told.0 c.is_in_order.ensures) ∙ c.if-not-is_in_order.false)

pub stand_of-requires : goal.stand_of-requires
stand_of-requires c = let word : (table_of c.args.words.now).next_doc ≤ none = omega (arith, c.shared_slice_known-1.given 1, next-doc-in c.args.words.now) in
    let told = told-holds (rows_of c.args.words.now) _ _ _ c.test.ensures _ c.in-Some.is in
    (sym (sound-goes c.args.words.now word _ told.0 c.is_in_order.ensures) ∙ c.if-not-is_in_order.false, alone-so _ _ told.1 c.if-p.false, told.1)

pub returns : goal.returns
returns c = let word : (table_of c.args.words.now).next_doc ≤ none = omega (arith, c.shared_slice_known-1.given 1, next-doc-in c.args.words.now) in
    let told = told-holds (rows_of c.args.words.now) _ _ _ c.test.ensures _ c.in-Some.is in
    ap (λ s. Ok (One s)) c.stand_of.ensures ∙ ap Ok (found-one (rows_of c.args.words.now) _ told.1 c.if-p.false)
    ∙ checked-fine _ c.args.words.now (sym c.is_short.ensures ∙ c.if-is_short.false) (sym (sound-goes c.args.words.now word _ told.0 c.is_in_order.ensures) ∙ c.if-not-is_in_order.false)
