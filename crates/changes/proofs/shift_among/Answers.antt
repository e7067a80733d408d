-- The goals of `changes::shift_among` that want a word.
use Prim.Native.Nat.{◌≤◌}
use mathlib.Core.Path.{sym, ◌∙◌}
use native.Mathlib.Omega.{arith}
use mir.Syntax.{w32}
use mir.ValLaws.{to_z-of_z}
use Rattle.base.proofs.Refused.{handed-on}
use Rattle.rules.specs.Rows.{none}
use Rattle.rules.specs.Words.{table_of}
use Rattle.laws.proofs.Words.{next-doc-in}
use Rattle.traverses.proofs.Ways.{root-way, shift_by}
use Rattle.extracts.proofs.Windowed.{own-one, own-located}
use Rattle.changes.proofs.Routes.{routes-kept, back-ready, routes-among}
use Rattle.changes.proofs.shift_among.Goals as goal

pub returns-then-not-has_root : goal.returns-then-not-has_root
returns-then-not-has_root c = λ lent l. root-way c.args.words.now _ _ lent c.requires (sym c.has_root.ensures ∙ c.if-not-has_root.true)

pub stand_alone-s-requires : goal.stand_alone-s-requires
stand_alone-s-requires c = let w : (table_of c.args.words.now).next_doc ≤ none = omega (arith, c.slice_known-1.given 1, next-doc-in c.args.words.now) in
    let root = sym c.has_root.ensures ∙ c.if-not-has_root.false in
    own-one c.args.words.now c.requires w _ root _ c.take_out.ensures

pub shift_sound-requires : goal.shift_sound-requires
shift_sound-requires c = let w : (table_of c.args.words.now).next_doc ≤ none = omega (arith, c.slice_known-1.given 1, next-doc-in c.args.words.now) in
    let root = sym c.has_root.ensures ∙ c.if-not-has_root.false in
    own-located c.args.words.now c.requires w _ root _ c.take_out.ensures _ c.stand_alone-s.ensures

pub put_back-requires : goal.put_back-requires
put_back-requires c = let w : (table_of c.args.words.now).next_doc ≤ none = omega (arith, c.slice_known-1.given 1, next-doc-in c.args.words.now) in
    let root = sym c.has_root.ensures ∙ c.if-not-has_root.false in
    back-ready c.args.words.now c.requires w c.args.root root _ c.take_out.ensures _ _ _ _ c.shift_sound.ensures _ c.in_ok-trip.was

pub returns-in_err-trip : goal.returns-in_err-trip
returns-in_err-trip c = let w : (table_of c.args.words.now).next_doc ≤ none = omega (arith, c.slice_known-1.given 1, next-doc-in c.args.words.now) in
    let root = sym c.has_root.ensures ∙ c.if-not-has_root.false in
    let by = to_z-of_z w32 c.args.delta c.ranges.delta in
    rw (handed-on _ _ c.from_residual.ensures.1) (routes-kept c.args.words.now c.requires w c.args.root root _ c.take_out.ensures _ _ _ _ (shift_by _ _ _ _ _ _ by c.shift_sound.ensures) _ c.in_err-trip.was)

pub returns : goal.returns
returns c = let w : (table_of c.args.words.now).next_doc ≤ none = omega (arith, c.slice_known-1.given 1, next-doc-in c.args.words.now) in
    let root = sym c.has_root.ensures ∙ c.if-not-has_root.false in
    let by = to_z-of_z w32 c.args.delta c.ranges.delta in
    routes-among c.args.words.now c.requires w c.args.root root _ c.take_out.ensures _ _ _ _ (shift_by _ _ _ _ _ _ by c.shift_sound.ensures) _ c.in_ok-trip.was _ c.put_back.ensures
