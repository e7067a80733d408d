-- The goals of `sound::rows_pass` that want a word.
use Prim.Native.Nat.{◌+◌, ◌-◌}
use mathlib.Core.Bool.{true, ◌&&◌}
use mathlib.Core.Path.{◌≡◌, refl, sym, ap, ◌∙◌}
use native.Mathlib.Omega.{arith}
use Rattle.base.proofs.Compared.{is-lower}
use Rattle.rules.specs.Rows.{doc_at}
use Rattle.rules.specs.Words.{rows_of}
use Rattle.laws.proofs.Loops.{all_more}
use Rattle.sound.proofs.Documents.{rises-start, rises-more}
use Rattle.sound.proofs.Passes.{row-stops, root-goes, pass-stops, pass-breaks, pass-uneven, pass-holds, pass-fails}
use Rattle.sound.proofs.Verdict.{told-fails, told-holds}
use Rattle.sound.proofs.rows_pass.Goals as goal

pub returns-then-not-is_root : goal.returns-then-not-is_root
returns-then-not-is_root c = row-stops (rows_of c.args.words.now) _ _ 0 (omega (arith, c.requires.0.below)) (sym c.is_root.ensures ∙ c.if-not-is_root.true)

pub pass_start-p-requires : goal.pass_start-p-requires
pass_start-p-requires c = let root = root-goes (rows_of c.args.words.now) _ _ c.is_root.ensures c.if-not-is_root.false in
    (c.requires.0, root.2, root.3)

pub loop-i-init : goal.loop-i-init
loop-i-init c = let root = root-goes (rows_of c.args.words.now) _ _ c.is_root.ensures c.if-not-is_root.false in
    (omega arith, omega (arith, c.requires.0.below), c.pass_start-p.ensures, root.0, root.1, rises-start (rows_of c.args.words.now), c.document-last.ensures)

pub returns-then-not-is_bounded : goal.returns-then-not-is_bounded
returns-then-not-is_bounded c = pass-stops (rows_of c.args.words.now) _ _ _ _ (omega arith) c.requires.1 _ c.is_bounded.ensures c.if-not-is_bounded.true

pub returns-in_err-p : goal.returns-in_err-p
returns-in_err-p c = rw c.from_residual.ensures (pass-breaks (rows_of c.args.words.now) _ _ _ _ (omega arith) c.requires.1 _ c.is_bounded.ensures (told-fails _ _ _ _ c.pass_row.ensures c.in_err-p.was))

pub loop-i-preserved : goal.loop-i-preserved
loop-i-preserved c = let here : c.loop-i.i ≡ c.loop-i.i + 1 - 1 = omega arith in
    let told = told-holds (rows_of c.args.words.now) _ _ _ c.pass_row.ensures _ c.in_ok-p.was in (
      omega arith,
      omega arith,
      told.1,
      all_more _ _ _ c.loop-i.invariant.3 c.is_bounded.ensures c.if-not-is_bounded.false,
      all_more _ _ true c.loop-i.invariant.4 (sym told.0) refl,
      ap (λ e. c.loop-i.rises && e) (is-lower _ _ _ c.lt-rises.ensures) ∙ rises-more (rows_of c.args.words.now) _ _ _ _ (omega arith) c.loop-i.invariant.5 c.loop-i.invariant.6 c.document-d.ensures,
      c.document-d.ensures ∙ ap (doc_at (rows_of c.args.words.now)) here,
    )

pub returns-then-p : goal.returns-then-p
returns-then-p c = pass-uneven (rows_of c.args.words.now) _ _ _ _ _ c.loop-i.invariant.2 c.loop-i.invariant.3 c.loop-i.invariant.4 (omega arith) (omega arith) c.requires.1 c.if-p.true

pub returns-then-documents_fit : goal.returns-then-documents_fit
returns-then-documents_fit c = pass-holds (rows_of c.args.words.now) _ _ _ _ _ c.loop-i.invariant.2 c.loop-i.invariant.3 c.loop-i.invariant.4 (omega arith) (omega arith) c.requires.1 c.if-p.false _ c.documents_fit.ensures c.if-documents_fit.true

pub returns-else-documents_fit : goal.returns-else-documents_fit
returns-else-documents_fit c = pass-fails (rows_of c.args.words.now) _ _ _ _ _ c.loop-i.invariant.2 c.loop-i.invariant.3 c.loop-i.invariant.4 (omega arith) (omega arith) c.requires.1 c.if-p.false _ c.documents_fit.ensures c.if-documents_fit.false
