-- The goals of `drops::first_of` that want a word.
use mathlib.Core.Bool.{false}
use mathlib.Core.Path.{◌≡◌, refl, sym, subst, ◌∙◌}
use lib.ListN.{length}
use Rattle.rules.specs.Below.{some_below}
use native.Mathlib.Omega.{arith}
use borrow.Author.Tests.{eq-eqb, ne_eqb}
use Rattle.base.proofs.Compared.{same, apart}
use Rattle.rules.specs.Rows.{in_frame}
use Rattle.rules.specs.Words.{rows_of}
use Rattle.laws.proofs.Loops.{some-none, some_more, first_found}
use Rattle.sound.proofs.Checks.{examined-fits}
use Rattle.drops.proofs.Frames.{first-none, first-some}
use Rattle.drops.proofs.first_of.Goals as goal

pub loop-i-init : goal.loop-i-init
loop-i-init c = some-none _

pub frame-requires : goal.frame-requires
frame-requires c = record { fits = examined-fits _ c.requires; below = omega (arith, c.row_count-i-end.ensures) }

pub returns-then-eq : goal.returns-then-eq
returns-then-eq c = let s = eq-eqb _ _ (sym c.frame.ensures ∙ same _ _ _ c.eq.ensures c.if-eq.true) in
    first-some _ _ _ (omega (arith, c.row_count-i-end.ensures)) s (first_found (in_frame (rows_of c.args.words.now) c.args.frame.0) _ _ _ c.loop-i.invariant (omega (arith, c.row_count-i-end.ensures)) (sym s) refl)

pub loop-i-preserved : goal.loop-i-preserved
loop-i-preserved c = some_more _ _ _ c.loop-i.invariant (sym (ne_eqb _ _ (λ z. apart _ _ _ c.eq.ensures c.if-eq.false (c.frame.ensures ∙ z)))) refl

pub returns : goal.returns
returns c = let e : c.loop-i.i ≡ length (rows_of c.args.words.now) = omega (arith, c.row_count-i-end.ensures) in
    first-none _ _ (subst (λ k. some_below k (in_frame (rows_of c.args.words.now) c.args.frame.0) ≡ false) e c.loop-i.invariant)
