-- The goals of `extracts::scan_row` that want a word.
use Prim.Native.Nat.{◌+◌}
use mathlib.Core.Bool.{cond}
use mathlib.Core.Path.{◌≡◌, refl, sym, ap, ◌∙◌}
use native.Mathlib.Omega.{arith}
use lib.Dec.{eqb}
use Rattle.rules.specs.Rows.{is_shown}
use Rattle.rules.specs.Words.{rows_of}
use Rattle.laws.proofs.Concealed.{hidden}
use Rattle.laws.proofs.Tests.{count_most}
use Rattle.extracts.proofs.Stands.{scan-hidden, scan_step, scan-shown}
use Rattle.extracts.proofs.scan_row.Goals.{then-eq, else-eq}
use Rattle.extracts.proofs.scan_row.Goals as goal

pub overflow_add-result : goal.overflow_add-result
overflow_add-result c = let rows = rows_of c.args.own.now in
    omega (arith, c.requires.2.hidden-are, count_most (hidden rows) c.args.at.0, c.requires.0.fits, c.requires.0.below)

pub returns-then-not-is_shown : goal.returns-then-not-is_shown
returns-then-not-is_shown c = scan-hidden (rows_of c.args.own.now) _ c.requires.1 _ c.requires.2 _ (omega (arith, c.higher-high.ensures, c.frame.ensures)) _ c.is_shown.ensures c.if-not-is_shown.true

pub overflow_add-shown : goal.overflow_add-shown
overflow_add-shown c = let rows = rows_of c.args.own.now in
    omega (arith, c.requires.2.shown-are, count_most (is_shown rows) c.args.at.0, c.requires.0.fits, c.requires.0.below)

pub returns-then-is_step : goal.returns-then-is_step
returns-then-is_step c = scan_step (rows_of c.args.own.now) _ c.requires.1 _ c.requires.2 _ (omega (arith, c.higher-high.ensures, c.frame.ensures)) _ c.is_shown.ensures c.if-not-is_shown.false _ c.is_step.ensures c.if-is_step.true _ _ refl refl

pub returns : goal.returns
returns c =
    let up : c.if-eq.upcoming.0 ≡ cond (eqb c.args.s.upcoming.0 c.args.at.0) (c.args.at.0 + 1) c.args.s.upcoming.0 =
    elim c.if-eq.branch [
      | then-eq w ↦ rw (sym c.eq.ensures ∙ w.if-eq.true) (ap (λ p. p.0) w.upcoming-is)
      | else-eq w ↦ rw (sym c.eq.ensures ∙ w.if-eq.false) (ap (λ p. p.0) w.upcoming-is)
    ] in
    scan-shown (rows_of c.args.own.now) _ c.requires.1 _ c.requires.2 _ (omega (arith, c.higher-high.ensures, c.frame.ensures)) _ c.is_shown.ensures c.if-not-is_shown.false _ c.is_step.ensures c.if-is_step.false _ up
