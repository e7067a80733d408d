-- The goals of `navigates::first_gap` that want a word.
use mathlib.Core.Path.{◌∙◌}
use native.Mathlib.Omega.{arith}
use Rattle.laws.proofs.Loops.{some_more, first_found, first_done}
use Rattle.navigates.proofs.first_gap.Goals as goal

pub returns-then-is_first_gap : goal.returns-then-is_first_gap
returns-then-is_first_gap c = first_found _ _ _ _ c.loop-i.invariant (omega (arith, c.row_count-n.ensures)) c.is_first_gap.ensures c.if-is_first_gap.true

pub loop-i-preserved : goal.loop-i-preserved
loop-i-preserved c = some_more _ _ _ c.loop-i.invariant c.is_first_gap.ensures c.if-is_first_gap.false

pub returns : goal.returns
returns c = c.row_count-n.ensures ∙ first_done _ _ _ (omega (arith, c.requires.2, c.row_count-n.ensures)) (omega (arith, c.row_count-n.ensures)) c.loop-i.invariant
