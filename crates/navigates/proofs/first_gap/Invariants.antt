-- What the loops of `navigates::first_gap` keep.
use mathlib.Core.Bool.{false}
use mathlib.Core.Path.{◌≡◌}
use Rattle.rules.specs.Below.{some_below}
use Rattle.rules.specs.Moves.{upcoming_in}
use Rattle.rules.specs.Words.{rows_of}
use Rattle.navigates.proofs.first_gap.Given as goal

abbrev pub invariant-loop-i : goal.invariant-loop-i
invariant-loop-i l = some_below l.i (upcoming_in l.root.0 (rows_of l.words)) ≡ false
