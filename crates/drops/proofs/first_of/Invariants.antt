-- What the loops of `drops::first_of` keep.
use mathlib.Core.Bool.{false}
use mathlib.Core.Path.{◌≡◌}
use Rattle.rules.specs.Below.{some_below}
use Rattle.rules.specs.Rows.{in_frame}
use Rattle.rules.specs.Words.{rows_of}
use Rattle.drops.proofs.first_of.Given as goal

abbrev pub invariant-loop-i : goal.invariant-loop-i
invariant-loop-i l = some_below l.i (in_frame (rows_of l.words) l.frame.0) ≡ false
