-- What the loops of `places::first_gone` keep.
use Prim.Native.Nat.{◌≤◌}
use mathlib.Core.Bool.{false}
use mathlib.Core.Path.{◌≡◌}
use Rattle.rules.specs.Below.{some_below}
use Rattle.rules.specs.Places.{gone_in}
use Rattle.rules.specs.Words.{rows_of}
use Rattle.places.proofs.first_gone.Given as goal

abbrev pub invariant-loop-i : goal.invariant-loop-i
invariant-loop-i l = (l.i ≤ l.n) × (some_below l.i (gone_in (rows_of l.words) l.places) ≡ false)
