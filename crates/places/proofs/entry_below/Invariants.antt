-- What the loops of `places::entry_below` keep.
use Prim.Native.Nat.{◌≤◌}
use mathlib.Core.Bool.{false}
use mathlib.Core.Path.{◌≡◌}
use Rattle.rules.specs.Below.{some_below}
use Rattle.rules.specs.Places.{is_of}
use Rattle.places.proofs.entry_below.Given as goal

abbrev pub invariant-loop-i : goal.invariant-loop-i
invariant-loop-i l = (l.i ≤ l.n) × (some_below l.i (is_of l.places l.d.0) ≡ false)
