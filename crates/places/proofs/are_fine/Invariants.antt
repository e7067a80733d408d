-- What the loops of `places::are_fine` keep.
use Prim.Native.Nat.{◌≤◌}
use mathlib.Core.Bool.{true}
use mathlib.Core.Path.{◌≡◌}
use Rattle.rules.specs.Below.{all_below}
use Rattle.rules.specs.Places.{fine_at}
use Rattle.places.specs.Store.{Reaches}
use Rattle.places.proofs.are_fine.Given as goal

abbrev pub invariant-loop-i : goal.invariant-loop-i
invariant-loop-i l = (l.i ≤ l.n) × (all_below l.i (fine_at l.places) ≡ true) × Reaches l.places l.i l.high.0
