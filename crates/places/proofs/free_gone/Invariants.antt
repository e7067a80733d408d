-- What the loops of `places::free_gone` keep.
use Prim.Native.Nat.{◌≤◌}
use mathlib.Core.Path.{◌≡◌}
use Rattle.rules.specs.Places.{freed_to}
use Rattle.rules.specs.Words.{rows_of}
use Rattle.places.proofs.free_gone.Given as goal

abbrev pub invariant-loop-i : goal.invariant-loop-i
invariant-loop-i l = (l.i ≤ l.n) × (l.places ≡ freed_to (rows_of l.words) l.i l.initial.places)
