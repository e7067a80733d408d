-- What the loops of `told::total` keep.
use Prim.Native.Nat.{◌≤◌}
use mathlib.Core.Path.{◌≡◌}
use Rattle.rules.specs.Below.{sum}
use Rattle.rules.specs.Saved.{documents_in}
use Rattle.told.proofs.total.Given as goal

abbrev pub invariant-loop-j : goal.invariant-loop-j
invariant-loop-j l = (l.t ≤ 512) × (l.t ≡ sum (documents_in l.bytes) l.j)
