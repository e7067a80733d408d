-- What the loop of `lines::numeral` keeps.
use Prim.Native.Nat.{◌≤◌}
use mathlib.Core.Path.{◌≡◌}
use Rattle.lines.specs.Decimal.{spelled}
use Rattle.lines.proofs.numeral.Given as goal

abbrev pub invariant-loop-b : goal.invariant-loop-b
invariant-loop-b l = (l.n ≤ l.top) × (l.n ≡ spelled l.text l.b-index)
