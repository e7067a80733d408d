-- What the loops of `sound::rest_zero` keep.
use Prim.Native.Nat.{◌≤◌, ◌+◌, ◌*◌}
use mathlib.Core.Path.{◌≡◌}
use lib.ListN.{length}
use Rattle.rules.specs.Below.{all_below}
use Rattle.rules.specs.Words.{capacity, rows_of}
use Rattle.rules.specs.Sound.{zero?}
use Rattle.sound.proofs.rest_zero.Given as goal

abbrev pub invariant-loop-k : goal.invariant-loop-k
invariant-loop-k l = (l.k ≤ l.k-end) × (l.k-end ≡ 3 + 4 * capacity l.words) × (3 + 4 * length (rows_of l.words) ≤ l.k) × (l.zero ≡ all_below l.k (zero? l.words))
