-- The sizes that bytes tell. Assumes nothing.
use Prim.Native.Nat.{ℕ, ◌+◌, ◌<◌}
use mathlib.Core.List.{List}
use mathlib.Core.Path.{◌≡◌, refl}
use native.Mathlib.Numerals.{add-one}
use native.Mathlib.Omega.{arith}
use Rattle.rules.specs.Below.{sum}
use Rattle.rules.specs.Saved.{documents_in}
use Rattle.laws.proofs.Pieces.{sum-within}

-- One term more.
pub sum_more : (f : ℕ → ℕ) (j t d : ℕ) → t ≡ sum f j → d ≡ f j → t + d ≡ sum f (j + 1)
unfolding sum
sum_more f j t d e g = rw (add-one j) (omega arith)

pub sum-none : (f : ℕ → ℕ) → 0 ≡ sum f 0
unfolding sum
sum-none f = refl

-- More than 512 entries, of frame j and those before it.
pub total-over : (bytes : List ℕ) (frames j t d : ℕ) → j < frames → t ≡ sum (documents_in bytes) j → d ≡ documents_in bytes j → 512 < t + d → 512 < sum (documents_in bytes) frames
total-over bytes frames j t d l e g h = omega (arith, sum-within (documents_in bytes) frames l)
