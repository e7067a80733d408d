-- A 32-bit amount and its sign: in 64 bits its negation fits, and without a sign in 32. Assumes nothing.
use Prim.Native.Nat.{ℕ}
use mathlib.Core.Bool.{true, false, true≢false}
use mathlib.Core.Path.{◌≡◌}
use native.Mathlib.Omega.{arith}
use lib.Dec.{T}
use lib.IntN.{ℤ, pos, negsuc, nat_abs, ◌-ℤ◌}
use lib.Signed.{lt_z, non_neg}
use mir.Syntax.{w32, w64}
use mir.Val.{SFits, Fits}
use borrow.Author.Tests.{ltb-true}

-- By the sign: a negative amount is negsuc, another is pos.
pub by_sign {ℓ} : (C : ℤ → Type ℓ) (z : ℤ) → lt_z z (pos 0) ≡ true → ((n : ℕ) → C (negsuc n)) → C z
by_sign C (pos n) e f = absurd (omega (arith, ltb-true n 0 e))
by_sign C (negsuc n) e f = f n

pub by_plus {ℓ} : (C : ℤ → Type ℓ) (z : ℤ) → lt_z z (pos 0) ≡ false → ((n : ℕ) → C (pos n)) → C z
by_plus C (pos n) e f = f n
by_plus C (negsuc n) e f = absurd (true≢false e)

pub wider : (z : ℤ) → SFits w32 z → SFits w64 z
wider z h = record { sfits = omega arith }

pub wide_fits : (n : ℕ) → Fits w32 n → Fits w64 n
wide_fits n h = record { fits = omega arith }

module _ (z : ℤ) (h : SFits w32 z) where
  pub minus-fits : lt_z z (pos 0) ≡ true → SFits w64 (pos 0 -ℤ z)
  minus-fits e = by_sign (λ z. SFits w32 z → SFits w64 (pos 0 -ℤ z)) z e (λ n g. record { sfits = omega arith }) h

  pub minus-cast : lt_z z (pos 0) ≡ true → T (non_neg (pos 0 -ℤ z)) × Fits w32 (nat_abs (pos 0 -ℤ z))
  minus-cast e = by_sign (λ z. SFits w32 z → T (non_neg (pos 0 -ℤ z)) × Fits w32 (nat_abs (pos 0 -ℤ z))) z e (λ n g. (tt, omega arith)) h

  pub plain-cast : lt_z z (pos 0) ≡ false → T (non_neg z) × Fits w32 (nat_abs z)
  plain-cast e = by_plus (λ z. SFits w32 z → T (non_neg z) × Fits w32 (nat_abs z)) z e (λ n g. (tt, omega arith)) h

pub minus-abs : (z : ℤ) → lt_z z (pos 0) ≡ true → nat_abs (pos 0 -ℤ z) ≡ nat_abs z
minus-abs z e = by_sign (λ z. nat_abs (pos 0 -ℤ z) ≡ nat_abs z) z e (λ n. omega arith)
