-- Doubles: which are finite, by their values and by their bits, the bits back, and the product with 1. Assumes nothing.
use Prim.Native.Nat.{ℕ, zero, suc, ◌+◌, ◌-◌, ◌*◌, ◌/◌, ◌%◌, ◌^◌, ◌≤◌, ◌<◌}
use mathlib.Core.Bool.{Bool, true, false, not, ◌&&◌, cond, false≢true}
use mathlib.Core.Path.{◌≡◌, refl, sym, ap, subst, subst₂, ◌∙◌}
use native.Mathlib.Nat.{add_comm, zero-mul, mul-one, mul_assoc, mul_right_comm}
use native.Mathlib.Omega.{arith}
use lib.Dec.{T, eqb, ltb, leb, ltb→lt, leb→le}
use lib.IntN.{ℤ, pos, negsuc}
use lib.Ieee.{Float, nan, inf, fin, Format, binary64, prec, emax, low, hid, up, down, unlike, odd, round, mul, lt, of_fields, of_bits, to_bits, is_nan, nan_bits, fits}
use lib.Ieee.Bits.{nan_bits_is, to_bits-of_bits, of_bits-to_bits}
use lib.Ieee.Exact.{HasValue, round_exact}
use lib.Ieee.Fits.{reach, down_pos, round-fits, and_l, and_r}
use lib.Ieee.Nearest.{div_same}
use lib.Pow.{pow_pos, pow_mono, pow-lt, pow-add, shl_lt}
use borrow.Author.Tests.{eq-eqb, ne_eqb, ltb-true, ltb-false}
use Rattle.rules.specs.Places.{finite}
use Rattle.laws.proofs.Tests.{test, by-lt}

pub finite_number : (x : Float) → finite x ≡ true → T (not (is_nan x))
unfolding finite is_nan
finite_number nan h = absurd (false≢true h)
finite_number (inf s) h = tt
finite_number (fin s m e) h = tt

pub finite-pattern : (b : ℕ) → finite (of_bits binary64 b) ≡ true → T (not (nan_bits binary64 b))
finite-pattern b h = subst (λ t. T (not t)) (sym (nan_bits_is binary64 b)) (finite_number (of_bits binary64 b) h)

-- Between the infinities are the finite doubles.
pub between : (x : Float) → (lt (inf true) x && lt x (inf false)) ≡ finite x
unfolding lt finite
between nan = refl
between (inf true) = refl
between (inf false) = refl
between (fin s m e) = refl

-- THE BITS

odd-finite : (d : ℕ) (s : Bool) (q k l : ℕ) → finite (odd d s q k l) ≡ true
unfolding odd finite
odd-finite d s zero k l = refl
odd-finite d s (suc q) k l = refl

by_field : (a b : Bool) (s : Bool) (v : Float) → finite v ≡ true → finite (cond a (cond b (inf s) nan) v) ≡ not a
unfolding finite
by_field true true s v h = refl
by_field true false s v h = refl
by_field false b s v h = h

fields-finite : (s : Bool) (x t : ℕ) → finite (of_fields binary64 s x t) ≡ not (eqb x 2047)
unfolding of_fields
fields-finite s zero t = odd-finite (prec binary64) s t 0 (low binary64)
fields-finite s (suc x) t = by_field (eqb (suc x) 2047) (eqb t 0) s _ (odd-finite (prec binary64) s (hid binary64 + t) x (low binary64))

-- Without its sign, the pattern of a finite double lies below that of the infinity.
pub pattern-below : (b : ℕ) → ltb (b % 9223372036854775808) 9218868437227405312 ≡ finite (of_bits binary64 b)
unfolding of_bits
pattern-below b =
    let m = b % 9223372036854775808 in
    test (ltb m 9218868437227405312)
    (λ h.
    let l = ltb-true m 9218868437227405312 h in
    h ∙ sym (fields-finite _ (m / 4503599627370496) _ ∙ rw (ne_eqb (m / 4503599627370496) 2047 (λ e. omega arith)) refl))
    (λ h.
    h ∙ sym (fields-finite _ (m / 4503599627370496) _ ∙ rw (eq-eqb (m / 4503599627370496) 2047 (omega (arith, ltb-false m 9218868437227405312 h))) refl))

-- "the same bits back, negative zero included"
pub same-bits-back : (b : ℕ) → b < 2 ^ 64 → finite (of_bits binary64 b) ≡ true → to_bits binary64 (of_bits binary64 b) ≡ b
same-bits-back b l h = to_bits-of_bits binary64 b l (finite_number (of_bits binary64 b) h)

-- Two doubles with the same bits are one: an equation of doubles is one of bits.
pub same-double : (x y : Float) → T (fits binary64 x) → T (fits binary64 y) → to_bits binary64 x ≡ to_bits binary64 y → x ≡ y
same-double x y a b e = sym (of_bits-to_bits binary64 x a) ∙ ap (of_bits binary64) e ∙ of_bits-to_bits binary64 y b

-- THE PRODUCT WITH 1

module _ (f : Format) where
  -- A value that fits is a whole number of the format's smallest values, of no more digits than it keeps.
  abbrev Held : ℕ → ℤ → Type 0
  Held m e = (q : ℕ) × (j : ℕ) × (q < 2 ^ prec f) × (q * 2 ^ j < 2 ^ (low f + suc (emax f))) × (m * up e * 2 ^ low f ≡ q * 2 ^ j * down e)

  held-over : (m k : ℕ) → m < 2 ^ prec f → m * 2 ^ k < 2 ^ suc (emax f) * 1 → Held m (pos k)
  held-over m k short below =
      let e : m * 2 ^ k * 2 ^ low f ≡ m * 2 ^ (k + low f) = mul_assoc m (2 ^ k) (2 ^ low f) ∙ ap (λ x. m * x) (sym (pow-add 2 k (low f))) in (
        m,
        k + low f,
        short,
        subst₂ (λ x y. x < 2 ^ y) e (add_comm (suc (emax f)) (low f)) (shl_lt (suc (emax f)) (low f) (subst (λ x. m * 2 ^ k < x) (mul-one (2 ^ suc (emax f))) below)),
        e ∙ sym (mul-one (m * 2 ^ (k + low f))),
      )

  held-under : (m k : ℕ) → m < 2 ^ prec f → 2 ^ suc k ≤ 2 ^ low f → Held m (negsuc k)
  held-under m k short small =
      let l : suc k ≤ low f = by-lt (low f) (suc k) (λ o. let z = pow-lt o in absurd (omega arith)) (λ o. o) in
      let j = low f - suc k in
      let e : j + suc k ≡ low f = omega arith in
      let r = reach f in
      let w : 2 ^ (prec f + j) ≤ 2 ^ (low f + suc (emax f)) = pow_mono (omega arith) in
      let v : m * 2 ^ j < 2 ^ (prec f + j) = shl_lt (prec f) j short in (
        m,
        j,
        short,
        omega arith,
        ap (λ x. x * 2 ^ low f) (mul-one m) ∙ ap (λ x. m * 2 ^ x) (sym e) ∙ ap (λ x. m * x) (pow-add 2 j (suc k)) ∙ sym (mul_assoc m (2 ^ j) (2 ^ suc k)),
      )

  -- What fitting says of a value that is not 0.
  parts : (m : ℕ) (e : ℤ) → T (eqb (suc m % 2) 1 && ltb (suc m) (2 ^ prec f) && leb (down e) (2 ^ low f) && ltb (suc m * up e) (2 ^ suc (emax f) * down e)) →
      (suc m < 2 ^ prec f) × (down e ≤ 2 ^ low f) × (suc m * up e < 2 ^ suc (emax f) * down e)
  parts m e h =
      let odd? = eqb (suc m % 2) 1 in
      let short? = ltb (suc m) (2 ^ prec f) in
      let fine? = leb (down e) (2 ^ low f) in
      let below? = ltb (suc m * up e) (2 ^ suc (emax f) * down e) in
      let a = and_l (odd? && short? && fine?) below? h in
      (ltb→lt _ _ (and_r odd? short? (and_l (odd? && short?) fine? a)), leb→le _ _ (and_r (odd? && short?) fine? a), ltb→lt _ _ (and_r (odd? && short? && fine?) below? h))

  held : (s : Bool) (m : ℕ) (e : ℤ) → T (fits f (fin s m e)) → Held m e
  unfolding fits
  held s zero e h = (0, 0, pow_pos (prec f), subst (λ x. x < 2 ^ (low f + suc (emax f))) (sym (zero-mul (2 ^ 0))) (pow_pos (low f + suc (emax f))), ap (λ x. x * 2 ^ low f) (zero-mul (up e)) ∙ zero-mul (2 ^ low f) ∙ sym (zero-mul (down e)))
  held s (suc m) (pos k) h = let p = parts m (pos k) h in held-over (suc m) k p.0 p.2
  held s (suc m) (negsuc k) h = let p = parts m (negsuc k) h in held-under (suc m) k p.0 p.1

  -- Values of the same size and sign have the same bits.
  bits-same : (v : Float) (s : Bool) (m : ℕ) (e : ℤ) → HasValue v s (m * up e) (down e) → to_bits f v ≡ to_bits f (fin s m e)
  unfolding to_bits
  bits-same nan s m e h = absurd h
  bits-same (inf t) s m e h = absurd h
  bits-same (fin t n g) s m e h =
      let q : n * up g * 2 ^ low f / down g ≡ m * up e * 2 ^ low f / down e =
      div_same (n * up g * 2 ^ low f) (down g) (m * up e * 2 ^ low f) (down e) (down_pos g) (down_pos e)
      (mul_right_comm (n * up g) (2 ^ low f) (down e) ∙ ap (λ x. x * 2 ^ low f) h.1 ∙ mul_right_comm (m * up e) (down g) (2 ^ low f)) in
      rw (h.0, q) refl

unlike-plus : (s : Bool) → unlike s false ≡ s
unlike-plus true = refl
unlike-plus false = refl

-- A double times 1 is that double.
pub times-one : (x : Float) → T (fits binary64 x) → mul binary64 x (fin false 1 (pos 0)) ≡ x
unfolding mul
times-one nan h = refl
times-one (inf s) h = ap inf (unlike-plus s)
times-one (fin s m e) h =
    let k = held binary64 s m e h in
    let v = round_exact binary64 s (m * up e) (down e) k.0 k.1 (down_pos e) k.2 k.3 k.4 in
    let r : mul binary64 (fin s m e) (fin false 1 (pos 0)) ≡ round binary64 s (m * up e) (down e) = rw (unlike-plus s, mul-one (m * up e), mul-one (down e)) refl in
    r ∙ same-double (round binary64 s (m * up e) (down e)) (fin s m e) (round-fits binary64 s (m * up e) (down e)) h (bits-same binary64 (round binary64 s (m * up e) (down e)) s m e v)
