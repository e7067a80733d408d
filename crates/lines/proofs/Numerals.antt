-- Reading a number, digit by digit. Assumes nothing.
use Prim.Native.Nat.{ℕ, zero, suc, ◌+◌, ◌-◌, ◌*◌, ◌≤◌, ◌<◌}
use mathlib.Core.Bool.{true, false, ◌&&◌, and-eq-true_iff}
use mathlib.Core.List.{List}
use mathlib.Core.Path.{◌≡◌, refl, sym, ap, subst, ◌∙◌}
use native.Mathlib.Nat.{le_antisymm}
use native.Mathlib.Numerals.{add-one}
use native.Mathlib.Omega.{arith}
use lib.Dec.{leb, leb-suc-suc}
use lib.ListN.{length, get_or, take}
use lib.Seq.{take_all}
use borrow.Author.Tests.{ltb-true, leb-true, le-leb, lt-leb}
use Rattle.std.specs.Prelude.{Some, None}
use Rattle.std.specs.List.{list_all}
use Rattle.std.specs.Char.{is_ascii_digit}
use Rattle.std.proofs.lemmas.List.Folds.{list_all_more}
use Rattle.rules.specs.Below.{all_below}
use Rattle.laws.proofs.Tests.{test, all-out}
use Rattle.lines.specs.Decimal.{digit?, digits?, decimal?, spelled, up_to, numeral}

module _ (text : List ℕ) where
  -- One digit more.
  pub spelled_none : 0 ≡ spelled text 0
  unfolding spelled
  spelled_none = refl

  pub spelled-more : (i n d : ℕ) → n ≡ spelled text i → d ≡ get_or text i 0 - 48 → n * 10 + d ≡ spelled text (i + 1)
  unfolding spelled
  spelled-more i n d e f = rw (add-one i) (omega arith)

  -- More digits spell no less.
  pub spelled-rises : (i k : ℕ) → spelled text i ≤ spelled text (i + k)
  unfolding spelled
  spelled-rises i zero = let e : i + 0 ≡ i = omega arith in rw e (omega arith)
  spelled-rises i (suc k) = let h = spelled-rises i k in let e : i + suc k ≡ suc (i + k) = omega arith in rw e (omega arith)

  pub spelled-mono : (i n : ℕ) → i ≤ n → spelled text i ≤ spelled text n
  spelled-mono i n l = let e : i + (n - i) ≡ n = omega arith in subst (λ m. spelled text i ≤ spelled text m) e (spelled-rises i (n - i))

  -- A digit of a text of digits.
  pub digit_at : (i : ℕ) → digits? text ≡ true → i < length text → (47 < get_or text i 0) × (get_or text i 0 < 58)
  digit_at i h l =
      let p = simp and-eq-true_iff at (all-out (λ i. digit? (get_or text i 0)) (length text) h i l) in
      (ltb-true _ _ p.0, ltb-true _ _ p.1)

  -- No decimal, no number.
  pub numeral_none : (top : ℕ) → false ≡ decimal? text → None ≡ numeral top text
  unfolding numeral
  numeral_none top f = rw (← f) refl

  module _ (shaped : true ≡ decimal? text) where
    -- A decimal's bytes are digits.
    pub decimal_digit : (i : ℕ) → i < length text → 48 ≤ get_or text i 0
    unfolding decimal?
    decimal_digit i l = (digit_at i (simp and-eq-true_iff at (sym shaped)).1.1 l).0

    -- What is spelled so far is above top: so is the whole.
    pub numeral_over : (top i n : ℕ) → n ≡ spelled text i → i ≤ length text → top < n → None ≡ numeral top text
    unfolding numeral up_to
    numeral_over top i n e l h = rw (← shaped, lt-leb (spelled text (length text)) top (omega (arith, spelled-mono i (length text) l))) refl

    pub numeral_done : (top i n : ℕ) → n ≡ spelled text i → i ≤ length text → length text ≤ i → n ≤ top → Some n ≡ numeral top text
    unfolding numeral up_to
    numeral_done top i n e l m h =
        let f : n ≡ spelled text (length text) = e ∙ ap (spelled text) (le_antisymm l m) in
        rw (← shaped, ← f, le-leb n top h) refl

  -- A number that is read is at most top.
  up-most : (top n k : ℕ) → up_to top n ≡ Some k → k ≤ top
  unfolding up_to
  up-most top n k e =
      test (leb n top)
      (λ t. let f : Some n ≡ Some k = rw t at e in let g : n ≡ k = cc in let l = leb-true n top t in omega arith)
      (λ t. let f : None ≡ Some k = rw t at e in let z : ◌≡◌ {A = ℕ} 0 1 = cc in omega arith)

  pub numeral-most : (top k : ℕ) → numeral top text ≡ Some k → k ≤ top
  unfolding numeral
  numeral-most top k e =
      test (decimal? text)
      (λ t. up-most top _ k (rw t at e))
      (λ t. let f : None ≡ Some k = rw t at e in let z : ◌≡◌ {A = ℕ} 0 1 = cc in omega arith)

-- std's test of a digit is the rules'.
same-digit : (b : ℕ) → is_ascii_digit b ≡ digit? b
same-digit b = ap (λ t. leb 48 b && t) (sym (leb-suc-suc b 57))

all-up : (text : List ℕ) (i : ℕ) → i ≤ length text → list_all is_ascii_digit (take i text) ≡ all_below i (λ k. digit? (get_or text k 0))
unfolding all_below
all-up text zero l = refl
all-up text (suc i) l =
    let h = all-up text i (omega arith) in
    ap (λ k. list_all is_ascii_digit (take k text)) (sym (add-one i)) ∙ list_all_more is_ascii_digit text i 0 l ∙ rw (h, same-digit) refl

pub all_ascii : (text : List ℕ) → list_all is_ascii_digit text ≡ digits? text
all_ascii text = ap (list_all is_ascii_digit) (sym (take_all (length text) text (omega arith))) ∙ all-up text (length text) (omega arith)
