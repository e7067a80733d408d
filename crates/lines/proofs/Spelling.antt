-- A decimal spells its number, and a text of that shape is the decimal of what it spells. Assumes nothing.
use Prim.Native.Nat.{ℕ, zero, suc, ◌+◌, ◌-◌, ◌*◌, ◌/◌, ◌%◌, ◌≤◌, ◌<◌}
use mathlib.Core.Bool.{true, false, not, So, and-eq-true_iff}
use mathlib.Core.List.{List, [], ◌∷◌, ◌++◌}
use mathlib.Core.Logic.{⊎_elim}
use mathlib.Core.Path.{◌≡◌, refl, sym, ap, subst, ◌∙◌}
use native.Mathlib.Omega.{arith}
use lib.Dec.{eqb, leb, ltb}
use lib.ListN.{length, get_or, take, length-append, get_or-append}
use lib.Seq.{get_or-append_seam, take-suc, take_all}
use borrow.Author.Tests.{lt-ltb, le-leb, leb-true, eqb-false, ne_eqb, not-true}
use Rattle.std.specs.Prelude.{Some, None}
use Rattle.laws.proofs.Tests.{test, by-lt, below-cases, all_in}
use Rattle.lines.specs.Decimal.{decimal, leading_zero?, digits?, decimal?, spelled, up_to, numeral}
use Rattle.lines.proofs.Numerals.{spelled-mono, digit_at}
use Rattle.lines.proofs.Texts.{decimal-one, decimal-more}

-- A DECIMAL SPELLS ITS NUMBER

-- What a text has that is the decimal of n.
pub record Spells (text : List ℕ) (n : ℕ) : Type 0 where
  pub some : 1 ≤ length text
  pub digits : (i : ℕ) → i < length text → (47 < get_or text i 0) × (get_or text i 0 < 58)
  pub value : spelled text (length text) ≡ n
  pub first : 0 < n → 48 < get_or text 0 0

-- Digits after the first i do not matter to what those spell.
spelled-front : (s t : List ℕ) (i : ℕ) → i ≤ length s → spelled (s ++ t) i ≡ spelled s i
unfolding spelled
spelled-front s t zero l = refl
spelled-front s t (suc i) l =
    let ih = spelled-front s t i (omega arith) in
    let g = get_or-append s t 0 i (omega arith) in
    omega (arith, ap (λ b. b - 48) g)

spelled-last : (s : List ℕ) (d : ℕ) → spelled (s ++ (d ∷ [])) (length s + 1) ≡ spelled s (length s) * 10 + (d - 48)
unfolding spelled
spelled-last s d =
    let e : length s + 1 ≡ suc (length s) = omega arith in
    let f = spelled-front s (d ∷ []) (length s) (omega arith) in
    let g = get_or-append_seam s d [] 0 in
    rw e (omega (arith, ap (λ b. b - 48) g))

spells_one : (n : ℕ) → n < 10 → Spells ((48 + n) ∷ []) n
unfolding spelled
spells_one n l =
    record {
      some = omega arith;
      digits = λ i h. ⊎_elim (λ e. rw e (omega arith, omega arith)) (λ b. absurd (omega arith)) (below-cases h);
      value = omega arith;
      first = λ p. omega arith;
    }

spells-more : (s : List ℕ) (n d : ℕ) → 0 < n → d < 10 → Spells s n → Spells (s ++ ((48 + d) ∷ [])) (n * 10 + d)
spells-more s n d p l h =
    let long : length (s ++ ((48 + d) ∷ [])) ≡ length s + 1 = length-append s ((48 + d) ∷ []) in
    let some = h.some in
    record {
      some = omega (arith, long);
      digits =
          λ i b.
          by-lt i (length s)
          (λ a. rw (get_or-append s ((48 + d) ∷ []) 0 i a) (h.digits i a))
          (λ a. let e : i ≡ length s = omega (arith, long) in rw (e, get_or-append_seam s (48 + d) [] 0) (omega arith, omega arith));
      value = ap (spelled (s ++ ((48 + d) ∷ []))) long ∙ spelled-last s (48 + d) ∙ omega (arith, h.value);
      first = λ q. rw (get_or-append s ((48 + d) ∷ []) 0 0 some) (h.first p);
    }

spells-by : (k n : ℕ) → n < k → Spells (decimal n) n
spells-by zero n l = absurd (omega arith)
spells-by (suc k) n l =
    by-lt n 10
    (λ a. rw (decimal-one n a) (spells_one n a))
    (λ a.
    let e : n / 10 * 10 + n % 10 ≡ n = omega arith in
    subst (Spells (decimal n)) e (rw (decimal-more n a) (spells-more (decimal (n / 10)) (n / 10) (n % 10) (omega arith) (omega arith) (spells-by k (n / 10) (omega arith)))))

pub spells : (n : ℕ) → Spells (decimal n) n
spells n = spells-by (suc n) n (omega arith)

-- No decimal starts with a zero and has more.
decimal-leads : (n : ℕ) → leading_zero? (decimal n) ≡ false
decimal-leads n =
    by-lt 0 n
    (λ p. let f = (spells n).first p in test (ltb 1 (length (decimal n))) (λ t. rw t (ne_eqb (get_or (decimal n) 0 0) 48 (λ e. omega arith))) (λ t. rw t refl))
    (λ z. let e = decimal-one n (omega arith) in rw e refl)

pub decimal-shaped : (n : ℕ) → decimal? (decimal n) ≡ true
unfolding decimal?
decimal-shaped n =
    let s = spells n in
    let some = s.some in
    let d : digits? (decimal n) ≡ true = all_in _ (length (decimal n)) (λ i l. let h = s.digits i l in simp and-eq-true_iff (lt-ltb _ _ h.0, lt-ltb _ _ h.1)) in
    rw (ne_eqb (length (decimal n)) 0 (λ e. omega arith), decimal-leads n, d) refl

-- Reading what was written.
pub numeral-decimal : (top n : ℕ) → n ≤ top → numeral top (decimal n) ≡ Some n
unfolding numeral up_to
numeral-decimal top n l = rw (decimal-shaped n, (spells n).value, le-leb n top l) refl

-- A TEXT OF THAT SHAPE IS A DECIMAL

module _ (text : List ℕ) (shape : decimal? text ≡ true) where
  tests : So (not (eqb (length text) 0)) × So (not (leading_zero? text)) × So (digits? text)
  unfolding decimal?
  tests = let h = simp and-eq-true_iff at shape in (h.0, h.1.0, h.1.1)

  long : 1 ≤ length text
  long = let n = eqb-false (length text) 0 (not-true (eqb (length text) 0) tests.0) in by-lt 0 (length text) (λ l. l) (λ l. absurd (n (omega arith)))

  -- The first digit of several is not zero.
  above : 1 < length text → 48 < get_or text 0 0
  above l =
      let d = digit_at text 0 tests.2 long in
      let f : leading_zero? text ≡ false = not-true (leading_zero? text) tests.1 in
      let n : eqb (get_or text 0 0) 48 ≡ false = rw (lt-ltb 1 (length text) l) at f in
      by-lt 48 (get_or text 0 0) (λ a. a) (λ a. absurd (eqb-false (get_or text 0 0) 48 n (omega arith)))

  front : (j : ℕ) → j < length text → take (suc j) text ≡ decimal (spelled text (suc j))
  unfolding spelled
  front zero l =
      let d = digit_at text 0 tests.2 l in
      let e : 0 * 10 + (get_or text 0 0 - 48) ≡ get_or text 0 0 - 48 = omega arith in
      let f : 48 + (get_or text 0 0 - 48) ≡ get_or text 0 0 = omega arith in
      take-suc text 0 0 l ∙ sym (ap decimal e ∙ decimal-one _ (omega arith) ∙ ap (λ b. b ∷ []) f)
  front (suc j) l =
      let d = digit_at text (suc j) tests.2 l in
      let a = above (omega arith) in
      let m = spelled-mono text 1 (suc j) (omega arith) in
      let x = spelled text (suc j) in
      let b = get_or text (suc j) 0 in
      let n = x * 10 + (b - 48) in
      let q : n / 10 ≡ x = omega arith in
      let r : 48 + n % 10 ≡ b = omega arith in
      take-suc text (suc j) 0 l ∙ ap (λ t. t ++ (b ∷ [])) (front j (omega arith))
      ∙ sym (decimal-more n (omega arith) ∙ ap (λ k. decimal k ++ ((48 + n % 10) ∷ [])) q ∙ ap (λ c. decimal x ++ (c ∷ [])) r)

  pub shaped-decimal : text ≡ decimal (spelled text (length text))
  shaped-decimal =
      let e : suc (length text - 1) ≡ length text = let l = long in omega arith in
      let l = long in
      sym (take_all (length text) text (omega arith)) ∙ subst (λ k. take k text ≡ decimal (spelled text k)) e (front (length text - 1) (omega arith))

-- What is read was written so.
pub numeral-only : (top : ℕ) (text : List ℕ) (n : ℕ) → numeral top text ≡ Some n → (text ≡ decimal n) × (n ≤ top)
unfolding numeral up_to
numeral-only top text n e =
    test (decimal? text)
    (λ d. test (leb (spelled text (length text)) top)
    (λ t. let f : Some (spelled text (length text)) ≡ Some n = rw (d, t) at e in
    let g : spelled text (length text) ≡ n = cc in
    let l : spelled text (length text) ≤ top = leb-true _ _ t in
    (shaped-decimal text d ∙ ap decimal g, omega arith))
    (λ t. let f : None ≡ Some n = rw (d, t) at e in let z : ◌≡◌ {A = ℕ} 0 1 = cc in absurd (omega arith)))
    (λ d. let f : None ≡ Some n = rw d at e in let z : ◌≡◌ {A = ℕ} 0 1 = cc in absurd (omega arith))
