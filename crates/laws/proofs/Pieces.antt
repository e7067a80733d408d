-- Sums, and lists made of pieces that stand one after the other. Assumes nothing.
use Prim.Native.Nat.{ℕ, zero, suc, ◌+◌, ◌-◌, ◌*◌, ◌≤◌, ◌<◌}
use mathlib.Core.Bool.{Bool, false, ◌&&◌, So, and-eq-true_iff}
use mathlib.Core.List.{List, [], ◌∷◌, ◌++◌, flat_map, append_assoc, append-nil}
use mathlib.Core.Logic.{◌≢◌, ⊎_elim}
use mathlib.Core.Path.{◌≡◌, refl, sym, ap, ap₂, ◌∙◌}
use native.Mathlib.Nat.{not-suc-le-zero}
use native.Mathlib.Omega.{arith}
use lib.Dec.{eqb}
use lib.ListN.{length, get_or, length-append, get_or-append}
use lib.Seq.{get_or-append-add}
use borrow.Author.Tests.{eq-eqb, ne_eqb}
use Rattle.rules.specs.Below.{count, sum, tab, gather, rising}
use Rattle.laws.proofs.Tests.{test, clash, off, by-lt, below-cases, count-zero, count_yes, count_no}

-- SUMS

pub sum_same : (f g : ℕ → ℕ) (n : ℕ) → ((k : ℕ) → k < n → f k ≡ g k) → sum f n ≡ sum g n
unfolding sum
sum_same f g zero h = refl
sum_same f g (suc n) h = rw (h n (omega arith), sum_same f g n (λ k l. h k (omega arith)))

-- A term fits in; terms of 4; terms of at least 1.
module _ (f : ℕ → ℕ) where
  pub sum-within : (n : ℕ) {i : ℕ} → i < n → sum f i + f i ≤ sum f n
  unfolding sum
  sum-within zero l = absurd (not-suc-le-zero l)
  sum-within (suc n) l = ⊎_elim (λ e. rw e (omega arith)) (λ m. omega (arith, sum-within n m)) (below-cases l)

  pub sum-fours : (n : ℕ) → ((k : ℕ) → k < n → f k ≡ 4) → sum f n ≡ 4 * n
  unfolding sum
  sum-fours zero h = refl
  sum-fours (suc n) h = omega (arith, h n (omega arith), sum-fours n (λ k l. h k (omega arith)))

  pub sum-least : (n : ℕ) → ((k : ℕ) → k < n → 1 ≤ f k) → n ≤ sum f n
  unfolding sum
  sum-least zero h = omega arith
  sum-least (suc n) h = omega (arith, h n (omega arith), sum-least n (λ k l. h k (omega arith)))

  -- One less in each.
  pub sum_less : (n : ℕ) → ((k : ℕ) → k < n → 1 ≤ f k) → sum (λ k. f k - 1) n + n ≡ sum f n
  unfolding sum
  sum_less zero h = refl
  sum_less (suc n) h = omega (arith, h n (omega arith), sum_less n (λ k l. h k (omega arith)))

  sum_zeros : (n : ℕ) → ((k : ℕ) → k < n → f k ≡ 0) → sum f n ≡ 0
  unfolding sum
  sum_zeros zero h = refl
  sum_zeros (suc n) h = omega (arith, h n (omega arith), sum_zeros n (λ k l. h k (omega arith)))

-- Each term is below another's.
pub sum-under : (f g : ℕ → ℕ) (n : ℕ) → ((k : ℕ) → k < n → f k < g k) → sum f n + n ≤ sum g n
unfolding sum
sum-under f g zero h = omega arith
sum-under f g (suc n) h = omega (arith, h n (omega arith), sum-under f g n (λ k l. h k (omega arith)))

-- Terms of 1 where p passes, of 0 where it does not.
pub sum_ones : (f : ℕ → ℕ) (p : ℕ → Bool) (n : ℕ) → ((k : ℕ) → So (p k) → f k ≡ 1) → ((k : ℕ) → p k ≡ false → f k ≡ 0) → sum f n ≡ count p n
unfolding sum
sum_ones f p zero one none = sym (count-zero p)
sum_ones f p (suc n) one none =
    let ih = sum_ones f p n one none in
    test (p n) (λ t. omega (arith, one n t, count_yes p n t)) (λ o. omega (arith, none n o, count_no p n o))

-- One term is one more.
sum-one-more : (f g : ℕ → ℕ) (m : ℕ) {a : ℕ} → a < m → g a ≡ suc (f a) → ((k : ℕ) → k ≢ a → g k ≡ f k) → sum g m ≡ suc (sum f m)
unfolding sum
sum-one-more f g zero l e h = absurd (not-suc-le-zero l)
sum-one-more f g (suc m) {a} l e h =
    ⊎_elim
    (λ q. omega (arith, rw q at e, sum_same g f m (λ k b. h k (λ r. omega arith))))
    (λ b. omega (arith, h m (λ r. omega arith), sum-one-more f g m b e h))
    (below-cases l)

-- Each of n things is of one class, of m: all classes together have as many that pass as pass.
pub sum-classes : (class : ℕ → ℕ) (q : ℕ → Bool) (n m : ℕ) → ((i : ℕ) → i < n → class i < m) → sum (λ c. count (λ i. eqb (class i) c && q i) n) m ≡ count q n
sum-classes class q zero m h = sum_zeros _ m (λ k l. count-zero (λ i. eqb (class i) k && q i)) ∙ sym (count-zero q)
sum-classes class q (suc n) m h =
    let ih = sum-classes class q n m (λ i l. h i (omega arith)) in
    test (q n)
    (λ t.
    sum-one-more _ _ m {a = class n} (h n (omega arith))
    (count_yes (λ i. eqb (class i) (class n) && q i) n (rw (eq-eqb (class n) (class n) refl) t))
    (λ k d. count_no (λ i. eqb (class i) k && q i) n (rw (ne_eqb (class n) k (λ e. d (sym e))) refl))
    ∙ ap suc ih ∙ sym (count_yes q n t))
    (λ f.
    sum_same _ _ m (λ k l. count_no (λ i. eqb (class i) k && q i) n (off _ (λ s. clash (simp and-eq-true_iff at s).1 f)))
    ∙ ih ∙ sym (count_no q n f))

-- PIECES

module _ {A B : Type 0} (g : A → List B) where
  pub flat_append : (xs ys : List A) → flat_map g (xs ++ ys) ≡ flat_map g xs ++ flat_map g ys
  unfolding flat_map
  flat_append [] ys = refl
  flat_append (x ∷ xs) ys = rw (flat_append xs ys, append_assoc)

  pub flat-one : (x : A) → flat_map g (x ∷ []) ≡ g x
  unfolding flat_map
  flat-one x = append-nil (g x)

  -- The pieces that the numbers below n give.
  module _ (f : ℕ → A) where
    abbrev pub before : ℕ → ℕ
    before j = sum (λ k. length (g (f k))) j

    pub flat-suc : (n : ℕ) → flat_map g (tab (suc n) f) ≡ flat_map g (tab n f) ++ g (f n)
    unfolding tab
    flat-suc n = flat_append (tab n f) (f n ∷ []) ∙ ap (λ l. flat_map g (tab n f) ++ l) (flat-one (f n))

    pub length-flat : (n : ℕ) → length (flat_map g (tab n f)) ≡ before n
    unfolding flat_map tab sum
    length-flat zero = refl
    length-flat (suc n) = ap length (flat-suc n) ∙ length-append (flat_map g (tab n f)) (g (f n)) ∙ ap (λ l. l + length (g (f n))) (length-flat n)

    -- Element k of piece j, and which an element is.
    pub flat-at : (n : ℕ) (d : B) {j k : ℕ} → j < n → k < length (g (f j)) → get_or (flat_map g (tab n f)) (before j + k) d ≡ get_or (g (f j)) k d
    flat-at zero d l m = absurd (not-suc-le-zero l)
    flat-at (suc n) d {j} {k} l m =
        ap (λ l. get_or l (before j + k) d) (flat-suc n)
        ∙ ⊎_elim
        (λ e. rw e (ap (λ b. get_or (flat_map g (tab n f) ++ g (f n)) (b + k) d) (sym (length-flat n)) ∙ get_or-append-add (flat_map g (tab n f)) (g (f n)) k d))
        (λ b.
        get_or-append (flat_map g (tab n f)) (g (f n)) d (before j + k) (omega (arith, length-flat n, sum-within (λ k. length (g (f k))) n b))
        ∙ flat-at n d b m)
        (below-cases l)

    pub flat-found : (n i : ℕ) → i < before n → (j : ℕ) × (k : ℕ) × (j < n) × (k < length (g (f j))) × (i ≡ before j + k)
    unfolding sum
    flat-found zero i l = absurd (not-suc-le-zero l)
    flat-found (suc n) i l =
        by-lt i (before n)
        (λ a. let r = flat-found n i a in (r.0, r.1, omega arith, r.3, r.4))
        (λ a. (n, i - before n, omega arith, omega arith, omega arith))

-- A list's terms and one more; the terms of those numbers that pass, where the others' are 0.
sum-snoc : (f : ℕ → ℕ) (xs : List ℕ) (x : ℕ) → sum (λ j. f (get_or (xs ++ x ∷ []) j 0)) (length (xs ++ x ∷ [])) ≡ sum (λ j. f (get_or xs j 0)) (length xs) + f x
unfolding sum
sum-snoc f xs x =
    let n : length (xs ++ x ∷ []) ≡ suc (length xs) = omega (arith, length-append xs (x ∷ [])) in
    let here : get_or (xs ++ x ∷ []) (length xs) 0 ≡ x = ap (λ k. get_or (xs ++ x ∷ []) k 0) (omega arith) ∙ get_or-append-add xs (x ∷ []) 0 0 in
    ap (sum (λ j. f (get_or (xs ++ x ∷ []) j 0))) n
    ∙ ap₂ ◌+◌ (sum_same _ _ (length xs) (λ k l. ap f (get_or-append xs (x ∷ []) 0 k l))) (ap f here)

pub sum-rising : (f : ℕ → ℕ) (p : ℕ → Bool) (n : ℕ) → ((k : ℕ) → p k ≡ false → f k ≡ 0) → sum (λ j. f (get_or (rising p n) j 0)) (length (rising p n)) ≡ sum f n
unfolding gather sum
sum-rising f p zero h = refl
sum-rising f p (suc n) h =
    let ih = sum-rising f p n h in
    test (p n) (λ t. rw t (sum-snoc f (rising p n) n ∙ ap (λ s. s + f n) ih)) (λ o. rw o (omega (arith, h n o)))
