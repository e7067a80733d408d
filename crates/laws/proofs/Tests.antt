-- Laws of tests and of the numbers below a bound that pass one. Assumes nothing.
use Prim.Native.Nat.{ℕ, zero, suc, ◌+◌, ◌-◌, ◌≤◌, ◌<◌, min}
use mathlib.Core.Path.{◌≡◌, refl, sym, ap, ◌∙◌, subst}
use mathlib.Core.List.{List, [], ◌∷◌}
use mathlib.Core.Logic.{◌↔◌, ◌⊎◌, inl, inr, ⊎_elim}
use mathlib.Core.Bool.{Bool, true, false, not, ◌&&◌, ◌||◌, So, false≢true, cond, and-eq-true_iff}
use native.Mathlib.Nat.{eq-or-lt_of_le, le_of_suc-le-suc, not-suc-le-zero}
use native.Mathlib.Numerals.{add-one}
use native.Mathlib.Omega.{arith}
use lib.Dec.{eqb, ltb}
use lib.ListN.{length, get_or, length-append, get_or-append}
use lib.Seq.{get_or_at, ext_get_or}
use borrow.Author.Tests.{ltb-true, ltb-false, eqb-true, eq-eqb}
use Rattle.rules.specs.Below.{some_below, all_below, count, earliest, latest, tab, gather}

-- A TEST

-- By cases of a test; each arm is told which it is.
pub test {ℓ} : {C : Type ℓ} (b : Bool) → (So b → C) → (b ≡ false → C) → C
test true h k = h refl
test false h k = k refl

pub clash : {b : Bool} → So b → b ≡ false → ⊥
clash h k = false≢true (sym k ∙ h)

pub off : (b : Bool) → (So b → ⊥) → b ≡ false
off b h = test b (λ t. absurd (h t)) (λ f. f)

pub same_tests : {a b : Bool} → (So a → So b) → (So b → So a) → a ≡ b
same_tests {a = true} h k = sym (h refl)
same_tests {a = false} {b = true} h k = k refl
same_tests {a = false} {b = false} h k = refl

pub or_left : {a : Bool} (b : Bool) → So a → So (a || b)
or_left b h = rw h refl

pub or_right : (a : Bool) {b : Bool} → So b → So (a || b)
or_right true h = refl
or_right false h = h

pub or_cases : (a b : Bool) → So (a || b) → So a ⊎ So b
or_cases true b h = inl refl
or_cases false b h = inr h

pub or-false : (a : Bool) → (a || false) ≡ a
or-false true = refl
or-false false = refl

pub or-none : (a b : Bool) → ((a || b) ≡ false) ↔ ((a ≡ false) × (b ≡ false))
or-none true b = (λ h. absurd (false≢true (sym h)), λ h. h.0)
or-none false b = (λ h. (refl, h), λ h. h.1)

pub and-true : (a : Bool) → (a && true) ≡ a
and-true true = refl
and-true false = refl

pub and_both : (a b : Bool) → So (a && b) → So a × So b
and_both true b h = (refl, h)
and_both false b h = absurd (false≢true h)

-- By the order of two numbers.
pub below-cases : {i n : ℕ} → i < suc n → (i ≡ n) ⊎ (i < n)
below-cases h = eq-or-lt_of_le (le_of_suc-le-suc h)

pub by-lt {ℓ} : {C : Type ℓ} (i j : ℕ) → (i < j → C) → (j ≤ i → C) → C
by-lt i j a b = test (ltb i j) (λ t. a (ltb-true i j t)) (λ f. b (ltb-false i j f))

pub by_order {ℓ} : {C : Type ℓ} (i j : ℕ) → (i < j → C) → (i ≡ j → C) → (j < i → C) → C
by_order i j a b c = by-lt i j a (λ l. ⊎_elim (λ e. b (sym e)) c (eq-or-lt_of_le l))

-- SOME, EVERY

module _ (p : ℕ → Bool) where
  pub some_in : (n : ℕ) {k : ℕ} → k < n → So (p k) → So (some_below n p)
  unfolding some_below
  some_in zero h t = absurd (not-suc-le-zero h)
  some_in (suc n) {k} h t = ⊎_elim (λ e. or_right (some_below n p) (rw e at t)) (λ l. or_left (p n) (some_in n l t)) (below-cases h)

  pub some_out : (n : ℕ) → So (some_below n p) → (k : ℕ) × (k < n) × So (p k)
  unfolding some_below
  some_out zero t = absurd (false≢true t)
  some_out (suc n) t =
      ⊎_elim (λ s. let r = some_out n s in (r.0, omega arith, r.2)) (λ s. (n, omega arith, s)) (or_cases (some_below n p) (p n) t)

  pub all_in : (n : ℕ) → ((k : ℕ) → k < n → So (p k)) → So (all_below n p)
  unfolding all_below
  all_in zero h = refl
  all_in (suc n) h = simp and-eq-true_iff (all_in n (λ k l. h k (omega arith)), h n (omega arith))

  pub all-out : (n : ℕ) → So (all_below n p) → (k : ℕ) → k < n → So (p k)
  unfolding all_below
  all-out zero t k l = absurd (not-suc-le-zero l)
  all-out (suc n) t k l =
      let u = simp and-eq-true_iff at t in ⊎_elim (λ e. rw e u.1) (λ m. all-out n u.0 k m) (below-cases l)

-- Not every one passes: one that does not.
pub all-fails-at : (p : ℕ → Bool) (n : ℕ) → all_below n p ≡ false → (k : ℕ) × (k < n) × (p k ≡ false)
unfolding all_below
all-fails-at p zero h = absurd (false≢true (sym h))
all-fails-at p (suc n) h =
    test (p n)
    (λ t. let k = all-fails-at p n (sym (and-true (all_below n p)) ∙ ap (λ b. all_below n p && b) (sym t) ∙ h) in (k.0, omega (arith, k.1), k.2))
    (λ f. (n, omega arith, f))

pub some_same : (p q : ℕ → Bool) (n : ℕ) → ((k : ℕ) → k < n → p k ≡ q k) → some_below n p ≡ some_below n q
unfolding some_below
some_same p q zero h = refl
some_same p q (suc n) h = rw (h n (omega arith), some_same p q n (λ k l. h k (omega arith)))

-- HOW MANY

module _ (p : ℕ → Bool) where
  count-suc : (n : ℕ) → count p (suc n) ≡ cond (p n) (suc (count p n)) (count p n)
  unfolding count
  count-suc n = refl

  pub count_yes : (n : ℕ) → So (p n) → count p (suc n) ≡ suc (count p n)
  count_yes n h = rw (count-suc, h)

  pub count_no : (n : ℕ) → p n ≡ false → count p (suc n) ≡ count p n
  count_no n h = rw (count-suc, h)

  pub count-zero : count p 0 ≡ 0
  unfolding count
  count-zero = refl

  count-step : (n : ℕ) → count p n ≤ count p (suc n)
  count-step n = test (p n) (λ e. omega (arith, count_yes n e)) (λ e. omega (arith, count_no n e))

  pub count-mono : (n : ℕ) {i : ℕ} → i ≤ n → count p i ≤ count p n
  count-mono zero {i} h = let e : i ≡ 0 = omega arith in rw e (omega arith)
  count-mono (suc n) {i} h =
      ⊎_elim (λ e. rw e (omega arith)) (λ l. omega (arith, count-mono n (le_of_suc-le-suc l), count-step n)) (eq-or-lt_of_le h)

  -- A number that passes raises every later count.
  pub count-in : (n : ℕ) {i : ℕ} → i < n → So (p i) → count p i < count p n
  count-in n {i} l h = omega (arith, count_yes i h, count-mono n l)

  -- Where none from i on passes, the count stays.
  pub count-flat : (n : ℕ) {i : ℕ} → i ≤ n → ((k : ℕ) → i ≤ k → k < n → p k ≡ false) → count p n ≡ count p i
  count-flat zero {i} h none = let e : i ≡ 0 = omega arith in rw e refl
  count-flat (suc n) {i} h none =
      ⊎_elim
      (λ e. rw e refl)
      (λ l. count_no n (none n (le_of_suc-le-suc l) (omega arith)) ∙ count-flat n (le_of_suc-le-suc l) (λ k a b. none k a (omega arith)))
      (eq-or-lt_of_le h)

  -- At most all; fewer where one fails.
  pub count_most : (n : ℕ) → count p n ≤ n
  count_most zero = omega (arith, count-zero)
  count_most (suc n) = let h = count_most n in test (p n) (λ t. omega (arith, count_yes n t)) (λ f. omega (arith, count_no n f))

  pub count-misses : (n : ℕ) {i : ℕ} → i < n → p i ≡ false → count p n < n
  count-misses zero l f = absurd (not-suc-le-zero l)
  count-misses (suc n) {i} l f =
      ⊎_elim
      (λ e. omega (arith, count_no n (rw e at f), count_most n))
      (λ m. let h = count-misses n m f in test (p n) (λ t. omega (arith, count_yes n t)) (λ g. omega (arith, count_no n g)))
      (below-cases l)

  -- From i up to n at most n - i pass: so many where all do, and all where it is so many.
  count-near : (n : ℕ) {i : ℕ} → i ≤ n → count p n ≤ count p i + (n - i)
  count-near zero {i} h = let e : i ≡ 0 = omega arith in rw e (omega arith)
  count-near (suc n) {i} h =
      ⊎_elim
      (λ e. rw e (omega arith))
      (λ l. let m = count-near n (le_of_suc-le-suc l) in test (p n) (λ t. omega (arith, count_yes n t)) (λ f. omega (arith, count_no n f)))
      (eq-or-lt_of_le h)

  pub count-run : (n : ℕ) {i : ℕ} → i ≤ n → ((k : ℕ) → i ≤ k → k < n → So (p k)) → count p n ≡ count p i + (n - i)
  count-run zero {i} h all = let e : i ≡ 0 = omega arith in rw e (omega arith)
  count-run (suc n) {i} h all =
      ⊎_elim
      (λ e. rw e (omega arith))
      (λ l. omega (arith, count_yes n (all n (le_of_suc-le-suc l) (omega arith)), count-run n (le_of_suc-le-suc l) (λ k a b. all k a (omega arith))))
      (eq-or-lt_of_le h)

  pub count-full : (n : ℕ) {i : ℕ} → count p n ≡ count p i + (n - i) → (k : ℕ) → i ≤ k → k < n → So (p k)
  count-full n {i} e k a b =
      test (p k) (λ t. t) (λ f. absurd (omega (arith, count-near k a, count_no k f, count-near n {i = suc k} b)))

  -- Where all below n pass, n do.
  pub count-all : (n : ℕ) → ((i : ℕ) → i < n → So (p i)) → count p n ≡ n
  count-all zero h = count-zero
  count-all (suc n) h = count_yes n (h n (omega arith)) ∙ ap suc (count-all n (λ i l. h i (omega arith)))

  -- The number that passes with m passing ones before it.
  pub nth : (n m : ℕ) → m < count p n → (i : ℕ) × (i < n) × So (p i) × (count p i ≡ m)
  nth zero m h = absurd (omega (arith, count-zero))
  nth (suc n) m h =
      test (p n)
      (λ t. ⊎_elim (λ e. (n, omega arith, t, sym e)) (λ l. more n m (nth n m l)) (below-cases (rw (count_yes n t) at h)))
      (λ f. more n m (nth n m (rw (count_no n f) at h)))
    where
      more : (n m : ℕ) → ((i : ℕ) × (i < n) × So (p i) × (count p i ≡ m)) → (i : ℕ) × (i < suc n) × So (p i) × (count p i ≡ m)
      more n m r = (r.0, omega arith, r.2, r.3)

  -- Of two numbers of which the second passes, the one with the lower count is no later.
  pub count-order : (k j : ℕ) → So (p j) → count p k ≤ count p j → k ≤ j
  count-order k j t l = by-lt j k (λ a. absurd (omega (arith, count-in k a t))) (λ a. a)

module _ (p q : ℕ → Bool) where
  pub count-le : (n : ℕ) → ((k : ℕ) → k < n → So (p k) → So (q k)) → count p n ≤ count q n
  count-le zero h = omega (arith, count-zero p)
  count-le (suc n) h =
      let l = count-le n (λ k a. h k (omega arith)) in
      test (p n)
      (λ t. omega (arith, count_yes p n t, count_yes q n (h n (omega arith) t)))
      (λ f. omega (arith, count_no p n f, count-step q n))

  pub count_same : (n : ℕ) → ((k : ℕ) → k < n → p k ≡ q k) → count p n ≡ count q n
  unfolding count
  count_same zero h = refl
  count_same (suc n) h = rw (h n (omega arith), count_same n (λ k a. h k (omega arith)))

  -- Those that pass q pass p or not.
  pub count-split : (n : ℕ) → count (λ k. p k && q k) n + count (λ k. not (p k) && q k) n ≡ count q n
  unfolding count
  count-split zero = refl
  count-split (suc n) =
      let ih = count-split n in
      test (p n)
      (λ t. test (q n) (λ s. rw (t, s) (omega arith)) (λ f. rw (t, f) ih))
      (λ t. test (q n) (λ s. rw (t, s) (omega arith)) (λ f. rw (t, f) ih))

-- Of the numbers that pass, those with fewer than m passing before them: m, or all.
pub count-first : (p : ℕ → Bool) (m n : ℕ) → count (λ i. p i && ltb (count p i) m) n ≡ min m (count p n)
unfolding count
count-first p m zero = omega arith
count-first p m (suc n) =
    let ih = count-first p m n in
    test (p n)
    (λ t. test (ltb (count p n) m) (λ l. rw (t, l) (omega (arith, ltb-true))) (λ f. rw (t, f) (omega (arith, ltb-false))))
    (λ f. rw f ih)

-- EXACTLY ONE, THE EARLIEST, THE LATEST

module _ (p : ℕ → Bool) where
  pub one_out : (n : ℕ) → count p n ≡ 1 → ((k : ℕ) × (k < n) × So (p k)) × ((i j : ℕ) → i < n → j < n → So (p i) → So (p j) → i ≡ j)
  one_out n e = (
    let r = nth p n 0 (omega arith) in (r.0, r.1, r.2),
    λ i j a b s t.
        by_order i j (λ l. absurd (omega (arith, count-in p j l s, count-in p n b t))) (λ q. q)
        (λ l. absurd (omega (arith, count-in p i l t, count-in p n a s))),
  )

  pub one_in : (n : ℕ) (k : ℕ) → k < n → So (p k) → ((i : ℕ) → i < n → So (p i) → i ≡ k) → count p n ≡ 1
  one_in n k l s only =
      let a = count-flat p n l (λ i b c. off (p i) (λ t. let q = only i c t in omega arith)) in
      let d = count-flat p k {i = 0} (omega arith) (λ i b c. off (p i) (λ t. let q = only i (omega arith) t in omega arith)) in
      omega (arith, count_yes p k s, count-zero p)

  pub greatest : (n : ℕ) {i : ℕ} → i < n → So (p i) → (k : ℕ) × (i ≤ k) × (k < n) × So (p k) × ((m : ℕ) → k < m → m < n → So (p m) → ⊥)
  greatest n {i} l s =
      let c = count-in p n l s in
      let r = nth p n (count p n - 1) (omega arith) in
      let late : (m : ℕ) → r.0 < m → m < n → So (p m) → ⊥ = λ m a b t. omega (arith, count_yes p r.0 r.2, count-mono p m a, count-in p n b t) in
      (r.0, by_order i r.0 (λ a. omega arith) (λ a. omega arith) (λ a. absurd (late i a l s)), r.1, r.2, late)

  pub least : (i : ℕ) → So (p i) → (k : ℕ) × (k ≤ i) × So (p k) × ((m : ℕ) → m < k → So (p m) → ⊥)
  least i s =
      let c = count-in p (suc i) {i = i} (omega arith) s in
      let r = nth p (suc i) 0 (omega arith) in
      (r.0, omega arith, r.2, λ m l t. omega (arith, count-in p r.0 l t))

  pub earliest-is : (n : ℕ) {i : ℕ} → i < n → So (p i) → ((m : ℕ) → m < i → So (p m) → ⊥) → earliest p n ≡ i
  unfolding earliest
  earliest-is zero l s none = absurd (not-suc-le-zero l)
  earliest-is (suc n) {i} l s none =
      ⊎_elim
      (λ e. rw (off (some_below n p) (λ o. let r = some_out p n o in none r.0 (omega arith) r.2), ← e, s) refl)
      (λ b. rw (some_in p n b s) (earliest-is n b s none))
      (below-cases l)

  pub latest-is : (n : ℕ) {i : ℕ} → i < n → So (p i) → ((m : ℕ) → i < m → m < n → So (p m) → ⊥) → latest p n ≡ i
  unfolding latest
  latest-is zero l s none = absurd (not-suc-le-zero l)
  latest-is (suc n) {i} l s none =
      ⊎_elim
      (λ e. rw (← e, s) refl)
      (λ b. rw (off (p n) (none n b (omega arith))) (latest-is n b s (λ m c d. none m c (omega arith))))
      (below-cases l)

  -- Where some number passes, the latest does.
  pub latest-out : (n : ℕ) → So (some_below n p) → (latest p n < n) × So (p (latest p n))
  latest-out n s =
      let k = some_out p n s in
      let g = greatest n k.1 k.2 in
      rw (latest-is n g.2 g.3 g.4) (g.2, g.3)

-- Where none passes the latest is 0.
pub latest-none : (p : ℕ → Bool) (n : ℕ) → ((k : ℕ) → k < n → p k ≡ false) → latest p n ≡ 0
unfolding latest
latest-none p zero none = refl
latest-none p (suc n) none = rw (none n (omega arith)) (latest-none p n (λ k l. none k (omega arith)))

pub latest-most : (p : ℕ → Bool) (n : ℕ) → latest p n ≤ n
unfolding latest
latest-most p zero = omega arith
latest-most p (suc n) = let ih = latest-most p n in test (p n) (λ t. rw t (omega arith)) (λ f. rw f (omega arith))

-- Without x, which passes, one less does.
pub count-but : (q : ℕ → Bool) (m x : ℕ) → x < m → So (q x) → count q m ≡ suc (count (λ k. not (eqb k x) && q k) m)
count-but q m x l s =
    let e = one_in (λ k. eqb k x && q k) m x l (simp and-eq-true_iff (eq-eqb x x refl, s)) (λ i a t. eqb-true i x (simp and-eq-true_iff at t).0) in
    omega (arith, count-split (λ k. eqb k x) q m)

-- Tests that agree on the numbers below n have the same latest one.
pub latest-same : (p q : ℕ → Bool) (n : ℕ) → ((k : ℕ) → k < n → p k ≡ q k) → latest p n ≡ latest q n
unfolding latest
latest-same p q zero h = refl
latest-same p q (suc n) h = rw (h n (omega arith), latest-same p q n (λ k l. h k (omega arith)))

-- WHAT THEY GIVE

module _ {A : Type 0} where
  module _ (f : ℕ → A) where
    pub length-tab : (n : ℕ) → length (tab n f) ≡ n
    unfolding tab
    length-tab zero = refl
    length-tab (suc n) = length-append (tab n f) (f n ∷ []) ∙ add-one _ ∙ ap suc (length-tab n)

    pub tab-at : (n : ℕ) (d : A) {k : ℕ} → k < n → get_or (tab n f) k d ≡ f k
    unfolding tab
    tab-at zero d l = absurd (not-suc-le-zero l)
    tab-at (suc n) d {k} l =
        ⊎_elim
        (λ e. rw e (get_or_at (tab n f) (f n) [] d n (length-tab n)))
        (λ b. get_or-append (tab n f) (f n ∷ []) d k (omega (arith, length-tab n)) ∙ tab-at n d b)
        (below-cases l)

    -- A list is the table of its elements.
    pub tab-is : (xs : List A) (n : ℕ) (d : A) → length xs ≡ n → ((k : ℕ) → k < n → get_or xs k d ≡ f k) → xs ≡ tab n f
    tab-is xs n d l h = ext_get_or d _ _ (l ∙ sym (length-tab n)) (λ i a. h i (omega arith) ∙ sym (tab-at n d {k = i} (omega arith)))

  pub tab-same : (f g : ℕ → A) (n : ℕ) → ((k : ℕ) → k < n → f k ≡ g k) → tab n f ≡ tab n g
  unfolding tab
  tab-same f g zero h = refl
  tab-same f g (suc n) h = rw (h n (omega arith), tab-same f g n (λ k l. h k (omega arith)))

  module _ (p : ℕ → Bool) (f : ℕ → A) where
    pub length-gather : (n : ℕ) → length (gather p f n) ≡ count p n
    unfolding gather count
    length-gather zero = refl
    length-gather (suc n) =
        test (p n) (λ t. rw t (length-append (gather p f n) (f n ∷ []) ∙ add-one _ ∙ ap suc (length-gather n))) (λ o. rw o (length-gather n))

    -- Where none from i on passes, what is gathered stays.
    pub gather-flat : (n : ℕ) {i : ℕ} → i ≤ n → ((k : ℕ) → i ≤ k → k < n → p k ≡ false) → gather p f n ≡ gather p f i
    unfolding gather
    gather-flat zero {i} h none = let e : i ≡ 0 = omega arith in rw e refl
    gather-flat (suc n) {i} h none =
        ⊎_elim
        (λ e. rw e refl)
        (λ l. rw (none n (le_of_suc-le-suc l) (omega arith)) (gather-flat n (le_of_suc-le-suc l) (λ k a b. none k a (omega arith))))
        (eq-or-lt_of_le h)

    -- Number k comes to place `count p k`.
    pub gather-at : (n : ℕ) (d : A) {k : ℕ} → k < n → So (p k) → get_or (gather p f n) (count p k) d ≡ f k
    unfolding gather
    gather-at zero d l s = absurd (not-suc-le-zero l)
    gather-at (suc n) d {k} l s =
        test (p n)
        (λ t.
        rw t (⊎_elim
        (λ e. rw e (get_or_at (gather p f n) (f n) [] d (count p n) (length-gather n)))
        (λ b. get_or-append (gather p f n) _ d (count p k) (omega (arith, length-gather n, count-in p n b s)) ∙ gather-at n d b s)
        (below-cases l)))
        (λ o. rw o (⊎_elim (λ e. absurd (clash s (rw e o))) (λ b. gather-at n d b s) (below-cases l)))

    -- What is gathered is xs, when xs has as many and what each number gives at its place.
    pub gather-is : (xs : List A) (n : ℕ) (d : A) → length xs ≡ count p n → ((k : ℕ) → k < n → So (p k) → get_or xs (count p k) d ≡ f k) → xs ≡ gather p f n
    gather-is xs n d l h =
        ext_get_or d _ _ (l ∙ sym (length-gather n)) (λ i a.
        let k = nth p n i (omega arith) in
        subst (λ j. get_or xs j d ≡ get_or (gather p f n) j d) k.3 (h k.0 k.1 k.2 ∙ sym (gather-at n d k.1 k.2)))

    -- A place of what is gathered, and the number that it came from.
    pub gather-from : (n i : ℕ) (d : A) → i < length (gather p f n) → (k : ℕ) × (k < n) × So (p k) × (count p k ≡ i) × (get_or (gather p f n) i d ≡ f k)
    gather-from n i d a =
        let k = nth p n i (omega (arith, length-gather n)) in
        (k.0, k.1, k.2, k.3, ap (λ j. get_or (gather p f n) j d) (sym k.3) ∙ gather-at n d k.1 k.2)
