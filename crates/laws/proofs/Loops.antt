-- Loops over the numbers below a bound: what holds before the first turn, what a turn adds, what a return tells.
-- In each, b is what the turn's test answered at i. The rulesets are for `search` at the needs of a loop. Assumes nothing.
use Prim.Native.Nat.{ℕ, zero, suc, ◌+◌, ◌-◌, ◌≤◌, ◌<◌}
use mathlib.Core.Bool.{Bool, true, false, not, ◌&&◌, So, cond}
use mathlib.Core.Path.{◌≡◌, refl, sym, ap, subst, ◌∙◌}
use native.Mathlib.Nat.{not-suc-le-zero, le_antisymm}
use native.Mathlib.Numerals.{add-one}
use native.Mathlib.Omega.{arith}
use lib.Dec.{leb}
use mir.Syntax.{Width}
use mir.Val.{Fits, bool_byte}
use borrow.Author.Rules.{rules}
use borrow.Author.Tests.{not-true, not-false, lt-ltb, le-ltb, le-leb, lt-leb, eq-eqb, ne_eqb}
use Rattle.rules.specs.Below.{some_below, all_below, count, earliest, latest}
use Rattle.laws.proofs.Tests.{test, clash, off, by-lt, least, some_in, some_out, all-out, count-zero, count_yes, count_no, earliest-is}

module _ (p : ℕ → Bool) where
  -- EVERY
  pub all_none : all_below 0 p ≡ true
  unfolding all_below
  all_none = refl

  pub all_more : (i : ℕ) (b : Bool) → all_below i p ≡ true → b ≡ p i → b ≡ true → all_below (i + 1) p ≡ true
  unfolding all_below
  all_more i b all e t = rw (add-one, ← e, t, all) refl

  pub all-fails : (n i : ℕ) (b : Bool) → i < n → b ≡ p i → b ≡ false → false ≡ all_below n p
  all-fails n i b l e t = sym (off (all_below n p) (λ h. clash (all-out p n h i l) (sym e ∙ t)))

  pub all_done : (n i : ℕ) → i ≤ n → n ≤ i → all_below i p ≡ true → true ≡ all_below n p
  all_done n i a b all = sym (subst (λ k. all_below k p ≡ true) (le_antisymm a b) all)

  -- Every, kept in a flag up to the end.
  pub all-flag : (i : ℕ) (a b : Bool) → a ≡ all_below i p → b ≡ p i → (a && b) ≡ all_below (i + 1) p
  unfolding all_below
  all-flag i a b e f = rw (e, f, add-one i) refl

  -- SOME
  pub some-none : some_below 0 p ≡ false
  unfolding some_below
  some-none = refl

  pub some_more : (i : ℕ) (b : Bool) → some_below i p ≡ false → b ≡ p i → b ≡ false → some_below (i + 1) p ≡ false
  unfolding some_below
  some_more i b some e t = rw (add-one, ← e, t, some) refl

  pub some-found : (n i : ℕ) (b : Bool) → i < n → b ≡ p i → b ≡ true → true ≡ some_below n p
  some-found n i b l e t = sym (some_in p n l (sym e ∙ t))

  pub some-done : (n i : ℕ) → i ≤ n → n ≤ i → some_below i p ≡ false → false ≡ some_below n p
  some-done n i a b some = sym (subst (λ k. some_below k p ≡ false) (le_antisymm a b) some)

  -- HOW MANY
  pub count_none : 0 ≡ count p 0
  count_none = sym (count-zero p)

  pub count-more : (i k : ℕ) (b : Bool) → k ≡ count p i → b ≡ p i → k + bool_byte b ≡ count p (i + 1)
  count-more i k true e t = rw (add-one i) (omega (arith, count_yes p i (sym t)))
  count-more i k false e t = rw (add-one i) (omega (arith, count_no p i (sym t)))

  pub count-hit : (i k j : ℕ) (b : Bool) → k ≡ count p i → b ≡ p i → b ≡ true → j ≡ k + 1 → j ≡ count p (i + 1)
  count-hit i k j b e t h q = rw (add-one i) (omega (arith, count_yes p i (sym t ∙ h)))

  pub count-miss : (i k j : ℕ) (b : Bool) → k ≡ count p i → b ≡ p i → b ≡ false → j ≡ k → j ≡ count p (i + 1)
  count-miss i k j b e t h q = rw (add-one i) (omega (arith, count_no p i (sym t ∙ h)))

  pub count-done : (n i k : ℕ) → i ≤ n → n ≤ i → k ≡ count p i → k ≡ count p n
  count-done n i k a b e = e ∙ ap (count p) (le_antisymm a b)

  -- THE EARLIEST, going up
  pub first_found : (n i : ℕ) (b : Bool) → some_below i p ≡ false → i < n → b ≡ p i → b ≡ true → i ≡ earliest p n
  first_found n i b none l e t = sym (earliest-is p n l (sym e ∙ t) (λ m k s. clash (some_in p i k s) none))

  pub earliest-none : (n : ℕ) → some_below n p ≡ false → earliest p n ≡ n
  unfolding earliest
  earliest-none zero e = refl
  earliest-none (suc n) e = rw (off (some_below n p) (λ s. lost n s e), off (p n) (λ s. clash (some_in p (suc n) (omega arith) s) e)) refl
    where
      lost : (n : ℕ) → So (some_below n p) → some_below (suc n) p ≡ false → ⊥
      lost n s e = let k = some_out p n s in clash (some_in p (suc n) (omega arith) k.2) e

  pub first_done : (n i : ℕ) → i ≤ n → n ≤ i → some_below i p ≡ false → n ≡ earliest p n
  first_done n i a b none = sym (earliest-none n (subst (λ k. some_below k p ≡ false) (le_antisymm a b) none))

  -- THE LATEST, going down
  down : (P : ℕ → ℕ → Type 0) → ((k : ℕ) → P (suc k) k) → (i : ℕ) → 0 < i → P i (i - 1)
  down P h zero l = absurd (not-suc-le-zero l)
  down P h (suc k) l = let e : k ≡ suc k - 1 = omega arith in subst (P (suc k)) e (h k)

  pub latest-yes : (k : ℕ) → So (p k) → latest p (suc k) ≡ k
  unfolding latest
  latest-yes k t = rw t refl

  pub latest-no : (k : ℕ) → p k ≡ false → latest p (suc k) ≡ latest p k
  unfolding latest
  latest-no k f = rw f refl

  pub last_more : (n i : ℕ) (b : Bool) → latest p n ≡ latest p i → 0 < i → b ≡ p (i - 1) → b ≡ false → latest p n ≡ latest p (i - 1)
  last_more n i b h l e t = h ∙ down (λ i k. p k ≡ false → latest p i ≡ latest p k) latest-no i l (sym e ∙ t)

  pub last_found : (n i : ℕ) (b : Bool) → latest p n ≡ latest p i → 0 < i → b ≡ p (i - 1) → b ≡ true → i - 1 ≡ latest p n
  last_found n i b h l e t = sym (h ∙ down (λ i k. So (p k) → latest p i ≡ k) latest-yes i l (sym e ∙ t))

-- What the earliest number is, whether one passes or not.
pub record Earliest (p : ℕ → Bool) (n e : ℕ) : Type 0 where
  pub within : e ≤ n
  pub passes : e < n → So (p e)
  pub none_before : (m : ℕ) → m < e → p m ≡ false

pub earliest-out : (p : ℕ → Bool) (n : ℕ) → Earliest p n (earliest p n)
earliest-out p n =
    test (some_below n p)
    (λ t.
    let o = some_out p n t in
    let k = least p o.0 o.2 in
    rw (earliest-is p n (omega arith) k.2 k.3) (record { within = omega arith; passes = λ l. k.2; none_before = λ m l. off (p m) (k.3 m l) }))
    (λ f. rw (earliest-none p n f) (record { within = omega arith; passes = λ l. absurd (omega arith); none_before = λ m l. off (p m) (λ s. clash (some_in p n l s) f) }))

pub earliest-in : (p : ℕ → Bool) (n e : ℕ) → Earliest p n e → e ≡ earliest p n
earliest-in p n e h =
    by-lt e n
    (λ l. sym (earliest-is p n l (h.passes l) (λ m k s. clash s (h.none_before m k))))
    (λ l. let q : e ≡ n = le_antisymm h.within l in q ∙ sym (earliest-none p n (off (some_below n p) (λ s. let k = some_out p n s in clash k.2 (h.none_before k.0 (omega arith))))))

-- The same tests have the same earliest number.
pub earliest-same : (p q : ℕ → Bool) (n : ℕ) → ((k : ℕ) → k < n → p k ≡ q k) → earliest p n ≡ earliest q n
earliest-same p q n h =
    let e = earliest-out p n in
    let w = e.within in
    earliest-in q n (earliest p n) (record { within = w; passes = λ l. sym (h (earliest p n) l) ∙ e.passes l; none_before = λ m l. sym (h m (omega arith)) ∙ e.none_before m l })

-- None passes exactly where the earliest is past the last.
pub earliest-past : (p : ℕ → Bool) (n : ℕ) → leb n (earliest p n) ≡ not (some_below n p)
earliest-past p n =
    test (some_below n p)
    (λ s.
    let k = some_out p n s in
    let e = earliest-out p n in
    rw s (lt-leb n (earliest p n) (by-lt (earliest p n) n (λ l. l) (λ m. absurd (clash k.2 (e.none_before k.0 (omega arith)))))))
    (λ f. rw f (le-leb n (earliest p n) (let e = earliest-none p n f in omega arith)))

pub count-within : (i k : ℕ) (b : Bool) → k ≤ i → k + bool_byte b ≤ i + 1
count-within i k true l = omega arith
count-within i k false l = omega arith

pub count_fits : {w : Width} (n i k : ℕ) (b : Bool) → k ≤ i → i < n → Fits w n → Fits w (k + bool_byte b)
count_fits n i k b l m f = record { fits = omega (arith, count-within i k b l) }

pub ruleset loops = (
  rules,
  not-true,
  not-false,
  all_none,
  all_more,
  all-fails,
  all_done,
  some-none,
  some_more,
  some-found,
  some-done,
  count_none,
  count-more,
  count-within,
  count_fits,
  count-done,
  first_found,
  first_done,
  last_more,
  last_found,
)

-- Where a branch counts and the ways meet.
pub ruleset joins = (loops, count-hit, count-miss)

-- TESTS ONE AFTER THE OTHER, each answered by a call or by the code itself
pub and-stop : (x y b : Bool) → b ≡ x → b ≡ false → false ≡ (x && y)
and-stop x y b e t = rw (← e, t) refl

pub and-go : (x y b r : Bool) → b ≡ x → b ≡ true → r ≡ y → r ≡ (x && y)
and-go x y b r e t h = rw (← e, t) h

pub ruleset chain = (rules, not-true, not-false, and-stop, and-go)

module _ {A : Type 0} where
  pub pick_yes : (x : Bool) (a b r : A) → x ≡ true → r ≡ a → r ≡ cond x a b
  pick_yes x a b r e h = rw e h

  pub pick_no : (x : Bool) (a b r : A) → x ≡ false → r ≡ b → r ≡ cond x a b
  pick_no x a b r e h = rw e h

  pub pick-by-yes : (x y : Bool) (a b r : A) → y ≡ x → y ≡ true → r ≡ a → r ≡ cond x a b
  pick-by-yes x y a b r t e h = rw (← t, e) h

  pub pick-by-no : (x y : Bool) (a b r : A) → y ≡ x → y ≡ false → r ≡ b → r ≡ cond x a b
  pick-by-no x y a b r t e h = rw (← t, e) h

pub ruleset picks = (rules, not-true, not-false, pick-by-yes, pick-by-no, pick_yes, pick_no, lt-ltb, le-ltb, le-leb, lt-leb, eq-eqb, ne_eqb)
