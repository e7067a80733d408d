-- Where the window of a sound record stands: the steps before the earliest upcoming one are the taken ones. Assumes nothing.
use Prim.Native.Nat.{ℕ, zero, suc, ◌+◌, ◌-◌, ◌≤◌, ◌<◌}
use mathlib.Core.Bool.{Bool, false, not, So, and-eq-true_iff}
use mathlib.Core.List.{List}
use mathlib.Core.Logic.{⊎_elim}
use mathlib.Core.Path.{◌≡◌, refl, sym, ◌∙◌}
use native.Mathlib.Nat.{eq-or-lt_of_le, le_of_suc-le-suc}
use native.Mathlib.Omega.{arith}
use lib.ListN.{length}
use borrow.Author.Tests.{ltb-false, lt-ltb, le-ltb, not-true}
use Rattle.rules.specs.Below.{count, earliest, latest}
use Rattle.rules.specs.Rows.{Row}
use Rattle.rules.specs.Steps.{is_step, taken, upcoming, position, steps}
use Rattle.rules.specs.Sound.{S6}
use Rattle.laws.specs.Alone.{InOrder}
use Rattle.laws.proofs.Tests.{test, off, by-lt, some_out, count-zero, count_yes, count_no, count-mono, count-in, count_most, count-full, nth, earliest-is, latest-is, latest-same}
use Rattle.laws.proofs.Central.{position-steps}
use Rattle.laws.proofs.Lists.{taken_is, upcoming-is}
use Rattle.laws.proofs.Loops.{earliest-none}

-- Every number below n passes or not.
pub count-rest : (p : ℕ → Bool) (n : ℕ) → count p n + count (λ k. not (p k)) n ≡ n
count-rest p zero = omega (arith, count-zero p, count-zero (λ k. not (p k)))
count-rest p (suc n) =
    let ih = count-rest p n in
    test (p n)
    (λ t. omega (arith, count_yes p n t, count_no (λ k. not (p k)) n (rw t refl)))
    (λ f. omega (arith, count_no p n f, count_yes (λ k. not (p k)) n (rw f refl)))

pub steps-most : (rows : List Row) → steps rows ≤ length rows
unfolding steps
steps-most rows = count_most (is_step rows) (length rows)

-- The latest of n is that of the first e, where no later one passes.
latest-upto : (p q : ℕ → Bool) (n : ℕ) {e : ℕ} → e ≤ n → ((k : ℕ) → k < e → p k ≡ q k) → ((k : ℕ) → e ≤ k → k < n → p k ≡ false) → latest p n ≡ latest q e
unfolding latest
latest-upto p q zero {e} l same none = let z : e ≡ 0 = omega arith in rw z refl
latest-upto p q (suc n) {e} l same none =
    ⊎_elim
    (λ z. rw z (latest-same p q (suc n) (λ k a. same k (omega arith))))
    (λ m. rw (none n (le_of_suc-le-suc m) (omega arith)) (latest-upto p q n (le_of_suc-le-suc m) same (λ k a b. none k a (omega arith))))
    (eq-or-lt_of_le l)

module _ (rows : List Row) (s6 : S6 rows) (s7 : InOrder rows) where
  -- The earliest upcoming step, or the end of the rows, has as many steps before it as are taken; where there are more, a step stands there.
  start : (earliest (upcoming rows) (length rows) ≤ length rows) × (count (is_step rows) (earliest (upcoming rows) (length rows)) ≡ position rows) ×
      (position rows < steps rows → (earliest (upcoming rows) (length rows) < length rows) × So (is_step rows (earliest (upcoming rows) (length rows))))
  unfolding steps
  start =
      let late : (k : ℕ) → k < length rows → So (upcoming rows k) → So (is_step rows k) × (position rows ≤ count (is_step rows) k) =
      λ k l t. let u = simp and-eq-true_iff at (sym (upcoming-is rows s6 s7 k l) ∙ t) in (u.0, ltb-false _ _ (not-true _ u.1)) in
      by-lt (position rows) (steps rows)
      (λ l.
      let i = nth (is_step rows) (length rows) (position rows) l in
      let none : (m : ℕ) → m < i.0 → So (upcoming rows m) → ⊥ = λ m a t. let u = late m (omega arith) t in omega (arith, count-in (is_step rows) i.0 a u.0) in
      rw (earliest-is (upcoming rows) (length rows) i.1 (upcoming-is rows s6 s7 i.0 i.1 ∙ rw (i.2, le-ltb (count (is_step rows) i.0) (position rows) (omega arith)) refl) none) (omega arith, i.3, λ m. (i.1, i.2)))
      (λ l.
      let none = off _ (λ s.
      let k = some_out (upcoming rows) (length rows) s in
      let u = late k.0 k.1 k.2 in
      omega (arith, count-in (is_step rows) (length rows) k.1 u.0)) in
      rw (earliest-none (upcoming rows) (length rows) none) (omega arith, omega (arith, position-steps rows), λ m. absurd (omega arith)))

  pub upto-start : earliest (upcoming rows) (length rows) ≤ length rows
  upto-start = start.0

  pub step_start : position rows < steps rows → (earliest (upcoming rows) (length rows) < length rows) × So (is_step rows (earliest (upcoming rows) (length rows)))
  step_start = start.2

  -- The position is the number of steps before the earliest upcoming one.
  pub position-start : count (is_step rows) (earliest (upcoming rows) (length rows)) ≡ position rows
  position-start = start.1

  -- Where no frame begins from the earliest upcoming step on, all rows from there on are upcoming.
  pub rest-upcoming : length rows - steps rows + position rows ≡ earliest (upcoming rows) (length rows) →
      (k : ℕ) → earliest (upcoming rows) (length rows) ≤ k → k < length rows → So (upcoming rows k)
  unfolding steps
  rest-upcoming e k a b =
      let t = count-full (is_step rows) (length rows) {i = earliest (upcoming rows) (length rows)} (omega (arith, position-start, upto-start, count_most (is_step rows) (length rows))) k a b in
      upcoming-is rows s6 s7 k b ∙ rw (t, le-ltb (count (is_step rows) k) (position rows) (omega (arith, position-start, count-mono (is_step rows) k a))) refl

  -- The latest taken step is the latest step before the earliest upcoming one.
  pub taken_start : latest (taken rows) (length rows) ≡ latest (is_step rows) (earliest (upcoming rows) (length rows))
  taken_start =
      let e = earliest (upcoming rows) (length rows) in
      latest-upto (taken rows) (is_step rows) (length rows) upto-start
      (λ k l. test (is_step rows k)
      (λ t. let b = count-in (is_step rows) e l t in taken_is rows s6 s7 k (omega (arith, upto-start)) ∙ rw (t, lt-ltb (count (is_step rows) k) (position rows) (omega (arith, position-start))) refl)
      (λ f. rw f refl))
      (λ k l m. let b = count-mono (is_step rows) k l in
      taken_is rows s6 s7 k m ∙ rw (le-ltb (count (is_step rows) k) (position rows) (omega (arith, position-start))) (test (is_step rows k) (λ t. rw t refl) (λ f. rw f refl)))

  -- Where there is one, a step stands there, and all other taken steps come before it.
  pub last-start : (m : ℕ) → position rows ≡ m + 1 →
      (latest (taken rows) (length rows) < length rows) × So (is_step rows (latest (taken rows) (length rows))) × (count (is_step rows) (latest (taken rows) (length rows)) ≡ m)
  last-start m h =
      let e = earliest (upcoming rows) (length rows) in
      let i = nth (is_step rows) e m (omega (arith, position-start)) in
      let none : (k : ℕ) → i.0 < k → k < e → So (is_step rows k) → ⊥ =
      λ k a b t. omega (arith, position-start, count-in (is_step rows) e b t, count-in (is_step rows) k a i.2) in
      rw (taken_start ∙ latest-is (is_step rows) e i.1 i.2 none) (omega (arith, upto-start), i.2, i.3)
