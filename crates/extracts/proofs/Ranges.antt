-- What `any` and `find` over the numbers below a bound answer. Assumes nothing.
use Prim.Native.Nat.{ℕ, zero, suc, ◌+◌, ◌≤◌, ◌<◌}
use mathlib.Core.Bool.{Bool, false, So, false≢true}
use mathlib.Core.Path.{◌≡◌, refl, subst}
use native.Mathlib.Omega.{arith}
use lib.Dec.{eqb}
use borrow.Author.Tests.{eqb-true, eqb-false}
use Rattle.std.specs.Prelude.{Option, None, Some}
use Rattle.std.specs.Option.{MatchOption, unwrap_or}
use Rattle.std.specs.List.{list_any, range_with_len}
use Rattle.rules.specs.Below.{some_below, earliest}
use Rattle.laws.proofs.Loops.{earliest-in}
use Rattle.laws.proofs.Tests.{test, same_tests, some_in, some_out}

module _ (p : ℕ → Bool) where
  in_range : (a n k : ℕ) → a ≤ k → k < a + n → So (p k) → So (list_any p (range_with_len a n))
  in_range a zero k l m t = absurd (omega arith)
  in_range a (suc n) k l m t =
      test (eqb k a)
      (λ e. rw (subst (λ x. So (p x)) (eqb-true k a e) t) refl)
      (λ f. test (p a) (λ y. rw y refl) (λ z. rw z (in_range (a + 1) n k (omega (arith, eqb-false k a f)) (omega arith) t)))

  out_of_range : (a n : ℕ) → So (list_any p (range_with_len a n)) → (k : ℕ) × (a ≤ k) × (k < a + n) × So (p k)
  out_of_range a zero t = absurd (false≢true t)
  out_of_range a (suc n) t =
      test (p a)
      (λ y. (a, omega arith, omega arith, y))
      (λ z. let h = out_of_range (a + 1) n (rw z at t) in (h.0, omega (arith, h.1), omega (arith, h.2), h.3))

  -- Some number below n passes exactly where `any` says so.
  pub any-below : (n : ℕ) → list_any p (range_with_len 0 n) ≡ some_below n p
  any-below n =
      same_tests
      (λ t. let h = out_of_range 0 n t in some_in p n {k = h.0} (omega (arith, h.2)) h.3)
      (λ t. let h = some_out p n t in in_range 0 n h.0 (omega arith) (omega (arith, h.1)) h.2)

  -- The first of them is what `find` answers.
  pub first-below : (n : ℕ) (r : Option ℕ) →
      MatchOption r ((k : ℕ) → 0 ≤ k → k < n → p k ≡ false) (λ i. (0 ≤ i) × (i < n) × So (p i) × ((k : ℕ) → 0 ≤ k → k < i → p k ≡ false)) → unwrap_or r n ≡ earliest p n
  first-below n None h = earliest-in p n n (record { within = omega arith; passes = λ l. absurd (omega arith); none_before = λ m l. h m (omega arith) l })
  first-below n (Some i) h = earliest-in p n i (record { within = omega (arith, h.1); passes = λ l. h.2; none_before = λ m l. h.3 m (omega arith) l })
