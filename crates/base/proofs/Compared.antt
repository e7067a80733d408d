-- What the answer of a derived comparison of two numbers says of them. Assumes nothing.
use Rattle.std.proofs.Common.{ℕ, Bool, true, false, refl, true≢false, not, ◌≡◌, ◌<◌, ◌≤◌, nat_eq, sym, ap, ◌∙◌}
use Rattle.std.specs.Ordering.{is_lt, is_le, nat_cmp}
use mathlib.Core.Logic.{⊎_elim}
use lib.Dec.{ltb, leb}
use borrow.Author.Tests.{lt-ltb, le-ltb, le-leb, lt-leb}
use Rattle.std.proofs.lemmas.Bool.{eqb-true, eq-eqb, not-false, cases_Bool}
use Rattle.std.proofs.lemmas.Map.Keys.{ge_from_not_lt, le_from_is_le}
use Rattle.std.proofs.lemmas.Cmp.{by_ranked, ranked}

module _ (a b : ℕ) (r : Bool) where
  -- Equal.
  pub same : r ≡ nat_eq a b → r ≡ true → a ≡ b
  same e t = eqb-true a b (sym e ∙ t)

  -- Not equal.
  pub apart : r ≡ nat_eq a b → r ≡ false → a ≡ b → ⊥
  apart e t f = true≢false (sym (eq-eqb a b f) ∙ sym e ∙ t)

  -- The first is lower.
  pub lower : r ≡ is_lt (nat_cmp a b) → r ≡ true → a < b
  lower e t = by_ranked (a < b) (a ≡ b) (b < a) (nat_cmp a b) (ranked a b _ refl) (λ _ l. l) (λ f _. absurd (true≢false (sym t ∙ e ∙ ap is_lt f))) (λ f _. absurd (true≢false (sym t ∙ e ∙ ap is_lt f)))

  -- It is not.
  pub not-lower : r ≡ is_lt (nat_cmp a b) → r ≡ false → b ≤ a
  not-lower e t = ge_from_not_lt a b (sym e ∙ t)

  -- The first is not higher.
  pub not-higher : r ≡ is_le (nat_cmp a b) → r ≡ true → a ≤ b
  not-higher e t = le_from_is_le a b (sym e ∙ t)

  -- It is.
  pub higher : r ≡ is_le (nat_cmp a b) → r ≡ false → b < a
  higher e t = by_ranked (a < b) (a ≡ b) (b < a) (nat_cmp a b) (ranked a b _ refl) (λ f _. absurd (true≢false (sym (ap is_le f) ∙ sym e ∙ t))) (λ f _. absurd (true≢false (sym (ap is_le f) ∙ sym e ∙ t))) (λ _ l. l)

  -- They differ.
  pub differ : r ≡ not (nat_eq a b) → r ≡ true → a ≡ b → ⊥
  differ e t f = true≢false (sym t ∙ e ∙ ap not (eq-eqb a b f))

  -- They do not.
  pub agree : r ≡ not (nat_eq a b) → r ≡ false → a ≡ b
  agree e t = eqb-true a b (not-false _ (sym e ∙ t))

  -- The answer, as the test of numbers has it.
  pub is-lower : r ≡ is_lt (nat_cmp a b) → r ≡ ltb a b
  is-lower e = ⊎_elim (λ t. t ∙ sym (lt-ltb a b (lower e t))) (λ f. f ∙ sym (le-ltb a b (not-lower e f))) (cases_Bool r)

  pub is-upto : r ≡ is_le (nat_cmp a b) → r ≡ leb a b
  is-upto e = ⊎_elim (λ t. t ∙ sym (le-leb a b (not-higher e t))) (λ f. f ∙ sym (lt-leb a b (higher e f))) (cases_Bool r)
