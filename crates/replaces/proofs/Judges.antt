-- When Replace is refused, and its outcome. Assumes nothing.
use Prim.Native.Nat.{ℕ}
use mathlib.Core.List.{List, [], ◌∷◌}
use mathlib.Core.Logic.{inl}
use mathlib.Core.Path.{◌≡◌, refl, sym, ◌∙◌}
use borrow.Author.Tests.{eq-eqb, ne_eqb}
use Rattle.base.specs.declared.Refusal.{Refusal}
use Rattle.base.specs.declared.Refusal.TheVariants.{UsedUp}
use Rattle.base.specs.Numbers.{number_of, carried_by}
use Rattle.rules.specs.Rows.{none}
use Rattle.rules.specs.Moves.{replaced}
use Rattle.rules.specs.Words.{table_of, written}
use Rattle.rules.specs.Calls.{Call, Answer, refusals, accepted, outcome, Given, NoneGiven}
use Rattle.laws.proofs.Calls.{outcome-accepted, outcome-refused}
use Rattle.sound.specs.Check.{check_of, Settles}
use Rattle.std.specs.Prelude.{Result, Ok, Err}
use Rattle.sound.proofs.Checks.{check-given}
use Rattle.replaces.specs.Answers.{number_rungs}

-- REFUSAL 8

module _ (words : List ℕ) (m : ℕ) (e : m ≡ (table_of words).next_doc) where
  pub number-used : m ≡ none → Settles (number_rungs words) (Err UsedUp)
  unfolding Given
  number-used z = inl (eq-eqb _ _ (sym e ∙ z), refl, refl)

  pub number-left : (m ≡ none → ⊥) → Settles (number_rungs words) (Ok tt)
  unfolding NoneGiven
  number-left z = (ne_eqb _ _ (λ q. z (e ∙ q)), tt)

-- THE OUTCOME

pub replace-refused : (words : List ℕ) (d : ℕ) (k : Result (Unit {0}) Refusal) (r : Refusal) → k ≡ check_of words → k ≡ Err r → outcome (Call.Replace words d) ≡ record { answer = Answer.refuses (number_of r) (carried_by r); lent = words ∷ [] }
unfolding refusals
replace-refused words d k r e f = outcome-refused (Call.Replace words d) (number_of r) (carried_by r) (check-given words _ k r e f)

pub replace-given : (words : List ℕ) (d : ℕ) → NoneGiven (refusals (Call.Replace words d)) → (m : ℕ) (left : List ℕ) → m ≡ (table_of words).next_doc → left ≡ written words (replaced (table_of words) d) →
    outcome (Call.Replace words d) ≡ record { answer = Answer.gives (m ∷ []); lent = left ∷ [] }
unfolding accepted
replace-given words d h m left a b = outcome-accepted (Call.Replace words d) h ∙ rw (a, b) refl
