-- When Navigate is refused, and its outcome. Assumes nothing.
use Prim.Native.Nat.{ℕ, ◌≤◌}
use mathlib.Core.Bool.{Bool, true, false, So}
use mathlib.Core.List.{List, [], ◌∷◌}
use mathlib.Core.Logic.{inl, inr}
use mathlib.Core.Path.{◌≡◌, refl, sym, ap, subst, ◌∙◌}
use borrow.Author.Tests.{eq-eqb, ne_eqb, not-false}
use Rattle.base.specs.declared.Refusal.{Refusal}
use Rattle.base.specs.declared.Refusal.TheVariants.{Full, UsedUp}
use Rattle.base.specs.Numbers.{number_of, carried_by}
use Rattle.rules.specs.Rows.{none, place}
use Rattle.rules.specs.Steps.{visible}
use Rattle.rules.specs.Windows.{root_at}
use Rattle.rules.specs.Moves.{cleared, navigated}
use Rattle.rules.specs.Words.{table_of, rows_of, written}
use Rattle.rules.specs.Sound.{Sound}
use Rattle.rules.specs.Calls.{Call, Answer, full, refusals, accepted, outcome, Given, NoneGiven}
use Rattle.laws.specs.Alone.{cleared_all}
use Rattle.laws.proofs.Calls.{outcome-accepted, outcome-refused}
use Rattle.laws.proofs.Tree.{place_is, tree_of}
use Rattle.laws.proofs.Climb.{sees-out}
use Rattle.windows.proofs.Ends.{cleared-alone}
use Rattle.sound.specs.Check.{Settles, Judged}
use Rattle.std.specs.Prelude.{Result, Ok, Err}
use Rattle.sound.specs.Survey.{alone?, survey_of}
use Rattle.sound.specs.declared.Windows.{Windows}
use Rattle.sound.proofs.Alone.{alone-root}
use Rattle.sound.proofs.Checks.{survey-given}
use Rattle.asks.proofs.Judged.{sight-refused, sight-fine}
use Rattle.asks.specs.Answers.{sight_rungs}
use Rattle.navigates.specs.Answers.{room_rungs}

-- THE TABLE

module _ (words : List ℕ) (b : Bool) where
  pub room-full : b ≡ true → Settles (room_rungs b words) (Err Full)
  unfolding Given
  room-full t = inl (t, refl, refl)

  pub room-used : (d : ℕ) → b ≡ false → d ≡ (table_of words).next_doc → d ≡ none → Settles (room_rungs b words) (Err UsedUp)
  unfolding Given
  room-used d f h n = inr (f, inl (eq-eqb _ _ (sym h ∙ n), refl, refl))

  pub room-left : (d : ℕ) → b ≡ false → d ≡ (table_of words).next_doc → (d ≡ none → ⊥) → Settles (room_rungs b words) (Ok tt)
  unfolding NoneGiven
  room-left d f h n = (f, (ne_eqb _ _ (λ z. n (h ∙ z)), tt))

module _ (words : List ℕ) (d : ℕ) where
  -- The document's window.
  abbrev pub window : ℕ
  window = root_at (rows_of words) (place (rows_of words) d)

  -- Both parts are the table.
  pub room-settles : (u : Result (Unit {0}) Refusal) (done : Unit {0}) → Settles (sight_rungs words d) u → u ≡ Ok done → (b : Bool) → b ≡ full words (cleared window (rows_of words)) →
      (k : Result (Unit {0}) Refusal) → Settles (room_rungs b words) k → Judged (Call.Navigate words d) k
  unfolding refusals
  room-settles u done j f b e k g =
      sight-fine words d (room_rungs (full words (cleared window (rows_of words))) words) u done j f k (subst (λ b. Settles (room_rungs b words) k) e g)

  pub sight-judged : (k : Result (Unit {0}) Refusal) (r : Refusal) → Settles (sight_rungs words d) k → k ≡ Err r → Judged (Call.Navigate words d) (Err r)
  unfolding refusals
  sight-judged k r = sight-refused words d (room_rungs (full words (cleared window (rows_of words))) words) k r

  -- The document is visible.
  pub sight-sees : NoneGiven (sight_rungs words d) → So (visible (rows_of words) d)
  unfolding NoneGiven
  sight-sees h = not-false _ h.1.1.1.0

  -- Where there is one window it is cleared as a whole.
  pub cleared-stands : Sound words → So (alone? (rows_of words)) → (table_of words).next_doc ≤ none → So (visible (rows_of words) d) → cleared window (rows_of words) ≡ cleared_all (rows_of words)
  cleared-stands s one word sees =
      let rows = rows_of words in
      let tree = tree_of s.table word in
      let v = sees-out rows d sees in
      let e = place_is rows tree v.0 d v.1 v.2 in
      cleared-alone rows tree (alone-root words s one) window v.0 v.1 (eq-eqb _ _ (ap (root_at rows) (sym e)))

-- THE OUTCOME

pub navigate-refused : (words : List ℕ) (d : ℕ) (k : Result Windows Refusal) (r : Refusal) → k ≡ survey_of words → k ≡ Err r → outcome (Call.Navigate words d) ≡ record { answer = Answer.refuses (number_of r) (carried_by r); lent = words ∷ [] }
unfolding refusals
navigate-refused words d k r e f = outcome-refused (Call.Navigate words d) (number_of r) (carried_by r) (survey-given words _ k r e f)

pub navigate-given : (words : List ℕ) (d : ℕ) → NoneGiven (refusals (Call.Navigate words d)) → (e : ℕ) (left : List ℕ) → e ≡ (table_of words).next_doc → left ≡ written words (navigated (table_of words) d) →
    outcome (Call.Navigate words d) ≡ record { answer = Answer.gives (e ∷ []); lent = left ∷ [] }
unfolding accepted
navigate-given words d h e left a b = outcome-accepted (Call.Navigate words d) h ∙ rw (a, b) refl
