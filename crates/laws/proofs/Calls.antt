-- Laws of the ladder of refusals, over all calls. Assumes nothing.
use Prim.Native.Nat.{ℕ}
use mathlib.Core.Bool.{Bool}
use mathlib.Core.List.{List, [], ◌∷◌, ◌++◌}
use mathlib.Core.Logic.{◌↔◌, inl, inr, ⊎_elim}
use mathlib.Core.Path.{◌≡◌, refl, sym, ap, subst, ◌∙◌}
use Rattle.rules.specs.Calls.{Call, Answer, Outcome, Rung, lent_to, refusals, accepted, ladder, outcome, Given, NoneGiven}
use Rattle.rules.specs.Rows.{Table}
use Rattle.rules.specs.Saved.{loaded, from_save?}
use Rattle.rules.specs.OldSaved.{old_loaded, from_old_save?}
use Rattle.laws.specs.Loading.{loading, IsLoad, reading}
use Rattle.laws.proofs.Tests.{test}

abbrev number_in : Answer → ℕ
number_in (Answer.refuses k carried) = k
number_in (Answer.gives values) = 0

abbrev carried_in : Answer → List ℕ
carried_in (Answer.refuses k carried) = carried
carried_in (Answer.gives values) = []

abbrev IsGiven : Answer → Type 0
IsGiven (Answer.refuses k carried) = ⊥
IsGiven (Answer.gives values) = Unit {0}

module _ (lent : List (List ℕ)) (done : Outcome) where
  pub ladder-none : (rungs : List Rung) → NoneGiven rungs → ladder rungs lent done ≡ done
  unfolding ladder NoneGiven
  ladder-none [] h = refl
  ladder-none (r ∷ rungs) h = rw h.0 (ladder-none rungs h.1)

  pub ladder-given : (k : ℕ) (vs : List ℕ) (rungs : List Rung) → Given k vs rungs → ladder rungs lent done ≡ record { answer = Answer.refuses k vs; lent = lent }
  unfolding ladder Given
  ladder-given k vs [] h = absurd h
  ladder-given k vs (r ∷ rungs) h = ⊎_elim (λ g. rw (g.0, g.1, g.2) refl) (λ g. rw g.0 (ladder-given k vs rungs g.1)) h

-- What holds of two refusals by one number, and of what two ladders with the same rungs end in, holds of the ladders.
module _ (R : Outcome → Outcome → Type 0) {lent runs : List (List ℕ)} {done made : Outcome}
    (refused : (k : ℕ) (vs : List ℕ) → R (record { answer = Answer.refuses k vs; lent = lent }) (record { answer = Answer.refuses k vs; lent = runs })) where
  pub ladder-same : (rungs : List Rung) → (NoneGiven rungs → R done made) → R (ladder rungs lent done) (ladder rungs runs made)
  unfolding ladder NoneGiven
  ladder-same [] top = top tt
  ladder-same (r ∷ rungs) top =
      test r.holds (λ t. rw t (refused r.number r.carries)) (λ f. rw f (ladder-same rungs (λ n. top (f, n))))

-- A LONGER TABLE

pub given-more : (k : ℕ) (vs : List ℕ) (rungs more : List Rung) → Given k vs rungs → Given k vs (rungs ++ more)
unfolding Given
given-more k vs [] more h = absurd h
given-more k vs (r ∷ rungs) more h = ⊎_elim inl (λ g. inr (g.0, given-more k vs rungs more g.1)) h

pub given-after : (k : ℕ) (vs : List ℕ) (rungs more : List Rung) → NoneGiven rungs → Given k vs more → Given k vs (rungs ++ more)
unfolding Given NoneGiven
given-after k vs [] more h g = g
given-after k vs (r ∷ rungs) more h g = inr (h.0, given-after k vs rungs more h.1 g)

pub none_more : (rungs more : List Rung) → NoneGiven rungs → NoneGiven more → NoneGiven (rungs ++ more)
unfolding NoneGiven
none_more [] more h g = g
none_more (r ∷ rungs) more h g = (h.0, none_more rungs more h.1 g)

-- By what the ladder says.
pub by-ladder {ℓ} : {C : Type ℓ} (rungs : List Rung) → (NoneGiven rungs → C) → ((k : ℕ) (vs : List ℕ) → Given k vs rungs → C) → C
unfolding Given NoneGiven
by-ladder [] a b = a tt
by-ladder (r ∷ rungs) a b =
    test r.holds (λ t. b r.number r.carries (inl (t, refl, refl))) (λ f. by-ladder rungs (λ h. a (f, h)) (λ k vs g. b k vs (inr (f, g))))

pub accepted-gives : (c : Call) (k : ℕ) (vs : List ℕ) → (accepted c).answer ≡ Answer.refuses k vs → ⊥
unfolding accepted
accepted-gives c k vs e = subst IsGiven e (given c)
  where
    given : (c : Call) → IsGiven (accepted c).answer
    given (Call.Fresh words) = tt
    given (Call.Open words parent) = tt
    given (Call.Navigate words from) = tt
    given (Call.Traverse words root δ room) = tt
    given (Call.Drop words frame) = tt
    given (Call.Replace words d) = tt
    given (Call.Tab words) = tt
    given (Call.Position words root) = tt
    given (Call.Visible words d) = tt
    given (Call.Lists words root takens upcomings) = tt
    given (Call.Stretch takens upcomings δ) = tt
    given (Call.StretchCount takens upcomings δ) = tt
    given (Call.Outline words root room) = tt
    given (Call.Save words room) = tt
    given (Call.Load words bytes) = tt
    given (Call.LoadOld words bytes) = tt
    given (Call.Contents bytes) = tt
    given (Call.ContentsOld bytes) = tt
    given (Call.SetPlace words places d place) = tt
    given (Call.AskPlace words places d) = tt
    given (Call.AskAtZoom words places d zoom) = tt

-- Two calls with the same table: what holds of both when it refuses, and when it does not, holds of what becomes of them.
pub outcomes-same : (R : Outcome → Outcome → Type 0) (c c' : Call) → refusals c ≡ refusals c' →
    ((k : ℕ) (vs : List ℕ) → R (record { answer = Answer.refuses k vs; lent = lent_to c }) (record { answer = Answer.refuses k vs; lent = lent_to c' })) →
    (NoneGiven (refusals c) → R (accepted c) (accepted c')) → R (outcome c) (outcome c')
unfolding outcome
outcomes-same R c c' e refused done = subst (λ x. R (ladder (refusals c) (lent_to c) (accepted c)) (ladder x (lent_to c') (accepted c'))) e (ladder-same R refused (refusals c) done)

module _ (c : Call) where
  pub outcome-accepted : NoneGiven (refusals c) → outcome c ≡ accepted c
  unfolding outcome
  outcome-accepted h = ladder-none (lent_to c) (accepted c) (refusals c) h

  pub outcome-refused : (k : ℕ) (vs : List ℕ) → Given k vs (refusals c) → outcome c ≡ record { answer = Answer.refuses k vs; lent = lent_to c }
  unfolding outcome
  outcome-refused k vs h = ladder-given (lent_to c) (accepted c) k vs (refusals c) h

  -- A call is refused by number k, which carries these values, exactly when the table gives k with them.
  pub refused-when : (k : ℕ) (vs : List ℕ) → ((outcome c).answer ≡ Answer.refuses k vs) ↔ Given k vs (refusals c)
  refused-when k vs = (
    λ e.
        by-ladder (refusals c)
        (λ h. absurd (accepted-gives c k vs (ap (λ o. o.answer) (sym (outcome-accepted h)) ∙ e)))
        (λ j us g.
        let same : Answer.refuses j us ≡ Answer.refuses k vs = ap (λ o. o.answer) (sym (outcome-refused j us g)) ∙ e in
        rw (ap number_in same, ap carried_in same) at g),
    λ g. ap (λ o. o.answer) (outcome-refused k vs g),
  )

  -- And then every lent run reads as before.
  pub refused-keeps : (k : ℕ) (vs : List ℕ) → (outcome c).answer ≡ Answer.refuses k vs → (outcome c).lent ≡ lent_to c
  refused-keeps k vs e = ap (λ o. o.lent) (outcome-refused k vs ((refused-when k vs).0 e))

-- LOADING CALLS

pub load_is : (words bytes : List ℕ) → IsLoad (Call.Load words bytes) words (from_save? bytes) (loaded bytes)
unfolding refusals accepted
load_is words bytes = record { lends = refl; refuses = refl; accepts = refl }

pub load-old-is : (words bytes : List ℕ) → IsLoad (Call.LoadOld words bytes) words (from_old_save? bytes) (old_loaded bytes)
unfolding refusals accepted
load-old-is words bytes = record { lends = refl; refuses = refl; accepts = refl }

pub load-outcome : {c : Call} {words : List ℕ} {taken : Bool} {t : Table} → IsLoad c words taken t → outcome c ≡ loading words taken t
unfolding outcome loading
load-outcome is = rw (is.lends, is.refuses, is.accepts) refl

-- CONTENTS

pub contents-is : (bytes : List ℕ) → outcome (Call.Contents bytes) ≡ reading 8 bytes
unfolding outcome refusals accepted ladder reading
contents-is bytes = refl

pub contents-old-is : (bytes : List ℕ) → outcome (Call.ContentsOld bytes) ≡ reading 4 bytes
unfolding outcome refusals accepted ladder reading
contents-old-is bytes = refl
