-- L4, which document hides it. Assumes nothing.
use Prim.Native.Nat.{ℕ}
use mathlib.Core.Bool.{not, So}
use mathlib.Core.List.{List, [], ◌∷◌}
use mathlib.Core.Logic.{◌⊎◌, inl, inr, ⊎_elim}
use mathlib.Core.Path.{◌≡◌, refl, ap, ◌∙◌}
use native.Mathlib.Omega.{arith}
use lib.ListN.{length}
use borrow.Author.Tests.{le-ltb}
use Rattle.rules.specs.Rows.{in_record, flag}
use Rattle.rules.specs.Steps.{climb_of, visible}
use Rattle.rules.specs.Words.{rows_of}
use Rattle.rules.specs.Sound.{Sound}
use Rattle.rules.specs.Calls.{Call, Answer, hider, refusals, accepted, outcome, NoneGiven}
use Rattle.laws.proofs.Tests.{test}
use Rattle.laws.proofs.Reflect.{sound-is}
use Rattle.laws.proofs.Tree.{once-of}
use Rattle.laws.proofs.Climb.{nobody-is}
use Rattle.laws.proofs.Calls.{outcome-accepted}
use Rattle.demands.specs.Refuses.{lines, First}
use Rattle.demands.specs.Hides.{HidesRightly, FiveCarries}
use Rattle.demands.proofs.Nearest.{nobody-not, hider-nearest, nearest-hider, nearest-one, hider-is}
use Rattle.demands.proofs.Demand1.{demand1, number-alone}
use Rattle.demands.proofs.Lasting.{long}

-- "Visible answers yes or no for a document", with what hides it and how far up the climb went.
pub visible-asked : (words : List ℕ) → Sound words → (d : ℕ) → So (in_record (rows_of words) d) →
    (outcome (Call.Visible words d)).answer ≡ Answer.gives (flag (visible (rows_of words) d) ∷ hider words d ∷ (climb_of (rows_of words) d).links ∷ [])
unfolding refusals NoneGiven accepted
visible-asked words s d there =
    ap (λ o. o.answer) (outcome-accepted (Call.Visible words d) (le-ltb (length words) 7 (long words s), (ap not ((sound-is words).1 s), (ap not there, tt))))

-- "The visible question should answer either that the document is visible or the number of the nearest document, itself first and then upwards, that isn't shown."
pub hides-rightly : (words : List ℕ) → Sound words → HidesRightly words
hides-rightly words s =
    let rows = rows_of words in
    let once = once-of s.table in
    let s4 = s.table.s4 in
    record {
      asked = λ d there.
          let answers = visible-asked words s d there in
          test (visible rows d)
          (λ v. inl (answers ∙ ap Answer.gives (rw (v, (nobody-is rows d).1 v) refl), v))
          (λ f. inr (hider words d, answers ∙ rw f refl, hider-is words s d there f));
      hider-nearest = hider-nearest rows once s4;
      hider-none = nobody-is rows;
      visible-none = λ d h v n. nobody-not ((nobody-is rows d).1 v) (nearest-hider rows once s4 n);
      hidden-some = λ d there f. (hider words d, hider-is words s d there f);
      nearest-one = λ d h h'. nearest-one rows once s4;
    }

-- A line with another number is passed over; the one with this number says what it carries.
passed : {m n : ℕ} {P Q R S C : Type 0} → (m ≡ n → ⊥) → (R → C) → ((m ≡ n) × P × S) ⊎ (Q × R) → C
passed ne f h = ⊎_elim (λ x. absurd (ne x.0)) (λ x. f x.1) h

says : {m n : ℕ} {P Q R C : Type 0} → (R → C) → ((m ≡ n) × P × C) ⊎ (Q × R) → C
says f h = ⊎_elim (λ x. x.2) (λ x. f x.1) h

none_left : {C : Type 0} → ⊥ → C
none_left h = absurd h

-- "Refusal 5 of opening, navigating and removal carries that number too (for removal, that of the parent's climb)"
pub refusal-five-carries : FiveCarries
unfolding lines First
refusal-five-carries =
    record {
      opening = λ words parent vs e.
          passed (λ e. omega arith) (passed (λ e. omega arith) (passed (λ e. omega arith) (says (passed (λ e. omega arith) (passed (λ e. omega arith) none_left)))))
          (((demand1 (Call.Open words parent)).exactly 5 vs).0 e);
      navigating = λ words from vs e.
          passed (λ e. omega arith) (passed (λ e. omega arith) (passed (λ e. omega arith) (says (passed (λ e. omega arith) (passed (λ e. omega arith) none_left)))))
          (((demand1 (Call.Navigate words from)).exactly 5 vs).0 e);
      removal = λ words frame vs e.
          passed (λ e. omega arith) (passed (λ e. omega arith) (passed (λ e. omega arith) (passed (λ e. omega arith) (says none_left))))
          (((demand1 (Call.Drop words frame)).exactly 5 vs).0 e);
      replacing = λ words d vs e.
          passed (λ e. omega arith) (passed (λ e. omega arith) (passed (λ e. omega arith) (says (passed (λ e. omega arith) none_left))))
          (((demand1 (Call.Replace words d)).exactly 5 vs).0 e);
      others = number-alone;
    }
