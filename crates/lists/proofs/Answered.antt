-- What Position and Lists answer, as an outcome. Assumes nothing.
use Prim.Native.Nat.{ℕ, ◌+◌, ◌-◌, ◌≤◌, ◌<◌}
use native.Mathlib.Omega.{arith}
use mathlib.Core.Bool.{Bool, false, So}
use mathlib.Core.List.{List, [], ◌∷◌}
use mathlib.Core.Path.{◌≡◌, refl, sym, ap, ◌∙◌}
use mir.Val.{Fits}
use mir.Syntax.{w32}
use lib.ListN.{length, get_or}
use borrow.Author.Tests.{lt-ltb, le-ltb}
use Rattle.std.specs.Prelude.{Result, Err}
use Rattle.base.specs.declared.Refusal.{Refusal}
use Rattle.base.specs.Numbers.{number_of, carried_by}
use Rattle.rules.specs.Windows.{is_root}
use Rattle.rules.specs.Words.{put, rows_of}
use Rattle.rules.specs.Asks.{taken_list, upcoming_list}
use Rattle.rules.specs.Calls.{Call, Answer, refusals, accepted, ladder, outcome}
use Rattle.laws.proofs.Calls.{outcome-refused}
use Rattle.laws.proofs.Lists.{taken-length, upcoming-length}
use Rattle.laws.proofs.Standing.{steps-most}
use Rattle.sound.specs.Check.{Examined}
use Rattle.sound.specs.Survey.{survey_of, Located}
use Rattle.sound.specs.declared.Stand.{Stand}
use Rattle.sound.specs.declared.Windows.{Windows}
use Rattle.sound.proofs.Checks.{survey-given, examined-fits}
use Rattle.lists.proofs.Alone.{alone-sound, alone-window}

-- Refused by the record itself, whichever window is asked for.
module _ (words : List ℕ) (root : ℕ) (k : Result Windows Refusal) (r : Refusal) (e : k ≡ survey_of words) (f : k ≡ Err r) where
  pub position-refused : outcome (Call.Position words root) ≡ record { answer = Answer.refuses (number_of r) (carried_by r); lent = [] }
  unfolding refusals
  position-refused = outcome-refused (Call.Position words root) (number_of r) (carried_by r) (survey-given words _ k r e f)

  pub lists-refused : (takens upcomings : List ℕ) → outcome (Call.Lists words root takens upcomings) ≡ record { answer = Answer.refuses (number_of r) (carried_by r); lent = takens ∷ upcomings ∷ [] }
  unfolding refusals
  lists-refused takens upcomings = outcome-refused (Call.Lists words root takens upcomings) (number_of r) (carried_by r) (survey-given words _ k r e f)

-- The frame is no root frame.
module _ (words : List ℕ) (e : Examined words) (root : ℕ) (b : Bool) (is : b ≡ is_root (rows_of words) root) (no : b ≡ false) where
  pub position-rootless : outcome (Call.Position words root) ≡ record { answer = Answer.refuses 13 []; lent = [] }
  unfolding outcome refusals ladder
  position-rootless = rw (e.long, e.passes, sym is ∙ no) refl

  pub lists-rootless : (takens upcomings : List ℕ) → outcome (Call.Lists words root takens upcomings) ≡ record { answer = Answer.refuses 13 []; lent = takens ∷ upcomings ∷ [] }
  unfolding outcome refusals ladder
  lists-rootless takens upcomings = rw (e.long, e.passes, sym is ∙ no) refl

-- One more than the steps is no large number.
pub length-fits : (words : List ℕ) (s : Stand) → Located words s → s.steps < 513
length-fits words s h = omega (arith, ap (λ z. z.steps) h.stand-is, steps-most (rows_of words), examined-fits words h.examined)

-- OF A RECORD OF ONE WINDOW

module _ (words : List ℕ) (s : Stand) (h : Located words s) (fits : Fits w32 (get_or words 1 0)) (root : ℕ) (b : Bool) (is : b ≡ is_root (rows_of words) root) (yes : So b) where
  -- The frame is its root frame.
  rooted : So (is_root (rows_of words) root)
  rooted = sym is ∙ yes

  pub position-given : outcome (Call.Position words root) ≡ record { answer = Answer.gives (s.position ∷ s.steps ∷ (s.steps + 1) ∷ []); lent = [] }
  unfolding outcome refusals accepted ladder
  position-given = let x = h.examined in rw (x.long, x.passes, rooted, alone-window words s h fits root rooted, h.stand-is) refl

  -- The lists are as long as the stand tells.
  taken-count : length (taken_list (rows_of words)) ≡ s.position
  taken-count = let t = alone-sound words s h fits in taken-length (rows_of words) t.s6 t.s7 ∙ sym (ap (λ z. z.position) h.stand-is)

  upcoming-count : length (upcoming_list (rows_of words)) ≡ s.steps - s.position
  upcoming-count = let t = alone-sound words s h fits in upcoming-length (rows_of words) t.s6 t.s7 ∙ sym (ap (λ z. z.steps - z.position) h.stand-is)

  module _ (takens upcomings : List ℕ) where
    -- One of the lists has not enough room.
    pub lists-short-first : length takens < s.position → outcome (Call.Lists words root takens upcomings) ≡ record { answer = Answer.refuses 9 []; lent = takens ∷ upcomings ∷ [] }
    unfolding outcome refusals accepted ladder
    lists-short-first l = let x = h.examined in rw (x.long, x.passes, rooted, alone-window words s h fits root rooted, taken-count, lt-ltb _ _ l) refl

    pub lists-short-second : s.position ≤ length takens → length upcomings < s.steps - s.position →
        outcome (Call.Lists words root takens upcomings) ≡ record { answer = Answer.refuses 9 []; lent = takens ∷ upcomings ∷ [] }
    unfolding outcome refusals accepted ladder
    lists-short-second m l =
        let x = h.examined in rw (x.long, x.passes, rooted, alone-window words s h fits root rooted, taken-count, upcoming-count, le-ltb _ _ m, lt-ltb _ _ l) refl

    -- Both have.
    pub lists-given : (ts us : List ℕ) → s.position ≤ length takens → s.steps - s.position ≤ length upcomings →
        ts ≡ put takens 0 (taken_list (rows_of words)) → us ≡ put upcomings 0 (upcoming_list (rows_of words)) →
        outcome (Call.Lists words root takens upcomings) ≡ record { answer = Answer.gives (s.position ∷ (s.steps - s.position) ∷ []); lent = ts ∷ us ∷ [] }
    unfolding outcome refusals accepted ladder
    lists-given ts us m l a c =
        let x = h.examined in
        rw (x.long, x.passes, rooted, alone-window words s h fits root rooted, a, c, taken-count, upcoming-count, le-ltb _ _ m, le-ltb _ _ l) refl
