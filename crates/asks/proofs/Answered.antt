-- What each question answers, as an outcome. Assumes nothing.
use Prim.Native.Nat.{ℕ, ◌≤◌, ◌<◌}
use mathlib.Core.Bool.{true, false}
use mathlib.Core.List.{List, [], ◌∷◌}
use mathlib.Core.Path.{◌≡◌, refl}
use lib.IntN.{ℤ, pos, nat_abs}
use lib.ListN.{length, take}
use lib.Signed.{lt_z}
use borrow.Author.Tests.{lt-ltb, le-ltb}
use Rattle.base.proofs.Signed.{by_sign, by_plus}
use Rattle.base.specs.declared.Refusal.{Refusal}
use Rattle.base.specs.Numbers.{number_of, carried_by}
use Rattle.std.specs.Prelude.{Option, None, Some, Result, Ok, Err}
use Rattle.base.specs.declared.DocNo.{DocNo}
use Rattle.rules.specs.Steps.{visible}
use Rattle.rules.specs.Words.{rows_of}
use Rattle.rules.specs.Asks.{own_list, stretched}
use Rattle.rules.specs.Calls.{Call, Answer, refusals, accepted, ladder, outcome}
use Rattle.laws.proofs.Calls.{outcome-refused}
use Rattle.sound.specs.Check.{check_of, Examined}
use Rattle.rows.specs.Readable.{readable_rows}
use Rattle.asks.specs.Answers.{sight_is, sight_of, SightIs}
use Rattle.asks.specs.declared.Sight.{Sight}
use Rattle.asks.proofs.Climbs.{seen-is}
use Rattle.sound.proofs.Checks.{check-given, examined-fits}

pub visible-refused : (words : List ℕ) (d : ℕ) (k : Result (Unit {0}) Refusal) (r : Refusal) → k ≡ check_of words → k ≡ Err r → outcome (Call.Visible words d) ≡ record { answer = sight_is (Err r); lent = [] }
unfolding refusals
visible-refused words d k r e f = outcome-refused (Call.Visible words d) (number_of r) (carried_by r) (check-given words _ k r e f)

module _ (words : List ℕ) (e : Examined words) (d : ℕ) where
  by-hider : (h : Option DocNo) (n : ℕ) → SightIs (rows_of words) d (Ok (record { hider = h; links = n })) → outcome (Call.Visible words d) ≡ record { answer = sight_is (Ok (record { hider = h; links = n })); lent = [] }
  unfolding outcome refusals accepted ladder visible
  by-hider None n i = rw (e.long, e.passes, i.0, i.1, i.2) refl
  by-hider (Some h) n i = rw (e.long, e.passes, i.0, i.1, i.2) refl

  by-sight : (s : Result Sight Refusal) → SightIs (rows_of words) d s → outcome (Call.Visible words d) ≡ record { answer = sight_is s; lent = [] }
  unfolding outcome refusals accepted ladder
  by-sight (Ok s) i = by-hider s.hider s.links i
  by-sight (Err r) i = rw (e.long, e.passes, i.0, i.1) refl

  pub visible-given : (s : Result Sight Refusal) → s ≡ sight_of (readable_rows words) d → outcome (Call.Visible words d) ≡ record { answer = sight_is s; lent = [] }
  visible-given s h = by-sight s (seen-is words d (examined-fits words e) s h)

-- STRETCH

module _ (takens upcomings : List ℕ) (δ : ℤ) where
  pub own_first : lt_z δ (pos 0) ≡ true → takens ≡ own_list takens upcomings δ
  own_first e = by_sign (λ z. takens ≡ own_list takens upcomings z) δ e (λ n. refl)

  pub own-second : lt_z δ (pos 0) ≡ false → upcomings ≡ own_list takens upcomings δ
  own-second e = by_plus (λ z. upcomings ≡ own_list takens upcomings z) δ e (λ n. refl)

  module _ (list : List ℕ) (n : ℕ) (own : list ≡ own_list takens upcomings δ) (far : n ≡ nat_abs δ) where
    pub stretch-all : n ≤ length list → take n list ≡ stretched takens upcomings δ
    unfolding stretched
    stretch-all l = rw (le-ltb (length (own_list takens upcomings δ)) (nat_abs δ) (rw (own, far) at l), own, far) refl

    pub stretch-none : length list < n → [] ≡ stretched takens upcomings δ
    unfolding stretched
    stretch-none l = rw (lt-ltb (length (own_list takens upcomings δ)) (nat_abs δ) (rw (own, far) at l)) refl

    pub stretch-given : n ≤ length list → outcome (Call.StretchCount takens upcomings δ) ≡ record { answer = Answer.gives (n ∷ []); lent = [] }
    unfolding outcome refusals accepted ladder
    stretch-given l = rw (le-ltb (length (own_list takens upcomings δ)) (nat_abs δ) (rw (own, far) at l), far) refl

    pub stretch-refused : length list < n → outcome (Call.StretchCount takens upcomings δ) ≡ record { answer = Answer.refuses 6 []; lent = [] }
    unfolding outcome refusals accepted ladder
    stretch-refused l = rw (lt-ltb (length (own_list takens upcomings δ)) (nat_abs δ) (rw (own, far) at l)) refl
