-- The refusals, and what each call answers. Assumes nothing.
use Prim.Native.Nat.{ℕ, ◌*◌, ◌≤◌, ◌<◌}
use mathlib.Core.Bool.{Bool, true, false, So}
use mathlib.Core.List.{List, [], ◌∷◌}
use mathlib.Core.Logic.{inl, inr}
use mathlib.Core.Path.{◌≡◌, refl, sym, ap, subst, ◌∙◌}
use Rattle.std.specs.Prelude.{Result, Ok, Err}
use native.Mathlib.Omega.{arith}
use lib.Ieee.{Float}
use borrow.Author.Tests.{le-leb, lt-leb, not-false}
use Rattle.base.specs.declared.Refusal.{Refusal}
use Rattle.base.specs.declared.Refusal.TheVariants.{Absent, NotFinite, NoEntry, BadPlaces}
use Rattle.base.specs.Numbers.{number_of, carried_by}
use Rattle.rules.specs.Rows.{in_record}
use Rattle.rules.specs.Words.{put, rows_of}
use Rattle.rules.specs.Places.{finite, finite_place, scaled, place_words, entries, fine?, place_of, freed, spot, placed}
use Rattle.rules.specs.Calls.{Call, Answer, Rung, ◌when◌, absent, bad_places, not_finite, over_zoomed, no_entry, refusals, accepted, outcome, Given, NoneGiven}
use Rattle.laws.proofs.Calls.{given-more, given-after, none_more, outcome-accepted, outcome-refused}
use Rattle.laws.proofs.Stores.{freed-entries}
use Rattle.laws.proofs.Tests.{test}
use Rattle.sound.specs.Check.{check_of, Examined, Settles, Judged}
use Rattle.sound.proofs.Checks.{check-given, settles-past, examined-past}
use Rattle.points.specs.Points.{place_given}
use Rattle.points.specs.declared.Place.{Place as Given-as-Place}
use Rattle.places.specs.Answers.{placed_is, zoomed_is, Goes}

module _ (words places : List ℕ) (d : ℕ) where
  -- What asking for a place is refused by, which the other two calls add to.
  abbrev ask : Call
  ask = Call.AskPlace words places d

  -- REFUSALS 1 AND 2
  pub judged-short : (k : Result (Unit {0}) Refusal) (r : Refusal) → k ≡ check_of words → k ≡ Err r → Judged ask (Err r)
  unfolding refusals
  judged-short k r e f = check-given words _ k r e f

  -- REFUSALS 15 AND 4, the record being sound.
  module _ (e : Examined words) (b : Bool) (f : b ≡ fine? places) where
    pub judged-bad : b ≡ false → Judged ask (Err BadPlaces)
    unfolding refusals Given
    judged-bad t = examined-past words e (15 when bad_places places ∷ 4 when absent words d ∷ []) (Err BadPlaces) (inl (rw (sym f ∙ t) refl, refl, refl))

    module _ (t : b ≡ true) (p : Bool) (g : p ≡ in_record (rows_of words) d) where
      -- It is left to the last line.
      last_line : (k : Result (Unit {0}) Refusal) → Settles (4 when absent words d ∷ []) k → Judged ask k
      unfolding refusals
      last_line k h =
          examined-past words e (15 when bad_places places ∷ 4 when absent words d ∷ []) k (settles-past (15 when bad_places places) (4 when absent words d ∷ []) (rw (sym f ∙ t) refl) k h)

      pub judged-absent : p ≡ false → Judged ask (Err Absent)
      unfolding Given
      judged-absent u = last_line (Err Absent) (inl (rw (sym g ∙ u) refl, refl, refl))

      pub judged-there : p ≡ true → Judged ask (Ok tt)
      unfolding NoneGiven
      judged-there u = last_line (Ok tt) (rw (sym g ∙ u) refl, tt)

  -- What a judge's word is worth to the other two.
  module _ (k : Result (Unit {0}) Refusal) (j : Judged ask k) (r : Refusal) (e : k ≡ Err r) where
    given : Given (number_of r) (carried_by r) (refusals ask)
    given = subst (Judged ask) e j

    pub zoom-refused : (zoom : Float) → outcome (Call.AskAtZoom words places d zoom) ≡ record { answer = Answer.refuses (number_of r) (carried_by r); lent = [] }
    unfolding refusals
    zoom-refused zoom = outcome-refused (Call.AskAtZoom words places d zoom) (number_of r) (carried_by r) (given-more (number_of r) (carried_by r) (refusals ask) _ given)

    pub goes-refused : (place : Given-as-Place) → Goes words places d place (Err r)
    unfolding refusals
    goes-refused place = given-more (number_of r) (carried_by r) (refusals ask) _ given

  -- NONE OF THESE
  module _ (h : NoneGiven (refusals ask)) where
    pub told-examined : Examined words
    unfolding refusals NoneGiven
    told-examined = record { long = h.0; passes = not-false _ h.1.0 }

    pub told-fine : So (fine? places)
    unfolding refusals NoneGiven
    told-fine = not-false _ h.1.1.0

    pub told-there : So (in_record (rows_of words) d)
    unfolding refusals NoneGiven
    told-there = not-false _ h.1.1.1.0

    -- The place.
    pub place-told : (p : Given-as-Place) → place_given p ≡ place_of places d → outcome ask ≡ record { answer = placed_is (Ok p); lent = [] }
    unfolding accepted
    place-told p e = outcome-accepted ask h ∙ rw e refl

    -- The place at a zoom.
    pub zoom-told : (zoom : Float) (p : Given-as-Place) (r : Result Given-as-Place Refusal) → place_given p ≡ place_of places d → placed_is r ≡ zoomed_is zoom (place_given p) →
        outcome (Call.AskAtZoom words places d zoom) ≡ record { answer = placed_is r; lent = [] }
    unfolding refusals accepted Given NoneGiven zoomed_is
    zoom-told zoom p r e f =
        let c = Call.AskAtZoom words places d zoom in
        let last : List Rung = 11 when over_zoomed zoom (place_of places d) ∷ [] in
        test (over_zoomed zoom (place_of places d))
        (λ t. outcome-refused c 11 [] (given-after 11 [] (refusals ask) last h (inl (t, refl, refl))) ∙ sym (rw (f, e, t) refl))
        (λ t. outcome-accepted c (none_more (refusals ask) last h (t, tt)) ∙ sym (rw (f, e, t) refl))

    -- REFUSALS 11 AND 12 of a setting
    module _ (place : Given-as-Place) (b : Bool) (e : b ≡ finite_place (place_given place)) where
      abbrev more : List Rung
      more = 11 when not_finite (place_given place) ∷ 12 when no_entry words places d ∷ []

      pub goes-not : b ≡ false → Goes words places d place (Err NotFinite)
      unfolding refusals Given
      goes-not f = given-after 11 [] (refusals ask) more h (inl (rw (sym e ∙ f) refl, refl, refl))

      module _ (t : b ≡ true) (i n : ℕ) (g : i ≡ spot (freed (rows_of words) places) d) (c : n ≡ entries places) where
        pub goes-full : n ≤ i → Goes words places d place (Err NoEntry)
        unfolding refusals Given
        goes-full l =
            given-after 12 [] (refusals ask) more h
            (inr (rw (sym e ∙ t) refl, inl (le-leb (entries (freed (rows_of words) places)) _ (omega (arith, freed-entries (rows_of words) places)), refl, refl)))

        pub goes-there : i < n → Goes words places d place (Ok i)
        unfolding refusals NoneGiven
        goes-there l = (
          none_more (refusals ask) more h (rw (sym e ∙ t) refl, (lt-leb (entries (freed (rows_of words) places)) _ (omega (arith, freed-entries (rows_of words) places)), tt)),
          g,
          omega arith,
        )

-- What is said of a place at a zoom.
module _ (place : Given-as-Place) (zoom : Float) (b : Bool) (e : b ≡ finite zoom) where
  pub zoomed-not : b ≡ false → placed_is (Err NotFinite) ≡ zoomed_is zoom (place_given place)
  unfolding zoomed_is
  zoomed-not f = rw (sym e ∙ f) refl

  module _ (t : b ≡ true) (s : Given-as-Place) (is : place_given s ≡ scaled zoom (place_given place)) (p : Bool) (g : p ≡ finite_place (place_given s)) where
    pub zoomed-over : p ≡ false → placed_is (Err NotFinite) ≡ zoomed_is zoom (place_given place)
    unfolding zoomed_is
    zoomed-over f = rw (sym e ∙ t, ap finite_place (sym is) ∙ sym g ∙ f) refl

    pub zoomed-stands : p ≡ true → placed_is (Ok s) ≡ zoomed_is zoom (place_given place)
    unfolding zoomed_is
    zoomed-stands f = rw (sym e ∙ t, ap finite_place (sym is) ∙ sym g ∙ f, is) refl

-- A setting.
module _ (words places : List ℕ) (d : ℕ) (place : Given-as-Place) (s : Result ℕ Refusal) (j : Goes words places d place s) where
  abbrev set : Call
  set = Call.SetPlace words places d (place_given place)

  pub set-refused : (r : Refusal) → s ≡ Err r → outcome set ≡ record { answer = Answer.refuses (number_of r) (carried_by r); lent = places ∷ [] }
  set-refused r e = outcome-refused set (number_of r) (carried_by r) (subst (Goes words places d place) e j)

  module _ (i : ℕ) (e : s ≡ Ok i) where
    told : Goes words places d place (Ok i)
    told = subst (Goes words places d place) e j

    pub set-examined : Examined words
    unfolding refusals NoneGiven
    set-examined = record { long = told.0.0; passes = not-false _ told.0.1.0 }

    pub set-finite : finite_place (place_given place) ≡ true
    unfolding refusals NoneGiven
    set-finite = not-false _ told.0.1.1.1.1.0

    pub set_room : (free : List ℕ) → free ≡ freed (rows_of words) places → i < entries free
    set_room free f = omega (arith, told.2, freed-entries (rows_of words) places, ap entries f)

    pub set-done : (free new : List ℕ) → free ≡ freed (rows_of words) places → new ≡ put free (4 * i) (d ∷ place_words (place_given place)) → outcome set ≡ record { answer = Answer.gives []; lent = new ∷ [] }
    unfolding accepted placed
    set-done free new f g = outcome-accepted set told.0 ∙ rw (g, f, told.1) refl
