-- Scroll places: what was set is what is asked. Assumes nothing.
use Prim.Native.Nat.{ℕ, ◌+◌, ◌*◌, ◌^◌, ◌<◌}
use mathlib.Core.Bool.{true, false, not, So}
use mathlib.Core.List.{List, [], ◌∷◌, ◌++◌}
use mathlib.Core.Path.{◌≡◌, refl, sym, ap, subst, ◌∙◌}
use native.Mathlib.Omega.{arith}
use lib.Dec.{eqb, ltb}
use lib.Count.{count_trailing_zeros}
use lib.Ieee.{fin, binary64, mul, odd, of_fields, of_bits}
use lib.IntN.{pos}
use lib.Ieee.Bits.{of_bits-fits}
use lib.ListN.{get_or}
use borrow.Author.Tests.{not-false, leb-false, le-ltb}
use Rattle.rules.specs.Below.{all_below, earliest}
use Rattle.rules.specs.Rows.{Row, none, in_record}
use Rattle.rules.specs.Words.{rows_of}
use Rattle.rules.specs.Sound.{Sound}
use Rattle.rules.specs.Places.{Place, Doubles, finite, finite_place, scaled, place_words, entries, kind_in, place_in, entry_of, place_of, fine?, freed, spot, placed}
use Rattle.rules.specs.Calls.{Call, Rung, ◌when◌, over_zoomed, ◌leaving◌, refusals, accepted, outcome, NoneGiven}
use Rattle.rules.specs.Runs.{Move, run}
use Rattle.laws.proofs.Tests.{test, and_both}
use Rattle.laws.proofs.Calls.{given-more, none_more, by-ladder, outcome-accepted, outcome-refused}
use Rattle.laws.proofs.Doubles.{same-bits-back, times-one}
use Rattle.laws.proofs.Reflect.{sound-is}
use Rattle.laws.proofs.Stores.{fine-out, place-finite, none-absent, set-fine, set_own, set_other, set-gone}
use Rattle.laws.proofs.Words.{next-doc-in}
use Rattle.demands.specs.Record.{Words32, Accepted}
use Rattle.demands.specs.Places.{point, one, store_after, Alike, Scrolls}
use Rattle.demands.proofs.Accepted.{accepted-none}
use Rattle.demands.proofs.Rests.{fine-same, place_same, set-spared}
use Rattle.demands.proofs.Lasting.{long}
use Rattle.demands.proofs.Standing.{run-kept}

-- Two stores that pass or fail alike and hold the same place of a document answer alike about it.
alike : (words some other : List ℕ) (d : ℕ) → fine? some ≡ fine? other → place_of some d ≡ place_of other d → Alike words some other d
unfolding outcome refusals accepted
alike words some other d f p = record { asked = rw (f, p) refl; zoomed = λ zoom. rw (f, p) refl }

-- A SETTING THAT IS ACCEPTED

module _ (words places : List ℕ) (d : ℕ) (p : Place) (wide : Words32 words) (doubles : Doubles p) (a : Accepted (Call.SetPlace words places d p)) where
  abbrev call : Call
  call = Call.SetPlace words places d p

  abbrev rows : List Row
  rows = rows_of words

  none-given : NoneGiven (refusals call)
  none-given = accepted-none call a

  sound : Sound words
  unfolding refusals NoneGiven
  sound = (sound-is words).0 (not-false _ none-given.1.0)

  passes : So (fine? places)
  unfolding refusals NoneGiven
  passes = not-false _ none-given.1.1.0

  there : So (in_record rows d)
  unfolding refusals NoneGiven
  there = not-false _ none-given.1.1.1.0

  whole : So (finite_place p)
  unfolding refusals NoneGiven
  whole = not-false _ none-given.1.1.1.1.0

  room : spot (freed rows places) d < entries (freed rows places)
  unfolding refusals NoneGiven
  room = leb-false _ _ none-given.1.1.1.1.1.0

  lost : in_record rows none ≡ false
  lost = let w = wide 1 in none-absent sound.table (omega (arith, next-doc-in words))

  left_is : store_after words places d p ≡ placed (freed rows places) d p
  unfolding accepted
  left_is = ap (λ o. get_or o.lent 0 []) (outcome-accepted call none-given)

  left-fine : So (fine? (store_after words places d p))
  left-fine = subst (λ l. So (fine? l)) (sym left_is) (set-fine rows lost places (fine-out places passes) d there p room whole doubles)

  asked-back : (moves : List Move) → So (in_record (rows_of (run words moves)) d) → outcome (Call.AskPlace (run words moves) (store_after words places d p) d) ≡ place_words p leaving []
  unfolding refusals accepted NoneGiven
  asked-back moves held =
      let later = run words moves in
      let s = (run-kept moves words wide sound).1 in
      let q = ap (λ l. place_of l d) left_is ∙ set_own rows lost places (fine-out places passes) d there p room whole doubles in
      outcome-accepted (Call.AskPlace later (store_after words places d p) d) (le-ltb _ _ (long later s), (ap not ((sound-is later).1 s), (ap not left-fine, (ap not held, tt))))
      ∙ ap (λ z. place_words z leaving []) q

  others : (e : ℕ) → (e ≡ d → ⊥) → So (in_record rows e) → (later : List ℕ) → Alike later (store_after words places d p) places e
  others e o h later =
      alike later _ places e (left-fine ∙ sym passes) (ap (λ l. place_of l e) left_is ∙ set_other rows lost places (fine-out places passes) d there p room whole doubles e o h)

  unread : (e : ℕ) → (e ≡ none → ⊥) → in_record rows e ≡ false → (later : List ℕ) → Alike later (store_after words places d p) [] e
  unfolding fine? place_of entry_of all_below earliest
  unread e n f later =
      alike later _ [] e left-fine (ap (λ l. place_of l e) left_is ∙ set-gone rows lost places (fine-out places passes) d there p room whole doubles e n f)

-- THE SAME BITS

bits-same : (x y : ℕ) → x < 2 ^ 64 → y < 2 ^ 64 → So (finite_place (point x y)) → place_words (point x y) ≡ 1 ∷ x ∷ y ∷ []
bits-same x y l m h =
    let f = and_both (finite (of_bits binary64 x)) (finite (of_bits binary64 y)) h in
    rw (same-bits-back x l f.0, same-bits-back y m f.1) refl

-- AT ZOOM 1

one-is : one ≡ fin false 1 (pos 0)
unfolding count_trailing_zeros odd of_fields of_bits
one-is = refl

one-times : (b : ℕ) → mul binary64 (of_bits binary64 b) one ≡ of_bits binary64 b
one-times b = ap (mul binary64 (of_bits binary64 b)) one-is ∙ times-one (of_bits binary64 b) (of_bits-fits binary64 b)

one-scaled : (places : List ℕ) (d : ℕ) → scaled one (place_of places d) ≡ place_of places d
unfolding place_of
one-scaled places d = test (ltb (entry_of places d) (entries places)) (λ t. rw t (at (entry_of places d))) (λ f. rw f refl)
  where
    at : (i : ℕ) → scaled one (place_in places i) ≡ place_in places i
    at i =
        test (eqb (kind_in places i) 1)
        (λ t. rw (t, one-times (get_or places (4 * i + 2) 0), one-times (get_or places (4 * i + 3) 0)) refl)
        (λ f. rw f refl)

one-finite : finite one ≡ true
unfolding finite
one-finite = rw one-is refl

zoomed-one : (words places : List ℕ) (d : ℕ) → (d ≡ none → ⊥) → outcome (Call.AskAtZoom words places d one) ≡ outcome (Call.AskPlace words places d)
unfolding refusals accepted NoneGiven
zoomed-one words places d n =
    let ask = Call.AskPlace words places d in
    let zoom = Call.AskAtZoom words places d one in
    let last : List Rung = 11 when over_zoomed one (place_of places d) ∷ [] in
    by-ladder (refusals ask)
    (λ h.
    let f = place-finite places (fine-out places (not-false _ h.1.1.0)) d n in
    outcome-accepted zoom (none_more (refusals ask) last h (rw (one-finite, one-scaled places d, f) refl, tt)) ∙ rw (one-scaled places d) refl ∙ sym (outcome-accepted ask h))
    (λ k vs g. outcome-refused zoom k vs (given-more k vs (refusals ask) last g) ∙ sym (outcome-refused ask k vs g))

-- "Clerks lose their line in long price lists."
pub scrolls : Scrolls
scrolls =
    record {
      set-ask = λ words places d place wide doubles a. asked-back words places d place wide doubles a;
      same_bits = bits-same;
      set-others = λ words places d place wide doubles a. others words places d place wide doubles a;
      freed-unread = λ words places d place wide doubles a. unread words places d place wide doubles a;
      zoom-one = zoomed-one;
      rest-spared = λ words whole rest d e l. (λ place. set-spared words whole rest e l d place, alike words (whole ++ rest) whole d (fine-same whole rest e l) (place_same whole rest e l d));
    }
