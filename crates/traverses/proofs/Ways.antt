-- What Traverse answers, by the ways that it goes. Assumes nothing.
use Prim.Native.Nat.{ℕ, ◌*◌, ◌/◌, ◌≤◌, ◌<◌}
use mathlib.Core.Bool.{Bool, false, So, cond}
use mathlib.Core.List.{List, [], ◌∷◌, flat_map}
use mathlib.Core.Logic.{inl, inr}
use mathlib.Core.Path.{◌≡◌, refl, sym, ap, ap₂, subst, subst₂, ◌∙◌, fun_ext}
use native.Mathlib.Omega.{arith}
use lib.Dec.{eqb, ltb}
use lib.IntN.{ℤ, pos, negsuc, ◌+ℤ◌}
use lib.ListN.{length, length-append}
use borrow.Author.Tests.{lt-ltb, le-ltb, ltb-false}
use Rattle.std.specs.Prelude.{Option, None, Some, Result, Ok, Err}
use Rattle.base.specs.declared.Refusal.{Refusal}
use Rattle.base.specs.declared.Refusal.TheVariants.{ShortBuffer, Beyond, NoRoot}
use Rattle.rules.specs.Below.{some_below, count, rising}
use Rattle.rules.specs.Rows.{Row, Table, none, doc_at, frame_at, is_frame}
use Rattle.rules.specs.Steps.{step, steps}
use Rattle.rules.specs.Windows.{is_root}
use Rattle.rules.specs.Moves.{walked, traversed, frames, shown_doc, change_row, changes}
use Rattle.rules.specs.Words.{put, table_of, rows_of, written}
use Rattle.rules.specs.Calls.{Call, Answer, Outcome, outside, beyond, too_short, window_in, refusals, accepted, ladder, outcome, Given}
use Rattle.laws.proofs.Tests.{test}
use Rattle.laws.proofs.Central.{flags_at, central, at_length, at-doc, at-frame, at_at}
use Rattle.laws.proofs.Travel.{walked_at}
use Rattle.laws.proofs.Words.{length-written, table-written}
use Rattle.laws.proofs.Writes.{put-none}
use Rattle.laws.proofs.Calls.{outcome-refused}
use Rattle.laws.proofs.Tree.{OneRoot}
use Rattle.windows.proofs.Window.{WideRows, wide_rows}
use Rattle.windows.proofs.Only.{only-rows, only-traversed}
use Rattle.sound.specs.Check.{Examined}
use Rattle.sound.specs.Survey.{survey_of, Located}
use Rattle.sound.specs.declared.Stand.{Stand}
use Rattle.sound.specs.declared.Windows.{Windows}
use Rattle.sound.proofs.Checks.{survey-given, examined-long, examined-sound, examined-fits}
use Rattle.traverses.specs.declared.Trip.{Trip}
use Rattle.traverses.specs.Answers.{traversed_is, trip_text, Shifts, Travels}
use Rattle.traverses.specs.Goals.{goal_of}
use Rattle.traverses.specs.Places.{steps_to, PlaceOf, NextBetween}
use Rattle.traverses.specs.Texts.{doc_from, change_text, text_below, places_text, moved_to, Ready, Start}
use Rattle.traverses.proofs.Places.{stand-position, stand-steps, stand-rows, next-same}

-- READY

module _ (words : List ℕ) (s : Stand) (h : Located words s) (a b to : ℕ) (first : PlaceOf (rows_of words) s.position a) (second : PlaceOf (rows_of words) to b) where
  pub ready_of : Ready words a b
  ready_of =
      record {
        long = examined-long words h.examined;
        fits = examined-fits words h.examined;
        apart = (examined-sound words h.examined).table.s2.distinct;
        first = first.upto;
        second = second.upto;
      }

  pub start_of : (table_of words).next_doc ≤ none → Start words a b
  start_of word =
      let t = stand-rows words s h word in
      record { examined = h.examined; ready = ready_of; flags = ap (λ m. flags_at m (rows_of words)) (first.counted ∙ stand-position words s h) ∙ central (rows_of words) t.s6 t.s7 }

-- THE CHANGE ROWS

flat-same : (g h : ℕ → List ℕ) (xs : List ℕ) → ((f : ℕ) → g f ≡ h f) → flat_map g xs ≡ flat_map h xs
flat-same g h xs e = ap (λ k. flat_map k xs) (fun_ext e)

flat-lengths : (g h : ℕ → List ℕ) (xs : List ℕ) → ((f : ℕ) → length (g f) ≡ length (h f)) → length (flat_map g xs) ≡ length (flat_map h xs)
unfolding flat_map
flat-lengths g h [] e = refl
flat-lengths g h (x ∷ xs) e = omega (arith, length-append (g x) (flat_map g xs), length-append (h x) (flat_map h xs), e x, flat-lengths g h xs e)

-- Those to place b from the place whose flags the rows have.
abbrev changes_to : Table → ℕ → List ℕ
changes_to t b = flat_map (change_row t.rows (moved_to t b).rows) (rising (is_frame t.rows) t.next_frame)

module _ (rows : List Row) (a b : ℕ) (stand : flags_at (steps_to rows a) rows ≡ rows) where
  abbrev moved : List Row
  moved = flags_at (steps_to rows b) rows

  moved-steps : (r : ℕ) → steps_to moved r ≡ steps_to rows r
  moved-steps r = ap (λ fr. count (step fr) r) (at-frame (steps_to rows b) rows)

  doc-moved : (r f : ℕ) → doc_from moved r f ≡ doc_from rows r f
  doc-moved r f = ap (λ m. shown_doc (flags_at m moved) f) (moved-steps r) ∙ ap (λ l. shown_doc l f) (at_at (steps_to rows b) (steps_to rows r) rows)

  doc-first : (f : ℕ) → doc_from rows a f ≡ shown_doc rows f
  doc-first f = ap (λ l. shown_doc l f) stand

  -- Read after the traversal.
  text-after : (f : ℕ) → change_text moved a b f ≡ change_row rows moved f
  unfolding change_text change_row
  text-after f = rw (doc-moved a f, doc-moved b f, doc-first f) refl

  -- As long before it.
  text-before : (f : ℕ) → length (change_text rows a b f) ≡ length (change_row rows moved f)
  unfolding change_text change_row
  text-before f = rw (doc-first f) (test (eqb (shown_doc rows f) (shown_doc moved f)) (λ t. rw t refl) (λ t. rw t refl))

  frames-moved : (top : ℕ) → rising (is_frame moved) top ≡ rising (is_frame rows) top
  unfolding is_frame
  frames-moved top =
      subst₂ (λ n fr. rising (λ f. some_below n (λ i. eqb (fr i) f)) top ≡ rising (is_frame rows) top) (sym (at_length (steps_to rows b) rows)) (sym (at-frame (steps_to rows b) rows)) refl

module _ (t : Table) (a b : ℕ) (stand : flags_at (steps_to t.rows a) t.rows ≡ t.rows) where
  text-moved : places_text (moved_to t b) a b ≡ changes_to t b
  unfolding text_below
  text-moved =
      flat-same _ _ (rising (is_frame (moved_to t b).rows) t.next_frame) (text-after t.rows a b stand)
      ∙ ap (flat_map (change_row t.rows (moved_to t b).rows)) (frames-moved t.rows a b stand t.next_frame)

  text-counted : length (places_text t a b) ≡ length (changes_to t b)
  unfolding text_below
  text-counted = flat-lengths _ _ (rising (is_frame t.rows) t.next_frame) (text-before t.rows a b stand)

-- After the flags have moved.
module _ (old : List ℕ) (a b : ℕ) (start : Start old a b) (new : List ℕ) (e : new ≡ written old (moved_to (table_of old) b)) where
  moved-table : table_of new ≡ moved_to (table_of old) b
  moved-table =
      let r = start.ready in
      let l = r.long in
      let h = r.fits in
      ap table_of e ∙ table-written old (moved_to (table_of old) b) (omega arith) (omega (arith, at_length (steps_to (rows_of old) b) (rows_of old)))

  -- As many rows.
  moved-count : length (rows_of new) ≡ length (rows_of old)
  moved-count = ap (λ t. length t.rows) moved-table ∙ at_length (steps_to (rows_of old) b) (rows_of old)

  moved_length : length new ≡ length old
  moved_length = ap length e ∙ length-written old _

  pub moved_ready : Ready new a b
  moved_ready =
      let r = start.ready in
      let rows = rows_of old in
      let n = moved-count in
      let d : doc_at (rows_of new) ≡ doc_at rows = ap (λ t. doc_at t.rows) moved-table ∙ at-doc (steps_to rows b) rows in
      let s = moved_length in
      let u = r.fits in
      let v = r.long in
      let x = r.first in
      let y = r.second in
      record {
        long = omega arith;
        fits = rw s (omega arith);
        apart = λ i j l m. subst (λ doc. doc i ≡ doc j → i ≡ j) (sym d) (r.apart i j (omega arith) (omega arith));
        first = omega arith;
        second = omega arith;
      }

  -- The same first frame between the places.
  moved-next : (f : ℕ) → NextBetween (table_of old) 0 a b f → NextBetween (table_of new) 0 a b f
  moved-next f =
      let frames = ap (λ t. frame_at t.rows) moved-table ∙ at-frame (steps_to (rows_of old) b) (rows_of old) in
      next-same (table_of old) (table_of new) (sym moved-count) (sym frames) (sym (ap (λ t. t.next_frame) moved-table)) 0 a b f

  pub moved-text : places_text (table_of new) a b ≡ changes_to (table_of old) b
  moved-text = ap (λ t. places_text t a b) moved-table ∙ text-moved (table_of old) a b start.flags

-- THE ANSWER

-- A refusal of whatever is lent.
stays : (words : List ℕ) (δ : ℤ) (room : ℕ) (why : Refusal) →
    ((r : ℕ) → So (is_root (rows_of words) r) → (lent : List ℕ) → length lent / 4 ≡ room → outcome (Call.Traverse words r δ lent) ≡ record { answer = traversed_is (Err why); lent = words ∷ lent ∷ [] }) →
    Shifts words δ room (Err why) words
stays words δ room why h =
    record {
      outcome-is = λ r root lent l. h r root lent l ∙ ap (λ z. record { answer = traversed_is (Err why); lent = words ∷ z ∷ [] }) (put-none lent 0);
      arrived = λ t e. absurd (let z : ◌≡◌ {A = ℕ} 0 1 = cc in omega arith);
    }

-- In a record of one window that of its root frame is the table, and so is what a traversal makes of it.
module _ (words : List ℕ) (s : Stand) (h : Located words s) (word : (table_of words).next_doc ≤ none) (r : ℕ) (root : So (is_root (rows_of words) r)) where
  one-root : OneRoot (rows_of words)
  one-root = (stand-rows words s h word).root

  wide : WideRows (rows_of words) (table_of words).next_doc (table_of words).next_frame
  wide = wide_rows (examined-sound words h.examined).table word

  only-table : window_in words r ≡ table_of words
  only-table = ap (λ l. record { rows = l; next_doc = (table_of words).next_doc; next_frame = (table_of words).next_frame }) (only-rows (table_of words) wide one-root r root)

  only-walked : (δ : ℤ) → beyond (rows_of words) δ ≡ false → traversed (table_of words) r δ ≡ record { rows = walked δ (rows_of words); next_doc = (table_of words).next_doc; next_frame = (table_of words).next_frame }
  only-walked = only-traversed (table_of words) wide one-root r root

  -- The first lines of the table do not apply.
  only-past : (δ : ℤ) (lent : List ℕ) (b c : Bool) → beyond (rows_of words) δ ≡ b → too_short lent (changes (table_of words) δ) ≡ c →
      outcome (Call.Traverse words r δ lent) ≡ cond b (record { answer = Answer.refuses 6 []; lent = words ∷ lent ∷ [] }) (cond c (record { answer = Answer.refuses 9 []; lent = words ∷ lent ∷ [] }) (accepted (Call.Traverse words r δ lent)))
  unfolding outcome refusals ladder
  only-past δ lent b c e f =
      let x = h.examined in
      let y = ap (λ t. beyond t.rows δ) only-table ∙ e in
      let z = ap (λ t. too_short lent (changes t δ)) only-table ∙ f in rw (x.long, x.passes, root, y, z) refl

module _ (words : List ℕ) (s : Stand) (h : Located words s) (word : (table_of words).next_doc ≤ none) (a b : ℕ) (start : Start words a b) (to : ℕ) (there : steps_to (rows_of words) b ≡ to)
    (reached : to ≤ steps (rows_of words)) where
  within : (δ : ℤ) → pos s.position +ℤ δ ≡ pos to → beyond (rows_of words) δ ≡ false
  within δ e =
      ap (λ p. outside (steps (rows_of words)) (pos p +ℤ δ)) (sym (stand-position words s h)) ∙ ap (outside (steps (rows_of words))) e ∙ le-ltb (steps (rows_of words)) to reached

  lands : (δ : ℤ) → pos s.position +ℤ δ ≡ pos to → walked δ (rows_of words) ≡ (moved_to (table_of words) b).rows
  lands δ e =
      let t = stand-rows words s h word in
      let l = walked_at (rows_of words) t.s6 t.s7 δ (within δ e) in
      let z : pos l.to ≡ pos to = sym l.sum ∙ ap (λ p. pos p +ℤ δ) (sym (stand-position words s h)) ∙ e in
      let y : l.to ≡ steps_to (rows_of words) b = (let x : l.to ≡ to = cc in x ∙ sym there) in
      l.rows_are ∙ ap (λ m. flags_at m (rows_of words)) y

  changes-are : (δ : ℤ) → pos s.position +ℤ δ ≡ pos to → changes (table_of words) δ ≡ changes_to (table_of words) b
  unfolding changes
  changes-are δ e = ap (λ l. flat_map (change_row (rows_of words) l) (frames (table_of words))) (lands δ e)

  -- What is answered and left where there is room.
  gives_to : (r : ℕ) → So (is_root (rows_of words) r) → (δ : ℤ) → pos s.position +ℤ δ ≡ pos to → (lent : List ℕ) →
      accepted (Call.Traverse words r δ lent)
      ≡ record { answer = Answer.gives (length (changes_to (table_of words) b) / 4 ∷ []); lent = written words (moved_to (table_of words) b) ∷ put lent 0 (changes_to (table_of words) b) ∷ [] }
  unfolding accepted
  gives_to r root δ e lent =
      ap₂ (λ c t. record { answer = Answer.gives (length c / 4 ∷ []); lent = written words t ∷ put lent 0 c ∷ [] })
      (ap (λ t. changes t δ) (only-table words s h word r root) ∙ changes-are δ e)
      (only-walked words s h word r root δ (within δ e) ∙ ap (λ l. record { rows = l; next_doc = (table_of words).next_doc; next_frame = (table_of words).next_frame }) (lands δ e))

  module _ (count : ℕ) (size : 4 * count ≡ length (places_text (table_of words) a b)) (room : ℕ) where
    counted : 4 * count ≡ length (changes_to (table_of words) b)
    counted = size ∙ text-counted (table_of words) a b start.flags

    counts : (δ : ℤ) → pos s.position +ℤ δ ≡ pos to → 4 * count ≡ length (changes (table_of words) δ)
    counts δ e = counted ∙ ap length (sym (changes-are δ e))

    pub travel-short : room < count → Travels words room s.position to (Err ShortBuffer) words
    travel-short l δ e =
        stays words δ room ShortBuffer (λ r root lent x.
        let n = counts δ e in
        let m : length lent < length (changes (table_of words) δ) = omega arith in only-past words s h word r root δ lent _ _ (within δ e) (lt-ltb _ _ m))

    pub travel-done : (words' : List ℕ) (first : ℕ) → NextBetween (table_of words) 0 a b first → count ≤ room → words' ≡ written words (moved_to (table_of words) b) →
        Travels words room s.position to (Ok (record { span = record { before = record { 0 = a }; after = record { 0 = b } }; first = record { 0 = first }; count = count })) words'
    travel-done words' first f l u δ e =
        let text = moved-text words a b start words' u in
        record {
          outcome-is = λ r root lent x.
              let n = counts δ e in
              let m : length (changes (table_of words) δ) ≤ length lent = omega arith in
              let k : length (changes_to (table_of words) b) / 4 ≡ count = omega (arith, counted) in
              only-past words s h word r root δ lent _ _ (within δ e) (le-ltb _ _ m) ∙ gives_to r root δ e lent ∙ rw (k, text, u) refl;
          arrived = λ t q.
              let q' : t ≡ record { span = record { before = record { 0 = a }; after = record { 0 = b } }; first = record { 0 = first }; count = count } = cc in
              rw q' (record {
                ready = moved_ready words a b start words' u;
                foremost = moved-next words a b start words' u first f;
                sized = counted ∙ ap length (sym text);
                fits = l;
              });
        }

-- Where an amount leads.
pub goal-to : (s : ℕ) (z : ℤ) (r : Option ℕ) (q : ℕ) → r ≡ goal_of s z → r ≡ Some q → (z ≡ pos q) × (q ≤ s)
goal-to s (pos k) r q e f =
    test (ltb s k)
    (λ t. let g : None ≡ Some q = rw t at (sym e ∙ f) in absurd (let z : ◌≡◌ {A = ℕ} 0 1 = cc in omega arith))
    (λ t. let g : Some k ≡ Some q = rw t at (sym e ∙ f) in let h : k ≡ q = cc in (ap pos h, omega (arith, ltb-false s k t)))
goal-to s (negsuc k) r q e f = absurd (let z : ◌≡◌ {A = ℕ} 0 1 = cc in omega arith)

pub goal-outside : (s : ℕ) (z : ℤ) (r : Option ℕ) → r ≡ goal_of s z → r ≡ None → So (outside s z)
goal-outside s (pos k) r e f =
    test (ltb s k) (λ t. t) (λ t. let g : Some k ≡ None = rw t at (sym e ∙ f) in absurd (let z : ◌≡◌ {A = ℕ} 0 1 = cc in omega arith))
goal-outside s (negsuc k) r e f = refl

pub beyond-way : (words : List ℕ) (room : ℕ) (δ : ℤ) (s : Stand) → Located words s → (table_of words).next_doc ≤ none → So (outside s.steps (pos s.position +ℤ δ)) →
    Shifts words δ room (Err Beyond) words
beyond-way words room δ s x word h =
    let g : So (beyond (rows_of words) δ) = rw (stand-position words s x, stand-steps words s x) at h in
    stays words δ room Beyond (λ r root lent z. only-past words s x word r root δ lent _ _ g refl)

-- An amount as it is handed on.
pub by-amount : (words room : List ℕ) (r : ℕ) (o : Outcome) (z δ : ℤ) → z ≡ δ → outcome (Call.Traverse words r z room) ≡ o → outcome (Call.Traverse words r δ room) ≡ o
by-amount words room r o z δ e h = subst (λ d. outcome (Call.Traverse words r d room) ≡ o) e h

pub shift_by : (words words' : List ℕ) (room : ℕ) (s : Result Trip Refusal) (z δ : ℤ) → z ≡ δ → Shifts words z room s words' → Shifts words δ room s words'
shift_by words words' room s z δ e h = subst (λ d. Shifts words d room s words') e h

-- Refused by the first two rungs,
pub survey-way : (words : List ℕ) (r : ℕ) (δ : ℤ) (lent : List ℕ) (k : Result Windows Refusal) (why : Refusal) → k ≡ survey_of words → k ≡ Err why →
    outcome (Call.Traverse words r δ lent) ≡ record { answer = traversed_is (Err why); lent = words ∷ lent ∷ [] }
unfolding refusals
survey-way words r δ lent k why e f = outcome-refused (Call.Traverse words r δ lent) _ _ (survey-given words _ k why e f)

-- or by the third.
pub root-way : (words : List ℕ) (r : ℕ) (δ : ℤ) (lent : List ℕ) → Examined words → is_root (rows_of words) r ≡ false →
    outcome (Call.Traverse words r δ lent) ≡ record { answer = traversed_is (Err NoRoot); lent = words ∷ lent ∷ [] }
unfolding refusals Given
root-way words r δ lent x f = outcome-refused (Call.Traverse words r δ lent) 13 [] (inr (x.long, inr (rw x.passes refl, inl (rw f refl, refl, refl))))

-- What is answered and left where a shift went, and where it was refused.
module _ (words words' : List ℕ) (r : ℕ) (root : So (is_root (rows_of words) r)) (δ : ℤ) (room : ℕ) (s : Result Trip Refusal) (h : Shifts words δ room s words') where
  pub went-way : (t : Trip) → s ≡ Ok t → (lent lent' : List ℕ) → length lent / 4 ≡ room → lent' ≡ put lent 0 (trip_text words' t) →
      outcome (Call.Traverse words r δ lent) ≡ record { answer = traversed_is (Ok t.count); lent = words' ∷ lent' ∷ [] }
  went-way t e lent lent' l w = h.outcome-is r root lent l ∙ rw (e, w) refl

  pub stayed-way : (why : Refusal) → s ≡ Err why → (lent : List ℕ) → length lent / 4 ≡ room → outcome (Call.Traverse words r δ lent) ≡ record { answer = traversed_is (Err why); lent = words' ∷ lent ∷ [] }
  stayed-way why e lent l = h.outcome-is r root lent l ∙ rw e (ap (λ z. record { answer = traversed_is (Err why); lent = words' ∷ z ∷ [] }) (sym (put-none lent 0)))
