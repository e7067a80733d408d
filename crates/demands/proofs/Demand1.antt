-- Demand 1's refusals. Assumes nothing.
use Prim.Native.Nat.{ℕ, suc, ◌≤◌, ◌<◌}
use mathlib.Core.List.{List, [], ◌∷◌}
use mathlib.Core.Logic.{◌↔◌, ◌≢◌, ◌⊎◌, inl, inr, ⊎_elim}
use mathlib.Core.Bool.{Bool, true, false, not, ◌&&◌, ◌||◌, So, cond, false≢true, and-eq-true_iff}
use mathlib.Core.Path.{◌≡◌, refl, sym, ap, subst, ◌∙◌}
use native.Mathlib.Omega.{arith}
use lib.Dec.{eqb, leb}
use lib.Ieee.{Float, nan, inf, fin}
use lib.IntN.{ℤ, pos, negsuc, ◌+ℤ◌}
use lib.ListN.{length, replicate, length-replicate}
use borrow.Author.Tests.{not-true, not-false, lt-ltb, eq-eqb, ne_eqb, eqb-true, eqb-false, leb-true, leb-false}
use Rattle.rules.specs.Rows.{none, frame_at, parent_at, in_record, is_frame, Table}
use Rattle.rules.specs.Steps.{position, steps, visible}
use Rattle.rules.specs.Windows.{is_root}
use Rattle.rules.specs.Words.{capacity, table_of, rows_of, written}
use Rattle.rules.specs.Asks.{stretched}
use Rattle.rules.specs.Sound.{SoundTable, Sound}
use Rattle.rules.specs.Saved.{parent_of, saved, number_at, documents_in, shown_in, loaded, from_save?}
use Rattle.rules.specs.OldSaved.{old_saved, old_loaded, S2rising, S5alone, from_old_save?}
use Rattle.rules.specs.Contents.{not_contents}
use Rattle.rules.specs.Below.{some_below}
use Rattle.rules.specs.Places.{Place, finite, finite_place, scaled, entries, document_in, kind_in, place_in, is_of, sane, fine_at, fine?, place_of, freed}
use Rattle.rules.specs.Calls.{Call, Answer, Rung, ◌when◌, ◌naming◌, short, unsound, absent, hidden, hider, outside, no_frame, root_frame, no_root, window_in, bad_places, not_finite, over_zoomed, no_entry, refusals, outcome, Given}
use Rattle.laws.proofs.Tests.{test, clash, off, or_left, or_cases, and_both, some_out, all-fails-at}
use Rattle.laws.proofs.Reflect.{Ref, ref-lt, ref-le, ref-eq, ref-and, ref-or, ref-any, ref-map, record_is, frame_is, sound-is, ref-not}
use Rattle.laws.proofs.Tree.{parent-of}
use Rattle.laws.proofs.Words.{table-written, written-sound}
use Rattle.laws.proofs.Loads.{in-room, from-save-is, from-save-in}
use Rattle.laws.proofs.OldLoads.{from-old-save-is, from-old-save-in}
use Rattle.laws.proofs.Stores.{fine-out, freed-entries, freed-document, spot_past, past-spot}
use Rattle.laws.proofs.Calls.{refused-when, refused-keeps}
use Rattle.demands.proofs.Nearest.{hider-is, is-hider}
use Rattle.demands.specs.Refuses.{Short, Unsound, SavedBySome, SavedThen, NotContents, StandsAt, Absent, Hidden, Outside, RowOf, NoFrame, RootFrame, NoRoot, ParentHidden, Nearest, ParentNearest, Endless, NotFinite, BadPlaces, NoEntry, Line, ◌if◌, ◌carrying◌, lines, numbers, among, First, HoldsIn, Applies, Demand1, paper, SmallestFirst}

-- A rung and a line say the same: the number, when, and what it carries then.
record Agree (r : Rung) (l : Line) : Type 0 where
  number : r.number ≡ l.number
  holds : Ref r.holds l.condition
  carries : So r.holds → (vs : List ℕ) → (r.carries ≡ vs) ↔ l.carries vs

alone : {k : ℕ} {b : Bool} {P : Type 0} → Ref b P → Agree (k when b) (k if P)
alone r = record { number = refl; holds = r; carries = λ h vs. (sym, sym) }

-- It carries x, and P is said of x alone.
with-one : {k x : ℕ} {b : Bool} {Q : Type 0} {P : ℕ → Type 0} → Ref b Q → (So b → P x) → ((h : ℕ) → P h → h ≡ x) → Agree (k when b naming x) (k if Q carrying P)
with-one {x = x} r p only =
    record {
      number = refl;
      holds = r;
      carries = λ h vs. (λ e. (x, sym e, p h), λ o. ap (λ y. y ∷ []) (sym (only o.0 o.2)) ∙ sym o.1);
    }

-- Rungs and lines say the same; a line may assume that none before it holds.
Match : List Rung → List Line → Type 0
Match [] [] = Unit {0}
Match [] (l ∷ rest) = ⊥
Match (r ∷ rungs) [] = ⊥
Match (r ∷ rungs) (l ∷ rest) = Agree r l × (r.holds ≡ false → Match rungs rest)

-- The rungs have only numbers of the table, and carry nothing but at 5.
bare? : List ℕ → Bool
bare? [] = true
bare? (v ∷ vs) = false

listed? : List Rung → Bool
listed? [] = true
listed? (r ∷ rungs) = (among r.number numbers && (eqb r.number 5 || bare? r.carries)) && listed? rungs

bare-is : (vs : List ℕ) → So (bare? vs) → vs ≡ []
unfolding bare?
bare-is [] h = refl
bare-is (v ∷ vs) h = absurd (false≢true h)

-- What is given is the first line that applies, and that line is given.
module _ (k : ℕ) (vs : List ℕ) where
  given-first : (rungs : List Rung) (ls : List Line) → Match rungs ls → Given k vs rungs → First k vs ls
  unfolding Match Given First
  given-first [] [] m g = absurd g
  given-first [] (l ∷ rest) m g = absurd m
  given-first (r ∷ rungs) [] m g = absurd m
  given-first (r ∷ rungs) (l ∷ rest) m g =
      let a = m.0 in
      ⊎_elim
      (λ h. inl (sym a.number ∙ h.1, a.holds.0 h.0, (a.carries h.0 vs).0 h.2))
      (λ h. inr (λ c. clash (a.holds.1 c) h.0, given-first rungs rest (m.1 h.0) h.1))
      g

  first-given : (rungs : List Rung) (ls : List Line) → Match rungs ls → First k vs ls → Given k vs rungs
  unfolding Match Given First
  first-given [] [] m h = absurd h
  first-given [] (l ∷ rest) m h = absurd m
  first-given (r ∷ rungs) [] m h = absurd m
  first-given (r ∷ rungs) (l ∷ rest) m h =
      let a = m.0 in
      ⊎_elim
      (λ x. let t = a.holds.1 x.1 in inl (t, a.number ∙ x.0, (a.carries t vs).1 x.2))
      (λ x. let f = off r.holds (λ t. x.0 (a.holds.0 t)) in inr (f, first-given rungs rest (m.1 f) x.1))
      h

  -- The first that applies, applies.
  pub first_holds : (ls : List Line) → First k vs ls → HoldsIn k ls
  unfolding First HoldsIn
  first_holds [] h = h
  first_holds (l ∷ rest) h = ⊎_elim (λ x. inl (x.0, x.1)) (λ x. inr (first_holds rest x.1)) h

  -- Its number is one that the rungs have.
  given-listed : (rungs : List Rung) → So (listed? rungs) → Given k vs rungs → So (among k numbers) × (k ≢ 5 → vs ≡ [])
  unfolding listed? Given
  given-listed [] a h = absurd h
  given-listed (r ∷ rungs) a h =
      let u = simp and-eq-true_iff at a in
      ⊎_elim
      (λ x. (
        subst (λ n. So (among n numbers)) x.1 u.0.0,
        λ ne. sym x.2 ∙ ⊎_elim (λ e. absurd (ne (sym x.1 ∙ eqb-true _ _ e))) (bare-is r.carries) (or_cases (eqb r.number 5) _ u.0.1),
      ))
      (λ x. given-listed rungs u.1 x.1)
      h

-- EACH CONDITION AND ITS TEST

short-is : (words : List ℕ) → Ref (short words) (Short words)
short-is words = ref-lt (length words) 7

unsound-is : (words : List ℕ) → Ref (unsound words) (Unsound words)
unsound-is words = ref-not (sound-is words)

module _ (words : List ℕ) (d : ℕ) where
  there : Ref (in_record (rows_of words) d) ((i : ℕ) × StandsAt words d i)
  there = ref-map (λ h. (h.0, (h.1, h.2))) (λ h. (h.0, h.1.0, h.1.1)) (record_is (rows_of words) d)

  absent-is : Ref (absent words d) (Absent words d)
  absent-is = ref-map (λ f i h. f (i, h)) (λ f h. f h.0 h.1) (ref-not there)

  -- Of a document that is there.
  hidden-is : absent words d ≡ false → Ref (hidden words d) (Hidden words d)
  hidden-is f = (λ h. (there.0 (not-false _ f), not-true _ h), λ h. ap not h.1)

  hidden-five : unsound words ≡ false → absent words d ≡ false →
      Agree (5 when hidden words d naming hider words d) (5 if Hidden words d carrying Nearest (rows_of words) d)
  hidden-five sound f =
      let s = (sound-is words).0 (not-false _ sound) in
      with-one (hidden-is f) (λ t. hider-is words s d (not-false _ f) (not-true _ t)) (is-hider words s d)

-- A frame that is there has one parent.
module _ (words : List ℕ) (f : ℕ) where
  framed : Ref (is_frame (rows_of words) f) ((i : ℕ) × RowOf words f i)
  framed = ref-map (λ h. (h.0, (h.1, h.2))) (λ h. (h.0, h.1.0, h.1.1)) (frame_is (rows_of words) f)

  no-frame-is : Ref (no_frame words f) (NoFrame words f)
  no-frame-is = ref-map (λ g i h. g (i, h)) (λ g h. g h.0 h.1) (ref-not framed)

  -- A row of it is without a parent.
  rooted : Ref (is_root (rows_of words) f) (RootFrame words f)
  unfolding is_root
  rooted =
      let rows = rows_of words in
      ref-map (λ h. (h.0, (h.1, h.2.0), h.2.1)) (λ h. (h.0, h.1.0, (h.1.1, h.2)))
      (ref-any (λ i. ref-and (ref-eq (frame_at rows i) f) (ref-eq (parent_at rows i) none)) (length rows))

  no-root-is : Ref (no_root words f) (NoRoot words f)
  no-root-is = ref-map (λ g i h e. g (i, h, e)) (λ g h. g h.0 h.1 h.2) (ref-not rooted)

  module _ (sound : unsound words ≡ false) (found : no_frame words f ≡ false) where
    its-parent : (i : ℕ) → RowOf words f i → parent_of (rows_of words) f ≡ parent_at (rows_of words) i
    its-parent i h = parent-of (rows_of words) ((sound-is words).0 (not-false _ sound)).table.s5.kin i f h.0 h.1

    -- What is so of its parent is so of the parent of one of its rows.
    of-its-parent : (P : ℕ → Type 0) → P (parent_of (rows_of words) f) ↔ ((i : ℕ) × RowOf words f i × P (parent_at (rows_of words) i))
    of-its-parent P = (
      λ p. let i = framed.0 (not-false _ found) in (i.0, i.1, subst P (its-parent i.0 i.1) p),
      λ h. subst P (sym (its-parent h.0 h.1)) h.2,
    )

    root-frame-is : Ref (root_frame words f) (RootFrame words f)
    root-frame-is = let p = of-its-parent (λ d. d ≡ none) in ref-map p.0 p.1 (ref-eq _ none)

    parent-hidden-is : Ref (hidden words (parent_of (rows_of words) f)) (ParentHidden words f)
    parent-hidden-is = let p = of-its-parent (λ d. visible (rows_of words) d ≡ false) in ref-map p.0 p.1 (not-true _, ap not)

    -- The parent of a frame that is not the root frame is in the record, and what hides it is told by any row of the frame.
    parent-there : root_frame words f ≡ false → So (in_record (rows_of words) (parent_of (rows_of words) f))
    parent-there child =
        let i = framed.0 (not-false _ found) in
        let e = its-parent i.0 i.1 in
        ⊎_elim
        (λ z. absurd (eqb-false _ _ child (e ∙ z)))
        (λ r. (record_is (rows_of words) _).1 (r.0, omega (arith, i.1.0), r.2 ∙ sym e))
        (((sound-is words).0 (not-false _ sound)).table.s4.placed i.0 i.1.0)

    parent-five : root_frame words f ≡ false →
        Agree (5 when hidden words (parent_of (rows_of words) f) naming hider words (parent_of (rows_of words) f)) (5 if ParentHidden words f carrying ParentNearest words f)
    parent-five child =
        let p = parent_of (rows_of words) f in
        let s = (sound-is words).0 (not-false _ sound) in
        let told : (h : ℕ) → Nearest (rows_of words) p h ↔ ParentNearest words f h = λ h. of-its-parent (λ d. Nearest (rows_of words) d h) in
        with-one parent-hidden-is (λ t. (told _).0 (hider-is words s p (parent-there child) (not-true _ t))) (λ h n. is-hider words s p h ((told h).1 n))

pub outside-is : (n : ℕ) (δ : ℤ) → Ref (outside n δ) (Outside n δ)
outside-is n (pos q) = ref-lt n q
outside-is n (negsuc q) = (λ e. tt, λ u. refl)

-- A sound table is that of a record, in a run of words with room for 512 rows.
record_of : (t : Table) → SoundTable 512 t → (words : List ℕ) × Sound words × (table_of words ≡ t)
record_of t s =
    let blank : List ℕ = replicate 2051 0 in
    let c : length blank ≡ 2051 = length-replicate {A = ℕ} 2051 0 in
    let fits : length t.rows ≤ capacity blank = omega (arith, s.s1.fits) in
    let long : 3 ≤ length blank = omega arith in
    (written blank t, written-sound blank t long (in-room _ s fits), table-written blank t long fits)

-- And a sound record's table has at most 512 rows.
pub table-of : (words : List ℕ) → Sound words → SoundTable 512 (table_of words)
table-of words s = in-room 512 s.table (omega (arith, s.table.s1.fits))

-- Bytes that pass are those of the record that they tell.
saved-is : (bytes : List ℕ) → Ref (from_save? bytes) (SavedBySome bytes)
saved-is bytes = (
  λ h. let s = (from-save-is bytes).0 h in let r = record_of (loaded bytes) s.0 in (r.0, r.1, ap saved r.2 ∙ s.1),
  λ w. subst (λ b. So (from_save? b)) w.2 (from-save-in _ (table-of w.0 w.1)),
)

-- And so in the old form.
saved-then-is : (bytes : List ℕ) → Ref (from_old_save? bytes) (SavedThen bytes)
saved-then-is bytes = (
  λ h.
      let s = (from-old-save-is bytes).0 h in
      let r = record_of (old_loaded bytes) s.0.sound in (
        r.0,
        r.1,
        subst (λ (t : Table). S2rising t.rows t.next_doc) (sym r.2) s.0.order,
        subst (λ (t : Table). S5alone t.rows) (sym r.2) s.0.alone,
        ap old_saved r.2 ∙ s.1,
      ),
  λ w. subst (λ b. So (from_old_save? b)) w.4 (from-old-save-in _ (record { sound = table-of w.0 w.1; order = w.2; alone = w.3 })),
)

-- The contents, clause by clause.
not-contents-is : (width : ℕ) (bytes : List ℕ) → Ref (not_contents width bytes) (NotContents width bytes)
unfolding not_contents
not-contents-is width bytes =
    let F = number_at bytes 0 in
    ref-or (ref-or (ref-or (ref-or (ref-eq F 0) (ref-lt _ _)) (ref-any (λ j. ref-not (ref-lt (shown_in bytes j) (documents_in bytes j))) F)) (ref-lt 512 _)) (ref-not (ref-eq (length bytes) _))

-- SCROLL PLACES

either : (a b : Bool) {P Q : Type 0} → Ref (not a) P → Ref (not b) Q → Ref (not (a && b)) (P ⊎ Q)
either true b r q = (λ h. inr (q.0 h), ⊎_elim (λ p. absurd (false≢true (r.1 p))) (λ p. q.1 p))
either false b r q = (λ h. inl (r.0 refl), λ h. refl)

endless-is : (x : Float) → Ref (not (finite x)) (Endless x)
unfolding finite
endless-is nan = (λ e. inl refl, λ e. refl)
endless-is (inf s) = (λ e. inr (s, refl), λ e. refl)
endless-is (fin s m e) = (λ h. absurd (false≢true h), λ h. ⊎_elim (λ q. ap (λ x. not (finite x)) q) (λ q. ap (λ x. not (finite x)) q.1) h)

not-finite-is : (p : Place) → Ref (not_finite p) (NotFinite p)
not-finite-is Place.itself = (λ e. false≢true e, λ h. absurd h)
not-finite-is (Place.at x y) = either (finite x) (finite y) (endless-is x) (endless-is y)

over-zoomed-is : (zoom : Float) (p : Place) → Ref (over_zoomed zoom p) (Endless zoom ⊎ NotFinite (scaled zoom p))
over-zoomed-is zoom p = either (finite zoom) (finite_place (scaled zoom p)) (endless-is zoom) (not-finite-is (scaled zoom p))

module _ (places : List ℕ) where
  -- An entry that fails: its document stands before, or its kind is above 1, or its point is not finite.
  fails-at : (i : ℕ) → i < entries places → fine_at places i ≡ false → BadPlaces places
  fails-at i l f =
      let held : document_in places i ≡ none → ⊥ = λ z. clash (or_left _ (eq-eqb (document_in places i) none z)) f in
      let h : (sane places i && not (some_below i (is_of places (document_in places i)))) ≡ false = rw (ne_eqb (document_in places i) none held) at f in
      test (leb (kind_in places i) 1)
      (λ a. test (finite_place (place_in places i))
      (λ b.
      let k = some_out (is_of places (document_in places i)) i (not-false _ (rw (a, b) at h)) in
      let same : document_in places k.0 ≡ document_in places i = eqb-true _ _ k.2 in
      inl (k.0, i, k.1, (omega (arith, k.1), λ z. held (sym same ∙ z)), (l, held), same))
      (λ b. inr (inr (i, (l, held), (not-finite-is (place_in places i)).0 (ap not b)))))
      (λ a. inr (inl (i, (l, held), leb-false _ _ a)))

  bad-is : Ref (bad_places places) (BadPlaces places)
  unfolding fine?
  bad-is = (
    λ t. let k = all-fails-at (fine_at places) (entries places) (not-true _ t) in fails-at k.0 k.1 k.2,
    λ h.
        ap not (off (fine? places) (λ t.
        let fine = fine-out places t in
        ⊎_elim
        (λ (i, j, l, a, b, e). let z = fine.once i j a.0 b.0 a.1 e in omega arith)
        (⊎_elim
        (λ (i, a, l). let z : kind_in places i ≤ 1 = leb-true _ _ (and_both _ (finite_place (place_in places i)) (fine.sound i a.0 a.1)).0 in omega arith)
        (λ (i, a, n). clash (and_both (leb (kind_in places i) 1) _ (fine.sound i a.0 a.1)).1 (not-true _ ((not-finite-is (place_in places i)).1 n))))
        h)),
  )

-- After freeing an entry is neither the document's nor free exactly where it is of another one in the record.
no-entry-is : (words places : List ℕ) (d : ℕ) → Ref (no_entry words places d) (NoEntry words places d)
no-entry-is words places d =
    let rows = rows_of words in
    let c = freed-entries rows places in
    let document : (i : ℕ) → i < entries places → document_in (freed rows places) i ≡ cond (not (in_record rows (document_in places i))) none (document_in places i) = freed-document rows places in
    ref-map
    (λ l i m.
    let p = spot_past (freed rows places) d l i (omega arith) in
    test (in_record rows (document_in places i))
    (λ t. let q = document i m ∙ rw t refl in (λ e. p.0 (q ∙ e), λ e. p.1 (q ∙ e), (there words (document_in places i)).0 t))
    (λ f. absurd (p.1 (document i m ∙ rw f refl))))
    (λ h. past-spot (freed rows places) d (λ i m.
    let p = h i (omega arith) in
    let t = (there words (document_in places i)).1 p.2 in
    let q = document i (omega arith) ∙ rw t refl in
    (λ e. p.0 (sym q ∙ e), λ e. p.1 (sym q ∙ e))))
    (ref-le (entries (freed rows places)) _)

-- EACH CALL

listed : (c : Call) → So (listed? (refusals c))
unfolding bare? listed? refusals
listed (Call.Fresh words) = refl
listed (Call.Open words parent) = refl
listed (Call.Navigate words from) = refl
listed (Call.Traverse words root δ room) = refl
listed (Call.Drop words frame) = refl
listed (Call.Replace words d) = refl
listed (Call.Tab words) = refl
listed (Call.Position words root) = refl
listed (Call.Visible words d) = refl
listed (Call.Lists words root takens upcomings) = refl
listed (Call.Stretch takens upcomings δ) = refl
listed (Call.StretchCount takens upcomings δ) = refl
listed (Call.Outline words root room) = refl
listed (Call.Save words room) = refl
listed (Call.Load words bytes) = refl
listed (Call.LoadOld words bytes) = refl
listed (Call.Contents bytes) = refl
listed (Call.ContentsOld bytes) = refl
listed (Call.SetPlace words places d place) = refl
listed (Call.AskPlace words places d) = refl
listed (Call.AskAtZoom words places d zoom) = refl

-- Refusals 1 and 2, and then the rest of a sound record.
on-record : {rest : Type 0} (words : List ℕ) → (unsound words ≡ false → rest) →
    Agree (1 when short words) (1 if Short words) × (short words ≡ false → Agree (2 when unsound words) (2 if Unsound words) × (unsound words ≡ false → rest))
on-record words rest = (alone (short-is words), λ f. (alone (unsound-is words), rest))

-- Refusals 1, 2 and 13, and then the rest of a window.
on-window : {rest : Type 0} (words : List ℕ) (root : ℕ) → (no_root words root ≡ false → rest) →
    Agree (1 when short words) (1 if Short words)
    × (short words ≡ false → Agree (2 when unsound words) (2 if Unsound words) × (unsound words ≡ false → Agree (13 when no_root words root) (13 if NoRoot words root) × (no_root words root ≡ false → rest)))
on-window words root rest = on-record words (λ s. (alone (no-root-is words root), rest))

-- Each line is its rung.
match : (c : Call) → Match (refusals c) (lines c)
unfolding Match refusals lines
match (Call.Fresh words) = (alone (short-is words), λ f. tt)
match (Call.Open words parent) =
    on-record words (λ s. (alone (absent-is words parent), λ f. (hidden-five words parent s f, λ f. (alone (ref-le _ _), λ f. (alone (ref-or (ref-eq _ _) (ref-eq _ _)), λ f. tt)))))
match (Call.Navigate words from) =
    on-record words (λ s. (alone (absent-is words from), λ f. (hidden-five words from s f, λ f. (alone (ref-le _ _), λ f. (alone (ref-eq _ _), λ f. tt)))))
match (Call.Traverse words root δ room) =
    let own = (window_in words root).rows in
    on-window words root (λ s. (alone (outside-is (steps own) (pos (position own) +ℤ δ)), λ f. (alone (ref-lt _ _), λ f. tt)))
match (Call.Drop words frame) =
    on-record words (λ s. (alone (no-frame-is words frame), λ f. (alone (root-frame-is words frame s f), λ r. (parent-five words frame s f r, λ f. tt))))
match (Call.Replace words d) =
    on-record words (λ s. (alone (absent-is words d), λ f. (hidden-five words d s f, λ f. (alone (ref-eq _ _), λ f. tt))))
match (Call.Tab words) = on-record words (λ s. (alone (ref-le _ _), λ f. (alone (ref-or (ref-eq _ _) (ref-eq _ _)), λ f. tt)))
match (Call.Position words root) = on-window words root (λ s. tt)
match (Call.Visible words d) = on-record words (λ s. (alone (absent-is words d), λ f. tt))
match (Call.Lists words root takens upcomings) = on-window words root (λ s. (alone (ref-or (ref-lt _ _) (ref-lt _ _)), λ f. tt))
match (Call.Stretch takens upcomings δ) = tt
match (Call.StretchCount takens upcomings δ) = (alone (ref-lt _ _), λ f. tt)
match (Call.Outline words root room) = on-window words root (λ s. (alone (ref-lt _ _), λ f. tt))
match (Call.Save words room) = on-record words (λ s. (alone (ref-lt _ _), λ f. tt))
match (Call.Load words bytes) = (alone (short-is words), λ f. (alone (ref-not (saved-is bytes)), λ f. (alone (ref-lt _ _), λ f. tt)))
match (Call.LoadOld words bytes) = (alone (short-is words), λ f. (alone (ref-not (saved-then-is bytes)), λ f. (alone (ref-lt _ _), λ f. tt)))
match (Call.Contents bytes) = (alone (not-contents-is 8 bytes), λ f. tt)
match (Call.ContentsOld bytes) = (alone (not-contents-is 4 bytes), λ f. tt)
match (Call.SetPlace words places d place) =
    on-record words (λ s. (alone (bad-is places), λ f. (alone (absent-is words d), λ f. (alone (not-finite-is place), λ f. (alone (no-entry-is words places d), λ f. tt)))))
match (Call.AskPlace words places d) = on-record words (λ s. (alone (bad-is places), λ f. (alone (absent-is words d), λ f. tt)))
match (Call.AskAtZoom words places d zoom) =
    on-record words (λ s. (alone (bad-is places), λ f. (alone (absent-is words d), λ f. (alone (over-zoomed-is zoom (place_of places d)), λ f. tt))))

-- "It refuses only by the nine refusals of document 01, exactly when that document says, and then each lent word and byte reads as before."
pub demand1 : Demand1
demand1 c =
    let first : (k : ℕ) (vs : List ℕ) → (outcome c).answer ≡ Answer.refuses k vs → First k vs (lines c) =
    λ k vs e. given-first k vs (refusals c) (lines c) (match c) ((refused-when c k vs).0 e) in
    record {
      only = λ k vs e. (given-listed k vs (refusals c) (listed c) ((refused-when c k vs).0 e)).0;
      exactly = λ k vs. (first k vs, λ h. (refused-when c k vs).1 (first-given k vs (refusals c) (lines c) (match c) h));
      kept = refused-keeps c;
    }

-- "A refusal returns its number alone", but 5.
pub number-alone : (c : Call) (k : ℕ) (vs : List ℕ) → k ≢ 5 → (outcome c).answer ≡ Answer.refuses k vs → vs ≡ []
number-alone c k vs ne e = (given-listed k vs (refusals c) (listed c) ((refused-when c k vs).0 e)).1 ne

-- "Stretch: [..] when it is 6, the part given back is empty."
pub stretch-empty : (takens upcomings : List ℕ) (δ : ℤ) → Applies 6 (Call.StretchCount takens upcomings δ) → stretched takens upcomings δ ≡ []
unfolding stretched lines HoldsIn
stretch-empty takens upcomings δ h = ⊎_elim (λ x. rw (lt-ltb _ _ x.1) refl) (λ x. absurd x) h

-- THE SMALLEST NUMBER

-- The numbers rise, from b on.
Rising : ℕ → List Line → Type 0
Rising b [] = Unit {0}
Rising b (l ∷ rest) = (b ≤ l.number) × Rising (suc l.number) rest

from-number : (b j : ℕ) (ls : List Line) → Rising b ls → HoldsIn j ls → b ≤ j
unfolding Rising HoldsIn
from-number b j [] o h = absurd h
from-number b j (l ∷ rest) o h =
    let low = o.0 in
    ⊎_elim (λ e. let q = e.0 in omega arith) (λ e. let q = from-number (suc l.number) j rest o.1 e in omega arith) h

-- Where numbers rise, nothing of a smaller number applies than the first line that does, and a line is the first to apply where nothing of a smaller number does.
module _ (k : ℕ) where
  first-smallest : (b : ℕ) (vs : List ℕ) (ls : List Line) → Rising b ls → First k vs ls → (j : ℕ) → j < k → HoldsIn j ls → ⊥
  unfolding Rising First HoldsIn
  first-smallest b vs [] o h j less there = there
  first-smallest b vs (l ∷ rest) o h j less there =
      ⊎_elim
      (λ x. let q = x.0 in ⊎_elim (λ y. let z = y.0 in omega arith) (λ y. let z = from-number (suc l.number) j rest o.1 y in omega arith) there)
      (λ x. ⊎_elim (λ y. x.0 y.1) (first-smallest (suc l.number) vs rest o.1 x.1 j less) there)
      h

  smallest-of : (b : ℕ) (rungs : List Rung) (ls : List Line) → Match rungs ls → Rising b ls → HoldsIn k ls → ((j : ℕ) → j < k → HoldsIn j ls → ⊥) →
      (vs : List ℕ) × First k vs ls
  unfolding Match Rising First HoldsIn
  smallest-of b [] [] m o h least = absurd h
  smallest-of b [] (l ∷ rest) m o h least = absurd m
  smallest-of b (r ∷ rungs) [] m o h least = absurd h
  smallest-of b (r ∷ rungs) (l ∷ rest) m o h least =
      let a = m.0 in
      ⊎_elim
      (λ x. (r.carries, inl (x.0, x.1, (a.carries (a.holds.1 x.1) _).0 refl)))
      (λ x.
      let z = from-number (suc l.number) k rest o.1 x in
      let n : l.condition → ⊥ = λ c. least l.number (omega arith) (inl (refl, c)) in
      let s = smallest-of (suc l.number) rungs rest (m.1 (off r.holds (λ t. n (a.holds.0 t)))) o.1 x (λ j less there. least j less (inr there)) in
      (s.0, inr (n, s.1)))
      h

rise : (c : Call) → paper c ≡ 1 → Rising 1 (lines c)
unfolding Rising lines
rise (Call.Fresh words) first = (omega arith, tt)
rise (Call.Open words parent) first = (omega arith, (omega arith, (omega arith, (omega arith, (omega arith, (omega arith, tt))))))
rise (Call.Navigate words from) first = (omega arith, (omega arith, (omega arith, (omega arith, (omega arith, (omega arith, tt))))))
rise (Call.Traverse words root δ room) first = absurd (omega arith)
rise (Call.Drop words frame) first = absurd (omega arith)
rise (Call.Replace words d) first = absurd (omega arith)
rise (Call.Tab words) first = absurd (omega arith)
rise (Call.Position words root) first = absurd (omega arith)
rise (Call.Visible words d) first = (omega arith, (omega arith, (omega arith, tt)))
rise (Call.Lists words root takens upcomings) first = absurd (omega arith)
rise (Call.Stretch takens upcomings δ) first = tt
rise (Call.StretchCount takens upcomings δ) first = (omega arith, tt)
rise (Call.Outline words root room) first = absurd (omega arith)
rise (Call.Save words room) first = (omega arith, (omega arith, (omega arith, tt)))
rise (Call.Load words bytes) first = (omega arith, (omega arith, (omega arith, tt)))
rise (Call.LoadOld words bytes) first = (omega arith, (omega arith, (omega arith, tt)))
rise (Call.Contents bytes) first = absurd (omega arith)
rise (Call.ContentsOld bytes) first = absurd (omega arith)
rise (Call.SetPlace words places d place) first = absurd (omega arith)
rise (Call.AskPlace words places d) first = absurd (omega arith)
rise (Call.AskAtZoom words places d zoom) first = absurd (omega arith)

-- "Where several apply, the smallest number is given": so it is of every call of document 01.
pub smallest-first : SmallestFirst
smallest-first c first k =
    let o = rise c first in
    (λ h. (first_holds k h.0 (lines c) h.1, first-smallest k 1 h.0 (lines c) o h.1), λ h. smallest-of k 1 (refusals c) (lines c) (match c) o h.0 h.1)
