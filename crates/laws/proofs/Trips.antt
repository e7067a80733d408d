-- What the saved bytes of a sound table tell, in both forms: of each row, but for its place. Assumes nothing.
use Prim.Native.Nat.{ℕ, ◌+◌, ◌≤◌, ◌<◌}
use mathlib.Core.Bool.{Bool, true, false, not, ◌&&◌, So, and-eq-true_iff}
use mathlib.Core.List.{List}
use mathlib.Core.Logic.{◌≢◌}
use mathlib.Core.Path.{◌≡◌, refl, sym, ap, ap₂, subst, ◌∙◌}
use native.Mathlib.Omega.{arith}
use lib.Dec.{eqb}
use lib.ListN.{length, get_or}
use borrow.Author.Tests.{eqb-true, eqb-false, eq-eqb, ne_eqb, not-true}
use Rattle.rules.specs.Below.{some_below, count, sum, gather}
use Rattle.rules.specs.Rows.{Row, Table, row_at, doc_at, frame_at, parent_at, shown_at, is_shown, in_frame, is_frame, flag}
use Rattle.rules.specs.Steps.{is_step, steps}
use Rattle.rules.specs.Moves.{frames}
use Rattle.rules.specs.Sound.{SoundTable}
use Rattle.rules.specs.Saved.{docs_of, shown_place, parent_of, saved_with, number_at, documents_in, entries_in, document_at, told_row, told_rows}
use Rattle.laws.proofs.Tests.{test, clash, off, by_order, and-true, some_in, some_out, count-in, count-le, count_same, count-all, count-flat, count-zero, count-order, nth, one_out, one_in, least, latest-is, length-gather, gather-at, gather-from}
use Rattle.laws.proofs.Frames.{step_in, step-out}
use Rattle.laws.proofs.Tree.{parent-of}
use Rattle.laws.proofs.Standing.{count-rest}
use Rattle.laws.proofs.Pieces.{sum_same, sum-within, sum-least, sum_ones, sum-classes, sum-rising}
use Rattle.laws.proofs.Numbers.{Form, length-docs_of, frame_no, documents, read_count, read_number, read-parent, read-documents, read-shown}
use Rattle.laws.proofs.Told.{told_at, told-found}

pub no-documents : (rows : List Row) (f : ℕ) → is_frame rows f ≡ false → length (docs_of rows f) ≡ 0
unfolding is_frame
no-documents rows f h =
    length-docs_of rows f
    ∙ count-flat (in_frame rows f) (length rows) {i = 0} (omega arith) (λ k a l. off _ (λ s. clash (some_in (in_frame rows f) (length rows) l s) h))
    ∙ count-zero (in_frame rows f)

-- A frame has one first row, also of the first n.
pub first_one : (rows : List Row) (f n : ℕ) → So (some_below n (in_frame rows f)) → count (λ i. in_frame rows f i && not (is_step rows i)) n ≡ 1
first_one rows f n s =
    let o = some_out (in_frame rows f) n s in
    let k = least (in_frame rows f) o.0 o.2 in
    let e = eqb-true (frame_at rows k.0) f k.2 in
    let first = off (is_step rows k.0) (λ t. let j = step-out (frame_at rows) k.0 t in k.3 j.0 j.1 (eq-eqb (frame_at rows j.0) f (j.2 ∙ e))) in
    one_in (λ i. in_frame rows f i && not (is_step rows i)) n k.0 (omega arith) (simp and-eq-true_iff (k.2, rw first refl)) (λ i l u.
    let v = simp and-eq-true_iff at u in
    by_order i k.0 (λ m. absurd (k.3 i m v.0)) (λ m. m)
    (λ m. absurd (clash (step_in (frame_at rows) m (e ∙ sym (eqb-true (frame_at rows i) f v.0))) (not-true _ v.1))))

-- A row and a table are their fields.
row_is : (d f p s : ℕ) (r : Row) → d ≡ r.doc → f ≡ r.frame → p ≡ r.parent → s ≡ r.shown → ◌≡◌ {A = Row} (record { doc = d; frame = f; parent = p; shown = s }) r
row_is d f p s r a b c e = rw (a, b, c, e)

pub table_is : (l : List Row) (d f : ℕ) (t : Table) → l ≡ t.rows → d ≡ t.next_doc → f ≡ t.next_frame → ◌≡◌ {A = Table} (record { rows = l; next_doc = d; next_frame = f }) t
table_is l d f t a b c = rw (a, b, c)

module _ {room : ℕ} (t : Table) (sound : SoundTable room t) where
  -- Each row is in one of the frames.
  pub all-documents : sum (documents t) (length (frames t)) ≡ length t.rows
  all-documents =
      sum-rising (λ f. length (docs_of t.rows f)) (is_frame t.rows) t.next_frame (no-documents t.rows)
      ∙ sum_same _ _ t.next_frame (λ f l. length-docs_of t.rows f ∙ count_same _ _ (length t.rows) (λ i m. sym (and-true _)))
      ∙ sum-classes (frame_at t.rows) (λ i. true) (length t.rows) t.next_frame sound.s3.below
      ∙ count-all (λ i. true) (length t.rows) (λ i l. refl)

  -- The j-th frame is one.
  pub frame_is : (j : ℕ) → j < length (frames t) → (frame_no t j < t.next_frame) × So (is_frame t.rows (frame_no t j)) × (count (is_frame t.rows) (frame_no t j) ≡ j)
  frame_is j l =
      let r = gather-from (is_frame t.rows) (λ k. k) t.next_frame j 0 l in
      rw r.4 (r.1, r.2, r.3)

  pub some-documents : (j : ℕ) → j < length (frames t) → 1 ≤ documents t j
  unfolding is_frame
  some-documents j l =
      let k = some_out (in_frame t.rows (frame_no t j)) (length t.rows) (frame_is j l).1 in
      omega (arith, length-docs_of t.rows (frame_no t j), count-in (in_frame t.rows (frame_no t j)) (length t.rows) k.1 k.2)

  -- Every row is a step or the first of its frame.
  pub steps-frames : steps t.rows + length (frames t) ≡ length t.rows
  unfolding steps is_frame
  steps-frames =
      let n = length t.rows in
      let first : ℕ → Bool = λ i. not (is_step t.rows i) in
      let firsts : count first n ≡ length (frames t) =
      sym (sum-classes (frame_at t.rows) first n t.next_frame sound.s3.below)
      ∙ sum_ones (λ f. count (λ i. in_frame t.rows f i && first i) n) (is_frame t.rows) t.next_frame
      (λ f. first_one t.rows f n)
      (λ f o.
      omega (arith, count-le (λ i. in_frame t.rows f i && first i) (in_frame t.rows f) n (λ k l u. (simp and-eq-true_iff at u).0), length-docs_of t.rows f, no-documents t.rows f o))
      ∙ sym (length-gather (is_frame t.rows) (λ k. k) t.next_frame) in
      omega (arith, count-rest (is_step t.rows) n)

  pub frames-few : length (frames t) ≤ length t.rows
  frames-few = omega (arith, sum-least (documents t) (length (frames t)) some-documents, all-documents)

  -- What the bytes tell: how many documents the first j frames have, and all.
  pub told-sum : (m : Form) (j : ℕ) → j ≤ length (frames t) → sum (documents_in (saved_with m.body t)) j ≡ sum (documents t) j
  told-sum m j l = sum_same (documents_in (saved_with m.body t)) (documents t) j (λ k n. read-documents m t k (omega arith))

  pub told-total : (m : Form) → entries_in (saved_with m.body t) ≡ length t.rows
  told-total m = ap (sum (documents_in (saved_with m.body t))) (read_count m t) ∙ told-sum m (length (frames t)) (omega arith) ∙ all-documents

-- Which frame row i is in, which of its documents it has, and which entry of all that is.
module _ (t : Table) (i : ℕ) where
  abbrev pub its : ℕ
  its = frame_at t.rows i

  abbrev pub frame-place : ℕ
  frame-place = count (is_frame t.rows) its

  abbrev pub doc-place : ℕ
  doc-place = count (in_frame t.rows its) i

  abbrev pub entry_of : ℕ
  entry_of = sum (documents t) frame-place + doc-place

module _ {room : ℕ} (t : Table) (sound : SoundTable room t) where
  -- ROW i
  module _ (i : ℕ) (l : i < length t.rows) where
    in-its : So (in_frame t.rows (its t i) i)
    in-its = eq-eqb (its t i) (its t i) refl

    is-frame : So (is_frame t.rows (its t i))
    unfolding is_frame
    is-frame = some_in (in_frame t.rows (its t i)) (length t.rows) l in-its

    pub frame_below : frame-place t i < length (frames t)
    frame_below = omega (arith, length-gather (is_frame t.rows) (λ k. k) t.next_frame, count-in (is_frame t.rows) t.next_frame (sound.s3.below i l) is-frame)

    pub frame-at : frame_no t (frame-place t i) ≡ its t i
    frame-at = gather-at (is_frame t.rows) (λ k. k) t.next_frame 0 (sound.s3.below i l) is-frame

    pub doc-below : doc-place t i < documents t (frame-place t i)
    doc-below =
        omega (arith, ap (λ f. length (docs_of t.rows f)) frame-at, length-docs_of t.rows (its t i), count-in (in_frame t.rows (its t i)) (length t.rows) l in-its)

    -- What is gathered of the rows of its frame.
    pub gathered-at : (f : ℕ → ℕ) → get_or (gather (in_frame t.rows (frame_no t (frame-place t i))) f (length t.rows)) (doc-place t i) 0 ≡ f i
    gathered-at f = ap (λ g. get_or (gather (in_frame t.rows g) f (length t.rows)) (doc-place t i) 0) frame-at ∙ gather-at (in_frame t.rows (its t i)) f (length t.rows) 0 l in-its

    -- "Rows of one frame have one parent."
    parent_is : parent_of t.rows (its t i) ≡ parent_at t.rows i
    parent_is = parent-of t.rows sound.s5.kin i (its t i) l refl

    -- "each frame has exactly one shown row"
    abbrev shows : ℕ → Bool
    shows k = in_frame t.rows (its t i) k && is_shown t.rows k

    pub shown-row : (k : ℕ) × (k < length t.rows) × So (shows k)
    shown-row = (one_out shows (length t.rows) (sound.s6.one i l)).0

    pub shown-place : (k : ℕ) → k < length t.rows → So (shows k) → shown_place t.rows (its t i) ≡ count (in_frame t.rows (its t i)) k
    unfolding shown_place
    shown-place k m s =
        let one = (one_out shows (length t.rows) (sound.s6.one i l)).1 in
        ap (count (in_frame t.rows (its t i))) (latest-is shows (length t.rows) m s (λ a b c d. let e = one a k c m d s in omega arith))

    shown-is : flag (eqb (doc-place t i) (shown_place t.rows (its t i))) ≡ shown_at t.rows i
    shown-is =
        test (is_shown t.rows i)
        (λ s. ap flag (eq-eqb _ _ (sym (shown-place i l (simp and-eq-true_iff (in-its, s))))) ∙ sym (eqb-true _ _ s))
        (λ f.
        let k = shown-row in
        let v = simp and-eq-true_iff at k.2 in
        let other : doc-place t i ≢ shown_place t.rows (its t i) = λ e.
        let c : doc-place t i ≡ count (in_frame t.rows (its t i)) k.0 = e ∙ shown-place k.0 k.1 k.2 in
        let p = count-order (in_frame t.rows (its t i)) i k.0 v.0 (omega arith) in
        let q = count-order (in_frame t.rows (its t i)) k.0 i in-its (omega arith) in
        let r : k.0 ≡ i = omega arith in
        clash (ap (is_shown t.rows) (sym r) ∙ v.1) f in
        let b : shown_at t.rows i ≤ 1 = sound.s6.bit i l in
        let z : shown_at t.rows i ≢ 1 = eqb-false _ _ f in
        let y : 0 ≡ shown_at t.rows i = omega arith in
        ap flag (ne_eqb _ _ other) ∙ y)

  pub frames-some : 1 ≤ length (frames t)
  frames-some = omega (arith, frame_below 0 sound.s1.some)

  -- Entry k of frame j is that of a row.
  pub row_of : (j k : ℕ) → j < length (frames t) → k < documents t j →
      (i : ℕ) × (i < length t.rows) × (frame_at t.rows i ≡ frame_no t j) × (frame-place t i ≡ j) × (doc-place t i ≡ k)
  row_of j k l m =
      let i = nth (in_frame t.rows (frame_no t j)) (length t.rows) k (omega (arith, length-docs_of t.rows (frame_no t j))) in
      let e = eqb-true _ _ i.2 in
      (i.0, i.1, e, ap (count (is_frame t.rows)) e ∙ (frame_is t sound j l).2, ap (λ f. count (in_frame t.rows f) i.0) e ∙ i.3)

  -- The shown one of its documents is one of them.
  pub shown-below : (j : ℕ) → j < length (frames t) → shown_place t.rows (frame_no t j) < documents t j
  shown-below j l =
      let i = row_of j 0 l (some-documents t sound j l) in
      let k = shown-row i.0 i.1 in
      let f = frame_no t j in
      let v = simp and-eq-true_iff at k.2 in
      let e : shown_place t.rows f ≡ count (in_frame t.rows f) k.0 = subst (λ f. shown_place t.rows f ≡ count (in_frame t.rows f) k.0) i.2 (shown-place i.0 i.1 k.0 k.1 k.2) in
      omega (arith, length-docs_of t.rows f, count-in (in_frame t.rows f) (length t.rows) k.1 (eq-eqb _ _ (eqb-true _ _ v.0 ∙ i.2)))

  -- A form that tells a row's document where its entry is tells the row there.
  module _ (m : Form) (width : ℕ) (docs : (i : ℕ) → i < length t.rows → document_at width (saved_with m.body t) (entry_of t i) ≡ doc_at t.rows i) where
    abbrev bytes : List ℕ
    bytes = saved_with m.body t

    -- The entries of the frames before a row's.
    before-is : (i : ℕ) → i < length t.rows → sum (documents_in bytes) (frame-place t i) ≡ sum (documents t) (frame-place t i)
    before-is i l = told-sum t sound m (frame-place t i) (omega (arith, frame_below i l))

    told-row : (i : ℕ) → i < length t.rows → told_row width bytes (frame-place t i) (doc-place t i) ≡ row_at t.rows i
    unfolding told_row
    told-row i l =
        let b = frame_below i l in
        row_is _ _ _ _ (row_at t.rows i)
        (ap (λ n. document_at width bytes (n + doc-place t i)) (before-is i l) ∙ docs i l)
        (read_number m t (frame-place t i) b ∙ frame-at i l)
        (read-parent m t (frame-place t i) b ∙ ap (parent_of t.rows) (frame-at i l) ∙ parent_is i l)
        (ap (λ n. flag (eqb (doc-place t i) n)) (read-shown m t (frame-place t i) b ∙ ap (shown_place t.rows) (frame-at i l)) ∙ shown-is i l)

    -- It is told.
    pub told-to : (i : ℕ) → i < length t.rows → (entry_of t i < entries_in bytes) × (row_at (told_rows width bytes) (entry_of t i) ≡ row_at t.rows i)
    told-to i l =
        let a : frame-place t i < number_at bytes 0 = omega (arith, read_count m t, frame_below i l) in
        let b : doc-place t i < documents_in bytes (frame-place t i) = omega (arith, read-documents m t (frame-place t i) (frame_below i l), doc-below i l) in
        let e = before-is i l in (
          omega (arith, sum-within (documents_in bytes) (number_at bytes 0) a),
          ap (λ n. row_at (told_rows width bytes) (n + doc-place t i)) (sym e) ∙ told_at width bytes (frame-place t i) (doc-place t i) a b ∙ told-row i l,
        )

  -- What is told is a row.
  pub told-from : (m : Form) (e : ℕ) → e < entries_in (saved_with m.body t) → (i : ℕ) × (i < length t.rows) × (entry_of t i ≡ e)
  told-from m e l =
      let r = told-found (saved_with m.body t) e l in
      let a : r.0 < length (frames t) = omega (arith, read_count m t) in
      let q = row_of r.0 r.1 a (omega (arith, read-documents m t r.0 a)) in
      (q.0, q.1, ap₂ (λ j k. sum (documents t) j + k) q.3 q.4 ∙ ap (λ n. n + r.1) (sym (told-sum t sound m r.0 (omega arith))) ∙ sym r.4)
