-- What is written of a part of the record, frame after frame. Assumes nothing.
use Prim.Native.Nat.{ℕ, zero, suc, ◌+◌, ◌-◌, ◌≤◌, ◌<◌}
use mathlib.Core.Bool.{Bool, false, ◌&&◌, So, and-eq-true_iff}
use mathlib.Core.List.{List, [], ◌∷◌, ◌++◌, append-nil, flat_map}
use mathlib.Core.Logic.{⊎_elim}
use mathlib.Core.Path.{◌≡◌, refl, sym, ap, ◌∙◌}
use native.Mathlib.Nat.{eq-or-lt_of_le, not-suc-le-zero}
use native.Mathlib.Numerals.{add-one}
use native.Mathlib.Omega.{arith}
use lib.Dec.{eqb}
use lib.ListN.{length, drop, length-append, length-drop}
use lib.Seq.{get_or-drop, drop-drop}
use borrow.Author.Tests.{eqb-true, eq-eqb}
use Rattle.rules.specs.Below.{gather, rising}
use Rattle.rules.specs.Rows.{Row, Table, no_row, row_at, doc_at, frame_at, in_frame, is_frame}
use Rattle.rules.specs.Moves.{frames}
use Rattle.rules.specs.Words.{put}
use Rattle.rules.specs.Asks.{outline_frame, outline_of}
use Rattle.laws.proofs.Tests.{test, off, clash, some_in}
use Rattle.laws.proofs.Pieces.{flat_append}
use Rattle.laws.specs.Outlines.{frames_below, frames_text, document_text}
use Rattle.laws.specs.Outlines.{under, NoneIn, Best}

-- ONE FRAME

-- Row i is the shown one of frame f of document d.
abbrev pub hit : List Row → ℕ → ℕ → ℕ → Bool
hit rows d f i = under rows d i && eqb (frame_at rows i) f

module _ (fs : List ℕ) where
  -- The first such row is written.
  frame-first : (rows : List Row) (depth d f j : ℕ) → j < length rows → So (hit rows d f j) → ((i : ℕ) → i < j → hit rows d f i ≡ false) →
      outline_frame fs rows depth d f ≡ depth ∷ doc_at rows j ∷ flat_map (outline_frame fs (drop (suc j) rows) (suc depth) (doc_at rows j)) fs
  unfolding outline_frame
  frame-first [] depth d f j l y n = absurd (not-suc-le-zero l)
  frame-first (r ∷ rows) depth d f zero l y n = rw y refl
  frame-first (r ∷ rows) depth d f (suc j) l y n =
      rw (n 0 (omega arith)) (frame-first rows depth d f j (omega arith) y (λ i m. n (suc i) (omega arith)))

  pub frame-none : (rows : List Row) (depth d f : ℕ) → ((i : ℕ) → i < length rows → hit rows d f i ≡ false) → outline_frame fs rows depth d f ≡ []
  unfolding outline_frame
  frame-none [] depth d f n = refl
  frame-none (r ∷ rows) depth d f n = rw (n 0 (omega arith)) (frame-none rows depth d f (λ i l. n (suc i) (omega arith)))

-- FRAMES ONE AFTER THE OTHER

module _ (t : Table) (s depth d : ℕ) where
  -- The rows from place s on.
  abbrev part : List Row
  part = drop s t.rows

  -- A row of the part is a row of the record.
  part-row : (i : ℕ) → row_at part i ≡ row_at t.rows (s + i)
  part-row i = get_or-drop s t.rows i no_row

  part-hit : (i f : ℕ) → hit part d f i ≡ hit t.rows d f (s + i)
  part-hit i f = ap (λ r. eqb r.shown 1 && eqb r.parent d && eqb r.frame f) (part-row i)

  part_length : (i : ℕ) → i < length part → s + i < length t.rows
  part_length i l = omega (arith, length-drop s t.rows)

  -- What is written of one frame of the document.
  abbrev pub frame_text : ℕ → List ℕ
  frame_text f = outline_frame (frames t) part depth d f

  pub text-none : (f : ℕ) → ((j : ℕ) → s ≤ j → j < length t.rows → hit t.rows d f j ≡ false) → frame_text f ≡ []
  text-none f h = frame-none (frames t) part depth d f (λ i l. part-hit i f ∙ h (s + i) (omega arith) (part_length i l))

  -- A number that is no frame's.
  lost : (f : ℕ) → is_frame t.rows f ≡ false → frame_text f ≡ []
  unfolding is_frame
  lost f n =
      text-none f (λ j a b. off (hit t.rows d f j) (λ h.
      let u = simp and-eq-true_iff at h in
      clash (some_in (in_frame t.rows f) (length t.rows) b u.1) n))

  pub below-zero : frames_below t s depth d 0 ≡ []
  unfolding frames_below gather flat_map
  below-zero = refl

  pub below_suc : (f : ℕ) → frames_below t s depth d (suc f) ≡ frames_below t s depth d f ++ frame_text f
  unfolding frames_below gather flat_map
  below_suc f =
      test (is_frame t.rows f)
      (λ y. rw y (flat_append frame_text (rising (is_frame t.rows) f) (f ∷ []) ∙ rw append-nil refl))
      (λ n. rw n (sym (ap (λ l. flat_map frame_text (rising (is_frame t.rows) f) ++ l) (lost f n) ∙ append-nil _)))

  -- Frames that are not written.
  pub below-skip : (f g : ℕ) → f ≤ g → ((h : ℕ) → f ≤ h → h < g → frame_text h ≡ []) → frames_below t s depth d g ≡ frames_below t s depth d f
  below-skip f zero l n = let e : f ≡ zero = omega arith in rw e refl
  below-skip f (suc g) l n =
      ⊎_elim
      (λ e. rw e refl)
      (λ m. below_suc g ∙ rw (n g (omega arith) (omega arith), append-nil) (below-skip f g (omega arith) (λ h a b. n h a (omega arith))))
      (eq-or-lt_of_le l)

  below-mono : (f g : ℕ) → f ≤ g → length (frames_below t s depth d f) ≤ length (frames_below t s depth d g)
  below-mono f zero l = let e : f ≡ zero = omega arith in rw e (omega arith)
  below-mono f (suc g) l =
      ⊎_elim
      (λ e. rw e (omega arith))
      (λ m. omega (arith, below-mono f g (omega arith), ap length (below_suc g), length-append (frames_below t s depth d g) (frame_text g)))
      (eq-or-lt_of_le l)

  -- WHAT THE SCAN FINDS

  hit-no : (e lo hi : ℕ) → NoneIn t.rows s e d lo hi → (j f : ℕ) → s ≤ j → j < e → lo ≤ f → f < hi → hit t.rows d f j ≡ false
  hit-no e lo hi none j f l m a b =
      off (hit t.rows d f j) (λ h.
      let u = simp and-eq-true_iff at h in
      let z : frame_at t.rows j ≡ f = eqb-true _ _ u.1 in
      none j l m (simp and-eq-true_iff u.0) (omega arith) (omega arith))

  skipped : (lo hi : ℕ) → NoneIn t.rows s (length t.rows) d lo hi → (f : ℕ) → lo ≤ f → f < hi → frame_text f ≡ []
  skipped lo hi none f a b = text-none f (λ j l m. hit-no (length t.rows) lo hi none j f l m a b)

  -- Where there is none, all is written.
  pub run_end : (least : ℕ) → least ≤ t.next_frame → NoneIn t.rows s (length t.rows) d least t.next_frame → frames_text t s depth d ≡ frames_below t s depth d least
  run_end least l none = below-skip least t.next_frame l (skipped least t.next_frame none)

  -- Where there is one, it is the next to be written.
  found-text : (least q : ℕ) → Best t.rows s (length t.rows) d least t.next_frame q → frame_text (frame_at t.rows q) ≡ document_text t q depth
  unfolding document_text frames_below
  found-text least q b =
      let f = frame_at t.rows q in
      let a = b.after in
      let i = q - s in
      let e : s + i ≡ q = omega arith in
      let y : So (hit t.rows d f q) = simp and-eq-true_iff (simp and-eq-true_iff at b.child, eq-eqb f f refl) in
      let doc : doc_at part i ≡ doc_at t.rows q = ap (λ r. r.doc) (part-row i) ∙ ap (doc_at t.rows) e in
      let k : s + suc i ≡ suc q = omega arith in
      let rest : drop (suc i) part ≡ drop (suc q) t.rows = drop-drop (suc i) s t.rows ∙ ap (λ k. drop k t.rows) k in
      frame-first (frames t) part depth d f i (omega (arith, length-drop s t.rows, b.inside)) (part-hit i f ∙ ap (hit t.rows d f) e ∙ y)
      (λ j l. part-hit j f ∙ hit-no q least (suc f) b.first (s + j) f (omega arith) (omega arith) b.from_on (omega arith))
      ∙ rw (doc, rest) refl

  pub run_at : (least q : ℕ) → Best t.rows s (length t.rows) d least t.next_frame q →
      frames_below t s depth d (frame_at t.rows q + 1) ≡ frames_below t s depth d least ++ document_text t q depth
  run_at least q b =
      let f = frame_at t.rows q in
      ap (frames_below t s depth d) (add-one f) ∙ below_suc f
      ∙ rw (below-skip least f b.from_on (skipped least f b.lowest), found-text least q b) refl

  -- A run with one document more fits where the whole does.
  pub run_room : (least q : ℕ) → Best t.rows s (length t.rows) d least t.next_frame q →
      length (frames_below t s depth d least) + length (document_text t q depth) ≤ length (frames_text t s depth d)
  run_room least q b =
      let m = b.limited in
      omega (
        arith,
        below-mono (frame_at t.rows q + 1) t.next_frame (omega arith),
        ap length (run_at least q b),
        length-append (frames_below t s depth d least) (document_text t q depth),
      )

  pub run-start : (a : List ℕ) (k : ℕ) → (a ≡ put a k (frames_below t s depth d 0)) × (k ≡ k + length (frames_below t s depth d 0))
  unfolding put
  run-start a k = rw below-zero (refl, omega arith)

-- A document's text as the code writes it.
pub document-code : (t : Table) (p depth d : ℕ) → d ≡ doc_at t.rows p → document_text t p depth ≡ depth ∷ d ∷ frames_text t (p + 1) (depth + 1) d
unfolding document_text
document-code t p depth d e = rw (e, add-one p, add-one depth) refl

-- The whole.
pub outline-code : (t : Table) (none : ℕ) → none ≡ 4294967295 → frames_text t 0 0 none ≡ outline_of t
unfolding frames_below outline_of
outline-code t none e = rw e refl
