-- Change rows of a window's traversal are those of the table: "one is written for each frame whose shown document differs between start and end". Assumes nothing.
use Prim.Native.Nat.{ℕ, ◌<◌}
use mathlib.Core.Bool.{Bool, false, ◌&&◌, So, cond, and-eq-true_iff}
use mathlib.Core.List.{List, [], flat_map}
use mathlib.Core.Path.{◌≡◌, refl, sym, ap, ◌∙◌}
use native.Mathlib.Omega.{arith}
use lib.Dec.{eqb}
use lib.IntN.{ℤ, pos, ◌+ℤ◌}
use lib.ListN.{length}
use borrow.Author.Tests.{eqb-true, eqb-false, eq-eqb}
use Rattle.rules.specs.Below.{count}
use Rattle.rules.specs.Rows.{Row, Table, row_at, doc_at, frame_at, is_shown, in_frame, is_frame}
use Rattle.rules.specs.Steps.{position, steps, visible}
use Rattle.rules.specs.Moves.{frames, walked, shown_doc, change_row, changes, reflagged, traversed}
use Rattle.rules.specs.Sound.{S6}
use Rattle.rules.specs.Calls.{outside}
use Rattle.rules.specs.Windows.{root_at, in_window, window_rows, window_of}
use Rattle.laws.proofs.Tests.{test, clash, off, some_in, some_out, one_out, latest-is}
use Rattle.laws.proofs.Flags.{flags-length, flags-frame}
use Rattle.windows.proofs.Roots.{root-flags}
use Rattle.windows.proofs.Window.{WideRows, window-row, window-place, window-came, window-whole, window-sound}
use Rattle.windows.proofs.Parts.{own}
use Rattle.windows.proofs.Flagged.{traversed-here, traversed-there, traversed-sound}
use Rattle.windows.proofs.Outline.{flat-fewer, frames-more}
use Rattle.windows.proofs.Members.{is_member, member-visible}

pub frame_row : (rows : List Row) (f : ℕ) → So (is_frame rows f) → (i : ℕ) × (i < length rows) × (frame_at rows i ≡ f)
unfolding is_frame
frame_row rows f h = let k = some_out (in_frame rows f) (length rows) h in (k.0, k.1, eqb-true _ _ k.2)

is-frame : (rows : List Row) (f i : ℕ) → i < length rows → frame_at rows i ≡ f → So (is_frame rows f)
unfolding is_frame
is-frame rows f i l e = some_in (in_frame rows f) (length rows) l (eq-eqb _ _ e)

-- The shown row of a frame.
module _ (rows : List Row) (s6 : S6 rows) (f : ℕ) where
  abbrev hits : ℕ → Bool
  hits i = in_frame rows f i && is_shown rows i

  shown-row : (i : ℕ) → i < length rows → frame_at rows i ≡ f → (j : ℕ) × (j < length rows) × (frame_at rows j ≡ f) × So (is_shown rows j) × (shown_doc rows f ≡ doc_at rows j)
  unfolding shown_doc
  shown-row i l e =
      let o = one_out _ (length rows) (s6.one i l) in
      let k = o.0 in
      let v = simp and-eq-true_iff at k.2 in
      let g = eqb-true _ _ v.0 ∙ e in (
        k.0,
        k.1,
        g,
        v.1,
        ap (doc_at rows) (latest-is hits (length rows) k.1 (simp and-eq-true_iff (eq-eqb _ _ g, v.1)) (λ m a b h.
            let w = simp and-eq-true_iff at h in
            let q = o.1 m k.0 b k.1 (simp and-eq-true_iff (eq-eqb _ _ (eqb-true _ _ w.0 ∙ sym e), w.1)) k.2 in
            omega arith)),
      )

-- A frame shows the same document in its window.
module _ (rows : List Row) {a b : ℕ} (s : WideRows rows a b) (r f i : ℕ) (l : i < length rows) (e : frame_at rows i ≡ f) (t : So (in_window r rows i)) where
  pub shown-here : (shown_doc (window_rows r rows) f ≡ shown_doc rows f) × (visible (window_rows r rows) (shown_doc rows f) ≡ visible rows (shown_doc rows f))
  shown-here =
      let own-rows = window_rows r rows in
      let j = shown-row rows s.s6 f i l e in
      let w = window-whole rows s.tree r j.0 i j.1 l (j.2 ∙ sym e) t in
      let p = window-place rows r j.0 j.1 w in
      let x = window-row rows r j.0 j.1 w in
      let k = shown-row own-rows (window-sound rows s r).s6 f (count (in_window r rows) j.0) p (ap (λ y. y.frame) x ∙ j.2) in
      let c = window-came rows s.tree r k.0 k.1 in
      let sh : So (is_shown rows c.0) = ap (λ y. eqb y.shown 1) (sym (ap (λ i. row_at own-rows i) (sym c.3) ∙ window-row rows r c.0 c.1 c.2)) ∙ k.3 in
      let q = only c.0 j.0 c.1 j.1 (sym c.4.f ∙ k.2) j.2 sh j.3 in (
        k.4 ∙ c.4.d ∙ ap (doc_at rows) q ∙ sym j.4,
        ap (λ d. visible own-rows d) j.4 ∙ member-visible rows s.tree r (doc_at rows j.0) (is_member rows s.tree r (doc_at rows j.0) j.0 j.1 refl w)
            ∙ ap (λ d. visible rows d) (sym j.4),
      )
    where
      only : (m n : ℕ) → m < length rows → n < length rows → frame_at rows m ≡ f → frame_at rows n ≡ f → So (is_shown rows m) → So (is_shown rows n) → m ≡ n
      only m n x y p q u v =
          (one_out _ (length rows) (s.s6.one m x)).1 m n x y (simp and-eq-true_iff (eq-eqb (frame_at rows m) _ refl, u)) (simp and-eq-true_iff (eq-eqb _ _ (q ∙ sym p), v))

module _ (t : Table) (s : WideRows t.rows t.next_doc t.next_frame) (r : ℕ) (δ : ℤ)
    (h : outside (steps (window_rows r t.rows)) (pos (position (window_rows r t.rows)) +ℤ δ) ≡ false) where
  abbrev rows : List Row
  rows = t.rows

  abbrev after : List Row
  after = (traversed t r δ).rows

  abbrev own-rows : List Row
  own-rows = window_rows r rows

  -- A row is where it was, in its frame and its window.
  after-row : (i : ℕ) → i < length rows → (i < length after) × (frame_at after i ≡ frame_at rows i) × (root_at after i ≡ root_at rows i)
  unfolding traversed reflagged
  after-row i l = (rw flags-length l, ap (λ g. g i) (flags-frame _ rows), root-flags rows s.tree _ i l)

  after-sound : WideRows after t.next_doc t.next_frame
  after-sound = traversed-sound t s r δ h

  module _ (f i : ℕ) (l : i < length rows) (e : frame_at rows i ≡ f) where
    -- In the window: the same row.
    here : So (in_window r rows i) → change_row own-rows (walked δ own-rows) f ≡ change_row rows after f
    unfolding change_row
    here w =
        let z = after-row i l in
        let x = shown-here rows s r f i l e w in
        let y = shown-here after after-sound r f i z.0 (z.1 ∙ e) (ap (λ k. eqb k r) z.2 ∙ w) in
        ap (λ a. change_row own-rows a f) (sym (traversed-here t s r δ h))
        ∙ rw (x.0, y.0, y.1) refl

    -- In another: none.
    there : in_window r rows i ≡ false → change_row rows after f ≡ []
    unfolding change_row
    there o =
        let z = after-row i l in
        let v = root_at rows i in
        let x = shown-here rows s v f i l e (own rows s.tree i) in
        let y = shown-here after after-sound v f i z.0 (z.1 ∙ e) (eq-eqb _ _ z.2) in
        let g : shown_doc rows f ≡ shown_doc after f =
        sym x.0 ∙ ap (λ a. shown_doc a f) (sym (traversed-there t s r δ h v (λ q. eqb-false _ _ o q))) ∙ y.0 in
        rw (eq-eqb (shown_doc rows f) (shown_doc after f) g) refl

  -- CHANGE ROWS OF A WINDOW'S TRAVERSAL ARE THOSE OF THE TABLE.
  pub window-changes : changes (window_of t r) δ ≡ flat_map (change_row rows after) (frames t)
  unfolding changes
  window-changes =
      flat-fewer (change_row own-rows (walked δ own-rows)) (change_row rows after) (is_frame own-rows) (is_frame rows) t.next_frame (λ f l. each f)
    where
      framed : (f i : ℕ) → i < length rows → frame_at rows i ≡ f → So (in_window r rows i) → So (is_frame own-rows f)
      framed f i l e w = is-frame own-rows f (count (in_window r rows) i) (window-place rows r i l w) (ap (λ x. x.frame) (window-row rows r i l w) ∙ e)

      each : (f : ℕ) → cond (is_frame own-rows f) (change_row own-rows (walked δ own-rows) f) [] ≡ cond (is_frame rows f) (change_row rows after f) []
      each f =
          test (is_frame rows f)
          (λ y.
          let k = frame_row rows f y in
          test (in_window r rows k.0)
          (λ w. rw (y, framed f k.0 k.1 k.2 w) (here f k.0 k.1 k.2 w))
          (λ o.
          let no : is_frame own-rows f ≡ false = off (is_frame own-rows f) (λ x.
          let m = frame_row own-rows f x in
          let c = window-came rows s.tree r m.0 m.1 in
          clash (window-whole rows s.tree r k.0 c.0 k.1 c.1 (k.2 ∙ sym m.2 ∙ c.4.f) c.2) o) in
          rw (y, no) (sym (there f k.0 k.1 k.2 o))))
          (λ n.
          let no : is_frame own-rows f ≡ false = off (is_frame own-rows f) (λ x. clash (frames-more t s.tree r f x) n) in
          rw (n, no) refl)
