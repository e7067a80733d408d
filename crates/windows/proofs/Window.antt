-- A window's rows are a record by themselves: sound where the table is, with the table's own steps. Assumes nothing.
use Prim.Native.Nat.{ℕ, ◌<◌, ◌≤◌}
use mathlib.Core.Path.{◌≡◌, refl, sym, ap, ap₂, ◌∙◌, subst}
use mathlib.Core.List.{List}
use mathlib.Core.Bool.{not, ◌&&◌, So}
use native.Mathlib.Omega.{arith}
use lib.Dec.{eqb}
use lib.ListN.{length}
use borrow.Author.Tests.{eqb-true, eq-eqb}
use Rattle.rules.specs.Below.{count}
use Rattle.rules.specs.Rows.{Row, Table, none, row_at, doc_at, frame_at, parent_at, is_shown, in_frame}
use Rattle.rules.specs.Steps.{is_step, reached, taken, upcoming, position, steps}
use Rattle.rules.specs.Sound.{S6, S7, SoundTable}
use Rattle.rules.specs.Windows.{root_at, in_window, window_rows}
use Rattle.laws.specs.Alone.{InOrder}
use Rattle.laws.proofs.Tests.{by-lt, count-in, count-mono, count-all}
use Rattle.laws.proofs.Kept.{count_kept, step_kept, kept, kept-length, kept_row, kept-frames}
use Rattle.laws.proofs.Tree.{TreeOf, OneRoot, Alike, alike, tree-kept, came, tree_of}
use Rattle.laws.proofs.Removal.{SoundRows}
use Rattle.windows.proofs.Roots.{root-top, root-up, root-frame, root-one, root-along}
use Rattle.windows.proofs.Wholes.{kept-all, kept-one, reach-kept}

-- What S2 to S7 say of the rows of several windows.
pub record WideRows (rows : List Row) (next_doc next_frame : ℕ) : Type 0 where
  pub tree : TreeOf rows next_doc next_frame
  pub s6 : S6 rows
  pub s7 : S7 rows

pub wide_rows : {room : ℕ} {t : Table} → SoundTable room t → t.next_doc ≤ none → WideRows t.rows t.next_doc t.next_frame
wide_rows s w = record { tree = tree_of s w; s6 = s.s6; s7 = s.s7 }

pub window-is : (r : ℕ) (rows : List Row) → window_rows r rows ≡ kept (in_window r rows) rows
unfolding window_rows
window-is r rows = refl

module _ (rows : List Row) (r : ℕ) where
  pub window-length : length (window_rows r rows) ≡ count (in_window r rows) (length rows)
  unfolding window_rows
  window-length = kept-length (in_window r rows) rows

  pub window-row : (k : ℕ) → k < length rows → So (in_window r rows k) → row_at (window_rows r rows) (count (in_window r rows) k) ≡ row_at rows k
  unfolding window_rows
  window-row = kept_row (in_window r rows) rows

  -- It is of the same frame.
  pub window-frame : (f k : ℕ) → k < length rows → So (in_window r rows k) → in_frame (window_rows r rows) f (count (in_window r rows) k) ≡ in_frame rows f k
  window-frame f k l t = ap (λ x. eqb x.frame f) (window-row k l t)

  -- The place that a row comes to in its window.
  pub window-place : (k : ℕ) → k < length rows → So (in_window r rows k) → count (in_window r rows) k < length (window_rows r rows)
  window-place k l t = rw window-length (count-in (in_window r rows) (length rows) l t)

module _ (rows : List Row) {a b : ℕ} (tree : TreeOf rows a b) (r : ℕ) where
  pub window-up : (j k : ℕ) → j < k → k < length rows → doc_at rows j ≡ parent_at rows k → So (in_window r rows k) → So (in_window r rows j)
  window-up j k l m e t = rw (root-up rows tree j k l m e) at t

  pub window-whole : (j k : ℕ) → j < length rows → k < length rows → frame_at rows j ≡ frame_at rows k → So (in_window r rows k) → So (in_window r rows j)
  window-whole j k l m e t = rw (root-frame rows tree j k l m e) t

  pub window-tree : TreeOf (window_rows r rows) a b
  unfolding window_rows
  window-tree = tree-kept (in_window r rows) rows tree window-up

  -- A row of the window, and where it came from.
  pub window-came : (i : ℕ) → i < length (window_rows r rows) →
      (k : ℕ) × (k < length rows) × So (in_window r rows k) × (count (in_window r rows) k ≡ i) × Alike (window_rows r rows) i rows k
  unfolding window_rows
  window-came = came (in_window r rows) rows tree window-up

  -- Its rows without a parent are of frame r.
  pub window-root : (i : ℕ) → i < length (window_rows r rows) → parent_at (window_rows r rows) i ≡ none → frame_at (window_rows r rows) i ≡ r
  window-root i l e = let k = window-came i l in k.4.f ∙ sym (root-top rows k.0 (sym k.4.p ∙ e)) ∙ eqb-true _ _ k.2

  pub window-one-root : OneRoot (window_rows r rows)
  window-one-root i j l m e f = window-root i l e ∙ sym (window-root j m f)

  -- All its rows are of window r, taken by themselves.
  pub window-window : (i : ℕ) → i < length (window_rows r rows) → So (in_window r (window_rows r rows) i)
  unfolding window_rows
  window-window i l =
      let k = came (in_window r rows) rows tree window-up i l in
      subst (λ j. So (in_window r (kept (in_window r rows) rows) j)) k.3
      (ap (λ x. eqb x r) (root-along rows tree (kept (in_window r rows) rows) (in_window r rows) (λ k l t. alike (kept_row (in_window r rows) rows k l t)) window-up k.0 k.1 k.2) ∙ k.2)

  -- A row is a step, and is reached, in the window as in the table.
  module _ (k : ℕ) (l : k < length rows) (t : So (in_window r rows k)) where
    pub window-step : is_step (window_rows r rows) (count (in_window r rows) k) ≡ is_step rows k
    unfolding window_rows
    window-step = step_kept (length rows) _ _ (in_window r rows) (kept-frames (in_window r rows) rows) (λ j k m n e f. window-whole j k (omega arith) n e) k l t

    pub window-shown : is_shown (window_rows r rows) (count (in_window r rows) k) ≡ is_shown rows k
    window-shown = ap (λ x. eqb x.shown 1) (window-row rows r k l t)

    pub window-reached : reached (window_rows r rows) (count (in_window r rows) k) ≡ reached rows k
    unfolding window_rows
    window-reached =
        rw kept-length (reach-kept (length rows) _ _ (in_window r rows) (is_shown rows) _ (kept-frames (in_window r rows) rows)
        (λ k l t. ap (λ x. eqb x.shown 1) (kept_row (in_window r rows) rows k l t)) (λ j k m n e s. window-whole j k m n e) k l t)

    pub window-upcoming : upcoming (window_rows r rows) (count (in_window r rows) k) ≡ upcoming rows k
    window-upcoming = ap₂ (λ x y. x && not y) window-step window-reached

    pub window-taken : taken (window_rows r rows) (count (in_window r rows) k) ≡ taken rows k
    window-taken = ap₂ ◌&&◌ window-step window-reached

  -- So position and steps can be counted in the table.
  pub window-position : position (window_rows r rows) ≡ count (λ k. in_window r rows k && taken rows k) (length rows)
  unfolding position
  window-position = ap (count (taken (window_rows r rows))) (window-length rows r) ∙ count_kept (in_window r rows) (taken rows) _ (length rows) window-taken

  pub window-steps : steps (window_rows r rows) ≡ count (λ k. in_window r rows k && is_step rows k) (length rows)
  unfolding steps
  window-steps = ap (count (is_step (window_rows r rows))) (window-length rows r) ∙ count_kept (in_window r rows) (is_step rows) _ (length rows) window-step

-- S7 PER WINDOW

-- S7 of each window's rows is S7 within each window.
pub windows-order : (rows : List Row) {a b : ℕ} → TreeOf rows a b → S7 rows → (r : ℕ) → InOrder (window_rows r rows)
windows-order rows tree s7 r =
    record {
      later = λ i j l m u s t.
          let x = window-came rows tree r i l in
          let y = window-came rows tree r j m in
          let u' = subst (λ i. So (upcoming (window_rows r rows) i)) (sym x.3) u in
          let s' = subst (λ j. So (is_step (window_rows r rows) j)) (sym y.3) s in
          let t' = subst (λ j. So (is_shown (window_rows r rows) j)) (sym y.3) t in
          let o = s7.later x.0 y.0 x.1 y.1 (eqb-true _ _ x.2 ∙ sym (eqb-true _ _ y.2))
          (sym (window-upcoming rows tree r x.0 x.1 x.2) ∙ u') (sym (window-step rows tree r y.0 y.1 y.2) ∙ s') (sym (window-shown rows tree r y.0 y.1 y.2) ∙ t') in
          omega (arith, count-in (in_window r rows) x.0 o y.2, x.3, y.3);
    }

pub windows-S7 : (rows : List Row) {a b : ℕ} → TreeOf rows a b → ((r : ℕ) → InOrder (window_rows r rows)) → S7 rows
windows-S7 rows tree each =
    record {
      later = λ i j l m e u s t.
          let r = root_at rows i in
          let x : So (in_window r rows i) = eq-eqb (root_at rows i) _ refl in
          let y : So (in_window r rows j) = eq-eqb (root_at rows j) _ (sym e) in
          let o = (each r).later (count (in_window r rows) i) (count (in_window r rows) j) (window-place rows r i l x) (window-place rows r j m y)
          (window-upcoming rows tree r i l x ∙ u) (window-step rows tree r j m y ∙ s) (window-shown rows tree r j m y ∙ t) in
          by-lt j i (λ o. o) (λ n. absurd (omega (arith, count-mono (in_window r rows) j n)));
    }

-- A WINDOW OF A SOUND TABLE IS A SOUND RECORD OF ONE WINDOW.
module _ (rows : List Row) {a b : ℕ} (s : WideRows rows a b) where
  pub window-sound : (r : ℕ) → SoundRows (window_rows r rows) a b
  unfolding window_rows
  window-sound r =
      record {
        tree = window-tree rows s.tree r;
        root = window-one-root rows s.tree r;
        s6 = kept-one (in_window r rows) rows s.s6 (λ j k l m e h. window-whole rows s.tree r j k l m e);
        s7 = windows-order rows s.tree s.s7 r;
      }

-- Where all rows are of one window, its rows are all.
pub window-every : (rows : List Row) (r : ℕ) → ((k : ℕ) → k < length rows → So (in_window r rows k)) → window_rows r rows ≡ rows
window-every rows r all = window-is r rows ∙ kept-all (in_window r rows) rows (λ k m. count-all _ k (λ j n. all j (omega arith))) (count-all _ (length rows) all)

-- WITH ONE ROOT FRAME THE WINDOW IS THE TABLE, and the wider soundness is the narrow one.
module _ (rows : List Row) {a b : ℕ} (tree : TreeOf rows a b) (one : OneRoot rows) where
  pub window-all : (r i : ℕ) → i < length rows → So (in_window r rows i) → window_rows r rows ≡ rows
  window-all r i l t = window-every rows r (λ k m. rw (root-one rows tree one k i m l) t)

  pub narrow-S7 : S7 rows → InOrder rows
  narrow-S7 s7 = record { later = λ i j l m. s7.later i j l m (root-one rows tree one i j l m) }

pub wide-S7 : (rows : List Row) → InOrder rows → S7 rows
wide-S7 rows s7 = record { later = λ i j l m e. s7.later i j l m }

pub narrow-sound : (rows : List Row) {a b : ℕ} → WideRows rows a b → OneRoot rows → SoundRows rows a b
narrow-sound rows s one = record { tree = s.tree; root = one; s6 = s.s6; s7 = narrow-S7 rows s.tree one s.s7 }
