-- Readings that look right are false, each on a record that is computed. Assumes nothing.
use Prim.Native.Nat.{ℕ, ◌-◌, ◌≤◌, ◌<◌}
use mathlib.Core.Bool.{Bool, So, true, false, not, ◌&&◌, ◌||◌, false≢true, and-eq-true_iff}
use mathlib.Core.List.{List, [], ◌∷◌, ◌++◌, flat_map}
use mathlib.Core.Logic.{inr}
use mathlib.Core.Path.{◌≡◌, refl, ap, subst, sym, ◌∙◌}
use native.Mathlib.Omega.{arith}
use lib.Dec.{eqb, leb}
use lib.IntN.{pos, negsuc, ◌+ℤ◌}
use lib.ListN.{length, get_or, replicate, get_or-eq_default}
use borrow.Author.Tests.{eqb-true, eq-eqb, leb-true, le-leb, le-ltb, not-true}
use Rattle.rules.specs.Below.{some_below, all_below, count, earliest, latest, tab, gather}
use Rattle.rules.specs.Rows.{Row, Table, none, doc_at, frame_at, is_shown, in_record, place, is_frame, with_flags, climb}
use Rattle.rules.specs.Steps.{step, reach, taken, position, steps, climb_of, hider_of, visible}
use Rattle.rules.specs.Windows.{root_at, window_rows, is_root}
use Rattle.rules.specs.Moves.{gone, without, hide, navigated, renamed, replaced, show, forward, back_target, row_before, back, walked, reflagged, traversed, shown_doc, change_row, changes}
use Rattle.rules.specs.Words.{put, table_of, rows_of, words_of, written}
use Rattle.rules.specs.Sound.{sound_table?, sound?, Sound}
use Rattle.rules.specs.Saved.{parent_of}
use Rattle.rules.specs.Calls.{outside, refusals, accepted, ladder, outcome}
use Rattle.rules.specs.Runs.{Move, run}
use Rattle.laws.proofs.Tests.{clash, or_left, or_right, by-lt, all-out}
use Rattle.laws.proofs.Reflect.{sound-is, sound-table-is}
use Rattle.laws.proofs.Central.{position-steps}
use Rattle.laws.proofs.Tree.{tree_of}
use Rattle.windows.proofs.Window.{wide_rows, window-sound}
use Rattle.demands.specs.Record.{Words32}
use Rattle.demands.specs.Model.{Future, Backward}
use Rattle.demands.specs.Follows.{of_rows}
use Rattle.demands.specs.Note.{NoneBelow, TakenStay, NoneReplaced}
use Rattle.demands.specs.Readings.{BackRestoresShown, OwnFutureEnough, VisibleFuturesEnough, BackIs, ToLatestPast, FromLatestOfAll, ToFirst, AnyDrop, AnyReplacement, GoneAsNoted}
use Rattle.demands.proofs.Histories.{same_refl}
use Rattle.demands.proofs.Traverses.{walk-model}
use Rattle.demands.proofs.Active.{visible-active}

abbrev row : ℕ → ℕ → ℕ → ℕ → Row
row d f p s = record { doc = d; frame = f; parent = p; shown = s }

-- P10's record: document 2 is the root's upcoming step, and document 3 beneath it is shown.
abbrev ten : List ℕ
ten =
    written (replicate 35 0) (record { rows = row 0 0 none 1 ∷ row 1 1 0 1 ∷ row 2 0 none 0 ∷ row 3 2 2 1 ∷ []; next_doc = 4; next_frame = 3 })

-- All words are tried.
wide_by : (words : List ℕ) → So (all_below (length words) (λ k. leb (get_or words k 0) none)) → Words32 words
wide_by words small k =
    by-lt k (length words)
    (λ l. leb-true _ _ (all-out (λ k. leb (get_or words k 0) none) (length words) small k l))
    (λ l. subst (λ v. v ≤ none) (sym (get_or-eq_default words 0 l)) (omega arith))

ten-wide : Words32 ten
unfolding written words_of put all_below flat_map
ten-wide = wide_by ten refl

ten-sound : Sound ten
unfolding root_at some_below all_below count earliest latest tab gather step reach put table_of words_of written sound_table? sound? flat_map
ten-sound = (sound-is ten).0 refl

-- "P11 shows a shown document deleted": navigating from 1 removes 2 and with it 3, and -1 does not bring 3 back.
pub back-does-not-restore : BackRestoresShown → ⊥
unfolding root_at window_rows is_root some_below all_below count earliest latest tab gather in_record place is_frame with_flags climb step reach position steps climb_of hider_of visible
    gone without hide navigated show back_target row_before back walked reflagged traversed shown_doc change_row changes
    put table_of words_of written sound_table? sound? refusals accepted ladder outcome flat_map
back-does-not-restore claim =
    let e : ◌≡◌ {A = List ℕ} (0 ∷ 1 ∷ []) (0 ∷ 1 ∷ 3 ∷ []) = claim ten 1 (replicate 4 0) ten-wide ten-sound (4 ∷ [], refl) (1 ∷ [], refl) in
    omega (arith, ap length e)

-- 001, counterexample 5: document 3 is upcoming in the frame of 1, and navigating from 2 shows the later document 4.
abbrev five : Table
five = record { rows = row 0 0 none 1 ∷ row 1 1 0 1 ∷ row 2 2 0 1 ∷ row 3 1 0 0 ∷ []; next_doc = 4; next_frame = 3 }

pub own-future-not-enough : OwnFutureEnough → ⊥
unfolding root_at some_below all_below count earliest latest tab gather in_record place with_flags climb step reach climb_of hider_of visible gone without hide sound_table?
own-future-not-enough claim =
    let s7 = claim 8 five 2 ((sound-table-is 8 five).0 refl) refl in
    omega (arith, s7.later 3 4 (omega arith) (omega arith) refl refl refl refl)

-- DEMAND 3

is_navigation : Move → Bool
is_navigation (Move.opens p) = false
is_navigation (Move.navigates d) = true
is_navigation (Move.goes r δ room) = false
is_navigation (Move.drops f) = false
is_navigation (Move.replaces d) = false
is_navigation Move.tabs = false

is_drop : Move → Bool
is_drop (Move.opens p) = false
is_drop (Move.navigates d) = false
is_drop (Move.goes r δ room) = false
is_drop (Move.drops f) = true
is_drop (Move.replaces d) = false
is_drop Move.tabs = false

is_replacement : Move → Bool
is_replacement (Move.opens p) = false
is_replacement (Move.navigates d) = false
is_replacement (Move.goes r δ room) = false
is_replacement (Move.drops f) = false
is_replacement (Move.replaces d) = true
is_replacement Move.tabs = false

some_move : (Move → Bool) → List Move → Bool
some_move p [] = false
some_move p (m ∷ moves) = p m || some_move p moves

-- A move that passes is not among moves of which none does.
not-among : (p : Move → Bool) (moves : List Move) → some_move p moves ≡ false → (before rest : List Move) (m : Move) → So (p m) → moves ≡ before ++ m ∷ rest → ⊥
unfolding some_move
not-among p moves none before rest m t e = clash (found before) (ap (some_move p) (sym e) ∙ none)
  where
    found : (before : List Move) → So (some_move p (before ++ m ∷ rest))
    found [] = or_left (some_move p rest) t
    found (k ∷ before) = or_right (p k) (found before)

-- Moves without a navigation have none from a lower position; without a drop none removes a taken step; without a replacement none is of a noted document.
none_below : (words : List ℕ) (r : ℕ) (moves : List Move) → some_move is_navigation moves ≡ false → NoneBelow words r moves
unfolding is_navigation
none_below words r moves none before rest d e a own = absurd (not-among is_navigation moves none before rest (Move.navigates d) refl e)

taken-stay : (words : List ℕ) (r : ℕ) (moves : List Move) → some_move is_drop moves ≡ false → TakenStay words r moves
unfolding is_drop
taken-stay words r moves none before rest f d e h t = not-among is_drop moves none before rest (Move.drops f) refl e

none-replaced : (words : List ℕ) (r : ℕ) (moves : List Move) → some_move is_replacement moves ≡ false → NoneReplaced words r moves
unfolding is_replacement
none-replaced words r moves none before rest d e a there = not-among is_replacement moves none before rest (Move.replaces d) refl e

-- Of steps 3 and 4, in frames 1 and 2, the first is taken. Frame 1 goes, step 4 is taken: the position is 1 again, and document 2 of frame 2 has given way to 4.
abbrev two : List ℕ
two =
    written (replicate 23 0)
    (record { rows = row 0 0 none 1 ∷ row 1 1 0 0 ∷ row 2 2 0 1 ∷ row 3 1 0 1 ∷ row 4 2 0 0 ∷ []; next_doc = 5; next_frame = 3 })

pub taken-may-not-go : AnyDrop → ⊥
unfolding root_at window_rows is_root some_below all_below count earliest latest tab gather in_record place is_frame with_flags climb step reach position steps climb_of hider_of visible
    gone without show forward walked reflagged traversed shown_doc change_row changes parent_of is_navigation is_replacement some_move
    put table_of words_of written sound_table? sound? refusals accepted ladder outcome run flat_map
taken-may-not-go claim =
    let moves = Move.drops 1 ∷ Move.goes 0 (pos 1) (replicate 4 0) ∷ [] in
    false≢true (claim two 0 moves (wide_by two refl) ((sound-is two).0 refl) refl (none_below two 0 moves refl) (none-replaced two 0 moves refl) moves [] refl refl 2 refl refl)

-- Step 3 lies in document 1 and is taken, step 4 is upcoming in the frame of 1. With 1 replaced 3 goes, and step 4 is taken: the position is 1 again, and 4 is visible.
abbrev nested : List ℕ
nested =
    written (replicate 23 0)
    (record { rows = row 0 0 none 1 ∷ row 1 1 0 1 ∷ row 2 2 1 0 ∷ row 3 2 1 1 ∷ row 4 1 0 0 ∷ []; next_doc = 5; next_frame = 3 })

pub noted-may-not-be-replaced : AnyReplacement → ⊥
unfolding root_at window_rows is_root some_below all_below count earliest latest tab gather in_record place is_frame with_flags climb step reach position steps climb_of hider_of visible
    gone without renamed replaced show forward walked reflagged traversed shown_doc change_row changes is_navigation is_drop some_move
    put table_of words_of written sound_table? sound? refusals accepted ladder outcome run flat_map
noted-may-not-be-replaced claim =
    let moves = Move.replaces 1 ∷ Move.goes 0 (pos 1) (replicate 4 0) ∷ [] in
    false≢true (sym (claim nested 0 moves (wide_by nested refl) ((sound-is nested).0 refl) refl (none_below nested 0 moves refl) (taken-stay nested 0 moves refl) moves [] refl refl 4 refl refl))

-- Frame 1 has no step. It goes, and document 1 with it, which was visible.
abbrev one : List ℕ
one = written (replicate 11 0) (record { rows = row 0 0 none 1 ∷ row 1 1 0 1 ∷ []; next_doc = 2; next_frame = 2 })

pub gone-not-as-noted : GoneAsNoted → ⊥
unfolding root_at window_rows is_root some_below all_below count earliest latest tab gather in_record place is_frame with_flags climb step reach position steps climb_of hider_of visible
    gone without parent_of is_navigation is_replacement some_move put table_of words_of written sound_table? sound? refusals accepted ladder outcome run flat_map
gone-not-as-noted claim =
    let moves = Move.drops 1 ∷ [] in
    false≢true (claim one 0 moves (wide_by one refl) ((sound-is one).0 refl) refl (record {
      none_below = none_below one 0 moves refl;
      taken-stay = λ before rest f d e h t. clash t.3 (not-true _ (all-out (λ i. not (taken (window_rows 0 (rows_of one)) i)) 2 refl t.0 t.1));
      none-replaced = none-replaced one 0 moves refl;
    }) moves [] refl refl 1 refl)

-- 001'S MODEL

-- Rows whose documents are their places: what the model's relations say of them.
module _ (rows : List Row) (numbered : So (all_below (length rows) (λ i. eqb (doc_at rows i) i))) where
  named : (i : ℕ) → i < length rows → doc_at rows i ≡ i
  named i l = eqb-true _ _ (all-out (λ i. eqb (doc_at rows i) i) (length rows) numbered i l)

  shown-told : (d : ℕ) → (of_rows rows).A d → So (is_shown rows d)
  shown-told d x = subst (λ i. So (is_shown rows i)) (sym (named x.0 x.1) ∙ x.2) x.3

  order-told : (d e : ℕ) → (of_rows rows).le d e → d ≤ e
  order-told d e x = omega (arith, x.2, x.4, x.5, named x.0 (omega (arith, x.2, x.3)), named x.1 x.3)

  future-told : (d e : ℕ) → Future (of_rows rows) d e → (d < e) × (e < length rows) × (frame_at rows d ≡ frame_at rows e)
  future-told d e x =
      let s = x.0 in
      let i : s.0 ≡ d = sym (named s.0 s.2) ∙ s.4 in
      let j : s.1 ≡ e = sym (named s.1 s.3) ∙ s.5 in
      let l = order-told d e x.1.0 in
      let ne = x.1.1 in
      (omega arith, omega (arith, s.3), ap (frame_at rows) (sym i) ∙ s.6 ∙ ap (frame_at rows) j)

  -- And back.
  future-in : (d e : ℕ) → d < e → e < length rows → frame_at rows d ≡ frame_at rows e → Future (of_rows rows) d e
  future-in d e l m f =
      let i = named d (omega arith) in
      let j = named e m in
      ((d, e, omega arith, m, i, j, f), ((d, e, omega arith, m, i, j), λ q. omega arith))

  -- No d before e in one session passes: all are tried.
  nowhere : (p : ℕ → ℕ → Bool) → So (all_below (length rows) (λ e. all_below e (λ d. not (eqb (frame_at rows d) (frame_at rows e) && p d e)))) →
      (d e : ℕ) → Future (of_rows rows) d e → So (p d e) → ⊥
  nowhere p None-passes d e x y =
      let f = future-told d e x in
      let both : So (eqb (frame_at rows d) (frame_at rows e) && p d e) = simp and-eq-true_iff (eq-eqb _ _ f.2, y) in
      clash both (not-true _ (all-out _ e (all-out _ (length rows) None-passes e f.1) d f.0))

-- 001, counterexample 2: frame 2 lies in document 1, which is not shown, and has step 4 upcoming.
abbrev under_hidden : Table
under_hidden = record { rows = row 0 0 none 1 ∷ row 1 1 0 0 ∷ row 2 2 1 1 ∷ row 3 1 0 1 ∷ row 4 2 1 0 ∷ []; next_doc = 5; next_frame = 3 }

pub visible-futures-not-enough : VisibleFuturesEnough → ⊥
unfolding root_at window_rows some_below all_below count climb step reach climb_of hider_of visible sound_table? gather
visible-futures-not-enough claim =
    let rows = under_hidden.rows in
    let s = (sound-table-is 8 under_hidden).0 refl in
    let x = claim 8 under_hidden 0 4 s (leb-true 5 (length (window_rows 0 rows)) refl) refl in
    let sees = (visible-active rows (tree_of s (omega arith)) x.0).1 x.1 in
    nowhere rows refl (λ d e. visible rows d && eqb e 4) refl x.0 4 x.2 (simp and-eq-true_iff (sees, refl))

-- 001, counterexample 3: document 2 is the latest of the past, but from 4, the latest shown, the way back is to 1.
abbrev crossed : Table
crossed = record { rows = row 0 0 none 1 ∷ row 1 1 0 0 ∷ row 2 2 0 0 ∷ row 3 2 0 1 ∷ row 4 1 0 1 ∷ []; next_doc = 5; next_frame = 3 }

pub back-is-not-to-latest-past : BackIs ToLatestPast → ⊥
unfolding root_at window_rows some_below all_below count latest tab with_flags step reach position show back_target row_before back sound_table? gather climb
back-is-not-to-latest-past claim =
    let rows = crossed.rows in
    let x = claim 8 crossed 0 ((sound-table-is 8 crossed).0 refl) (omega arith) (leb-true 1 (position (window_rows 0 rows)) refl) in
    let d = x.0 in
    let past = x.1.0 in
    let shown = shown-told (back rows) refl d ((x.2.A d).0 (inr refl)) in
    let late = order-told rows refl 2 d (x.1.1 2 (3, (3, omega arith, refl, refl), future-in rows refl 2 3 (omega arith) (omega arith) refl)) in
    nowhere rows refl (λ d e. is_shown (back rows) d && leb 2 d) refl d past.0 past.2 (simp and-eq-true_iff (shown, le-leb _ _ late))

-- P10 before its -1: "Document 3 is the latest shown but has no row before it."
abbrev ten_before : Table
ten_before = record { rows = row 0 0 none 0 ∷ row 1 1 0 1 ∷ row 2 0 none 1 ∷ row 3 2 2 1 ∷ []; next_doc = 4; next_frame = 3 }

pub back-is-not-from-latest-of-all : BackIs FromLatestOfAll → ⊥
unfolding root_at window_rows some_below all_below count latest tab with_flags step reach position show back_target row_before back sound_table? gather climb
back-is-not-from-latest-of-all claim =
    let rows = ten_before.rows in
    let x = claim 8 ten_before 0 ((sound-table-is 8 ten_before).0 refl) (omega arith) (leb-true 1 (position (window_rows 0 rows)) refl) in
    let late = order-told rows refl 3 x.0 (x.2.1 3 (inr (3, omega arith, refl, refl))) in
    nowhere rows refl (λ d e. leb 3 e) refl x.1 x.0 x.3.0 (le-leb _ _ late)

-- A frame with three documents, the last of them shown.
abbrev three : Table
three = record { rows = row 0 0 none 0 ∷ row 1 0 none 0 ∷ row 2 0 none 1 ∷ []; next_doc = 3; next_frame = 1 }

pub back-is-not-to-first : BackIs ToFirst → ⊥
unfolding root_at window_rows some_below all_below count latest tab with_flags step reach position show back_target row_before back sound_table? gather
back-is-not-to-first claim =
    let rows = three.rows in
    let x = claim 8 three 0 ((sound-table-is 8 three).0 refl) (omega arith) (leb-true 1 (position (window_rows 0 rows)) refl) in
    let d' = x.0 in
    let d = x.1 in
    let f = future-told rows refl d d' x.2 in
    let root : 0 ≡ frame_at rows d' = sym (eqb-true _ _ (all-out (λ i. eqb (frame_at rows i) 0) 3 refl d' f.1)) in
    let shown = shown-told (back rows) refl d ((x.4.A d).0 (inr refl)) in
    let early = order-told rows refl d 0 (x.3 0 (future-in rows refl 0 d' (omega arith) f.1 root)) in
    nowhere rows refl (λ d e. is_shown (back rows) d && leb d 0) refl d d' x.2 (simp and-eq-true_iff (shown, le-leb _ _ early))

-- Patch 3 as document 01 reads it is what Back does.
pub back-is-backward : BackIs (Backward 1)
unfolding walked
back-is-backward room t r s wide some =
    let rows = window_rows r t.rows in
    let low : position rows - 1 ≤ steps rows = omega (arith, position-steps rows) in
    let inside : outside (steps rows) (pos (position rows) +ℤ negsuc 0) ≡ false = rw (le-ltb (position rows) 1 some) (le-ltb _ _ low) in
    (walk-model rows (window-sound t.rows (wide_rows s wide) r) (negsuc 0) inside (of_rows (back rows))).1 (same_refl _)
