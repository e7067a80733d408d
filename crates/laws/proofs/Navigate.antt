-- Opening appends at the position; navigating is clearing, appending and one step forward. Both keep a record sound. Assumes nothing.
use Prim.Native.Nat.{ℕ, suc, ◌≤◌, ◌<◌}
use mathlib.Core.Path.{◌≡◌, refl, sym, ap, ap₂, ◌∙◌, subst}
use mathlib.Core.List.{List, [], ◌∷◌, ◌++◌}
use mathlib.Core.Logic.{◌≢◌, inl, inr, ⊎_elim}
use mathlib.Core.Bool.{Bool, true, false, not, ◌&&◌, So, cond, false≢true}
use native.Mathlib.Omega.{arith}
use lib.Dec.{eqb}
use lib.IntN.{ℤ}
use lib.ListN.{length}
use borrow.Author.Tests.{eqb-true, eqb-false, eq-eqb, ne_eqb}
use Rattle.rules.specs.Below.{count}
use Rattle.rules.specs.Rows.{Row, Table, none, row_at, doc_at, frame_at, parent_at, is_shown, is_doc, place, marked}
use Rattle.rules.specs.Steps.{same, is_step, upcoming, position, steps, visible_at, visible}
use Rattle.rules.specs.Windows.{root_at}
use Rattle.rules.specs.Moves.{opened, without, cleared, hide, show, forward, navigated, reflagged, traversed}
use Rattle.laws.specs.Alone.{cleared_all, navigated_all}
use Rattle.laws.proofs.Tests.{off, count_yes, count_same, count-in}
use Rattle.laws.proofs.Frames.{step_in, step-out, next-shows, next-due}
use Rattle.laws.proofs.Flags.{flags-length, flags-eq}
use Rattle.laws.proofs.Central.{flags_at, central, at-S6, at-S7, position-steps, only-shown, show-at, forward-at}
use Rattle.laws.proofs.Append.{step-agree, length-snoc, snoc_old, snoc_new, flags-append, append_at}
use Rattle.laws.proofs.Kept.{kept_row, kept-length}
use Rattle.laws.proofs.Tree.{TreeOf, OneRoot, distinct, proper, place_is, alike, tree-flags, one-flags, tree-add, one-add}
use Rattle.laws.proofs.Climb.{visible-out, sees-out}
use Rattle.laws.proofs.Removal.{SoundRows, stays, cleared-removed, cleared-position, cleared-steps, visible-stays}

pub tree-at : (p : ℕ) (rows : List Row) {a b : ℕ} → TreeOf rows a b → TreeOf (flags_at p rows) a b
unfolding flags_at
tree-at p rows t = tree-flags _ rows t

-- Opening adds a row, navigating one to those that the clearing leaves, and traversing none.
pub opened-length : (t : Table) (p : ℕ) → length (opened t p).rows ≡ suc (length t.rows)
unfolding opened
opened-length t p = length-snoc t.rows _

pub navigated-length : (t : Table) (d : ℕ) → length (navigated t d).rows ≡ suc (length (cleared (root_at t.rows (place t.rows d)) t.rows))
unfolding navigated hide
navigated-length t d =
    let c = cleared (root_at t.rows (place t.rows d)) t.rows in
    length-snoc (hide d c) _ ∙ ap suc (flags-length _ c)

pub traversed-length : (t : Table) (r : ℕ) (δ : ℤ) → length (traversed t r δ).rows ≡ length t.rows
unfolding traversed reflagged
traversed-length t r δ = flags-length _ t.rows

-- Rows at any position are as sound as they were.
pub sound-at : (p : ℕ) (rows : List Row) {a b : ℕ} → TreeOf rows a b → OneRoot rows → SoundRows (flags_at p rows) a b
unfolding flags_at
sound-at p rows t one = record { tree = tree-at p rows t; root = one-flags _ rows one; s6 = at-S6 p rows; s7 = at-S7 p rows }

module _ (t : Table) (s : SoundRows t.rows t.next_doc t.next_frame) (unused : t.next_doc ≢ none) where
  abbrev rows : List Row
  rows = t.rows

  now : flags_at (position rows) rows ≡ rows
  now = central rows s.s6 s.s7

  -- OPEN

  module _ (p : ℕ) (sees : So (visible rows p)) where
    abbrev child : Row
    child = record { doc = t.next_doc; frame = t.next_frame; parent = p; shown = 1 }

    new-frame : is_step (rows ++ child ∷ []) (length rows) ≡ false
    new-frame =
        off _ (λ h.
        let o = step-out (frame_at (rows ++ child ∷ [])) (length rows) h in
        let e : frame_at rows o.0 ≡ t.next_frame = ap (λ r. r.frame) (sym (snoc_old rows child o.0 o.1)) ∙ o.2 ∙ ap (λ r. r.frame) (snoc_new rows child) in
        omega (arith, s.tree.framed o.0 o.1))

    -- At any position the new row is shown and the rest is as it was.
    pub opened-at : (q : ℕ) → q ≤ steps rows → flags_at q (opened t p).rows ≡ flags_at q rows ++ child ∷ []
    unfolding opened
    opened-at q few = append_at q rows child few ∙ ap (λ b. flags_at q rows ++ marked (not b) child ∷ []) new-frame

    pub opened-sound : SoundRows (opened t p).rows (opened t p).next_doc (opened t p).next_frame
    unfolding opened
    opened-sound =
        let v = sees-out rows p sees in
        let u = s.tree.word in
        let e : flags_at (position rows) (rows ++ child ∷ []) ≡ rows ++ child ∷ [] = opened-at (position rows) (position-steps rows) ∙ ap (λ l. l ++ child ∷ []) now in
        subst (λ l. SoundRows l (suc t.next_doc) (suc t.next_frame)) e (sound-at (position rows) (rows ++ child ∷ [])
        (tree-add rows child s.tree (omega arith) (omega arith) refl (omega arith) (inr (v.0, v.1, v.2))
        (λ i l f. absurd (omega (arith, s.tree.framed i l))))
        (one-add rows child s.root (λ i l f z. absurd (proper s.tree v.0 v.1 (v.2 ∙ z)))))

  -- NAVIGATE

  module _ (d : ℕ) (sees : So (visible rows d)) where
    -- The row that comes, before it is shown.
    abbrev pub arrival : Row
    arrival = record { doc = t.next_doc; frame = frame_at rows (place rows d); parent = parent_at rows (place rows d); shown = 0 }

    abbrev c : List Row
    c = cleared_all rows

    -- d's row stays: its place then.
    pub stayed : (k : ℕ) × (k < length c) × (row_at c k ≡ row_at rows (place rows d)) × (doc_at rows (place rows d) ≡ d) × So (is_shown rows (place rows d))
    unfolding without
    stayed =
        let v = sees-out rows d sees in
        let e = place_is rows s.tree v.0 d v.1 v.2 in
        let u = visible-stays rows s (position rows) (omega arith) v.0 v.1 (subst (λ l. So (visible_at l v.0)) (sym now) v.3) in
        let keep = stays (upcoming rows) rows in (
          count keep v.0,
          subst (λ n. count keep v.0 < n) (sym (kept-length keep rows)) (count-in keep (length rows) v.1 u),
          kept_row keep rows v.0 v.1 u ∙ ap (row_at rows) (sym e),
          ap (doc_at rows) e ∙ v.2,
          ap (is_shown rows) e ∙ (visible-out rows v.0 v.3).0,
        )

    -- The row that comes is a step.
    pub new-step : So (is_step (c ++ arrival ∷ []) (length c))
    new-step =
        let k = stayed in
        step_in (frame_at (c ++ arrival ∷ [])) k.1 (ap (λ r. r.frame) (snoc_old c arrival k.0 k.1 ∙ k.2) ∙ ap (λ r. r.frame) (sym (snoc_new c arrival)))

    new-number : count (is_step (c ++ arrival ∷ [])) (length c) ≡ position rows
    unfolding steps
    new-number =
        count_same _ (is_step c) (length c) (step-agree (length c) _ _ (λ k l. ap (λ r. r.frame) (snoc_old c arrival k l))) ∙ cleared-steps rows s

    pub arrived-steps : steps (c ++ arrival ∷ []) ≡ suc (position rows)
    unfolding steps
    arrived-steps = ap (count (is_step (c ++ arrival ∷ []))) (length-snoc c arrival) ∙ count_yes _ (length c) new-step ∙ ap suc new-number

    -- Cleared and appended is the record at its old position, with one step upcoming.
    appended : flags_at (position rows) (c ++ arrival ∷ []) ≡ c ++ arrival ∷ []
    appended =
        let sc = (cleared-removed rows s).sound in
        let fixed : flags_at (position rows) c ≡ c = ap (λ p. flags_at p c) (sym (cleared-position rows s)) ∙ central c sc.s6 sc.s7 in
        append_at (position rows) c arrival (omega (arith, cleared-steps rows s)) ∙ ap₂ (λ l b. l ++ marked (not b) arrival ∷ []) fixed new-step

    pub forward-is : forward (c ++ arrival ∷ []) ≡ flags_at (suc (position rows)) (c ++ arrival ∷ [])
    forward-is = ap forward (sym appended) ∙ forward-at (position rows) (c ++ arrival ∷ []) (omega (arith, arrived-steps))

    -- To show the new row is to hide d, row by row.
    hidden-alike : (i : ℕ) → i < length c →
        cond (same (frame_at (c ++ arrival ∷ [])) (length c) i) (eqb i (length c)) (is_shown (c ++ arrival ∷ []) i) ≡ (not (is_doc c d i) && is_shown c i)
    hidden-alike i l =
        let k = stayed in
        let sc = (cleared-removed rows s).sound in
        let old = snoc_old c arrival i l in
        let fr : same (frame_at (c ++ arrival ∷ [])) (length c) i ≡ eqb (frame_at c i) (frame_at c k.0) =
        ap₂ eqb (ap (λ r. r.frame) old) (ap (λ r. r.frame) (snoc_new c arrival) ∙ ap (λ r. r.frame) (sym k.2)) in
        let sh : is_shown (c ++ arrival ∷ []) i ≡ is_shown c i = ap (λ r. eqb r.shown 1) old in
        let d-here : doc_at c k.0 ≡ d = ap (λ r. r.doc) k.2 ∙ k.3 in
        let d-shown : So (is_shown c k.0) = ap (λ r. eqb r.shown 1) k.2 ∙ k.4 in
        ap₂ (λ b e. cond b (eqb i (length c)) e) fr sh ∙ by-frame (eqb (frame_at c i) (frame_at c k.0)) (eqb i (length c)) (is_doc c d i) (is_shown c i)
        (ne_eqb i (length c) (λ e. omega arith))
        (λ y z. eq-eqb (doc_at c i) d (ap (doc_at c) (only-shown c sc.s6 i k.0 l k.1 (sym (eqb-true _ _ y)) z d-shown) ∙ d-here))
        (λ y. ne_eqb (doc_at c i) d (λ e. eqb-false _ _ y (ap (frame_at c) (distinct sc.tree i k.0 l k.1 (e ∙ sym d-here)))))
      where
        by-frame : (inside here named shown : Bool) → here ≡ false → (So inside → So shown → So named) → (inside ≡ false → named ≡ false) →
            cond inside here shown ≡ (not named && shown)
        by-frame true here true shown e f g = e
        by-frame true here false true e f g = absurd (false≢true (f refl refl))
        by-frame true here false false e f g = e
        by-frame false here true shown e f g = absurd (false≢true (sym (g refl)))
        by-frame false here false shown e f g = refl

    shown-last : show (length c) (c ++ arrival ∷ []) ≡ (navigated_all t d).rows
    unfolding show hide navigated_all
    shown-last =
        let fr = frame_at (c ++ arrival ∷ []) in
        let e : cond (same fr (length c) (length c)) (eqb (length c) (length c)) (is_shown (c ++ arrival ∷ []) (length c)) ≡ true =
        rw (eq-eqb (fr (length c)) (fr (length c)) refl, eq-eqb (length c) (length c) refl) refl in
        flags-append _ c arrival ∙ ap₂ (λ l b. l ++ marked b arrival ∷ []) (flags-eq _ _ c hidden-alike) e

    -- "removes [..], closes the gaps, appends [..] and makes d not shown" is the record at the next position.
    pub navigated-at : (navigated_all t d).rows ≡ flags_at (suc (position rows)) (c ++ arrival ∷ [])
    navigated-at =
        let last : length c < length (c ++ arrival ∷ []) = omega (arith, length-snoc c arrival) in
        sym shown-last ∙ ap (show (length c)) (sym appended)
        ∙ show-at (position rows) (suc (position rows)) (length c) (c ++ arrival ∷ []) last (next-shows _ _ (position rows) _ last new-step new-number) (next-due _ _ (position rows) _ last new-step new-number)

    -- Navigate is clear, append, forward.
    pub navigate-is : (navigated_all t d).rows ≡ forward (c ++ arrival ∷ [])
    navigate-is = navigated-at ∙ sym forward-is

    pub navigated-sound : SoundRows (navigated_all t d).rows (suc t.next_doc) t.next_frame
    navigated-sound =
        let k = stayed in
        let sc = (cleared-removed rows s).sound in
        let tr = sc.tree in
        let u = s.tree.word in
        let a = alike {l = c} {m = rows} {i = k.0} {k = place rows d} k.2 in
        subst (λ l. SoundRows l (suc t.next_doc) t.next_frame) (sym navigated-at) (sound-at (suc (position rows)) (c ++ arrival ∷ [])
        (tree-add c arrival tr (omega arith) (omega arith) refl (subst (λ n. n < t.next_frame) a.f (tr.framed k.0 k.1))
        (⊎_elim (λ e. inl (sym a.p ∙ e)) (λ r. inr (r.0, omega arith, r.2 ∙ a.p)) (tr.placed k.0 k.1))
        (λ i l e. tr.kin i k.0 l k.1 (e ∙ sym a.f) ∙ a.p))
        (one-add c arrival sc.root (λ i l e g. sc.root i k.0 l k.1 e (a.p ∙ g) ∙ a.f)))
