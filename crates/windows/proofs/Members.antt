-- The documents, frames and root frame of a window, read in it and in the table. Assumes nothing.
use Prim.Native.Nat.{ℕ, zero, suc, ◌+◌, ◌≤◌, ◌<◌}
use mathlib.Core.Bool.{Bool, true, not, ◌&&◌, So}
use mathlib.Core.List.{List}
use mathlib.Core.Logic.{◌↔◌, ◌⊎◌, inl, inr, ⊎_elim}
use mathlib.Core.Path.{◌≡◌, refl, sym, ap, ◌∙◌, subst}
use native.Mathlib.Nat.{not-suc-le-zero}
use native.Mathlib.Omega.{arith}
use lib.Dec.{eqb}
use lib.ListN.{length}
use borrow.Author.Tests.{eqb-true, eq-eqb}
use Rattle.rules.specs.Below.{count, earliest}
use Rattle.rules.specs.Rows.{Row, none, doc_at, frame_at, parent_at, in_record, place, in_frame, is_frame}
use Rattle.rules.specs.Steps.{Climb, is_nobody, lost, climb_ask, climb_of, hider_of, visible}
use Rattle.rules.specs.Moves.{gone, without}
use Rattle.rules.specs.Saved.{parent_of}
use Rattle.rules.specs.Windows.{root_at, in_window, window_rows, is_root}
use Rattle.laws.proofs.Tests.{test, clash, off, same_tests, and-true, count-all, count_same, count-split, least, earliest-is}
use Rattle.laws.proofs.Kept.{count_kept, kept, kept-length}
use Rattle.laws.proofs.Tree.{TreeOf, distinct, proper, place_is, parent-of, Alike, alike}
use Rattle.laws.proofs.Reflect.{Ref, ref-eq, ref-and, ref-any, record_is, frame_is}
use Rattle.laws.proofs.Climb.{climb-none, climbs-row, seen-there, gone-cases}
use Rattle.laws.proofs.Removal.{stays}
use Rattle.windows.proofs.Roots.{root-top, root-up}
use Rattle.windows.proofs.Window.{window-length, window-row, window-place, window-up, window-whole, window-tree, window-came}
use Rattle.windows.proofs.Added.{window-climb}
use Rattle.windows.proofs.Without.{gone-along}

-- A frame's first row.
pub first-row : (rows : List Row) (f : ℕ) → So (is_frame rows f) →
    (earliest (in_frame rows f) (length rows) < length rows) × (frame_at rows (earliest (in_frame rows f) (length rows)) ≡ f)
first-row rows f h =
    let k = (frame_is rows f).0 h in
    let q = least (in_frame rows f) k.0 (eq-eqb _ _ k.2) in
    let m : q.0 < length rows = omega (arith, k.1) in
    subst (λ i. (i < length rows) × (frame_at rows i ≡ f)) (sym (earliest-is (in_frame rows f) (length rows) m q.2 q.3)) (m, eqb-true _ _ q.2)

-- A root frame has a row without a parent.
pub root_is : (rows : List Row) (r : ℕ) → Ref (is_root rows r) ((i : ℕ) × (i < length rows) × ((frame_at rows i ≡ r) × (parent_at rows i ≡ none)))
unfolding is_root
root_is rows r = ref-any (λ i. ref-and (ref-eq (frame_at rows i) r) (ref-eq (parent_at rows i) none)) (length rows)

-- That row is of its window.
pub root-held : (rows : List Row) (r : ℕ) → So (is_root rows r) → (i : ℕ) × (i < length rows) × (root_at rows i ≡ r)
root-held rows r h = let o = (root_is rows r).0 h in (o.0, o.1, root-top rows o.0 o.2.1 ∙ o.2.0)

-- No document has the number none: the climb from it is lost.
pub climb-lost : (rows : List Row) {a b : ℕ} → TreeOf rows a b → climb_of rows none ≡ lost
unfolding climb_of
climb-lost rows tree = climb-none lost (climb_ask rows) rows (length rows) none (proper tree)

module _ (rows : List Row) {a b : ℕ} (tree : TreeOf rows a b) (r : ℕ) where
  abbrev own : List Row
  own = window_rows r rows

  -- A row of the window, there.
  there : (i : ℕ) → i < length rows → So (in_window r rows i) → (count (in_window r rows) i < length own) × Alike own (count (in_window r rows) i) rows i
  there i l t = (window-place rows r i l t, alike (window-row rows r i l t))

  -- DOCUMENTS

  -- A document of the window has its row there.
  pub member : (d : ℕ) → So (in_record own d) → (i : ℕ) × (i < length rows) × (doc_at rows i ≡ d) × So (in_window r rows i)
  member d h =
      let o = (record_is own d).0 h in
      let c = window-came rows tree r o.0 o.1 in
      (c.0, c.1, sym c.4.d ∙ o.2, c.2)

  pub is_member : (d i : ℕ) → i < length rows → doc_at rows i ≡ d → So (in_window r rows i) → So (in_record own d)
  is_member d i l e t = let p = there i l t in (record_is own d).1 (count (in_window r rows) i, p.0, p.1.d ∙ e)

  -- A document is of the window of its row.
  pub member-here : (d : ℕ) → So (in_record rows d) → root_at rows (place rows d) ≡ r → So (in_record own d)
  member-here d h q =
      let o = (record_is rows d).0 h in
      is_member d o.0 o.1 o.2 (eq-eqb _ _ (ap (root_at rows) (sym (place_is rows tree o.0 d o.1 o.2)) ∙ q))

  module _ (d : ℕ) (h : So (in_record own d)) where
    pub member-record : So (in_record rows d)
    member-record = let m = member d h in (record_is rows d).1 (m.0, m.1, m.2)

    -- Its window is this.
    pub member-window : root_at rows (place rows d) ≡ r
    member-window = let m = member d h in ap (root_at rows) (place_is rows tree m.0 d m.1 m.2) ∙ eqb-true _ _ m.3

    -- The climb from it finds the same.
    pub member-climb : climb_of own d ≡ climb_of rows d
    member-climb =
        let m = member d h in
        let p = there m.0 m.1 m.3 in
        climbs-row own (distinct (window-tree rows tree r)) d {i = count (in_window r rows) m.0} p.0 (p.1.d ∙ m.2)
        ∙ window-climb rows tree r m.0 m.1 m.3
        ∙ sym (climbs-row rows (distinct tree) d {i = m.0} m.1 m.2)

    pub member-visible : visible own d ≡ visible rows d
    unfolding visible hider_of
    member-visible = ap (λ (c : Climb). is_nobody c.hider) member-climb

  -- What is visible in the window: its documents that are visible in the table.
  pub member-sees : (d : ℕ) → So (visible own d) ↔ (So (in_record own d) × So (visible rows d))
  member-sees d = (λ v. let h = seen-there own d v in (h, sym (member-visible d h) ∙ v), λ (h, v). member-visible d h ∙ v)

  -- It is visible in the table, and of that window.
  pub sees_back : (d : ℕ) → So (visible own d) → So (visible rows d) × (root_at rows (place rows d) ≡ r)
  sees_back d v = let o = (member-sees d).0 v in (o.1, member-window d o.0)

  -- A visible document, in its window.
  pub sees-here : (d : ℕ) → So (visible rows d) → root_at rows (place rows d) ≡ r → So (visible own d)
  sees-here d v q = (member-sees d).1 (member-here d (seen-there rows d v) q, v)

  -- FRAMES

  -- A frame of the window has a row there.
  pub frame-member : (f : ℕ) → So (is_frame own f) → (i : ℕ) × (i < length rows) × (frame_at rows i ≡ f) × So (in_window r rows i)
  frame-member f h =
      let o = (frame_is own f).0 h in
      let c = window-came rows tree r o.0 o.1 in
      (c.0, c.1, sym c.4.f ∙ o.2, c.2)

  -- A frame is of the window of its first row.
  pub frame_here : (f : ℕ) → So (is_frame rows f) → root_at rows (earliest (in_frame rows f) (length rows)) ≡ r → So (is_frame own f)
  frame_here f h q =
      let k = first-row rows f h in
      let i = earliest (in_frame rows f) (length rows) in
      let p = there i k.0 (eq-eqb _ _ q) in
      (frame_is own f).1 (count (in_window r rows) i, p.0, p.1.f ∙ k.1)

  module _ (f : ℕ) (h : So (is_frame own f)) where
    pub frame-record : So (is_frame rows f)
    frame-record = let m = frame-member f h in (frame_is rows f).1 (m.0, m.1, m.2)

    -- All its rows are of the window.
    pub frame-inside : (k : ℕ) → k < length rows → So (in_frame rows f k) → So (in_window r rows k)
    frame-inside k l e = let m = frame-member f h in window-whole rows tree r k m.0 l m.1 (eqb-true _ _ e ∙ sym m.2) m.3

    pub frame-parent : parent_of own f ≡ parent_of rows f
    frame-parent =
        let m = frame-member f h in
        let p = there m.0 m.1 m.3 in
        parent-of own (window-tree rows tree r).kin (count (in_window r rows) m.0) f p.0 (p.1.f ∙ m.2) ∙ p.1.p ∙ sym (parent-of rows tree.kin m.0 f m.1 m.2)

    -- What it lies in is of the window.
    pub parent-member : (parent_of rows f ≡ none) ⊎ So (in_record own (parent_of rows f))
    parent-member =
        let m = frame-member f h in
        let e = parent-of rows tree.kin m.0 f m.1 m.2 in
        ⊎_elim
        (λ z. inl (e ∙ z))
        (λ j. inr (is_member (parent_of rows f) j.0 (omega (arith, j.1, m.1)) (j.2 ∙ sym e) (window-up rows tree r j.0 m.0 j.1 m.1 j.2 m.3)))
        (tree.placed m.0 m.1)

    pub parent-climb : climb_of own (parent_of own f) ≡ climb_of rows (parent_of rows f)
    parent-climb =
        ap (climb_of own) frame-parent
        ∙ ⊎_elim
        (λ e. ap (climb_of own) e ∙ climb-lost own (window-tree rows tree r) ∙ sym (climb-lost rows tree) ∙ ap (climb_of rows) (sym e))
        (λ m. member-climb (parent_of rows f) m)
        parent-member

    pub parent-visible : visible own (parent_of own f) ≡ visible rows (parent_of rows f)
    unfolding visible hider_of
    parent-visible = ap (λ (c : Climb). is_nobody c.hider) parent-climb

  -- THE ROOT FRAME

  pub root-own : is_root own r ≡ is_root rows r
  root-own =
      same_tests
      (λ h.
      let o = (root_is own r).0 h in
      let c = window-came rows tree r o.0 o.1 in
      (root_is rows r).1 (c.0, c.1, (sym c.4.f ∙ o.2.0, sym c.4.p ∙ o.2.1)))
      (λ h.
      let o = (root_is rows r).0 h in
      let p = there o.0 o.1 (eq-eqb _ _ (root-top rows o.0 o.2.1 ∙ o.2.0)) in
      (root_is own r).1 (count (in_window r rows) o.0, p.0, (p.1.f ∙ o.2.0, p.1.p ∙ o.2.1)))

  -- A window whose root frame there is has a row.
  pub root-some : So (is_root rows r) → 1 ≤ length own
  root-some h = let o = (root_is own r).0 (root-own ∙ h) in omega (arith, o.1)

  -- REMOVAL

  -- What passes is of the window; q' tells of its rows what q tells of the table's.
  module _ (q q' : ℕ → Bool) (inside : (k : ℕ) → k < length rows → So (q k) → So (in_window r rows k))
      (same : (k : ℕ) → k < length rows → So (in_window r rows k) → q' (count (in_window r rows) k) ≡ q k) where
    -- So is what goes.
    gone-inside : (n k : ℕ) → k < n → k < length rows → So (gone q rows k) → So (in_window r rows k)
    gone-inside zero k c l g = absurd (not-suc-le-zero c)
    gone-inside (suc n) k c l g =
        gone-cases q rows k g (inside k l) (λ j m h e. ap (λ x. eqb x r) (root-up rows tree j k m l e) ∙ gone-inside n j (omega arith) (omega arith) h)

    abbrev outside : ℕ → Bool
    outside k = not (in_window r rows k) && true

    all-rows : length own + count outside (length rows) ≡ length rows
    all-rows =
        let n = length rows in
        let a : count (λ k. in_window r rows k && true) n ≡ count (in_window r rows) n = count_same _ _ n (λ k l. and-true (in_window r rows k)) in
        omega (arith, window-length rows r, a, count-split (in_window r rows) (λ k. true) n, count-all (λ k. true) n (λ i l. refl))

    all_left : length (without q' own) + count outside (length rows) ≡ length (without q rows)
    unfolding without window_rows
    all_left =
        let n = length rows in
        let keep = in_window r rows in
        let e = count_kept keep (stays q rows) (stays q' (kept keep rows)) n (λ k l t. ap not (gone-along rows tree keep q q' (window-up rows tree r) same k l t)) in
        let a : count (λ k. not (keep k) && stays q rows k) n ≡ count outside n = count_same _ _ n (λ k l.
        test (keep k) (λ t. rw t refl) (λ f. rw (f, off (gone q rows k) (λ g. clash (gone-inside (suc k) k (omega arith) l g) f)) refl)) in
        let b : length (without q' (kept keep rows)) ≡ count (stays q' (kept keep rows)) (count keep n) =
        kept-length (stays q' (kept keep rows)) (kept keep rows) ∙ ap (count (stays q' (kept keep rows))) (kept-length keep rows) in
        omega (arith, e, a, b, count-split keep (stays q rows) n, kept-length (stays q rows) rows)

    -- The table loses as many rows as the window.
    pub removed-own : length rows + length (without q' own) ≡ length own + length (without q rows)
    removed-own = omega (arith, all-rows, all_left)

-- EVERY DOCUMENT IS OF ONE WINDOW
module _ (rows : List Row) {a b : ℕ} (tree : TreeOf rows a b) (d : ℕ) where
  pub member-one : (r v : ℕ) → So (in_record (window_rows r rows) d) → So (in_record (window_rows v rows) d) → r ≡ v
  member-one r v h g = sym (member-window rows tree r d h) ∙ member-window rows tree v d g

  pub member-some : So (in_record rows d) → (v : ℕ) × So (in_record (window_rows v rows) d)
  member-some h = (root_at rows (place rows d), member-here rows tree (root_at rows (place rows d)) d h refl)

-- What is visible in each window tells what is visible in the table.
pub sees-each : (rows rows' : List Row) {a b a' b' : ℕ} → TreeOf rows a b → TreeOf rows' a' b' → (d : ℕ) →
    ((v : ℕ) → visible (window_rows v rows) d ≡ visible (window_rows v rows') d) → visible rows d ≡ visible rows' d
sees-each rows rows' tree tree' d each =
    same_tests
    (λ v. let w = root_at rows (place rows d) in (sees_back rows' tree' w d (sym (each w) ∙ sees-here rows tree w d v refl)).0)
    (λ v. let w = root_at rows' (place rows' d) in (sees_back rows tree w d (each w ∙ sees-here rows' tree' w d v refl)).0)
