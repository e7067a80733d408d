-- The loop that closes the gaps of one of several windows: its test is whether a row stays, and what it keeps in mind is so. Assumes nothing.
use Prim.Native.Nat.{ℕ, ◌+◌, ◌≤◌, ◌<◌}
use mathlib.Core.Bool.{Bool, true, false, not, ◌&&◌, So, cond, and-eq-true_iff}
use mathlib.Core.List.{List}
use mathlib.Core.Logic.{◌⊎◌, inl, inr, ⊎_elim}
use mathlib.Core.Path.{◌≡◌, refl, sym, ap, ap₂, subst, ◌∙◌}
use native.Mathlib.Omega.{arith}
use lib.Dec.{eqb, ltb}
use lib.ListN.{length}
use borrow.Author.Tests.{eqb-true, eq-eqb, ne_eqb, ltb-true, lt-ltb}
use Rattle.rules.specs.Below.{some_below, count, earliest, latest}
use Rattle.rules.specs.Rows.{Row, none, doc_at, frame_at, parent_at, is_shown, is_doc}
use Rattle.rules.specs.Windows.{root_at, in_window}
use Rattle.rules.specs.Moves.{upcoming_in, cleared}
use Rattle.rules.specs.Words.{table_of, rows_of}
use Rattle.laws.proofs.Tests.{test, clash, off, some_in, count-in, count_same, nth, latest-is}
use Rattle.laws.proofs.Loops.{earliest-out}
use Rattle.laws.proofs.Tree.{distinct, proper, Alike}
use Rattle.laws.proofs.Removal.{stays, stays_up}
use Rattle.windows.proofs.Roots.{root-top, root-up, root-along}
use Rattle.windows.proofs.Window.{WideRows, wide_rows}
use Rattle.windows.proofs.Ends.{late-goes}
use Rattle.reads.specs.Within.{Within}
use Rattle.sound.specs.Check.{Examined}
use Rattle.sound.proofs.Checks.{examined-sound, examined-fits}
use Rattle.packs.specs.Packing.{doc_kept, parent_kept, Moved, Over}
use Rattle.packs.proofs.Over.{over-rest}
use Rattle.packs.proofs.Packed.{Packed, Sees, packed-within, packed-sees}
use Rattle.packs.proofs.Stays.{held_stays, doc-told}
use Rattle.packs.proofs.Gaps.{gaps-start, gaps-more, gaps-end}
use Rattle.navigates.specs.declared.Side.{Side}
use Rattle.navigates.specs.declared.Side.TheVariants.{Within as Inside, Outside, Lost}
use Rattle.navigates.specs.declared.Sides.{Sides}
use Rattle.navigates.specs.declared.Turn.{Turn}
use Rattle.navigates.specs.Sides.{side_if, is_outside, doc_side, side_of, recalled, Recalls, Turned}

-- Outside, of a row whose parent is kept or not.
outside-if : (kept within : Bool) → is_outside (cond kept (side_if within) Lost) ≡ (not within && kept)
outside-if true true = refl
outside-if true false = refl
outside-if false true = refl
outside-if false false = refl

module _ (r : ℕ) (rows : List Row) where
  -- Row i stays.
  abbrev pub keep_in : ℕ → Bool
  keep_in = stays (upcoming_in r rows) rows

  -- Where what lies in the document of row j stands, once row j is done.
  abbrev row_side : ℕ → Side
  row_side j = cond (keep_in j) (side_if (in_window r rows j)) Lost

  -- Document d is none, or that of a row before i, and what lies in it stands so.
  abbrev Holds : ℕ → ℕ → Side → Type 0
  Holds i d t = (d ≡ none) ⊎ ((j : ℕ) × (j < i) × (doc_at rows j ≡ d) × (row_side j ≡ t))

  -- What is kept in mind before row i is so.
  pub record Minds (i : ℕ) (known : Sides) : Type 0 where
    within-is : Holds i known.within.0 Inside
    outside-is : Holds i known.outside.0 Outside
    missed-is : Holds i known.missed.0 Lost

  holds_on : (i d : ℕ) (t : Side) → Holds i d t → Holds (i + 1) d t
  holds_on i d t h = ⊎_elim (λ z. inl z) (λ m. inr (m.0, omega (arith, m.1), m.2, m.3)) h

  minds-on : (i : ℕ) (known : Sides) → Minds i known → Minds (i + 1) known
  minds-on i known m = record { within-is = holds_on i _ Inside m.within-is; outside-is = holds_on i _ Outside m.outside-is; missed-is = holds_on i _ Lost m.missed-is }

  minds-more : (i d : ℕ) (known : Sides) (t : Side) → Minds i known → Holds i d t → Minds i (recalled known (record { 0 = d }) t)
  minds-more i d known Inside m h = record { within-is = h; outside-is = m.outside-is; missed-is = m.missed-is }
  minds-more i d known Outside m h = record { within-is = m.within-is; outside-is = h; missed-is = m.missed-is }
  minds-more i d known Lost m h = record { within-is = m.within-is; outside-is = m.outside-is; missed-is = h }

  -- What a turn at row i sees.
  module _ {a b : ℕ} (s : WideRows rows a b) (new : List Row) (i k : ℕ) (below : i < length rows) (see : Sees keep_in rows new i k) where
    -- The kept rows before i.
    abbrev so_far : ℕ → Bool
    so_far j = ltb j i && keep_in j

    so-far : (j : ℕ) → j ≤ i → count so_far j ≡ count keep_in j
    so-far j l = count_same so_far keep_in j (λ k m. rw (lt-ltb k i (omega arith)) refl)

    -- They are of the window that they were of.
    root-was : (m : ℕ) → m < i → So (keep_in m) → root_at new (count keep_in m) ≡ root_at rows m
    root-was m l t =
        ap (root_at new) (sym (so-far m (omega arith)))
        ∙ root-along rows s.tree new so_far
        (λ k n h. let v = simp and-eq-true_iff at h in let q = ltb-true k i v.0 in subst (λ x. Alike new x rows k) (sym (so-far k (omega arith))) (see.moved k q v.1))
        (λ j k n o e h. let v = simp and-eq-true_iff at h in let q = ltb-true k i v.0 in simp and-eq-true_iff (lt-ltb j i (omega arith), stays_up (upcoming_in r rows) rows s.tree j k n o e v.1))
        m (omega arith) (simp and-eq-true_iff (lt-ltb m i l, t))

    -- The document of an earlier row.
    doc-side : (j : ℕ) → j < i → doc_side r new k (doc_at rows j) ≡ row_side j
    unfolding doc_side
    doc-side j l =
        let p = is_doc new (doc_at rows j) in
        test (keep_in j)
        (λ t.
        let m : count keep_in j < k = omega (arith, see.count-is, count-in keep_in i l t) in
        let h : So (p (count keep_in j)) = eq-eqb _ _ (see.moved j l t).d in
        let only : latest p k ≡ count keep_in j = latest-is p k m h (λ x y z u.
        let o = nth keep_in i x (subst (λ n. x < n) see.count-is z) in
        let q = distinct s.tree o.0 j (omega arith) (omega arith) (sym (see.moved o.0 o.1 o.2).d ∙ ap (doc_at new) o.3 ∙ eqb-true _ _ u) in
        omega (arith, o.3, ap (count keep_in) q)) in
        rw (some_in p k m h, only, root-was j l t, t) refl)
        (λ f.
        rw (
          off (some_below k p) (λ h.
              let o = held_stays (upcoming_in r rows) rows s.tree new i k below see (doc_at rows j) h in
              clash (subst (λ x. So (keep_in x)) (distinct s.tree o.0 j (omega (arith, o.1)) (omega arith) o.3) o.2) f),
          f,
        ) refl)

    -- The row itself, beneath an earlier one.
    row-side : (j : ℕ) → j < i → doc_at rows j ≡ parent_at rows i → side_of r new k i ≡ row_side j
    unfolding side_of
    row-side j l e =
        rw (ne_eqb (parent_at new i) none (λ z. proper s.tree j (omega arith) (e ∙ sym see.here.p ∙ z)))
        (ap (doc_side r new k) (see.here.p ∙ sym e) ∙ doc-side j l)

    outside-is : is_outside (side_of r new k i) ≡ (not (in_window r rows i) && parent_kept new k i)
    unfolding side_of doc_kept
    outside-is =
        ⊎_elim
        (λ z. rw (eq-eqb (parent_at new i) none (see.here.p ∙ z), see.here.f, root-top rows i z) (outside-if true (eqb (frame_at rows i) r)))
        (λ (q : (j : ℕ) × (j < i) × (doc_at rows j ≡ parent_at rows i)).
        ap is_outside (row-side q.0 q.1 q.2) ∙ outside-if (keep_in q.0) (in_window r rows q.0)
        ∙ ap₂ (λ w k. not w && k) (ap (λ x. eqb x r) (sym (root-up rows s.tree q.0 i q.1 below q.2)))
        (sym (ap (doc_kept new k) (see.here.p ∙ sym q.2) ∙ doc-told (upcoming_in r rows) rows s.tree new i k below see q.0 q.1)))
        (s.tree.placed i below)

    module _ (known : Sides) (mind : Minds i known) where
      told : (d : ℕ) (t : Side) → Holds i d t → (d ≡ none → ⊥) → doc_side r new k d ≡ t
      told d t h ne = ⊎_elim (λ z. absurd (ne z)) (λ m. ap (doc_side r new k) (sym m.2) ∙ doc-side m.0 m.1 ∙ m.3) h

      recalls : Recalls r new k known
      recalls = record { within-is = told _ Inside mind.within-is; outside-is = told _ Outside mind.outside-is; missed-is = told _ Lost mind.missed-is }

      minds-next : Minds (i + 1) (recalled known (record { 0 = parent_at new i }) (side_of r new k i))
      minds-next =
          minds-more (i + 1) (parent_at new i) known (side_of r new k i) (minds-on i known mind)
          (⊎_elim (λ z. inl (see.here.p ∙ z)) (λ q. inr (q.0, omega (arith, q.1), q.2 ∙ sym see.here.p, sym (row-side q.0 q.1 q.2))) (s.tree.placed i below))

      minds-turned : (t : Turn) → Turned r new k i known t → Minds (i + 1) t.known
      minds-turned t u =
          test (is_shown new i)
          (λ y. subst (Minds (i + 1)) (sym (u.known_is ∙ rw y refl)) (minds-on i known mind))
          (λ n. subst (Minds (i + 1)) (sym (u.known_is ∙ rw n refl)) minds-next)

    -- From an upcoming step of the window on, a turn's test is whether the row does not go by itself and its parent is kept.
    stays-test : (u : ℕ) → u ≤ i → So (upcoming_in r rows u) → is_shown new i ≡ is_shown rows i →
        cond (is_shown new i) (parent_kept new k i) (is_outside (side_of r new k i)) ≡ (not (upcoming_in r rows i) && parent_kept new k i)
    stays-test u late first same =
        test (is_shown rows i)
        (λ t. rw (same, late-goes rows s r u i late below first, t) (test (in_window r rows i) (λ w. rw w refl) (λ w. rw w refl)))
        (λ f. rw (same, late-goes rows s r u i late below first, f) (outside-is ∙ test (in_window r rows i) (λ w. rw w refl) (λ w. rw w refl)))

-- THE LOOP

-- The rows before i are done, and what is kept in mind is so.
pub record Closing (r : ℕ) (old : List ℕ) (i k : ℕ) (known : Sides) (new : List ℕ) : Type 0 where
  pub packed : Packed (keep_in r (rows_of old)) old i k new
  pub minds : Minds r (rows_of old) i known

module _ (r : ℕ) (old : List ℕ) where
  abbrev rows : List Row
  rows = rows_of old

  -- Up to the first upcoming step of the window nothing moves, and nothing is known.
  pub closing-starts : (gap : ℕ) → gap ≡ earliest (upcoming_in r rows) (length rows) → (known : Sides) → known.within.0 ≡ none → known.outside.0 ≡ none → known.missed.0 ≡ none → Closing r old gap gap known old
  closing-starts gap first known x y z =
      record { packed = gaps-start (upcoming_in r rows) old gap first; minds = record { within-is = inl x; outside-is = inl y; missed-is = inl z } }

  module _ (e : Examined old) (word : (table_of old).next_doc ≤ none) (i k : ℕ) (known : Sides) (new : List ℕ) (p : Closing r old i k known new) (l : i < length rows) where
    wide : WideRows rows (table_of old).next_doc (table_of old).next_frame
    wide = wide_rows (examined-sound old e).table word

    see : Sees (keep_in r rows) rows (rows_of new) i k
    see = packed-sees (keep_in r rows) old i k new p.packed (examined-fits old e) l

    -- What a turn may rely on.
    pub closing-within : Within new i × (k ≤ i)
    closing-within = packed-within (keep_in r rows) old i k new p.packed (examined-fits old e) l

    pub closing-asks : Within new i × (k ≤ i) × Recalls r (rows_of new) k known
    closing-asks = let w = closing-within in (w.0, w.1, recalls r rows wide (rows_of new) i k l see known p.minds)

    -- A turn.
    pub closing-more : (gap : ℕ) → gap ≡ earliest (upcoming_in r rows) (length rows) → gap ≤ i → (t : Turn) (m : ℕ) (next : List ℕ) → Turned r (rows_of new) k i known t → Moved t.stays new i k m next →
        Closing r old (i + 1) m t.known next
    closing-more gap first late t m next u v =
        let o = earliest-out (upcoming_in r rows) (length rows) in
        let w = closing-within in
        let same : is_shown (rows_of new) i ≡ is_shown rows i = ap (λ x. eqb x.shown 1) (over-rest _ old k new p.packed i w.1 l) in
        record {
          packed = gaps-more (upcoming_in r rows) old i k new p.packed wide.tree (examined-fits old e) l t.stays m next
              (u.stays-is ∙ stays-test r rows wide (rows_of new) i k l see (earliest (upcoming_in r rows) (length rows)) (omega arith) (o.passes (omega arith)) same) v;
          minds = minds-turned r rows wide (rows_of new) i k l see known p.minds t u;
        }

  -- After the last turn.
  pub closing-ends : (i k n : ℕ) (known : Sides) (new : List ℕ) → Closing r old i k known new → n ≡ length rows → i ≤ n → n ≤ i → Over (cleared r rows) old k new
  closing-ends i k n known new p e x y = gaps-end (upcoming_in r rows) old i k new p.packed (omega arith) (λ j l m. absurd (omega arith))
