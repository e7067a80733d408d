-- The quick test is S2 to S7. Assumes nothing.
use Prim.Native.Nat.{ℕ, zero, suc, ◌≤◌, ◌<◌}
use mathlib.Core.Path.{◌≡◌, refl, sym, ap, ◌∙◌}
use mathlib.Core.List.{List}
use mathlib.Core.Logic.{◌⊎◌, inl, inr, ⊎_elim}
use mathlib.Core.Bool.{Bool, false, not, ◌&&◌, So, and-eq-true_iff}
use native.Mathlib.Nat.{not-suc-le-zero}
use native.Mathlib.Omega.{arith}
use lib.Dec.{eqb, ltb}
use lib.ListN.{length}
use borrow.Author.Tests.{ltb-true, lt-ltb, leb-true, eqb-true, eq-eqb, ne_eqb, not-true}
use Rattle.rules.specs.Below.{some_below, count, earliest, latest}
use Rattle.rules.specs.Rows.{Row, Table, none, doc_at, frame_at, parent_at, shown_at, is_shown}
use Rattle.rules.specs.Steps.{same, step, is_step, reached, upcoming}
use Rattle.rules.specs.Moves.{row_before}
use Rattle.rules.specs.Windows.{root_at}
use Rattle.rules.specs.Sound.{S1, S2, S4, S5, S6, S7, s1?, SoundTable, sound_table?}
use Rattle.laws.proofs.Tests.{test, clash, off, same_tests, by-lt, by_order, some_in, some_out}
use Rattle.laws.proofs.Tests.{count-but, one_in, one_out, least, latest-is, latest-out}
use Rattle.laws.proofs.Frames.{step_in, step-out, first, reach-in, reach-out, no_more}
use Rattle.laws.proofs.Central.{only-shown, shown-one}
use Rattle.laws.proofs.Concealed.{shown-even}
use Rattle.laws.proofs.Loops.{earliest-out, earliest-in}
use Rattle.laws.proofs.Reflect.{Ref, ref-lt, ref-le, ref-eq, ref-so, ref-map, ref-and, ref-or, ref-all, ref-any, s2-is, sound-table-is}
use Rattle.laws.proofs.Tree.{TreeOf, OneRoot}
use Rattle.windows.proofs.Roots.{root-frame, root-one}
use Rattle.sound.specs.Quick.{headed, linked, comes, comes_in, quiet, calm, begins, row_fine, kept?, quick?}

-- THE ROW BEFORE

place-before : (fr : ℕ → ℕ) (i : ℕ) → So (step fr i) → (latest (same fr i) i < i) × (fr (latest (same fr i) i) ≡ fr i)
unfolding step
place-before fr i s = let r = latest-out (same fr i) i s in (r.0, eqb-true _ _ r.1)

-- The place after a in its frame, where b is a later one.
place_after : (fr : ℕ → ℕ) (a b : ℕ) → a < b → fr a ≡ fr b → (i : ℕ) × (i ≤ b) × So (step fr i) × (latest (same fr i) i ≡ a) × (fr i ≡ fr b)
place_after fr a b l e =
    let r = least (λ m. ltb a m && same fr b m) b (simp and-eq-true_iff (lt-ltb a b l, eq-eqb (fr b) (fr b) refl)) in
    let u = simp and-eq-true_iff at r.2 in
    let k = ltb-true a r.0 u.0 in
    let f = eqb-true (fr r.0) (fr b) u.1 in (
      r.0,
      r.1,
      step_in fr k (e ∙ sym f),
      latest-is (same fr r.0) r.0 k (eq-eqb _ _ (e ∙ sym f)) (λ m c d t.
          r.3 m d (simp and-eq-true_iff (lt-ltb a m c, eq-eqb (fr m) (fr b) (eqb-true _ _ t ∙ f)))),
      f,
    )

module _ (rows : List Row) where
  -- The row before a step; what comes, where a frame goes on after a shown row.
  row_before_lem : (i : ℕ) → So (is_step rows i) → (row_before rows i < i) × (frame_at rows (row_before rows i) ≡ frame_at rows i)
  unfolding row_before
  row_before_lem = place-before (frame_at rows)

  comes-in : (a b : ℕ) → a < b → frame_at rows a ≡ frame_at rows b → So (is_shown rows a) → (i : ℕ) × (i ≤ b) × So (comes rows i) × (frame_at rows i ≡ frame_at rows b)
  unfolding comes row_before
  comes-in a b l e s =
      let r = place_after (frame_at rows) a b l e in
      (r.0, r.1, simp and-eq-true_iff (r.2, ap (is_shown rows) r.3 ∙ s), r.4)

  -- A shown row of i's frame, and what comes before an upcoming step.
  abbrev Shown : ℕ → Type 0
  Shown i = (k : ℕ) × (k < length rows) × (frame_at rows k ≡ frame_at rows i) × So (is_shown rows k)

  pub upcoming-comes : (i : ℕ) → So (upcoming rows i) → Shown i → (k : ℕ) × (k ≤ i) × So (comes rows k) × (frame_at rows k ≡ frame_at rows i)
  upcoming-comes i u r =
      by-lt r.0 i
      (λ m. comes-in r.0 i m r.2 r.3)
      (λ m. absurd (clash (reach-in _ _ (is_shown rows) m r.1 r.2 r.3) (not-true _ (simp and-eq-true_iff at u).1)))

  comes-out : (i : ℕ) → So (comes rows i) → So (is_step rows i) × So (is_shown rows (row_before rows i))
  unfolding comes
  comes-out i h = simp and-eq-true_iff at h

-- WHAT THE TESTS MEAN

abbrev Even : List Row → Type 0
Even rows = count (is_shown rows) (length rows) ≡ count (λ i. not (is_step rows i)) (length rows)

record Fine (rows : List Row) (next_frame i : ℕ) : Type 0 where
  framed : frame_at rows i < next_frame
  bit : shown_at rows i ≤ 1
  link : So (linked rows i)

module _ (rows : List Row) where
  -- A frame's first row: no parent, or an earlier one.
  abbrev Headed : ℕ → Type 0
  Headed i = (parent_at rows i ≡ none) ⊎ ((j : ℕ) × (j < i) × (doc_at rows j ≡ parent_at rows i))

  headed-is : (i : ℕ) → Ref (headed rows i) (Headed i)
  unfolding headed
  headed-is i = ref-or (ref-eq (parent_at rows i) none) (ref-any (λ j. ref-eq (doc_at rows j) (parent_at rows i)) i)

  linked-is : (i : ℕ) → Ref (linked rows i) ((So (is_step rows i) → parent_at rows i ≡ parent_at rows (row_before rows i)) × (is_step rows i ≡ false → Headed i))
  unfolding linked
  linked-is i = (
    λ h. (λ t. eqb-true _ _ (rw t at h), λ f. (headed-is i).0 (rw f at h)),
    λ h. test (is_step rows i) (λ t. rw t (eq-eqb _ _ (h.0 t))) (λ f. rw f ((headed-is i).1 (h.1 f))),
  )

  -- A shown step before which none of a kind comes.
  silent-is : (q : ℕ → Bool) (i : ℕ) → Ref (not (is_step rows i && is_shown rows i && some_below (suc i) q)) (So (is_step rows i) → So (is_shown rows i) → (k : ℕ) → k ≤ i → So (q k) → ⊥)
  silent-is q i = (
    λ h s t k l c. clash (some_in q (suc i) {k = k} (omega arith) c) (not-true _ (rw (s, t) at h)),
    λ h.
        rw (off (is_step rows i && is_shown rows i && some_below (suc i) q) (λ t.
        let u = simp and-eq-true_iff at t in
        let k = some_out q (suc i) u.1 in
        h u.0.0 u.0.1 k.0 (omega arith) k.2)),
  )

  pub calm-is : (i : ℕ) → Ref (calm rows i) (So (is_step rows i) → So (is_shown rows i) → (k : ℕ) → k ≤ i → So (comes_in (root_at rows i) rows k) → ⊥)
  unfolding calm
  calm-is i = silent-is (comes_in (root_at rows i) rows) i

  quiet_is : (i : ℕ) → Ref (quiet rows i) (So (is_step rows i) → So (is_shown rows i) → (k : ℕ) → k ≤ i → So (comes rows k) → ⊥)
  unfolding quiet
  quiet_is i = silent-is (comes rows) i

  pub comes_of : (r k : ℕ) → So (comes rows k) → root_at rows k ≡ r → So (comes_in r rows k)
  unfolding comes_in
  comes_of r k c e = simp and-eq-true_iff (c, eq-eqb _ _ e)

  pub comes-whose : (r k : ℕ) → So (comes_in r rows k) → So (comes rows k) × (root_at rows k ≡ r)
  unfolding comes_in
  comes-whose r k h = let u = simp and-eq-true_iff at h in (u.0, eqb-true _ _ u.1)

  -- What is quiet is calm, and with one window nothing else is.
  pub quiet_calm : (i : ℕ) → So (quiet rows i) → So (calm rows i)
  quiet_calm i h = (calm-is i).1 (λ s t k l c. (quiet_is i).0 h s t k l (comes-whose (root_at rows i) k c).0)

  pub calm-quiet : ((k : ℕ) → k < length rows → (m : ℕ) → m < length rows → root_at rows k ≡ root_at rows m) → (i : ℕ) → i < length rows → So (calm rows i) → So (quiet rows i)
  calm-quiet one i n h = (quiet_is i).1 (λ s t k l c. (calm-is i).0 h s t k l (comes_of (root_at rows i) k c (one k (omega arith) i n)))

  fine-is : (next_frame i : ℕ) → Ref (row_fine rows next_frame i) (Fine rows next_frame i)
  unfolding row_fine
  fine-is next_frame i =
      ref-map
      (λ h. record { framed = h.0.0; bit = h.0.1; link = h.1 })
      (λ f. ((f.framed, f.bit), f.link))
      (ref-and (ref-and (ref-lt (frame_at rows i) next_frame) (ref-le (shown_at rows i) 1)) (ref-so (linked rows i)))

  kept-means : (next_doc next_frame : ℕ) → Ref (kept? rows next_doc next_frame) ((((i : ℕ) → i < length rows → Fine rows next_frame i) × Even rows) × S2 rows next_doc)
  unfolding kept?
  kept-means next_doc next_frame =
      ref-and (ref-and (ref-all (fine-is next_frame) (length rows)) (ref-eq (count (is_shown rows) (length rows)) (count (λ i. not (is_step rows i)) (length rows)))) (s2-is rows next_doc)

  quick-means : (next_doc next_frame : ℕ) →
      Ref (quick? rows next_doc next_frame) (((((i : ℕ) → i < length rows → Fine rows next_frame i) × Even rows) × S2 rows next_doc) × ((i : ℕ) → i < length rows → So (calm rows i)))
  unfolding quick?
  quick-means next_doc next_frame = ref-and (kept-means next_doc next_frame) (ref-all (λ i. ref-so (calm rows i)) (length rows))

-- FROM THE RULES

pub sound-linked : (rows : List Row) → S4 rows → S5 rows → (i : ℕ) → i < length rows → So (linked rows i)
sound-linked rows s4 s5 i l =
    (linked-is rows i).1 (λ t. let b = row_before_lem rows i t in s5.kin i (row_before rows i) l (omega arith) (sym b.1), λ f. s4.placed i l)

module _ (rows : List Row) (s6 : S6 rows) where
  -- What comes is upcoming.
  pub comes-upcoming : (k : ℕ) → k < length rows → So (comes rows k) → So (upcoming rows k)
  comes-upcoming k l c =
      let u = comes-out rows k c in
      let b = row_before_lem rows k u.0 in
      let f = off (reached rows k) (λ h.
      let r = reach-out _ _ _ k h in
      let e = only-shown rows s6 (row_before rows k) r.0 (omega arith) r.2 (r.3 ∙ sym b.1) u.1 r.4 in
      omega arith) in
      simp and-eq-true_iff (u.0, rw f refl)

  sound-calm : S7 rows → (i : ℕ) → i < length rows → So (calm rows i)
  sound-calm s7 i l =
      (calm-is rows i).1 (λ s t k m c.
      let w = comes-whose rows (root_at rows i) k c in
      let z = s7.later k i (omega arith) l w.1 (comes-upcoming k (omega arith) w.0) s t in
      omega arith)

  -- The first row that comes is the first upcoming step.
  pub comes-start : earliest (comes rows) (length rows) ≡ earliest (upcoming rows) (length rows)
  comes-start =
      let o = earliest-out (comes rows) (length rows) in
      let w = o.within in
      earliest-in (upcoming rows) (length rows) (earliest (comes rows) (length rows)) (record {
        within = w;
        passes = λ l. comes-upcoming (earliest (comes rows) (length rows)) l (o.passes l);
        none_before = λ m l. off (upcoming rows m) (λ t.
            let c = upcoming-comes rows m t (shown-one rows s6 m (omega arith)) in clash c.2 (o.none_before c.0 (omega arith)));
      })

-- Of a tree with one root frame one row begins a window: the first.
pub one-begins : (rows : List Row) {a b : ℕ} → TreeOf rows a b → OneRoot rows → 1 ≤ length rows → count (begins rows) (length rows) ≡ 1
unfolding begins
one-begins rows tree one some =
    let top : parent_at rows 0 ≡ none = ⊎_elim (λ e. e) (λ r. absurd (not-suc-le-zero r.1)) (tree.placed 0 some) in
    one_in (begins rows) (length rows) 0 some (rw (off (is_step rows 0) (λ s. not-suc-le-zero (step-out (frame_at rows) 0 s).1), eq-eqb _ _ top) refl) (λ i l t.
    let u = simp and-eq-true_iff at t in
    by-lt 0 i (λ m. absurd (clash (step_in (frame_at rows) m (one 0 i some l top (eqb-true _ _ u.1))) (not-true _ u.0))) (λ m. omega arith))

-- TO THE RULES

module _ (rows : List Row) (fine : (i : ℕ) → i < length rows → So (linked rows i)) where
  -- The first row of i's frame has i's parent.
  head : (m i : ℕ) → i < m → i < length rows → (j : ℕ) × (j ≤ i) × (frame_at rows j ≡ frame_at rows i) × (parent_at rows j ≡ parent_at rows i) × (is_step rows j ≡ false)
  head zero i l a = absurd (not-suc-le-zero l)
  head (suc m) i l a =
      test (is_step rows i)
      (λ t.
      let b = row_before_lem rows i t in
      let h = head m (row_before rows i) (omega arith) (omega arith) in
      (h.0, omega arith, h.2 ∙ b.1, h.3 ∙ sym (((linked-is rows i).0 (fine i a)).0 t), h.4))
      (λ f. (i, omega arith, refl, refl, f))

  quick-S4 : S4 rows
  quick-S4 =
      record {
        placed = λ i l.
            let h = head (suc i) i (omega arith) l in
            ⊎_elim (λ a. inl (sym h.3 ∙ a)) (λ r. inr (r.0, omega arith, r.2 ∙ h.3)) (((linked-is rows h.0).0 (fine h.0 (omega arith))).1 h.4);
      }

  quick-S5 : S5 rows
  quick-S5 =
      record {
        kin = λ i j a b e.
            let g = head (suc i) i (omega arith) a in
            let h = head (suc j) j (omega arith) b in
            let f = g.2 ∙ e ∙ sym h.2 in
            let q : g.0 ≡ h.0 =
            by_order g.0 h.0 (λ l. absurd (clash (step_in (frame_at rows) l f) h.4)) (λ q. q) (λ l. absurd (clash (step_in (frame_at rows) l (sym f)) g.4)) in
            sym g.3 ∙ ap (parent_at rows) q ∙ h.3;
      }

  begins-in : (k : ℕ) → is_step rows k ≡ false → parent_at rows k ≡ none → So (begins rows k)
  unfolding begins
  begins-in k f z = rw (f, eq-eqb _ _ z) refl

  -- Where one row begins a window, all rows without a parent are of its frame.
  pub begins-one : count (begins rows) (length rows) ≡ 1 → OneRoot rows
  begins-one e i j l m z w =
      let g = head (suc i) i (omega arith) l in
      let h = head (suc j) j (omega arith) m in
      let q = (one_out (begins rows) (length rows) e).1 g.0 h.0 (omega arith) (omega arith) (begins-in g.0 g.4 (g.3 ∙ z)) (begins-in h.0 h.4 (h.3 ∙ w)) in
      sym g.2 ∙ ap (frame_at rows) q ∙ h.2

module _ (rows : List Row) {a b : ℕ} (tree : TreeOf rows a b) (fine : (i : ℕ) → i < length rows → So (calm rows i)) where
  -- A frame has no two shown rows, and with as many shown rows as frames each has one.
  apart : (i j : ℕ) → i < j → j < length rows → frame_at rows i ≡ frame_at rows j → So (is_shown rows i) → So (is_shown rows j) → ⊥
  apart i j l m e s t =
      let c = comes-in rows i j l e s in
      (calm-is rows j).0 (fine j m) (step_in (frame_at rows) l e) t c.0 c.1 (comes_of rows (root_at rows j) c.0 c.2 (root-frame rows tree c.0 j (omega arith) m c.3))

  module _ (even : Even rows) where
    shown : (i : ℕ) → i < length rows → Shown rows i
    shown i l =
        let n = length rows in
        let fr = frame_at rows in
        test (some_below n (λ k. same fr i k && is_shown rows k))
        (λ h.
        let r = some_out _ n h in
        let t = simp and-eq-true_iff at r.2 in
        (r.0, r.1, eqb-true _ _ t.0, t.1))
        (λ f.
        let x = first fr i in
        let a = no_more n n fr (is_shown rows) (λ k. not (eqb k x.0) && not (is_step rows k))
        (λ k b s.
        let r = first fr k in
        let ne = ne_eqb r.0 x.0 (λ e. clash (some_in _ n b (simp and-eq-true_iff (eq-eqb (fr k) (fr i) (sym r.2 ∙ ap fr e ∙ x.2), s))) f) in
        (r.0, omega arith, r.2, rw (ne, r.3) refl))
        apart in
        absurd (omega (arith, count-but (λ k. not (is_step rows k)) n x.0 (omega arith) (rw x.3 refl))))

    quick-S6 : ((i : ℕ) → i < length rows → shown_at rows i ≤ 1) → S6 rows
    quick-S6 bit =
        record {
          bit = bit;
          one = λ i l.
              let r = shown i l in
              one_in _ (length rows) r.0 r.1 (simp and-eq-true_iff (eq-eqb _ _ r.2, r.3)) (λ k m t.
              let u = simp and-eq-true_iff at t in
              let e = eqb-true _ _ u.0 ∙ sym r.2 in
              by_order k r.0 (λ a. absurd (apart k r.0 a r.1 e u.1 r.3)) (λ q. q) (λ a. absurd (apart r.0 k a m (sym e) r.3 u.1)));
        }

    quick-S7 : S7 rows
    quick-S7 =
        record {
          later = λ i j a b e u s t.
              let c = upcoming-comes rows i u (shown i a) in
              by-lt j i (λ l. l) (λ l.
              absurd ((calm-is rows j).0 (fine j b) s t c.0 (omega arith) (comes_of rows (root_at rows j) c.0 c.2 (root-frame rows tree c.0 i (omega arith) a c.3 ∙ e))));
        }

-- THE QUICK TEST IS THE TEST OF THE RULES

-- The rows are a tree, whatever their order.
kept-tree : (t : Table) → t.next_doc ≤ none → (((i : ℕ) → i < length t.rows → Fine t.rows t.next_frame i) × Even t.rows) × S2 t.rows t.next_doc → TreeOf t.rows t.next_doc t.next_frame
kept-tree t w m =
    let rows = t.rows in
    let s2 = m.1 in
    record {
      distinct = s2.distinct;
      below = s2.below;
      word = w;
      framed = λ i l. (m.0.0 i l).framed;
      placed = (quick-S4 rows (λ i l. (m.0.0 i l).link)).placed;
      kin = (quick-S5 rows (λ i l. (m.0.0 i l).link)).kin;
    }

pub tree-kept : (t : Table) → t.next_doc ≤ none → So (kept? t.rows t.next_doc t.next_frame) → TreeOf t.rows t.next_doc t.next_frame
tree-kept t w k = kept-tree t w ((kept-means t.rows t.next_doc t.next_frame).0 k)

-- Where one row begins a window and the rest is kept, calm is quiet.
pub alone-quiet : (t : Table) → t.next_doc ≤ none → So (kept? t.rows t.next_doc t.next_frame) → count (begins t.rows) (length t.rows) ≡ 1 →
    (i : ℕ) → i < length t.rows → So (calm t.rows i) → So (quiet t.rows i)
alone-quiet t w k e =
    let m = (kept-means t.rows t.next_doc t.next_frame).0 k in
    let one = begins-one t.rows (λ i l. (m.0.0 i l).link) e in
    calm-quiet t.rows (λ i l j n. root-one t.rows (tree-kept t w k) one i j l n)

quick-sound : {room : ℕ} (t : Table) → S1 room t.rows → t.next_doc ≤ none → So (quick? t.rows t.next_doc t.next_frame) → SoundTable room t
quick-sound t s1 w q =
    let rows = t.rows in
    let m = (quick-means rows t.next_doc t.next_frame).0 q in
    let h = m.0.0 in
    let tree = kept-tree t w m.0 in
    record {
      s1 = s1;
      s2 = m.0.1;
      s3 = record { below = λ i l. (h.0 i l).framed };
      s4 = quick-S4 rows (λ i l. (h.0 i l).link);
      s5 = quick-S5 rows (λ i l. (h.0 i l).link);
      s6 = quick-S6 rows tree m.1 h.1 (λ i l. (h.0 i l).bit);
      s7 = quick-S7 rows tree m.1 h.1;
    }

sound-quick : {room : ℕ} {t : Table} → SoundTable room t → So (quick? t.rows t.next_doc t.next_frame)
sound-quick {t = t} s =
    (quick-means t.rows t.next_doc t.next_frame).1 (
      (
        (
          λ i l. record { framed = s.s3.below i l; bit = s.s6.bit i l; link = sound-linked t.rows s.s4 s.s5 i l },
          shown-even t.rows s.s6,
        ),
        s.s2,
      ),
      sound-calm t.rows s.s6 s.s7,
    )

pub quick-is : (room : ℕ) (t : Table) → So (s1? room t.rows) → t.next_doc ≤ none → quick? t.rows t.next_doc t.next_frame ≡ sound_table? room t
quick-is room t s w =
    let u = simp and-eq-true_iff at s in
    same_tests
    (λ q. (sound-table-is room t).1 (quick-sound t (record { some = leb-true _ _ u.0; fits = leb-true _ _ u.1 }) w q))
    (λ h. sound-quick ((sound-table-is room t).0 h))
