-- A document replaced in its row: what is beneath it goes, and the row takes the next number. Assumes nothing.
use Prim.Native.Nat.{ℕ, suc, ◌+◌, ◌≤◌, ◌<◌}
use mathlib.Core.Path.{◌≡◌, refl, sym, ap, ◌∙◌, subst, subst₂, subst₃, fun_ext}
use mathlib.Core.List.{List}
use mathlib.Core.Logic.{◌≢◌, inl, inr, ⊎_elim}
use mathlib.Core.Bool.{Bool, not, ◌&&◌, So, cond}
use native.Mathlib.Omega.{arith}
use lib.Dec.{eqb}
use lib.ListN.{length, get_or-eq_default}
use borrow.Author.Tests.{eqb-true, eq-eqb, ne_eqb, not-true}
use Rattle.rules.specs.Below.{count}
use Rattle.rules.specs.Rows.{Row, Table, none, no_row, row_at, doc_at, frame_at, parent_at, shown_at, is_shown, is_doc, in_record}
use Rattle.rules.specs.Steps.{step, reach, is_step, reached, taken, position, steps}
use Rattle.rules.specs.Moves.{without, is_child, named, renamed, replaced}
use Rattle.rules.specs.Sound.{S6}
use Rattle.laws.specs.Alone.{InOrder}
use Rattle.laws.proofs.Tests.{test, clash, by-lt, count-in, count-all, length-tab, tab-at}
use Rattle.laws.proofs.Frames.{OneEach, Later, position_of}
use Rattle.laws.proofs.Kept.{Whole, kept_row, kept-length, kept_step, kept-reached}
use Rattle.laws.proofs.Tree.{Tree, TreeOf, OneRoot, OneRootIn, parent-earlier, came}
use Rattle.laws.proofs.Climb.{gone-self}
use Rattle.laws.proofs.Reflect.{record_is}
use Rattle.laws.proofs.Removal.{SoundRows, stays, stays-in, stays_up, stays-whole, gone-later, Together, Removed, removed}

-- A ROW RENAMED

module _ (d m : ℕ) (rows : List Row) where
  pub renamed-length : length (renamed d m rows) ≡ length rows
  unfolding renamed
  renamed-length = length-tab _ (length rows)

  pub renamed-row : (i : ℕ) → i < length rows → row_at (renamed d m rows) i ≡ cond (is_doc rows d i) (named m (row_at rows i)) (row_at rows i)
  unfolding renamed
  renamed-row i l = tab-at _ (length rows) no_row l

  renamed-past : (i : ℕ) → length rows ≤ i → row_at (renamed d m rows) i ≡ row_at rows i
  renamed-past i l = get_or-eq_default (renamed d m rows) no_row (subst (λ n. n ≤ i) (sym renamed-length) l) ∙ sym (get_or-eq_default rows no_row l)

  -- What does not look at the document stays.
  renamed-keep : (g : Row → ℕ) → ((r : Row) → g (named m r) ≡ g r) → ◌≡◌ {A = ℕ → ℕ} (λ i. g (row_at (renamed d m rows) i)) (λ i. g (row_at rows i))
  renamed-keep g h =
      fun_ext (λ i.
      by-lt i (length rows)
      (λ l. ap g (renamed-row i l) ∙ test (is_doc rows d i) (λ t. rw t (h (row_at rows i))) (λ f. rw f refl))
      (λ l. ap g (renamed-past i l)))

  pub renamed-frame : frame_at (renamed d m rows) ≡ frame_at rows
  renamed-frame = renamed-keep (λ r. r.frame) (λ r. refl)

  pub renamed-parent : parent_at (renamed d m rows) ≡ parent_at rows
  renamed-parent = renamed-keep (λ r. r.parent) (λ r. refl)

  pub renamed-shown : shown_at (renamed d m rows) ≡ shown_at rows
  renamed-shown = renamed-keep (λ r. r.shown) (λ r. refl)

  pub renamed-marks : is_shown (renamed d m rows) ≡ is_shown rows
  renamed-marks = ap (λ s i. eqb (s i) 1) renamed-shown

  pub renamed-doc : (i : ℕ) → i < length rows → doc_at (renamed d m rows) i ≡ cond (is_doc rows d i) m (doc_at rows i)
  renamed-doc i l = ap (λ r. r.doc) (renamed-row i l) ∙ test (is_doc rows d i) (λ t. rw t refl) (λ f. rw f refl)

  -- What depends on frames, flags and parents alone.
  pub renamed-S6 : S6 rows → S6 (renamed d m rows)
  renamed-S6 s =
      record {
        bit = subst₂ (λ n sh. (i : ℕ) → i < n → sh i ≤ 1) (sym renamed-length) (sym renamed-shown) s.bit;
        one = subst₃ OneEach (sym renamed-length) (sym renamed-frame) (sym renamed-marks) s.one;
      }

  pub renamed-S7 : InOrder rows → InOrder (renamed d m rows)
  renamed-S7 s = record { later = subst₃ Later (sym renamed-length) (sym renamed-frame) (sym renamed-marks) s.later }

  pub renamed-one : OneRoot rows → OneRoot (renamed d m rows)
  renamed-one one = subst₃ OneRootIn (sym renamed-length) (sym renamed-frame) (sym renamed-parent) one

  pub renamed-position : position (renamed d m rows) ≡ position rows
  unfolding position
  renamed-position = subst₃ (λ n fr s. position_of n fr s ≡ position rows) (sym renamed-length) (sym renamed-frame) (sym renamed-marks) refl

  pub renamed-steps : steps (renamed d m rows) ≡ steps rows
  unfolding steps
  renamed-steps = subst₂ (λ n fr. count (step fr) n ≡ steps rows) (sym renamed-length) (sym renamed-frame) refl

  -- The next number for a document with nothing beneath it.
  module _ {b : ℕ} (t : TreeOf rows m b) (left : m < none) (bare : (i : ℕ) → i < length rows → parent_at rows i ≡ d → ⊥) where
    used : (i : ℕ) → i < length rows → doc_at rows i ≡ m → ⊥
    used i l e = omega (arith, t.below i l)

    pub tree-renamed : TreeOf (renamed d m rows) (suc m) b
    tree-renamed =
        subst₃ (λ n fr par. Tree n (doc_at (renamed d m rows)) fr par (suc m) b) (sym renamed-length) (sym renamed-frame) (sym renamed-parent) (record {
          distinct = λ i j l k e.
              let f : cond (is_doc rows d i) m (doc_at rows i) ≡ cond (is_doc rows d j) m (doc_at rows j) = sym (renamed-doc i l) ∙ e ∙ renamed-doc j k in
              test (is_doc rows d i)
              (λ u. test (is_doc rows d j) (λ v. t.distinct i j l k (eqb-true _ _ u ∙ sym (eqb-true _ _ v))) (λ v. absurd (used j k (sym (rw (u, v) at f)))))
              (λ u. test (is_doc rows d j) (λ v. absurd (used i l (rw (u, v) at f))) (λ v. t.distinct i j l k (rw (u, v) at f)));
          below = λ i l.
              rw (renamed-doc i l) (test (is_doc rows d i) (λ u. rw u (omega arith)) (λ u. rw u (let y = t.below i l in omega arith)));
          word = left;
          framed = t.framed;
          placed = λ i l.
              ⊎_elim (λ e. inl e) (λ r.
              inr (r.0, r.1, renamed-doc r.0 (omega arith) ∙ rw (ne_eqb (doc_at rows r.0) d (λ e. bare i l (sym r.2 ∙ e))) r.2)) (t.placed i l);
          kin = t.kin;
        })

-- REPLACE

-- The rows that stay when what is beneath d goes.
abbrev pub stays_over : ℕ → List Row → ℕ → Bool
stays_over d rows = stays (is_child rows d) rows

module _ (rows : List Row) {a b : ℕ} (tree : TreeOf rows a b) (d : ℕ) where
  -- What lies in d goes with its whole frames.
  pub children-together : (p : ℕ) → Together (is_child rows d) rows p
  children-together p j k l m e v h = eq-eqb _ _ (sym (tree.kin j k l m e) ∙ eqb-true _ _ h)

  -- Rows up to d's own stay where they are: what lies in it is later.
  module _ (k : ℕ) (l : k < length rows) (there : doc_at rows k ≡ d) where
    pub stays-upto : (i : ℕ) → i ≤ k → So (stays_over d rows i)
    stays-upto i m =
        stays-in (is_child rows d) rows i (λ g.
        let v = gone-later (is_child rows d) rows (suc i) i (omega arith) g in
        omega (arith, parent-earlier tree k v.0 l (omega arith) (there ∙ sym (eqb-true _ _ v.2))))

    pub place-upto : (i : ℕ) → i ≤ suc k → count (stays_over d rows) i ≡ i
    place-upto i m = count-all (stays_over d rows) i (λ j n. stays-upto j (omega arith))

module _ (t : Table) (d : ℕ) where
  abbrev rows : List Row
  rows = t.rows

  abbrev keep : ℕ → Bool
  keep = stays_over d rows

  -- What is left, before d's row takes the next number.
  abbrev bared : List Row
  bared = without (is_child rows d) rows

  -- A row that stays reads as before but for the number of d's own, and comes after the rows that stay before it.
  pub replaced-rest : (k : ℕ) → k < length rows → So (keep k) → row_at (replaced t d).rows (count keep k) ≡ cond (is_doc rows d k) (named t.next_doc (row_at rows k)) (row_at rows k)
  unfolding replaced without
  replaced-rest k l h =
      let e = kept_row keep rows k l h in
      renamed-row d t.next_doc bared (count keep k) (omega (arith, kept-length keep rows, count-in keep (length rows) l h))
      ∙ ap (λ r. cond (eqb r.doc d) (named t.next_doc r) r) e

  -- So many rows stay.
  pub replaced-length : length (replaced t d).rows ≡ count keep (length rows)
  unfolding replaced without
  replaced-length = renamed-length d t.next_doc bared ∙ kept-length keep rows

  module _ {a b : ℕ} (tree : TreeOf rows a b) where
    -- In what is left nothing lies in d.
    pub bare : (i : ℕ) → i < length bared → parent_at bared i ≡ d → ⊥
    unfolding without
    bare i l e =
        let u = came keep rows tree (stays_up (is_child rows d) rows tree) i l in
        clash (gone-self (is_child rows d) rows u.0 (eq-eqb _ _ (sym u.4.p ∙ e))) (not-true _ u.2)

    -- Some row is left: d's own.
    pub replaced-some : So (in_record rows d) → 1 ≤ length (replaced t d).rows
    replaced-some h =
        let r = (record_is rows d).0 h in
        omega (arith, replaced-length, count-in keep (length rows) r.1 (stays-upto rows tree d r.0 r.1 r.2 r.0 (omega arith)))

  module _ (s : SoundRows t.rows t.next_doc t.next_frame) where
    pub children-removed : Removed (is_child rows d) rows t.next_doc t.next_frame
    children-removed = removed rows s (is_child rows d) (children-together rows s.tree d (position rows))

    -- The rows left are sound.
    pub replaced-sound : t.next_doc ≢ none → SoundRows (replaced t d).rows (replaced t d).next_doc (replaced t d).next_frame
    unfolding replaced
    replaced-sound unused =
        let r = children-removed.sound in
        let w = s.tree.word in
        record {
          tree = tree-renamed d t.next_doc bared r.tree (omega arith) (bare s.tree);
          root = renamed-one d t.next_doc bared r.root;
          s6 = renamed-S6 d t.next_doc bared r.s6;
          s7 = renamed-S7 d t.next_doc bared r.s7;
        }

    -- "Position may fall by taken steps beneath": by all of these, and by nothing else.
    pub replaced-position : position (replaced t d).rows + count (λ k. not (keep k) && taken rows k) (length rows) ≡ position rows
    unfolding replaced
    replaced-position = omega (arith, renamed-position d t.next_doc bared, children-removed.falls)

    whole : Whole keep rows (position rows)
    whole = stays-whole (is_child rows d) rows s.tree (position rows) (children-together rows s.tree d (position rows))

    -- "upcoming steps elsewhere stay": a step that stays is one still, taken or upcoming as it was.
    pub replaced-step : (k : ℕ) → k < length rows → So (keep k) → is_step (replaced t d).rows (count keep k) ≡ is_step rows k
    unfolding replaced without
    replaced-step k l h = ap (λ fr. step fr (count keep k)) (renamed-frame d t.next_doc bared) ∙ kept_step keep rows s.s6 s.s7 whole k l h

    pub replaced-reached : (k : ℕ) → k < length rows → So (keep k) → reached (replaced t d).rows (count keep k) ≡ reached rows k
    unfolding replaced without
    replaced-reached k l h =
        subst₃ (λ n fr sh. reach n fr sh (count keep k) ≡ reached rows k)
        (sym (renamed-length d t.next_doc bared)) (sym (renamed-frame d t.next_doc bared)) (sym (renamed-marks d t.next_doc bared))
        (kept-reached keep rows s.s6 s.s7 whole k l h)
