-- What the pass of the test tells, in the code's shape. Assumes nothing.
use Prim.Native.Nat.{ℕ, suc, ◌+◌, ◌*◌, ◌≤◌, ◌<◌, max}
use mathlib.Core.Bool.{Bool, true, false, not, ◌&&◌, ◌||◌, So, false≢true, and-eq-true_iff}
use mathlib.Core.List.{List}
use mathlib.Core.Path.{◌≡◌, refl, sym, ap, subst, ◌∙◌}
use native.Mathlib.Numerals.{add-one}
use native.Mathlib.Omega.{arith}
use mir.Val.{bool_byte}
use lib.Dec.{eqb, leb, ltb}
use lib.ListN.{length, get_or}
use borrow.Author.Tests.{eqb-true, eqb-false, leb-true, eq-eqb, ne_eqb, lt-ltb, le-ltb}
use Rattle.base.specs.declared.DocNo.{DocNo}
use Rattle.base.specs.declared.FrameNo.{FrameNo}
use Rattle.base.specs.declared.RowPlace.{RowPlace}
use Rattle.rules.specs.Below.{some_below, all_below, count, earliest, latest}
use Rattle.rules.specs.Rows.{Row, none, doc_at, frame_at, parent_at, shown_at, is_shown, is_doc}
use Rattle.rules.specs.Steps.{same, step, is_step}
use Rattle.rules.specs.Moves.{row_before}
use Rattle.rules.specs.Words.{capacity, rows_of}
use Rattle.rules.specs.Sound.{s2?, zero?, s8?}
use Rattle.laws.proofs.Words.{rows-length}
use Rattle.reads.specs.Found.{found_below}
use Rattle.std.specs.Prelude.{Option, None, Some}
use Rattle.laws.proofs.Tests.{test, clash, off, or_left, or_right, or-false, some_in, some_out, all_in, all-out, count_yes, count_no}
use Rattle.reads.specs.Within.{Within}
use Rattle.reads.specs.Under.{Under}
use Rattle.laws.proofs.Loops.{all-flag, count-more, earliest-none, latest-yes, latest-no}
use Rattle.reads.proofs.Scans.{found_at, found-lower, found_nothing, under_more}
use Rattle.sound.specs.Quick.{bounded, headed, linked, comes, quiet, begins, row_fine, evenly, kept?}
use Rattle.sound.specs.Pass.{Passed, Onward, Opens, StepAfter, TellsTo, Tells, late_of}
use Rattle.sound.specs.declared.Pass.{Pass}

module _ (rows : List Row) (i : ℕ) where
  -- The parent is known, none, found, or not found.
  pub headed-known : (up known : ℕ) → up ≡ parent_at rows i → up ≡ known → some_below i (is_doc rows known) ≡ true → true ≡ headed rows i
  unfolding headed
  headed-known up known e k h = sym (or_right (eqb (parent_at rows i) none) (subst (λ d. some_below i (is_doc rows d) ≡ true) (sym k ∙ e) h))

  pub headed-none : (up : ℕ) → up ≡ parent_at rows i → up ≡ none → true ≡ headed rows i
  unfolding headed
  headed-none up e z = sym (or_left (some_below i (is_doc rows (parent_at rows i))) (eq-eqb _ _ (sym e ∙ z)))

  pub headed-found : (up : ℕ) (r : Option RowPlace) (q : RowPlace) → up ≡ parent_at rows i → r ≡ found_below (is_doc rows up) i → r ≡ Some q → true ≡ headed rows i
  unfolding headed
  headed-found up r q e f h = sym (or_right (eqb (parent_at rows i) none) (subst (λ d. some_below i (is_doc rows d) ≡ true) e (found_at (is_doc rows up) i q (sym f ∙ h)).0))

  pub headed-lost : (up : ℕ) (r : Option RowPlace) → up ≡ parent_at rows i → (up ≡ none → ⊥) → r ≡ found_below (is_doc rows up) i → r ≡ None → false ≡ headed rows i
  unfolding headed
  headed-lost up r e ne f h =
      sym (rw (ne_eqb (parent_at rows i) none (λ z. ne (e ∙ z)), subst (λ d. some_below i (is_doc rows d) ≡ false) e (found_nothing (is_doc rows up) i (sym f ∙ h))) refl)

  -- A document known, or found, stands in an earlier row.
  pub known-before : (up known : ℕ) → up ≡ known → some_below i (is_doc rows known) ≡ true → some_below i (is_doc rows up) ≡ true
  known-before up known e h = rw e h

  pub found_before : (up : ℕ) (r : Option RowPlace) (q : RowPlace) → r ≡ found_below (is_doc rows up) i → r ≡ Some q → some_below i (is_doc rows up) ≡ true
  found_before up r q f h = (found_at (is_doc rows up) i q (sym f ∙ h)).0

  -- A step and a frame's first row.
  pub step_after : (r : Option RowPlace) (j : RowPlace) → r ≡ found_below (same (frame_at rows) i) i → r ≡ Some j → StepAfter rows i j.0
  unfolding step row_before
  step_after r j e f = let q = found_at (same (frame_at rows) i) i j (sym e ∙ f) in record { step = q.0; prior = sym q.1; lower = found-lower (same (frame_at rows) i) i j (sym e ∙ f) }

  pub bounded-is : (top f s : ℕ) → f ≡ frame_at rows i → s ≡ shown_at rows i → (ltb f top && leb s 1) ≡ bounded rows top i
  bounded-is top f s e g = rw (e, g) refl

  -- A flag of 0 or 1 that is not 0.
  flag-set : (s : ℕ) → s ≡ shown_at rows i → shown_at rows i ≤ 1 → not (eqb s 0) ≡ is_shown rows i
  flag-set s e l =
      test (eqb s 0)
      (λ z. rw (z, ne_eqb (shown_at rows i) 1 (λ q. omega (arith, eqb-true s 0 z))) refl)
      (λ z. rw (z, eq-eqb (shown_at rows i) 1 (omega (arith, eqb-false s 0 z))) refl)

  bit_is : shown_at rows i ≤ 1 → shown_at rows i ≡ bool_byte (is_shown rows i)
  bit_is l = test (is_shown rows i) (λ t. rw t (eqb-true (shown_at rows i) 1 t)) (λ f. let z : shown_at rows i ≡ 0 = omega (arith, eqb-false (shown_at rows i) 1 f) in rw f z)

pub prior-within : (words : List ℕ) (i j : ℕ) → Within words i → StepAfter (rows_of words) i j → Within words j
prior-within words i j w s = let l = s.lower in let b = w.below in record { fits = w.fits; below = omega arith }

-- THE PASS, ROW BY ROW

pub some_or : (p : ℕ → Bool) (i : ℕ) (a b : Bool) → a ≡ some_below i p → b ≡ p i → (a || b) ≡ some_below (i + 1) p
unfolding some_below
some_or p i a b e f = rw (e, f, add-one i) refl

under-step : (fr : ℕ → ℕ) (i h : ℕ) → Under fr i h → So (step fr i) → Under fr (i + 1) h
unfolding step
under-step fr i h u s = let k = some_out (same fr i) i s in under_more fr i h h u (omega (arith, u k.0 k.1, eqb-true (fr k.0) (fr i) k.2))

some-grows : (p : ℕ → Bool) (i : ℕ) → some_below i p ≡ true → some_below (i + 1) p ≡ true
some-grows p i h = let k = some_out p i h in some_in p (i + 1) (omega arith) k.2

-- With one number more the earliest stays, where one passes by now, or is past the end as before.
module _ (p : ℕ → Bool) (i : ℕ) where
  earliest-stays : some_below (i + 1) p ≡ true → earliest p (i + 1) ≡ earliest p i
  unfolding earliest some_below
  earliest-stays h =
      rw (add-one i) (test (some_below i p)
      (λ s. rw s refl)
      (λ n. let t : p i ≡ true = rw (add-one i, n) at h in rw (n, t) (sym (earliest-none p i n))))

module _ (rows : List Row) where
  -- The first row of a frame, and how many there are before a place; a shown step after an upcoming one.
  abbrev opens : ℕ → Bool
  opens k = not (is_step rows k)

  abbrev breaks : ℕ → Bool
  breaks k = not (quiet rows k)

  pub passed_start : (s : ℕ) (high : FrameNo) (known : DocNo) → s ≡ shown_at rows 0 → shown_at rows 0 ≤ 1 → parent_at rows 0 ≡ none → high.0 ≡ frame_at rows 0 → known.0 ≡ doc_at rows 0 →
      Passed rows 1 (record { late = false; broken = false; several = false; shown = s; frames = 1; high = high; known = known; upcoming = record { 0 = 0 }; begun = 0; last = record { 0 = 0 } })
  unfolding some_below count earliest latest comes quiet begins step
  passed_start s high known a l z c d =
      record {
        late_is = refl;
        broken-is = refl;
        shown-are = a ∙ bit_is rows 0 l ∙ test (is_shown rows 0) (λ t. rw t refl) (λ t. rw t refl);
        frames-are = refl;
        several-is = rw (eq-eqb (parent_at rows 0) none z) refl;
        some-root = rw (eq-eqb (parent_at rows 0) none z) (omega arith);
        few-shown = omega arith;
        few-frames = omega arith;
        under = λ k l. let e : k ≡ 0 = omega arith in rw e (omega arith);
        known_is = eq-eqb (doc_at rows 0) known.0 (sym d);
        upcoming-is = λ t. absurd (false≢true t);
        begun-is = λ t. absurd (false≢true t);
        last-is = refl;
      }

  module _ (i : ℕ) (p : Pass) (o : Onward rows i p) where
    r : Passed rows i p
    r = o.passed

    shown-more : (s : ℕ) → s ≡ shown_at rows i → p.shown + s ≡ count (is_shown rows) (i + 1)
    shown-more s e = rw (e, bit_is rows i o.bit) (count-more (is_shown rows) i p.shown (is_shown rows i) r.shown-are refl)

    -- A STEP
    module _ (j s a b : ℕ) (w : StepAfter rows i j) (e : s ≡ shown_at rows i) (f : a ≡ parent_at rows i) (g : b ≡ parent_at rows j) where
      linked-step : linked rows i ≡ eqb a b
      unfolding linked
      linked-step = rw (w.step, ← w.prior, f, g) refl

      quiet_step : quiet rows i ≡ not (is_shown rows i && some_below (i + 1) (comes rows))
      unfolding quiet
      quiet_step = rw (w.step, add-one i) refl

      same-frames : count opens (i + 1) ≡ count opens i
      same-frames = ap (count opens) (add-one i) ∙ count_no opens i (rw w.step refl)

      same-roots : count (begins rows) (i + 1) ≡ count (begins rows) i
      unfolding begins
      same-roots = ap (count (begins rows)) (add-one i) ∙ count_no (begins rows) i (rw w.step refl)

      late-step : (v : Bool) → v ≡ is_shown rows j → (p.late || v) ≡ some_below (i + 1) (comes rows)
      unfolding comes
      late-step v h = some_or (comes rows) i p.late v r.late_is (rw (w.step, ← w.prior) h)

      -- Its parent is another.
      pub step-unlinked : (a ≡ b → ⊥) → linked rows i ≡ false
      step-unlinked ne = linked-step ∙ ne_eqb a b ne

      module _ (same : a ≡ b) where
        linked-so : linked rows i ≡ true
        linked-so = linked-step ∙ eq-eqb a b same

        -- Some are upcoming by now: the first one at `up`, which so many frames began before.
        ahead : (up : RowPlace) (begun : ℕ) → some_below (i + 1) (comes rows) ≡ true → up.0 ≡ earliest (comes rows) (i + 1) → begun ≡ count opens (earliest (comes rows) (i + 1)) →
            Passed rows (i + 1) (late_of s up begun p)
        ahead up begun late u k =
            let loud : breaks i ≡ is_shown rows i = ap not quiet_step ∙ rw late (test (is_shown rows i) (λ t. rw t refl) (λ t. rw t refl)) in
            record {
              late_is = sym late;
              broken-is = some_or breaks i p.broken (not (eqb s 0)) r.broken-is (flag-set rows i s e o.bit ∙ sym loud);
              shown-are = shown-more s e;
              frames-are = r.frames-are ∙ sym same-frames;
              several-is = r.several-is ∙ ap (ltb 1) (sym same-roots);
              some-root = omega (arith, r.some-root, same-roots);
              few-shown = omega (arith, r.few-shown, o.bit);
              few-frames = omega (arith, r.few-frames);
              under = under-step (frame_at rows) i p.high.0 r.under w.step;
              known_is = some-grows (is_doc rows p.known.0) i r.known_is;
              upcoming-is = λ t. u;
              begun-is = λ t. k;
              last-is = r.last-is ∙ ap (latest (is_step rows)) (sym (earliest-stays (comes rows) i late));
            }

        -- Some were upcoming before it.
        pub step-late : (q : Pass) → p.late ≡ true → q ≡ late_of s p.upcoming p.begun p → TellsTo rows (i + 1) (linked rows i) (Some q)
        step-late q t d =
            let late = some-grows (comes rows) i (sym r.late_is ∙ t) in
            let stays = earliest-stays (comes rows) i late in
            (linked-so, subst (Passed rows (i + 1)) (sym d) (ahead p.upcoming p.begun late (r.upcoming-is t ∙ sym stays) (r.begun-is t ∙ ap (count opens) (sym stays))))

        -- It is the first one.
        pub step-turns : (at : RowPlace) (v : Bool) (q : Pass) → at.0 ≡ i → v ≡ is_shown rows j → p.late ≡ false → v ≡ true → q ≡ late_of s at p.frames p → TellsTo rows (i + 1) (linked rows i) (Some q)
        step-turns at v q h c f t d =
            let late : some_below (i + 1) (comes rows) ≡ true = sym (late-step v c) ∙ rw (f, t) refl in
            let here : earliest (comes rows) (i + 1) ≡ i = earliest-stays (comes rows) i late ∙ earliest-none (comes rows) i (sym r.late_is ∙ f) in
            (linked-so, subst (Passed rows (i + 1)) (sym d) (ahead at p.frames late (h ∙ sym here) (r.frames-are ∙ ap (count opens) (sym here))))

        -- It is taken.
        pub step-taken : (at : RowPlace) (v : Bool) → at.0 ≡ i → v ≡ is_shown rows j → p.late ≡ false → v ≡ false →
            TellsTo rows (i + 1) (linked rows i) (Some (record {
              late = false;
              broken = p.broken;
              several = p.several;
              shown = p.shown + s;
              frames = p.frames;
              high = p.high;
              known = p.known;
              upcoming = p.upcoming;
              begun = p.begun;
              last = at;
            }))
        step-taken at v h q f t =
            let none : some_below (i + 1) (comes rows) ≡ false = sym (late-step v q) ∙ rw (f, t) refl in
            let still : breaks i ≡ false = ap not quiet_step ∙ rw none (test (is_shown rows i) (λ t. rw t refl) (λ t. rw t refl)) in (
              linked-so,
              record {
                late_is = sym none;
                broken-is = sym (or-false p.broken) ∙ some_or breaks i p.broken false r.broken-is (sym still);
                shown-are = shown-more s e;
                frames-are = r.frames-are ∙ sym same-frames;
                several-is = r.several-is ∙ ap (ltb 1) (sym same-roots);
                some-root = omega (arith, r.some-root, same-roots);
                few-shown = omega (arith, r.few-shown, o.bit);
                few-frames = omega (arith, r.few-frames);
                under = under-step (frame_at rows) i p.high.0 r.under w.step;
                known_is = some-grows (is_doc rows p.known.0) i r.known_is;
                upcoming-is = λ t. absurd (false≢true t);
                begun-is = λ t. absurd (false≢true t);
                last-is = h ∙ rw (earliest-none (comes rows) (i + 1) none, add-one i) (sym (latest-yes (is_step rows) i w.step));
              },
            )

    -- A FRAME'S FIRST ROW
    module _ (n : is_step rows i ≡ false) where
      pub linked-first : (v : Bool) → v ≡ headed rows i → linked rows i ≡ v
      unfolding linked
      linked-first v f = rw n (sym f)

      -- With a root frame more there are several.
      roots-more : (root : Bool) → begins rows i ≡ root → ((p.several || root) ≡ ltb 1 (count (begins rows) (i + 1))) × (1 ≤ count (begins rows) (i + 1))
      roots-more root e =
          rw (add-one i) (test root
          (λ t.
          let more = count_yes (begins rows) i (e ∙ t) in
          (or_right p.several t ∙ sym (lt-ltb 1 (count (begins rows) (suc i)) (omega (arith, r.some-root))), omega (arith, r.some-root)))
          (λ t.
          let same = count_no (begins rows) i (e ∙ t) in
          (rw t (or-false p.several ∙ r.several-is ∙ ap (ltb 1) (sym same)), omega (arith, r.some-root))))

      -- Beneath an earlier document, or without a parent.
      module _ (up : ℕ) (up_is : up ≡ parent_at rows i) where
        pub opens-root : up ≡ none → (known : ℕ) → some_below i (is_doc rows known) ≡ true → Opens rows i true known p
        opens-root z known h = record { several-is = sym (or_right p.several (eq-eqb _ _ (sym up_is ∙ z))); known_is = h }

        pub opens-beneath : (up ≡ none → ⊥) → some_below i (is_doc rows up) ≡ true → Opens rows i p.several up p
        opens-beneath ne h = record { several-is = sym (ap (λ b. p.several || b) (ne_eqb (parent_at rows i) none (λ z. ne (up_is ∙ z))) ∙ or-false p.several); known_is = h }

      pub first_passes : (s : ℕ) (several : Bool) (high : FrameNo) (known : DocNo) → s ≡ shown_at rows i → high.0 ≡ max p.high.0 (frame_at rows i) → Opens rows i several known.0 p →
          Passed rows (i + 1) (record {
            late = p.late;
            broken = p.broken;
            several = several;
            shown = p.shown + s;
            frames = p.frames + 1;
            high = high;
            known = known;
            upcoming = p.upcoming;
            begun = p.begun;
            last = p.last;
          })
      unfolding comes quiet begins
      first_passes s several high known e g h =
          let late : p.late ≡ some_below (i + 1) (comes rows) = sym (or-false p.late) ∙ some_or (comes rows) i p.late false r.late_is (rw n refl) in
          let more = ap (count opens) (add-one i) ∙ count_yes opens i (rw n refl) in
          let roots = roots-more (eqb (parent_at rows i) none) (rw n refl) in
          let stays : p.late ≡ true → earliest (comes rows) (i + 1) ≡ earliest (comes rows) i = λ t. earliest-stays (comes rows) i (sym late ∙ t) in
          record {
            late_is = late;
            broken-is = sym (or-false p.broken) ∙ some_or breaks i p.broken false r.broken-is (rw n refl);
            several-is = h.several-is ∙ roots.0;
            some-root = roots.1;
            shown-are = shown-more s e;
            frames-are = omega (arith, r.frames-are, more);
            few-shown = omega (arith, r.few-shown, o.bit);
            few-frames = omega (arith, r.few-frames);
            under = under_more (frame_at rows) i p.high.0 high.0 r.under g;
            known_is = some-grows (is_doc rows known.0) i h.known_is;
            upcoming-is = λ t. r.upcoming-is t ∙ sym (stays t);
            begun-is = λ t. r.begun-is t ∙ ap (count opens) (sym (stays t));
            last-is = r.last-is ∙ test p.late
                (λ t. ap (latest (is_step rows)) (sym (stays t)))
                (λ t.
                rw (earliest-none (comes rows) i (sym r.late_is ∙ t), earliest-none (comes rows) (i + 1) (sym late ∙ t), add-one i) (sym (latest-no (is_step rows) i n)));
          }

  -- THE VERDICT
  module _ (top : ℕ) where
    fine-all : all_below (length rows) (bounded rows top) ≡ true → all_below (length rows) (linked rows) ≡ true → all_below (length rows) (row_fine rows top) ≡ true
    unfolding row_fine
    fine-all h t = all_in (row_fine rows top) (length rows) (λ k l. rw (all-out (bounded rows top) (length rows) h k l, all-out (linked rows) (length rows) t k l) refl)

    pub root_is : (b : Bool) (u : ℕ) → b ≡ bounded rows top 0 → u ≡ parent_at rows 0 → (b && eqb u none) ≡ row_fine rows top 0
    unfolding row_fine linked headed step some_below
    root_is b u e f = rw (e, f, or-false (eqb (parent_at rows 0) none)) refl

    pub root-goes : (b : Bool) → b ≡ row_fine rows top 0 → b ≡ true → (all_below 1 (bounded rows top) ≡ true) × (all_below 1 (linked rows) ≡ true) × (shown_at rows 0 ≤ 1) × (parent_at rows 0 ≡ none)
    unfolding row_fine linked headed step some_below all_below
    root-goes b e t =
        let u = simp and-eq-true_iff at (sym e ∙ t) in
        (simp and-eq-true_iff (refl, (u.0.0, u.0.1)), u.1, leb-true _ _ u.0.1, eqb-true _ _ (rw or-false at u.1))

    -- A row that keeps its bounds may be looked at further.
    pub pass-goes : (i : ℕ) (b : Bool) (p : Pass) → b ≡ bounded rows top i → Passed rows i p → all_below i (linked rows) ≡ true → b ≡ true → Onward rows i p
    pass-goes i b p g s a t = let u = simp and-eq-true_iff at (sym g ∙ t) in record { passed = s; links = a; bit = leb-true _ _ u.1 }

  module _ (next top : ℕ) where
    -- A row that fails ends the pass.
    pub row-stops : (k : ℕ) → k < length rows → row_fine rows top k ≡ false → kept? rows next top ≡ false
    unfolding kept?
    row-stops k l f = rw (off (all_below (length rows) (row_fine rows top)) (λ h. clash (all-out (row_fine rows top) (length rows) h k l) f)) refl

    module _ (i n : ℕ) (l : i < n) (e : n ≡ length rows) (b : Bool) (g : b ≡ bounded rows top i) where
      pub pass-stops : b ≡ false → kept? rows next top ≡ false
      unfolding row_fine
      pass-stops f = row-stops i (omega arith) (rw (sym g ∙ f) refl)

      pub pass-breaks : linked rows i ≡ false → kept? rows next top ≡ false
      unfolding row_fine
      pass-breaks f = row-stops i (omega arith) (test (bounded rows top i) (λ t. rw (t, f) refl) (λ t. rw t refl))

    -- At the end of the rows.
    module _ (i n : ℕ) (p : Pass) (s : Passed rows i p) (h : all_below i (bounded rows top) ≡ true) (j : all_below i (linked rows) ≡ true) (a : i ≤ n) (b : n ≤ i) (e : n ≡ length rows) where
      ends : i ≡ length rows
      ends = omega arith

      evenly-is : evenly rows ≡ eqb p.shown p.frames
      evenly-is = rw (s.shown-are, s.frames-are, ends) refl

      pub pass-uneven : (p.shown ≡ p.frames → ⊥) → kept? rows next top ≡ false
      unfolding kept?
      pass-uneven f = rw (fine-all top (rw ends at h) (rw ends at j), evenly-is ∙ ne_eqb p.shown p.frames f) refl

      -- What is left is S2.
      pass-even : p.shown ≡ p.frames → kept? rows next top ≡ s2? rows next
      unfolding kept?
      pass-even t = rw (fine-all top (rw ends at h) (rw ends at j), evenly-is ∙ eq-eqb p.shown p.frames t) refl

      module _ (even : p.shown ≡ p.frames) (v : Bool) (fit : v ≡ s2? rows next) where
        pub pass-fails : v ≡ false → kept? rows next top ≡ false
        pass-fails f = pass-even even ∙ sym fit ∙ f

        pub pass-holds : v ≡ true → Tells rows (kept? rows next top) (Some p)
        pass-holds t = (pass-even even ∙ sym fit ∙ t, subst (λ k. Passed rows k p) ends s)

-- THE WORDS PAST THE ROWS

module _ (words : List ℕ) where
  pub rest-starts : (n : ℕ) → n ≡ length (rows_of words) → all_below (3 + 4 * n) (zero? words) ≡ true
  rest-starts n e = all_in (zero? words) (3 + 4 * n) (λ k l. rw (lt-ltb k (3 + 4 * get_or words 0 0) (omega (arith, rows-length words))) refl)

  pub rest_more : (k w : ℕ) (z : Bool) → z ≡ all_below k (zero? words) → 3 + 4 * length (rows_of words) ≤ k → w ≡ get_or words k 0 → (z && eqb w 0) ≡ all_below (k + 1) (zero? words)
  rest_more k w z h l e = all-flag (zero? words) k z (eqb w 0) h (rw (le-ltb k (3 + 4 * get_or words 0 0) (omega (arith, rows-length words)), e) refl)

  pub rest-ends : (k : ℕ) (z : Bool) → z ≡ all_below k (zero? words) → k ≡ 3 + 4 * capacity words → z ≡ s8? words
  rest-ends k z h e = subst (λ k. z ≡ all_below k (zero? words)) e h
