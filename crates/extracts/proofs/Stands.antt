-- Where a window stands, read off its flags in one walk. Assumes nothing.
use Prim.Native.Nat.{ℕ, suc, ◌+◌, ◌-◌, ◌≤◌, ◌<◌, max}
use mathlib.Core.Bool.{Bool, true, false, not, ◌&&◌, So, cond, and-eq-true_iff}
use mathlib.Core.List.{List}
use mathlib.Core.Path.{◌≡◌, refl, sym, ap, ◌∙◌}
use native.Mathlib.Numerals.{add-one}
use native.Mathlib.Omega.{arith}
use mir.Val.{bool_byte}
use lib.Dec.{eqb, ltb}
use lib.ListN.{length}
use borrow.Author.Tests.{ltb-true, lt-ltb, eq-eqb, ne_eqb}
use Rattle.base.specs.declared.RowPlace.{RowPlace}
use Rattle.base.specs.declared.FrameNo.{FrameNo}
use Rattle.rules.specs.Below.{some_below, count, earliest, latest}
use Rattle.rules.specs.Rows.{Row, none, frame_at, is_shown}
use Rattle.rules.specs.Steps.{is_step, taken, upcoming, position, steps}
use Rattle.rules.specs.Words.{table_of, rows_of}
use Rattle.laws.proofs.Tests.{test, clash, off, some_in, some_out, count_yes, count_no, latest-out, latest-none}
use Rattle.laws.proofs.Loops.{earliest-none, earliest-out, latest-yes, latest-no}
use Rattle.laws.proofs.Removal.{SoundRows}
use Rattle.laws.proofs.Standing.{count-rest}
use Rattle.laws.proofs.Concealed.{hidden, shown_step, hidden-steps, hidden-last, last_taken, start-hidden}
use Rattle.reads.specs.Under.{Under}
use Rattle.reads.proofs.Scans.{under_more}
use Rattle.sound.specs.Check.{Examined}
use Rattle.sound.specs.Survey.{alone?, stand_of}
use Rattle.sound.proofs.Checks.{examined-sound}
use Rattle.sound.proofs.Alone.{alone-rows}
use Rattle.extracts.specs.Windows.{Scans}
use Rattle.extracts.specs.declared.Scan.{Scan}

-- With one number more the earliest that passes.
module _ (p : ℕ → Bool) (i : ℕ) where
  earliest-hit : So (p i) → earliest p (suc i) ≡ earliest p i
  unfolding earliest
  earliest-hit t = test (some_below i p) (λ s. rw s refl) (λ n. rw (n, t) (sym (earliest-none p i n)))

  earliest-miss : p i ≡ false → earliest p (suc i) ≡ cond (eqb (earliest p i) i) (suc i) (earliest p i)
  unfolding earliest
  earliest-miss f =
      test (some_below i p)
      (λ s.
      let k = some_out p i s in
      let o = earliest-out p i in
      let l : (earliest p i ≡ i → ⊥) = λ e. clash k.2 (o.none_before k.0 (omega arith)) in
      rw (s, ne_eqb (earliest p i) i l) refl)
      (λ n. rw (n, f, earliest-none p i n, eq-eqb i i refl) refl)

module _ (rows : List Row) where
  -- The first row is no step.
  pub scan-start : (b : Bool) (high : FrameNo) → b ≡ is_shown rows 0 → high.0 ≡ frame_at rows 0 →
      Scans rows 1 (record { shown = bool_byte b; hidden = bool_byte (not b); taken = 0; last = record { 0 = 0 }; upcoming = record { 0 = 1 }; high = high })
  unfolding count latest earliest some_below
  scan-start b high e g =
      record {
        shown-are = rw e (test (is_shown rows 0) (λ t. rw t refl) (λ t. rw t refl));
        hidden-are = rw e (test (is_shown rows 0) (λ t. rw t refl) (λ t. rw t refl));
        taken-are = refl;
        last-is = test (shown_step rows 0) (λ t. rw t refl) (λ t. rw t refl);
        upcoming-is = refl;
        under = λ k l. let z : k ≡ 0 = omega arith in rw z (omega arith);
      }

  module _ (i : ℕ) (some : 0 < i) (s : Scan) (w : Scans rows i s) (high : FrameNo) (g : high.0 ≡ max s.high.0 (frame_at rows i)) (v : Bool) (e : v ≡ is_shown rows i) where
    bound : Under (frame_at rows) (i + 1) high.0
    bound = under_more (frame_at rows) i s.high.0 high.0 w.under g

    -- The latest shown step stands before row i.
    earlier : s.last.0 < i
    earlier =
        test (some_below i (shown_step rows))
        (λ t. omega (arith, w.last-is, (latest-out (shown_step rows) i t).0))
        (λ f. omega (arith, w.last-is, latest-none (shown_step rows) i (λ k l. off (shown_step rows k) (λ t. clash (some_in (shown_step rows) i l t) f))))

    pub scan-hidden : v ≡ false → Scans rows (i + 1) (record { shown = s.shown; hidden = s.hidden + 1; taken = s.taken; last = s.last; upcoming = s.upcoming; high = high })
    scan-hidden f =
        let no : is_shown rows i ≡ false = sym e ∙ f in
        record {
          shown-are = rw (add-one i) (w.shown-are ∙ sym (count_no (is_shown rows) i no));
          hidden-are = rw (add-one i) (omega (arith, w.hidden-are, count_yes (hidden rows) i (rw no refl)));
          taken-are = w.taken-are;
          last-is = rw (add-one i) (w.last-is ∙ sym (latest-no (shown_step rows) i (rw no refl)));
          upcoming-is = rw (add-one i) (w.upcoming-is ∙ sym (earliest-hit (λ k. ltb s.last.0 k && hidden rows k) i (rw (lt-ltb s.last.0 i earlier, no) refl)));
          under = bound;
        }

    module _ (there : v ≡ true) (b : Bool) (b-is : b ≡ is_step rows i) where
      shown-here : So (is_shown rows i)
      shown-here = sym e ∙ there

      pub scan_step : b ≡ true → (at up : RowPlace) → at.0 ≡ i → up.0 ≡ i + 1 → Scans rows (i + 1) (record { shown = s.shown + 1; hidden = s.hidden; taken = s.hidden; last = at; upcoming = up; high = high })
      scan_step t at up ae ue =
          let st : So (shown_step rows i) = rw shown-here (sym b-is ∙ t) in
          record {
            shown-are = rw (add-one i) (omega (arith, w.shown-are, count_yes (is_shown rows) i shown-here));
            hidden-are = rw (add-one i) (w.hidden-are ∙ sym (count_no (hidden rows) i (rw shown-here refl)));
            taken-are = w.hidden-are ∙ ap (count (hidden rows)) (sym ae);
            last-is = rw (add-one i) (ae ∙ sym (latest-yes (shown_step rows) i st));
            upcoming-is = ue ∙ sym (earliest-none (λ k. ltb at.0 k && hidden rows k) (i + 1) (off _ (λ h.
                let k = some_out (λ k. ltb at.0 k && hidden rows k) (i + 1) h in omega (arith, ltb-true at.0 k.0 (simp and-eq-true_iff at k.2).0))));
            under = bound;
          }

      pub scan-shown : b ≡ false → (up : RowPlace) → up.0 ≡ cond (eqb s.upcoming.0 i) (i + 1) s.upcoming.0 →
          Scans rows (i + 1) (record { shown = s.shown + 1; hidden = s.hidden; taken = s.taken; last = s.last; upcoming = up; high = high })
      scan-shown f up ue =
          let st : shown_step rows i ≡ false = rw shown-here (sym b-is ∙ f) in
          let q : ℕ → Bool = λ k. ltb s.last.0 k && hidden rows k in
          let qi : q i ≡ false = rw shown-here (test (ltb s.last.0 i) (λ t. rw t refl) (λ t. rw t refl)) in
          record {
            shown-are = rw (add-one i) (omega (arith, w.shown-are, count_yes (is_shown rows) i shown-here));
            hidden-are = rw (add-one i) (w.hidden-are ∙ sym (count_no (hidden rows) i (rw shown-here refl)));
            taken-are = w.taken-are;
            last-is = rw (add-one i) (w.last-is ∙ sym (latest-no (shown_step rows) i st));
            upcoming-is = ue ∙ rw (w.upcoming-is, add-one i) (sym (earliest-miss q i qi));
            under = bound;
          }

-- What the walk finds is where the window stands.
module _ (own : List ℕ) (e : Examined own) (one : So (alone? (rows_of own))) (word : (table_of own).next_doc ≤ none) (s : Scan) (w : Scans (rows_of own) (length (rows_of own)) s) where
  pub scan-stands : record { frames = s.shown; steps = s.hidden; position = s.taken; upcoming = s.upcoming; last = s.last } ≡ stand_of (rows_of own)
  scan-stands =
      let rows = rows_of own in
      let t : SoundRows rows (table_of own).next_doc (table_of own).next_frame = alone-rows own (examined-sound own e) one word in
      let some = (examined-sound own e).table.s1.some in
      let steps-are : s.hidden ≡ steps rows = w.hidden-are ∙ hidden-steps rows t.s6 in
      let frames-are : s.shown ≡ length rows - steps rows = omega (arith, w.shown-are, count-rest (is_shown rows) (length rows), hidden-steps rows t.s6) in
      let position-is : s.taken ≡ position rows = w.taken-are ∙ ap (count (hidden rows)) w.last-is ∙ hidden-last rows t.s6 t.s7 some in
      let upcoming-is : s.upcoming.0 ≡ earliest (upcoming rows) (length rows) =
      w.upcoming-is ∙ ap (λ l. earliest (λ k. ltb l k && hidden rows k) (length rows)) w.last-is ∙ start-hidden rows t.s6 t.s7 some in
      let last-is : s.last.0 ≡ latest (taken rows) (length rows) = w.last-is ∙ sym (last_taken rows t.s6 t.s7) in
      rw (frames-are, steps-are, position-is, upcoming-is, last-is)
