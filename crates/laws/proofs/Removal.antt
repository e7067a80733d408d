-- Removal of what stands at or beneath rows that pass a test: the rest is sound and stays as it was. Assumes nothing.
use Prim.Native.Nat.{ℕ, zero, suc, ◌+◌, ◌≤◌, ◌<◌}
use mathlib.Core.Path.{◌≡◌, refl, sym, ap, ◌∙◌, subst}
use mathlib.Core.List.{List}
use mathlib.Core.Logic.{⊎_elim}
use mathlib.Core.Bool.{Bool, false, not, ◌&&◌, So, and-eq-true_iff}
use native.Mathlib.Nat.{not-suc-le-zero}
use native.Mathlib.Omega.{arith}
use lib.ListN.{length}
use borrow.Author.Tests.{not-true}
use Rattle.rules.specs.Below.{count}
use Rattle.rules.specs.Rows.{Row, doc_at, frame_at, parent_at, is_shown}
use Rattle.rules.specs.Steps.{is_step, reached, taken, upcoming, position, steps, visible_at}
use Rattle.rules.specs.Moves.{gone, without}
use Rattle.rules.specs.Sound.{S6}
use Rattle.laws.specs.Alone.{InOrder, cleared_all}
use Rattle.laws.proofs.Tests.{test, clash, off, same_tests, count_same}
use Rattle.laws.proofs.Frames.{due, due_in, due-out, step_in, step-out, reach-out, last_out, shows}
use Rattle.laws.proofs.Central.{flags_at, reached-is, at-shown, at-doc, at-parent}
use Rattle.laws.proofs.Kept.{Whole, removed-steps, kept-position, kept-falls, kept-S6, kept-S7}
use Rattle.laws.proofs.Tree.{TreeOf, OneRoot, distinct, proper, parent-earlier, tree-kept, one_kept}
use Rattle.laws.proofs.Climb.{gone-self, gone-child, gone-cases, visible-out}

-- What S2 to S7 say of the rows of one window.
pub record SoundRows (rows : List Row) (next_doc next_frame : ℕ) : Type 0 where
  pub tree : TreeOf rows next_doc next_frame
  pub root : OneRoot rows
  pub s6 : S6 rows
  pub s7 : InOrder rows

abbrev pub stays : (ℕ → Bool) → List Row → ℕ → Bool
stays q rows i = not (gone q rows i)

pub stays-in : (q : ℕ → Bool) (rows : List Row) (i : ℕ) → (So (gone q rows i) → ⊥) → So (stays q rows i)
stays-in q rows i h = rw (off (gone q rows i) h) refl

-- What stays, stays with what is above it.
pub stays_up : (q : ℕ → Bool) (rows : List Row) {a b : ℕ} → TreeOf rows a b → (j k : ℕ) → j < k → k < length rows → doc_at rows j ≡ parent_at rows k →
    So (stays q rows k) → So (stays q rows j)
stays_up q rows t j k l m e h = stays-in q rows j (λ g. clash (gone-child q rows t l m g e) (not-true _ h))

-- A row that goes is no earlier than some row that passes.
pub gone-later : (q : ℕ → Bool) (rows : List Row) (n i : ℕ) → i < n → So (gone q rows i) → (v : ℕ) × (v ≤ i) × So (q v)
gone-later q rows zero i l g = absurd (not-suc-le-zero l)
gone-later q rows (suc n) i l g =
    gone-cases q rows i g (λ t. (i, omega arith, t)) (λ j m h e. let r = gone-later q rows n j (omega arith) h in (r.0, omega arith, r.2))

-- With a due row that passes, every row of its frame passes.
abbrev pub Together : (ℕ → Bool) → List Row → ℕ → Type 0
Together q rows p = (j k : ℕ) → j < length rows → k < length rows → frame_at rows j ≡ frame_at rows k → So (due (frame_at rows) p j) → So (q j) → So (q k)

pub stays-whole : (q : ℕ → Bool) (rows : List Row) {a b : ℕ} → TreeOf rows a b → (p : ℕ) → Together q rows p → Whole (stays q rows) rows p
stays-whole q rows t p together j k a b e d h =
    stays-in q rows j (λ g.
    gone-cases q rows j g
    (λ v. clash (gone-self q rows k (together j k a b e d v)) (not-true _ h))
    (λ m c v f.
    let w = f ∙ t.kin j k a b e in
    clash (gone-child q rows t (parent-earlier t m k (omega arith) b w) b v w) (not-true _ h)))

-- Removal from a sound record, in one statement.
pub record Removed (q : ℕ → Bool) (rows : List Row) (next_doc next_frame : ℕ) : Type 0 where
  pub sound : SoundRows (without q rows) next_doc next_frame
  pub position-is : position (without q rows) ≡ count (λ k. stays q rows k && taken rows k) (length rows)
  pub falls : position (without q rows) + count (λ k. not (stays q rows k) && taken rows k) (length rows) ≡ position rows
  pub steps-is : steps (without q rows) ≡ count (λ k. stays q rows k && is_step rows k) (length rows)

module _ (rows : List Row) {a b : ℕ} (s : SoundRows rows a b) where
  pub removed : (q : ℕ → Bool) → Together q rows (position rows) → Removed q rows a b
  unfolding without
  removed q together =
      let w = stays-whole q rows s.tree (position rows) together in
      record {
        sound = record {
          tree = tree-kept (stays q rows) rows s.tree (stays_up q rows s.tree);
          root = one_kept (stays q rows) rows s.tree (stays_up q rows s.tree) s.root;
          s6 = kept-S6 (stays q rows) rows s.s6 s.s7 w;
          s7 = kept-S7 (stays q rows) rows s.s6 s.s7 w;
        };
        position-is = kept-position (stays q rows) rows s.s6 s.s7 w;
        falls = kept-falls (stays q rows) rows s.s6 s.s7 w;
        steps-is = removed-steps (stays q rows) rows (position rows) w;
      }

  -- An upcoming step is not due, and a taken one never goes with the upcoming ones.
  upcoming-late : (u : ℕ) → u < length rows → So (upcoming rows u) → due (frame_at rows) (position rows) u ≡ false
  upcoming-late u l h =
      off _ (λ d. clash (reached-is rows s.s6 s.s7 u l ∙ d) (not-true _ (simp and-eq-true_iff at h).1))

  taken-stays : (k : ℕ) → k < length rows → So (taken rows k) → So (stays (upcoming rows) rows k)
  taken-stays k l h =
      stays-in (upcoming rows) rows k (λ g.
      let t = simp and-eq-true_iff at h in
      let v = gone-later (upcoming rows) rows (suc k) k (omega arith) g in
      let r = reach-out (length rows) (frame_at rows) (is_shown rows) k t.1 in
      let o = step-out (frame_at rows) k t.0 in
      omega (arith, s.s7.later v.0 r.0 (omega arith) r.2 v.2 (step_in (frame_at rows) {j = o.0} (omega arith) (o.2 ∙ sym r.3)) r.4))

  -- NAVIGATE'S REMOVAL: the upcoming steps and what is beneath them go.
  pub cleared-removed : Removed (upcoming rows) rows a b
  cleared-removed = removed (upcoming rows) (λ j k l m e d v. absurd (clash d (upcoming-late j l v)))

  pub cleared-position : position (cleared_all rows) ≡ position rows
  unfolding position
  cleared-position =
      cleared-removed.position-is ∙ count_same _ _ (length rows) (λ k l.
      same_tests (λ h. simp and-eq-true_iff (simp and-eq-true_iff at h).1) (λ h. simp and-eq-true_iff (taken-stays k l h, simp and-eq-true_iff at h)))

  -- No step is upcoming any more.
  pub cleared-steps : steps (cleared_all rows) ≡ position rows
  cleared-steps =
      cleared-removed.steps-is ∙ count_same _ _ (length rows) (λ k l.
      same_tests
      (λ h.
      let v = simp and-eq-true_iff at h in
      simp and-eq-true_iff (v.0, (v.1, test (reached rows k) (λ r. r) (λ f. absurd (clash (gone-self (upcoming rows) rows k (simp and-eq-true_iff (v.1, rw f refl))) (not-true _ v.0))))))
      (λ h. let v = simp and-eq-true_iff at h in simp and-eq-true_iff (v.0, v.1.0)))
      ∙ sym cleared-removed.position-is ∙ cleared-position

  -- What is visible at a position up to this one stays.
  module _ (p : ℕ) (few : p ≤ position rows) where
    not-upcoming : (u : ℕ) → u < length rows → So (upcoming rows u) → So (is_shown (flags_at p rows) u) → ⊥
    not-upcoming u l h t =
        let m : So (shows (length rows) (frame_at rows) p u) = subst (λ f. So (f u)) (at-shown p rows) t in
        let c = due-out (frame_at rows) p u (last_out _ _ (due (frame_at rows) p) u m).0 (simp and-eq-true_iff at h).0 in
        clash (due_in (frame_at rows) (position rows) u (omega arith)) (upcoming-late u l h)

    seen-stays : (n i : ℕ) → i < n → i < length rows → So (visible_at (flags_at p rows) i) → So (gone (upcoming rows) rows i) → ⊥
    seen-stays zero i c l v g = absurd (not-suc-le-zero c)
    seen-stays (suc n) i c l v g =
        let o = visible-out (flags_at p rows) i v in
        gone-cases (upcoming rows) rows i g (λ u. not-upcoming i l u o.0) (λ j m h e.
        ⊎_elim (λ z. proper s.tree j (omega arith) (e ∙ ap (λ f. f i) (sym (at-parent p rows)) ∙ z)) (λ r.
        let same = distinct s.tree r.0 j (omega arith) (omega arith) (ap (λ f. f r.0) (sym (at-doc p rows)) ∙ r.3 ∙ ap (λ f. f i) (at-parent p rows) ∙ sym e) in
        seen-stays n j (omega arith) (omega arith) (subst (λ x. So (visible_at (flags_at p rows) x)) same r.2) h) o.1)

    pub visible-stays : (i : ℕ) → i < length rows → So (visible_at (flags_at p rows) i) → So (stays (upcoming rows) rows i)
    visible-stays i l v = stays-in (upcoming rows) rows i (seen-stays (suc i) i (omega arith) l v)
