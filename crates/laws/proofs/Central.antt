-- S6 and S7 together say: who is shown is a function of the position. One step moves the position by one. Assumes nothing.
use Prim.Native.Nat.{ℕ, zero, suc, ◌+◌, ◌≤◌, ◌<◌, min}
use mathlib.Core.Path.{◌≡◌, refl, sym, ap, ◌∙◌, subst, subst₂, subst₃}
use mathlib.Core.Logic.{◌↔◌}
use mathlib.Core.List.{List}
use mathlib.Core.Bool.{false, not, ◌&&◌, So, cond, and-eq-true_iff}
use native.Mathlib.Nat.{add-suc, add-zero}
use native.Mathlib.Omega.{arith}
use lib.Dec.{eqb}
use lib.ListN.{length}
use borrow.Author.Tests.{eqb-true, eq-eqb}
use Rattle.rules.specs.Below.{count, earliest, latest}
use Rattle.rules.specs.Rows.{Row, row_at, doc_at, frame_at, parent_at, is_shown, marked, with_flags}
use Rattle.rules.specs.Steps.{same, step, reach, is_step, reached, taken, upcoming, position, steps}
use Rattle.rules.specs.Moves.{show, forward, back, back_target, row_before, times}
use Rattle.rules.specs.Sound.{S6}
use Rattle.laws.specs.Alone.{InOrder}
use Rattle.laws.proofs.Tests.{clash, count-le, one_out, nth, greatest, latest-is, by-lt}
use Rattle.laws.proofs.Frames.{due, reach-in, step_in, step-out, last-below, last-reach, last-same, reached-due, OneEach, Later, position_of}
use Rattle.laws.proofs.Frames.{shows, shows-count, shows-one, shows_later, swap, next-due, next-shows, next-first, next_last, before-shows}
use Rattle.laws.proofs.Flags.{flags-length, flags-row, flags-doc, flags-frame, flags-parent, flags-shown, flags-bit, flags-same, flags-eq, flags-flags}

-- At position p a frame shows the last of its rows that is no step or among the window's first p steps.
unfoldable pub flags_at : ℕ → List Row → List Row
flags_at p rows = with_flags (shows (length rows) (frame_at rows) p) rows

module _ (p : ℕ) (rows : List Row) where
  pub at_length : length (flags_at p rows) ≡ length rows
  unfolding flags_at
  at_length = flags-length _ rows

  pub at_row : (i : ℕ) → i < length rows → row_at (flags_at p rows) i ≡ marked (shows (length rows) (frame_at rows) p i) (row_at rows i)
  unfolding flags_at
  at_row = flags-row _ rows

  pub at-doc : doc_at (flags_at p rows) ≡ doc_at rows
  unfolding flags_at
  at-doc = flags-doc _ rows

  pub at-frame : frame_at (flags_at p rows) ≡ frame_at rows
  unfolding flags_at
  at-frame = flags-frame _ rows

  pub at-parent : parent_at (flags_at p rows) ≡ parent_at rows
  unfolding flags_at
  at-parent = flags-parent _ rows

  pub at-shown : is_shown (flags_at p rows) ≡ shows (length rows) (frame_at rows) p
  unfolding flags_at
  at-shown = flags-shown _ rows (last-below (length rows) (frame_at rows) (due (frame_at rows) p))

  -- The position is p, or all steps.
  pub at_position : position (flags_at p rows) ≡ min p (steps rows)
  unfolding position steps
  at_position =
      subst₃ (λ n fr s. position_of n fr s ≡ min p (steps rows)) (sym at_length) (sym at-frame) (sym at-shown) (shows-count (length rows) (frame_at rows) p)

  pub at-S6 : S6 (flags_at p rows)
  unfolding flags_at
  at-S6 =
      record {
        bit = λ i l. flags-bit _ rows i (subst (λ n. i < n) at_length l);
        one = subst₃ OneEach (sym at_length) (sym at-frame) (sym at-shown) (shows-one (length rows) (frame_at rows) p);
      }

  pub at-S7 : InOrder (flags_at p rows)
  at-S7 = record { later = subst₃ Later (sym at_length) (sym at-frame) (sym at-shown) (shows_later (length rows) (frame_at rows) p) }

  pub at-steps : steps (flags_at p rows) ≡ steps rows
  unfolding steps
  at-steps = subst₂ (λ n fr. count (step fr) n ≡ steps rows) (sym at_length) (sym at-frame) refl

-- Flags of a position do not depend on the flags before.
pub at_at : (p q : ℕ) (rows : List Row) → flags_at q (flags_at p rows) ≡ flags_at q rows
unfolding flags_at
at_at p q rows =
    subst₂ (λ n fr. with_flags (shows n fr q) (flags_at p rows) ≡ flags_at q rows) (sym (at_length p rows)) (sym (at-frame p rows)) (flags-flags _ _ rows)

module _ (rows : List Row) (s6 : S6 rows) where
  -- A frame has a shown row.
  pub shown-one : (i : ℕ) → i < length rows → (k : ℕ) × (k < length rows) × (frame_at rows k ≡ frame_at rows i) × So (is_shown rows k)
  shown-one i l =
      let r = (one_out _ (length rows) (s6.one i l)).0 in
      let t = simp and-eq-true_iff at r.2 in
      (r.0, r.1, eqb-true _ _ t.0, t.1)

  -- A frame's first row is reached.
  first-reached : (i : ℕ) → i < length rows → is_step rows i ≡ false → So (reached rows i)
  first-reached i l f =
      let r = shown-one i l in
      by-lt r.0 i (λ b. absurd (clash (step_in (frame_at rows) b r.2) f)) (λ b. reach-in _ _ (is_shown rows) b r.1 r.2 r.3)

  -- A frame has no second shown row.
  pub only-shown : (i k : ℕ) → i < length rows → k < length rows → frame_at rows k ≡ frame_at rows i → So (is_shown rows i) → So (is_shown rows k) → i ≡ k
  only-shown i k a b e s t =
      (one_out _ (length rows) (s6.one i a)).1 i k a b (simp and-eq-true_iff (eq-eqb (frame_at rows i) _ refl, s)) (simp and-eq-true_iff (eq-eqb _ _ e, t))

  module _ (s7 : InOrder rows) where
    -- What is reached is what is due at the position.
    pub reached-is : (i : ℕ) → i < length rows → reached rows i ≡ due (frame_at rows) (position rows) i
    unfolding position
    reached-is = reached-due _ _ (is_shown rows) first-reached (λ i j a b s f t u. s7.later i j a b (simp and-eq-true_iff (s, rw f refl)) t u)

    -- S6 and S7 leave one choice: the flags are those of the rows' position.
    pub central : flags_at (position rows) rows ≡ rows
    unfolding flags_at
    central =
        flags-same _ rows s6.bit (λ i l.
        last-same _ _ _ (reached rows) i l (λ k a e. sym (reached-is k a)) ∙ last-reach _ _ (is_shown rows) only-shown i l)

-- And only those: S6 and S7 as one equation.
pub one_choice : (rows : List Row) → (S6 rows × InOrder rows) ↔ (flags_at (position rows) rows ≡ rows)
one_choice rows =
    (λ h. central rows h.0 h.1, λ e. (subst S6 e (at-S6 (position rows) rows), subst InOrder e (at-S7 (position rows) rows)))

pub position-steps : (rows : List Row) → position rows ≤ steps rows
unfolding position steps
position-steps rows = count-le (taken rows) (is_step rows) (length rows) (λ k l t. (simp and-eq-true_iff at t).0)

-- ONE STEP

-- Row i shown at p gives q, if i is shown at q and no other frame differs.
pub show-at : (p q i : ℕ) (rows : List Row) → i < length rows → So (shows (length rows) (frame_at rows) q i) →
    ((m : ℕ) → (frame_at rows m ≡ frame_at rows i → ⊥) → due (frame_at rows) p m ≡ due (frame_at rows) q m) → show i (flags_at p rows) ≡ flags_at q rows
unfolding show flags_at
show-at p q i rows a s rest =
    flags-flags _ _ rows ∙ flags-eq _ _ rows (λ k b.
    subst₂ (λ fr sh. cond (same fr i k) (eqb k i) (sh k) ≡ shows (length rows) (frame_at rows) q k) (sym (at-frame p rows)) (sym (at-shown p rows)) (swap _ _ p q i a s rest k b))

module _ (p : ℕ) (rows : List Row) (more : p < steps rows) where
  -- The step between position p and the next.
  between : (i : ℕ) × (i < length rows) × So (is_step rows i) × (count (is_step rows) i ≡ p)
  unfolding steps
  between = nth (is_step rows) (length rows) p more

  pub forward-at : forward (flags_at p rows) ≡ flags_at (suc p) rows
  unfolding forward
  forward-at =
      let t = between in
      let e : earliest (upcoming (flags_at p rows)) (length (flags_at p rows)) ≡ t.0 =
      subst₃ (λ n fr sh. earliest (λ k. step fr k && not (reach n fr sh k)) n ≡ t.0) (sym (at_length p rows)) (sym (at-frame p rows)) (sym (at-shown p rows))
      (next-first _ _ p t.0 t.1 t.2 t.3) in
      ap (λ i. show i (flags_at p rows)) e ∙ show-at p (suc p) t.0 rows t.1 (next-shows _ _ p t.0 t.1 t.2 t.3) (next-due _ _ p t.0 t.1 t.2 t.3)

  pub back_at : back (flags_at (suc p) rows) ≡ flags_at p rows
  unfolding back back_target row_before
  back_at =
      let t = between in
      let e : back_target (flags_at (suc p) rows) ≡ t.0 =
      subst₃ (λ n fr sh. latest (λ k. step fr k && sh k) n ≡ t.0) (sym (at_length _ rows)) (sym (at-frame _ rows)) (sym (at-shown _ rows))
      (next_last _ _ p t.0 t.1 t.2 t.3) in
      let o = step-out (frame_at rows) t.0 t.2 in
      let g = greatest (same (frame_at rows) t.0) t.0 o.1 (eq-eqb _ _ o.2) in
      let f = eqb-true _ _ g.3 in
      let b : row_before (flags_at (suc p) rows) t.0 ≡ g.0 =
      subst (λ fr. latest (same fr t.0) t.0 ≡ g.0) (sym (at-frame _ rows)) (latest-is _ t.0 g.2 g.3 g.4) in
      ap (λ i. show (row_before (flags_at (suc p) rows) i) (flags_at (suc p) rows)) e ∙ ap (λ i. show i (flags_at (suc p) rows)) b
      ∙ show-at (suc p) p g.0 rows (omega arith)
      (before-shows _ _ p t.0 t.1 t.2 t.3 g.0 g.2 f (λ m c d q. g.4 m c d (eq-eqb _ _ q)))
      (λ m ne. sym (next-due _ _ p t.0 t.1 t.2 t.3 m (λ q. ne (q ∙ sym f))))

-- MANY STEPS

pub forward-many : (k p : ℕ) (rows : List Row) → p + k ≤ steps rows → times k forward (flags_at p rows) ≡ flags_at (p + k) rows
forward-many zero p rows l = ap (λ m. flags_at m rows) (sym (add-zero p))
forward-many (suc k) p rows l =
    ap forward (forward-many k p rows (omega arith)) ∙ forward-at (p + k) rows (omega arith) ∙ ap (λ m. flags_at m rows) (sym (add-suc p k))

pub back-many : (k p : ℕ) (rows : List Row) → p + k ≤ steps rows → times k back (flags_at (p + k) rows) ≡ flags_at p rows
back-many zero p rows l = ap (λ m. flags_at m rows) (add-zero p)
back-many (suc k) p rows l =
    let e : p + suc k ≡ suc p + k = omega arith in
    ap (λ m. back (times k back (flags_at m rows))) e ∙ ap back (back-many k (suc p) rows (omega arith)) ∙ back_at p rows (omega arith)
