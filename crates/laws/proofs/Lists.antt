-- Taken and upcoming steps of a sound record: the first steps are the taken ones, and both lists together are the steps in order. Assumes nothing.
use Prim.Native.Nat.{ℕ, zero, suc, ◌-◌, ◌≤◌, ◌<◌, min}
use mathlib.Core.Bool.{not, ◌&&◌}
use mathlib.Core.List.{List, [], ◌∷◌, ◌++◌, reverse, reverse-reverse, append-nil, append_assoc}
use mathlib.Core.Path.{◌≡◌, refl, sym, ap, ◌∙◌}
use native.Mathlib.Omega.{arith}
use lib.Dec.{ltb}
use lib.ListN.{length, length-reverse}
use borrow.Author.Tests.{ltb-true, ltb-false}
use Rattle.rules.specs.Below.{count, gather}
use Rattle.rules.specs.Rows.{Row, doc_at, frame_at}
use Rattle.rules.specs.Steps.{is_step, reached, taken, upcoming, position, steps}
use Rattle.rules.specs.Sound.{S6}
use Rattle.rules.specs.Asks.{taken_list, upcoming_list}
use Rattle.laws.specs.Alone.{InOrder}
use Rattle.laws.proofs.Tests.{test, count-zero, count_yes, count_no, count_same, count-first, length-gather}
use Rattle.laws.proofs.Frames.{due-step}
use Rattle.laws.proofs.Central.{reached-is}

no-entries : (xs : List ℕ) → length xs ≡ 0 → xs ≡ []
no-entries [] e = refl
no-entries (x ∷ xs) e = absurd (omega arith)

module _ (rows : List Row) (s6 : S6 rows) (s7 : InOrder rows) where
  -- The first steps are the taken ones.
  pub taken_is : (i : ℕ) → i < length rows → taken rows i ≡ (is_step rows i && ltb (count (is_step rows) i) (position rows))
  taken_is i l = ap (λ b. is_step rows i && b) (reached-is rows s6 s7 i l) ∙ due-step (frame_at rows) (position rows) i

  pub upcoming-is : (i : ℕ) → i < length rows → upcoming rows i ≡ (is_step rows i && not (ltb (count (is_step rows) i) (position rows)))
  upcoming-is i l =
      test (is_step rows i)
      (λ t. let e : reached rows i ≡ ltb (count (is_step rows) i) (position rows) = sym (rw t at (refl {a = taken rows i})) ∙ rw t at (taken_is i l) in rw t (ap not e))
      (λ f. rw f refl)

  pub count-taken : (i : ℕ) → i ≤ length rows → count (taken rows) i ≡ min (position rows) (count (is_step rows) i)
  count-taken i l = count_same _ _ i (λ k m. taken_is k (omega arith)) ∙ count-first (is_step rows) (position rows) i

  pub count-upcoming : (i : ℕ) → i ≤ length rows → count (upcoming rows) i ≡ count (is_step rows) i - position rows
  count-upcoming zero l = omega (arith, count-zero (upcoming rows), count-zero (is_step rows))
  count-upcoming (suc i) l =
      let ih = count-upcoming i (omega arith) in
      let u = upcoming-is i (omega arith) in
      test (is_step rows i)
      (λ t. test (ltb (count (is_step rows) i) (position rows))
      (λ b. let lt = ltb-true (count (is_step rows) i) (position rows) b in omega (arith, count_no (upcoming rows) i (u ∙ rw (t, b) refl), count_yes (is_step rows) i t))
      (λ b. let ge = ltb-false (count (is_step rows) i) (position rows) b in omega (arith, count_yes (upcoming rows) i (u ∙ rw (t, b) refl), count_yes (is_step rows) i t)))
      (λ f. omega (arith, count_no (upcoming rows) i (u ∙ rw f refl), count_no (is_step rows) i f))

  pub taken-length : length (taken_list rows) ≡ position rows
  unfolding taken_list position
  taken-length = length-reverse (gather (taken rows) (doc_at rows) (length rows)) ∙ length-gather (taken rows) (doc_at rows) (length rows)

  pub upcoming-length : length (upcoming_list rows) ≡ steps rows - position rows
  unfolding upcoming_list steps
  upcoming-length = length-gather (upcoming rows) (doc_at rows) (length rows) ∙ count-upcoming (length rows) (omega arith)

  in_order : (i : ℕ) → i ≤ length rows → gather (taken rows) (doc_at rows) i ++ gather (upcoming rows) (doc_at rows) i ≡ gather (is_step rows) (doc_at rows) i
  unfolding gather
  in_order zero l = refl
  in_order (suc i) l =
      let ts = gather (taken rows) (doc_at rows) i in
      let us = gather (upcoming rows) (doc_at rows) i in
      let ih = in_order i (omega arith) in
      let t-is = taken_is i (omega arith) in
      let u-is = upcoming-is i (omega arith) in
      rw (t-is, u-is) (test (is_step rows i)
      (λ t. test (ltb (count (is_step rows) i) (position rows))
      (λ b.
      let lt = ltb-true (count (is_step rows) i) (position rows) b in
      let none = no-entries us (omega (arith, length-gather (upcoming rows) (doc_at rows) i, count-upcoming i (omega arith))) in
      let all = ap (λ z. ts ++ z) (sym none) ∙ ih in
      rw (t, b)
      (ap (λ z. (ts ++ doc_at rows i ∷ []) ++ z) none ∙ append-nil (ts ++ doc_at rows i ∷ []) ∙ ap (λ z. z ++ doc_at rows i ∷ []) (sym (append-nil ts) ∙ all)))
      (λ b. rw (t, b) (sym (append_assoc ts us (doc_at rows i ∷ [])) ∙ ap (λ z. z ++ doc_at rows i ∷ []) ih)))
      (λ f. rw f ih))

  -- Taken steps, earliest first, and then the upcoming ones are all steps in order.
  pub steps-in-order : reverse (taken_list rows) ++ upcoming_list rows ≡ gather (is_step rows) (doc_at rows) (length rows)
  unfolding taken_list upcoming_list
  steps-in-order = ap (λ z. z ++ gather (upcoming rows) (doc_at rows) (length rows)) (reverse-reverse (gather (taken rows) (doc_at rows) (length rows))) ∙ in_order (length rows) (omega arith)
