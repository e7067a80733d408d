-- What the contents of saved bytes sum up to, in both forms: the position and the steps of the table. Assumes nothing.
use Prim.Native.Nat.{ℕ, suc, ◌+◌, ◌-◌, ◌*◌, ◌≤◌, ◌<◌}
use mathlib.Core.Bool.{Bool, false, not, ◌&&◌, So, and_comm, and-eq-true_iff}
use mathlib.Core.List.{List, [], ◌∷◌}
use mathlib.Core.Path.{◌≡◌, refl, sym, ap, subst, ◌∙◌}
use native.Mathlib.Omega.{arith}
use lib.ListN.{length}
use borrow.Author.Tests.{eqb-true, eqb-false, ltb-true, ltb-false, eq-eqb, ne_eqb, lt-ltb, le-ltb, not-true, not-false}
use Rattle.rules.specs.Below.{count, sum}
use Rattle.rules.specs.Rows.{Table, frame_at, is_shown, in_frame, is_frame}
use Rattle.rules.specs.Steps.{is_step, reached, taken, position, steps}
use Rattle.rules.specs.Moves.{frames}
use Rattle.rules.specs.Sound.{SoundTable}
use Rattle.rules.specs.Saved.{shown_place, saved_with, number_at, documents_in, shown_in, entries_in}
use Rattle.rules.specs.Contents.{position_in, steps_in, not_contents}
use Rattle.rules.specs.Calls.{◌leaving◌}
use Rattle.laws.specs.Loading.{reading, Fits}
use Rattle.laws.proofs.Tests.{off, clash, same_tests, or-none, some_in, some_out, count_yes, count-flat, count-le, count_same, count-split, one_out}
use Rattle.laws.proofs.Frames.{reach-in, reach-out}
use Rattle.laws.proofs.Pieces.{sum_same, sum_less, sum-under, sum-classes, sum-rising}
use Rattle.laws.proofs.Numbers.{Form, length-docs_of, frame_no, documents, read_count, read-documents, read-shown}
use Rattle.laws.proofs.Trips.{no-documents, first_one, all-documents, some-documents, steps-frames, frames-some, told-total, shown-row, shown-place, row_of, shown-below}

-- THE TEST

module _ (width : ℕ) (bytes : List ℕ) where
  pub fits_out : not_contents width bytes ≡ false → Fits width bytes
  unfolding not_contents
  fits_out h =
      let u = simp or-none at h in
      let some = eqb-false (number_at bytes 0) 0 u.0.0.0.0 in
      record {
        framed = omega arith;
        room = ltb-false _ _ u.0.0.0.1;
        shown = λ j l. ltb-true _ _ (not-false _ (off _ (λ t. clash (some_in _ (number_at bytes 0) l t) u.0.0.1)));
        few = ltb-false _ _ u.0.1;
        long = eqb-true _ _ (not-false _ u.1);
      }

  pub fits_in : Fits width bytes → not_contents width bytes ≡ false
  unfolding not_contents
  fits_in f =
      let none = off _ (λ t. let j = some_out _ (number_at bytes 0) t in clash (lt-ltb _ _ (f.shown j.0 j.1)) (not-true _ j.2)) in
      let some : number_at bytes 0 ≡ 0 → ⊥ = λ e. omega (arith, f.framed) in
      simp or-none ((((ne_eqb _ _ some, le-ltb _ _ f.room), none), le-ltb _ _ f.few), ap not (eq-eqb _ _ f.long))

  -- A frame has an entry at least, and so a step less than entries.
  pub steps-are : Fits width bytes → steps_in bytes + number_at bytes 0 ≡ entries_in bytes
  unfolding steps_in
  steps-are f = sum_less (documents_in bytes) (number_at bytes 0) (λ j l. omega (arith, f.shown j l))

  -- The position is less still.
  pub position-most : Fits width bytes → position_in bytes + number_at bytes 0 ≤ entries_in bytes
  unfolding position_in
  position-most f = sum-under (shown_in bytes) (documents_in bytes) (number_at bytes 0) f.shown

-- A TABLE

module _ {room : ℕ} (t : Table) (sound : SoundTable room t) where
  abbrev n : ℕ
  n = length t.rows

  -- Row k is the shown one of its frame: that frame's steps are taken up to it.
  module _ (k : ℕ) (l : k < n) (s : So (is_shown t.rows k)) where
    abbrev own : ℕ → Bool
    own = in_frame t.rows (frame_at t.rows k)

    up_to : (j : ℕ) → So (own j) → j ≤ k → So (reached t.rows j)
    up_to j o a = reach-in n (frame_at t.rows) (is_shown t.rows) a l (sym (eqb-true _ _ o)) s

    past : (j : ℕ) → So (own j) → So (reached t.rows j) → j ≤ k
    past j o r =
        let q = reach-out n (frame_at t.rows) (is_shown t.rows) j r in
        let shows : (i : ℕ) → frame_at t.rows i ≡ frame_at t.rows k → So (is_shown t.rows i) → So (own i && is_shown t.rows i) = λ i e s. simp and-eq-true_iff (eq-eqb _ _ e, s) in
        let e = (one_out _ n (sound.s6.one k l)).1 q.0 k q.2 l (shows q.0 (q.3 ∙ eqb-true _ _ o) q.4) (shows k refl s) in
        omega (arith, q.1)

    taken_own : count (λ j. own j && taken t.rows j) n ≡ count own k
    taken_own =
        let here : So (own k) = eq-eqb (frame_at t.rows k) (frame_at t.rows k) refl in
        let first = first_one t.rows (frame_at t.rows k) (suc k) (some_in own (suc k) (omega arith) here) in
        let upto : count (λ j. own j && taken t.rows j) (suc k) ≡ count (λ j. is_step t.rows j && own j) (suc k) =
        count_same _ _ (suc k) (λ j a. same_tests
        (λ h. let u = simp and-eq-true_iff at h in simp and-eq-true_iff (u.1.0, u.0))
        (λ h. let u = simp and-eq-true_iff at h in simp and-eq-true_iff (u.1, (u.0, up_to j u.1 (omega arith))))) in
        let rest : count (λ j. not (is_step t.rows j) && own j) (suc k) ≡ count (λ j. own j && not (is_step t.rows j)) (suc k) = count_same _ _ (suc k) (λ j a. and_comm (not (is_step t.rows j)) (own j)) in
        count-flat _ n {i = suc k} l (λ j a b. off _ (λ h. let u = simp and-eq-true_iff at h in omega (arith, past j u.0 u.1.1)))
        ∙ omega (arith, upto, rest, first, count-split (is_step t.rows) own (suc k), count_yes own k here)

  -- The taken steps of frame f.
  abbrev takens : ℕ → ℕ
  takens f = count (λ i. in_frame t.rows f i && taken t.rows i) n

  takens-are : (j : ℕ) → j < length (frames t) → takens (frame_no t j) ≡ shown_place t.rows (frame_no t j)
  takens-are j l =
      let i = row_of t sound j 0 l (some-documents t sound j l) in
      let k = shown-row t sound i.0 i.1 in
      let v = simp and-eq-true_iff at k.2 in
      let e = eqb-true _ _ v.0 in
      subst (λ f. takens f ≡ shown_place t.rows f) i.2
      (subst (λ f. takens f ≡ count (in_frame t.rows f) k.0) e (taken_own k.0 k.1 v.1) ∙ sym (shown-place t sound i.0 i.1 k.0 k.1 k.2))

  -- "position is the sum of the shown places"
  position-sum : sum (λ j. shown_place t.rows (frame_no t j)) (length (frames t)) ≡ position t.rows
  unfolding position
  position-sum =
      sum_same _ _ (length (frames t)) (λ j l. sym (takens-are j l))
      ∙ sum-rising takens (is_frame t.rows) t.next_frame (λ f o.
      omega (arith, count-le (λ i. in_frame t.rows f i && taken t.rows i) (in_frame t.rows f) n (λ k l u. (simp and-eq-true_iff at u).0), length-docs_of t.rows f, no-documents t.rows f o))
      ∙ sum-classes (frame_at t.rows) (taken t.rows) n t.next_frame sound.s3.below

  -- "steps the sum of m - 1"
  steps-sum : sum (λ j. documents t j - 1) (length (frames t)) ≡ steps t.rows
  steps-sum = omega (arith, sum_less (documents t) (length (frames t)) (some-documents t sound), all-documents t sound, steps-frames t sound)

  -- ITS BYTES

  module _ (m : Form) where
    abbrev bytes : List ℕ
    bytes = saved_with m.body t

    position-told : position_in bytes ≡ position t.rows
    unfolding position_in
    position-told = ap (sum (shown_in bytes)) (read_count m t) ∙ sum_same _ _ (length (frames t)) (λ j l. read-shown m t j l) ∙ position-sum

    steps-told : steps_in bytes ≡ steps t.rows
    unfolding steps_in
    steps-told = ap (sum (λ j. documents_in bytes j - 1)) (read_count m t) ∙ sum_same _ _ (length (frames t)) (λ j l. ap (λ d. d - 1) (read-documents m t j l)) ∙ steps-sum

    -- Where entries have so many bytes, and there are no more than 512.
    pub reading-saved : (width : ℕ) → length bytes ≡ 12 + 16 * number_at bytes 0 + width * entries_in bytes → n ≤ 512 →
        reading width bytes ≡ (position t.rows ∷ steps t.rows ∷ [] leaving [])
    unfolding reading
    reading-saved width long few =
        let F : number_at bytes 0 ≡ length (frames t) = read_count m t in
        let fits : Fits width bytes = record {
          framed = omega (arith, frames-some t sound);
          room = omega arith;
          shown = λ j l. let a : j < length (frames t) = omega arith in omega (arith, read-shown m t j a, read-documents m t j a, shown-below t sound j a);
          few = omega (arith, told-total t sound m);
          long = long;
        } in
        rw (fits_in width bytes fits, position-told, steps-told) refl
