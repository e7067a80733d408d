-- Scans downwards for the latest row that passes. Assumes nothing.
use Prim.Native.Nat.{ℕ, suc, max, ◌+◌, ◌-◌, ◌*◌, ◌≤◌, ◌<◌}
use mathlib.Core.Bool.{Bool, true, false, So}
use mathlib.Core.List.{List}
use mathlib.Core.Logic.{⊎_elim}
use mathlib.Core.Path.{◌≡◌, refl, sym, ap, subst, ◌∙◌}
use native.Mathlib.Numerals.{add-one}
use native.Mathlib.Omega.{arith}
use lib.Dec.{eqb}
use lib.ListN.{length, get_or}
use mir.Syntax.{w64}
use mir.Val.{Fits, bool_byte}
use borrow.Author.Tests.{eqb-true}
use Rattle.rules.specs.Below.{some_below, latest}
use Rattle.rules.specs.Rows.{Row, frame_at, is_doc, in_frame}
use Rattle.rules.specs.Words.{rows_of}
use Rattle.rules.specs.Steps.{same, step}
use Rattle.laws.proofs.Tests.{test, off, below-cases, some_in, some_out, some_same, latest-out, latest-same}
use Rattle.laws.proofs.Words.{doc-in, frame-in}
use Rattle.laws.proofs.Loops.{count-within}
use Rattle.reads.specs.Found.{found_below}
use Rattle.base.specs.declared.RowPlace.{RowPlace}
use Rattle.reads.specs.Within.{Within, is_word, has_word}
use Rattle.reads.specs.Under.{Under}
use Rattle.std.specs.Prelude.{Option, None, Some}
use Rattle.std.specs.Option.{is_some}

module _ (p : ℕ → Bool) where
  -- The last place passes.
  here : (k : ℕ) → So (p k) → Some (record { 0 = k }) ≡ found_below p (suc k)
  unfolding found_below latest
  here k t = rw (some_in p (suc k) (omega arith) t, t) refl

  -- The last place fails, so that what is found stands before it.
  on : (k : ℕ) → p k ≡ false → found_below p (suc k) ≡ found_below p k
  unfolding found_below some_below latest
  on k f = test (some_below k p) (λ t. rw (t, f) refl) (λ t. rw (t, f) refl)

  -- Place i, the last before j, passes; no place from j up to n does.
  pub found_here : (n j i : ℕ) (b : Bool) → found_below p n ≡ found_below p j → j ≡ suc i → b ≡ p i → b ≡ true → Some (record { 0 = i }) ≡ found_below p n
  found_here n j i b h e f t = here i (sym f ∙ t) ∙ sym (h ∙ ap (found_below p) e)

  -- Place i, the last before j, fails too.
  found-on : (n j i : ℕ) (b : Bool) → found_below p n ≡ found_below p j → j ≡ suc i → b ≡ p i → b ≡ false → found_below p n ≡ found_below p i
  found-on n j i b h e f t = h ∙ ap (found_below p) e ∙ on i (sym f ∙ t)

  -- The row just before place n has failed by itself.
  pub found-past : (n : ℕ) (r : Option RowPlace) → p (n - 1) ≡ false → 0 < n → r ≡ found_below p (n - 1) → r ≡ found_below p n
  found-past n r f l e = e ∙ sym (found-on n n (n - 1) false refl (omega arith) (sym f) refl)

  -- No place up to n passes.
  pub found-end : (n j : ℕ) → found_below p n ≡ found_below p j → j ≡ 0 → None ≡ found_below p n
  unfolding found_below some_below
  found-end n j h e = sym (h ∙ ap (found_below p) e)

  -- What an answer says.
  pub found_at : (n : ℕ) (q : RowPlace) → found_below p n ≡ Some q → So (some_below n p) × (latest p n ≡ q.0)
  unfolding found_below
  found_at n q e =
      test (some_below n p) (λ t. let f : Some (record { 0 = latest p n }) ≡ Some q = rw t at e in (t, cc)) (λ t. let f : None ≡ Some q = rw t at e in absurd (let z : ◌≡◌ {A = ℕ} 0 1 = cc in omega arith))

  pub found-lower : (n : ℕ) (q : RowPlace) → found_below p n ≡ Some q → q.0 < n
  found-lower n q e = let r = found_at n q e in subst (λ k. k < n) r.1 (latest-out p n r.0).0

  pub found_nothing : (n : ℕ) → found_below p n ≡ None → some_below n p ≡ false
  unfolding found_below
  found_nothing n e =
      test (some_below n p) (λ t. let f : Some (record { 0 = latest p n }) ≡ None = rw t at e in absurd (let z : ◌≡◌ {A = ℕ} 0 1 = cc in omega arith)) (λ t. t)

  pub some-found : (n : ℕ) (r : Option RowPlace) (q : RowPlace) → r ≡ found_below p n → r ≡ Some q → true ≡ some_below n p
  some-found n r q e f = sym (found_at n q (sym e ∙ f)).0

  pub none_found : (n : ℕ) (r : Option RowPlace) → r ≡ found_below p n → r ≡ None → false ≡ some_below n p
  none_found n r e f = sym (found_nothing n (sym e ∙ f))

  -- Whether something was found.
  pub found-told : (n : ℕ) (r : Option RowPlace) → r ≡ found_below p n → is_some r ≡ some_below n p
  found-told n None e = none_found n None e refl
  found-told n (Some q) e = some-found n (Some q) q e refl

-- Tests that agree on the places before n find the same.
found-same : (p q : ℕ → Bool) (n : ℕ) → ((k : ℕ) → k < n → p k ≡ q k) → found_below p n ≡ found_below q n
unfolding found_below
found-same p q n h = rw (some_same p q n h, latest-same p q n h)

-- THE ROWS' WORDS

module _ (words : List ℕ) (back v : ℕ) where
  -- The word tried, k, is that of row i, the last before place j; it has the value.
  pub word-here : (n j i k : ℕ) (b : Bool) →
      found_below (has_word words back v) n ≡ found_below (has_word words back v) j → b ≡ is_word words v k → b ≡ true → j ≡ suc i → k ≡ 4 * i + 4 - back →
      Some (record { 0 = i }) ≡ found_below (has_word words back v) n
  unfolding has_word
  word-here n j i k b h f t e w = found_here _ n j i b h e (f ∙ ap (is_word words v) w) t

  -- That word has another value.
  pub word_on : (n j i k : ℕ) (b : Bool) →
      found_below (has_word words back v) n ≡ found_below (has_word words back v) j → b ≡ is_word words v k → b ≡ false → j ≡ suc i → k ≡ 4 * i + 4 - back →
      found_below (has_word words back v) n ≡ found_below (has_word words back v) i
  unfolding has_word
  word_on n j i k b h f t e w = found-on _ n j i b h e (f ∙ ap (is_word words v) w) t

module _ (words : List ℕ) where
  -- The word just before the frame is the document.
  pub found-document : (n d : ℕ) (r : Option RowPlace) → n ≤ length (rows_of words) → r ≡ found_below (has_word words 1 d) n → r ≡ found_below (is_doc (rows_of words) d) n
  unfolding has_word
  found-document n d r l h =
      h ∙ found-same _ _ n (λ i m. let e : 4 * i + 4 - 1 ≡ 3 + 4 * i = omega arith in ap (λ x. eqb x d) (ap (λ k. get_or words k 0) e ∙ doc-in words i (omega arith)))

  -- The word no words before the frame is the frame itself.
  pub found-frame : (n f : ℕ) (r : Option RowPlace) → n ≤ length (rows_of words) → r ≡ found_below (has_word words 0 f) n → r ≡ found_below (in_frame (rows_of words) f) n
  unfolding has_word
  found-frame n f r l h =
      h ∙ found-same _ _ n (λ i m. let e : 4 * i + 4 - 0 ≡ 4 + 4 * i = omega arith in ap (λ x. eqb x f) (ap (λ k. get_or words k 0) e ∙ frame-in words i (omega arith)))

-- A BOUND ON FRAME NUMBERS

pub under_more : (fr : ℕ → ℕ) (i a h : ℕ) → Under fr i a → h ≡ max a (fr i) → Under fr (i + 1) h
under_more fr i a h u e k b = ⊎_elim (λ z. rw z (omega arith)) (λ c. omega (arith, u k c)) (below-cases (subst (λ n. k < n) (add-one i) b))

-- A count of rows fits its word.
pub steps-fit : (words : List ℕ) (i k : ℕ) (b : Bool) → k ≤ i → Within words i → Fits w64 (k + bool_byte b)
steps-fit words i k b l w = let a = w.fits in let c = w.below in record { fits = omega (arith, count-within i k b l) }

-- THE ROW BEFORE IN THE FRAME

-- The latest row of a row's own frame.
pub found-own : (rows : List Row) (i n f : ℕ) (r : Option RowPlace) → f ≡ frame_at rows i → r ≡ found_below (in_frame rows f) n → r ≡ found_below (same (frame_at rows) i) n
found-own rows i n f r e h = h ∙ ap (λ f. found_below (in_frame rows f) n) e

module _ (fr : ℕ → ℕ) (i : ℕ) where
  -- A frame number above all before it is a new one.
  pub found-higher : (high : ℕ) → Under fr i high → high < fr i → None ≡ found_below (same fr i) i
  unfolding found_below
  found-higher high h l =
      rw (off (some_below i (same fr i)) (λ s. let k = some_out (same fr i) i s in omega (arith, h k.0 k.1, eqb-true (fr k.0) (fr i) k.2))) refl

  -- A row is found where the row is a step.
  pub step-found : (r : Option RowPlace) (b : Bool) → r ≡ found_below (same fr i) i → b ≡ is_some r → b ≡ step fr i
  unfolding step
  step-found r b e f = f ∙ found-told (same fr i) i r e

  pub first_found : (r : Option RowPlace) → r ≡ found_below (same fr i) i → r ≡ None → false ≡ step fr i
  unfolding step
  first_found r e f = none_found (same fr i) i r e f
