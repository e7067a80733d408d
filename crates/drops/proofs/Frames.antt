-- Where a frame begins, and how its removal begins there. Assumes nothing.
use Prim.Native.Nat.{ℕ, ◌≤◌, ◌<◌}
use mathlib.Core.Bool.{true, false, So}
use mathlib.Core.List.{List}
use mathlib.Core.Logic.{⊎_elim}
use mathlib.Core.Path.{◌≡◌, refl, sym, ap, subst, ◌∙◌}
use native.Mathlib.Omega.{arith}
use lib.ListN.{length}
use borrow.Author.Tests.{eq-eqb}
use Rattle.rules.specs.Below.{some_below}
use Rattle.rules.specs.Rows.{Row, none, doc_at, parent_at, is_doc, in_frame, is_frame}
use Rattle.rules.specs.Words.{table_of, rows_of}
use Rattle.laws.proofs.Tests.{clash, or_right, by-lt, some_in, some_out}
use Rattle.laws.proofs.Tree.{TreeOf, tree_of, distinct, proper}
use Rattle.laws.proofs.Loops.{Earliest, earliest-out}
use Rattle.rules.specs.Sound.{Sound}
use Rattle.packs.specs.Packing.{doc_kept, Begins}
use lib.Dec.{eqb}
use Rattle.std.specs.Prelude.{Option, None, Some}
use Rattle.base.specs.declared.DocNo.{DocNo}
use Rattle.base.specs.declared.RowPlace.{RowPlace}
use Rattle.drops.specs.Frames.{first_row, first_place}
use Rattle.laws.proofs.Tests.{test}

-- WHERE A FRAME BEGINS

module _ (rows : List Row) (f : ℕ) where
  -- What is said of its first row, whether there is one or not.
  begun : Earliest (in_frame rows f) (length rows) (first_row rows f)
  begun = earliest-out (in_frame rows f) (length rows)

  -- No row is of it, or row i is the first.
  pub first-none : some_below (length rows) (in_frame rows f) ≡ false → None ≡ first_place rows f
  unfolding first_place is_frame
  first-none e = rw e refl

  pub first-some : (i : ℕ) → i < length rows → So (in_frame rows f i) → i ≡ first_row rows f → Some (record { 0 = i }) ≡ first_place rows f
  unfolding first_place is_frame
  first-some i l s e = rw (some_in (in_frame rows f) (length rows) l s) (let p : ◌≡◌ {A = RowPlace} (record { 0 = i }) (record { 0 = first_row rows f }) = cc in ap Some p)

  -- What a search for it tells.
  pub frame-lost : (r : Option RowPlace) → r ≡ first_place rows f → r ≡ None → is_frame rows f ≡ false
  unfolding first_place
  frame-lost r e g =
      test (is_frame rows f)
      (λ t. let q : ◌≡◌ {A = Option RowPlace} (Some (record { 0 = first_row rows f })) None = rw t at (sym e ∙ g) in let z : ◌≡◌ {A = ℕ} 0 1 = cc in absurd (omega arith))
      (λ h. h)

  module _ (at : RowPlace) (e : first_place rows f ≡ Some at) where
    pub found : (is_frame rows f ≡ true) × (first_row rows f ≡ at.0)
    unfolding first_place
    found =
        test (is_frame rows f)
        (λ t. let q : ◌≡◌ {A = Option RowPlace} (Some (record { 0 = first_row rows f })) (Some at) = rw t at e in let p : ◌≡◌ {A = RowPlace} (record { 0 = first_row rows f }) at = cc in (t, ap (λ x. x.0) p))
        (λ h. let q : ◌≡◌ {A = Option RowPlace} None (Some at) = rw h at e in let z : ◌≡◌ {A = ℕ} 0 1 = cc in absurd (omega arith))

    first-is : Earliest (in_frame rows f) (length rows) at.0
    first-is = subst (Earliest (in_frame rows f) (length rows)) found.1 begun

    pub frame-within : at.0 < length rows
    unfolding is_frame
    frame-within =
        by-lt at.0 (length rows) (λ l. l) (λ m.
        let o = some_out (in_frame rows f) (length rows) found.0 in
        absurd (clash o.2 (first-is.none_before o.0 (omega arith))))

-- HOW THE REMOVAL BEGINS

module _ (words : List ℕ) (sound : Sound words) (word : (table_of words).next_doc ≤ none) (f : ℕ) (first : RowPlace) (begins : first_place (rows_of words) f ≡ Some first) where
  abbrev rows : List Row
  rows = rows_of words

  tree : TreeOf rows (table_of words).next_doc (table_of words).next_frame
  tree = tree_of sound.table word

  there : first.0 < length rows
  there = frame-within rows f first begins

  -- Before the frame's first row, whose parent stays, and whose document goes.
  pub drop-begins : (up d : DocNo) → up.0 ≡ parent_at rows first.0 → d.0 ≡ doc_at rows first.0 → Begins (in_frame rows f) rows (record { rows = first.0; found = up; missed = d })
  unfolding doc_kept
  drop-begins up d named doc =
      let is = first-is rows f first begins in
      record {
        few = is.within;
        early = is.none_before;
        found-is = rw named (⊎_elim (λ z. rw z refl) (λ r. or_right (eqb (parent_at rows first.0) none) (some_in (is_doc rows (parent_at rows first.0)) first.0 r.1 (eq-eqb _ _ r.2))) (tree.placed first.0 there));
        missed-some = λ z. proper tree first.0 there (sym doc ∙ z);
        missed-goes = λ i l e. subst (λ k. So (in_frame rows f k)) (distinct tree first.0 i there l (sym doc ∙ sym e)) (is.passes there);
      }
