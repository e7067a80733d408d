-- The words that Replace leaves are those of the replaced table. Assumes nothing.
use Prim.Native.Nat.{ℕ, suc, ◌+◌, ◌*◌, ◌≤◌, ◌<◌}
use mathlib.Core.Bool.{So}
use mathlib.Core.List.{List, [], ◌∷◌}
use mathlib.Core.Path.{◌≡◌, refl, sym, ap, ap₂, subst₂, ◌∙◌}
use native.Mathlib.Numerals.{add-one}
use native.Mathlib.Omega.{arith}
use lib.ListN.{length, set}
use borrow.Author.Tests.{eq-eqb, ne_eqb}
use Rattle.rules.specs.Below.{some_below}
use Rattle.rules.specs.Rows.{Row, none, row_at, doc_at, is_doc}
use Rattle.rules.specs.Moves.{without, is_child, named, renamed, replaced}
use Rattle.rules.specs.Words.{put, capacity, table_of, rows_of, written}
use Rattle.laws.proofs.Tests.{some_in, count-in}
use Rattle.laws.proofs.Kept.{kept_row, kept-length}
use Rattle.laws.proofs.Tree.{TreeOf, tree_of, distinct}
use Rattle.laws.proofs.Reflect.{record_is}
use Rattle.laws.proofs.Replace.{stays_over, renamed-length, renamed-row, stays-upto, place-upto}
use Rattle.laws.proofs.Accepted.{Replaces}
use Rattle.windows.proofs.Without.{without-tree}
use Rattle.reads.specs.Within.{Before}
use Rattle.packs.specs.Packing.{Over, ended}
use Rattle.packs.proofs.Over.{set-only, over-size, over-capacity, over-set}
use Rattle.packs.proofs.Stays.{without_fewer}
use Rattle.packs.proofs.Ended.{ended_is}

-- To rename a document is to write its one row's number.
renamed-is : (rows : List Row) (q d m : ℕ) → q < length rows → doc_at rows q ≡ d → ((i : ℕ) → i < length rows → doc_at rows i ≡ d → i ≡ q) →
    set rows q (named m (row_at rows q)) ≡ renamed d m rows
renamed-is rows q d m l e only =
    set-only rows (renamed d m rows) q (named m (row_at rows q)) l (renamed-length d m rows)
    (renamed-row d m rows q l ∙ rw (eq-eqb (doc_at rows q) d e) refl)
    (λ i b ne. renamed-row d m rows i b ∙ rw (ne_eqb (doc_at rows i) d (λ z. ne (only i b z))) refl)

-- THE WORDS

module _ (old : List ℕ) (d : ℕ) (f : Replaces old d) (word : (table_of old).next_doc ≤ none) where
  abbrev rows : List Row
  rows = rows_of old

  abbrev c : List Row
  c = without (is_child rows d) rows

  tree : TreeOf rows (table_of old).next_doc (table_of old).next_frame
  tree = tree_of f.sound.table word

  left-tree : TreeOf c (table_of old).next_doc (table_of old).next_frame
  left-tree = without-tree rows tree (is_child rows d)

  fits : length rows ≤ capacity old
  fits = f.sound.table.s1.fits

  -- What the search for d's row may rely on.
  pub place-asks : (n : ℕ) → n ≡ length rows → Before old n × So (some_below n (is_doc rows d))
  place-asks n e =
      let v = (record_is rows d).0 f.there in
      (record { fits = fits; upto = omega arith }, some_in (is_doc rows d) n {k = v.0} (omega (arith, v.1)) (eq-eqb _ _ v.2))

  module _ (p n : ℕ) (inside : p < n) (all : n ≡ length rows) (there : doc_at rows p ≡ d) where
    within : p < length rows
    within = omega arith

    -- d's row keeps its place.
    row-there : (p < length c) × (row_at c p ≡ row_at rows p)
    unfolding without
    row-there =
        let keep = stays_over d rows in
        let e = place-upto rows tree d p within there p (omega arith) in
        let s = stays-upto rows tree d p within there p (omega arith) in
        (omega (arith, kept-length keep rows, count-in keep (length rows) within s), ap (row_at c) (sym e) ∙ kept_row keep rows p within s)

    module _ (k : ℕ) (packed : List ℕ) (is : Over c old k packed) where
      few : k ≤ length rows
      few = omega (arith, is.count-is, without_fewer (is_child rows d) rows)

      pub name-asks : p < capacity packed
      name-asks = omega (arith, over-capacity c old k packed is, fits, within)

      -- Its number written.
      named-is : (m : ℕ) → Over (renamed d m c) old k (put packed (3 + 4 * p) (m ∷ []))
      named-is m =
          let r = row-there in
          let e : doc_at c p ≡ d = ap (λ x. x.doc) r.1 ∙ there in
          let z : 3 + (4 * p + 0) ≡ 3 + 4 * p = omega arith in
          subst₂ (λ rs j. Over rs old k (put packed j (m ∷ [])))
          (renamed-is c p d m r.0 e (λ i l q. distinct left-tree i p l r.0 (q ∙ sym e))) z
          (over-set c old k packed is p 0 m (named m (row_at c p)) (omega (arith, r.0, is.count-is)) (omega arith) refl)

      module _ (m : ℕ) (w : List ℕ) (h : w ≡ put packed (3 + 4 * p) (m ∷ [])) where
        pub end-asks : (3 + 4 * n ≤ length w) × (n ≤ 512) × (k ≤ 512)
        end-asks =
            let size : length w ≡ length old = ap length h ∙ over-size (renamed d m c) old k _ (named-is m) in
            (omega (arith, fits, f.long), omega (arith, fits), omega (arith, few, fits))

        -- What the last write leaves.
        pub replaced-words : (top : ℕ) (left : List ℕ) → m ≡ (table_of old).next_doc → top ≡ (table_of old).next_frame → left ≡ ended w k n (m + 1) top → left ≡ written old (replaced (table_of old) d)
        unfolding replaced
        replaced-words top left b g e =
            e ∙ ap (λ x. ended x k n (m + 1) top) h ∙ ended_is (renamed d m c) old k _ (named-is m) f.sound (omega (arith, few, fits)) n (m + 1) top all
            ∙ ap (λ x. written old (record { rows = renamed d m c; next_doc = x; next_frame = top })) (add-one m)
            ∙ ap₂ (λ x y. written old (record { rows = renamed d x c; next_doc = suc x; next_frame = y })) b g
