-- The words that Navigate leaves are those of the navigated table. Assumes nothing.
use Prim.Native.Nat.{ℕ, ◌+◌, ◌*◌, ◌≤◌, ◌<◌}
use mathlib.Core.Bool.{Bool, true, false, not, ◌&&◌, So}
use mathlib.Core.List.{List, [], ◌∷◌, ◌++◌}
use mathlib.Core.Path.{◌≡◌, refl, sym, ap, ap₂, subst, subst₂, ◌∙◌}
use native.Mathlib.Numerals.{add-one}
use native.Mathlib.Omega.{arith}
use lib.ListN.{length, set}
use borrow.Author.Tests.{eq-eqb, ne_eqb}
use Rattle.rules.specs.Below.{some_below}
use Rattle.rules.specs.Rows.{Row, none, no_row, row_at, doc_at, frame_at, parent_at, shown_at, is_shown, is_doc, place, flag}
use Rattle.rules.specs.Windows.{root_at}
use Rattle.rules.specs.Moves.{without, hide, upcoming_in, cleared, navigated}
use Rattle.rules.specs.Words.{put, capacity, table_of, rows_of, written}
use Rattle.laws.proofs.Tests.{some_in, gather-from}
use Rattle.laws.proofs.Flags.{flag-back, flags-length, flags-row}
use Rattle.laws.proofs.Tree.{distinct, place_is, Alike, alike}
use Rattle.laws.proofs.Removal.{stays}
use Rattle.laws.proofs.Accepted.{Navigates}
use Rattle.windows.proofs.Window.{WideRows, wide_rows}
use Rattle.windows.proofs.Without.{cleared-sound}
use Rattle.windows.proofs.Navigated.{row, stayed}
use Rattle.reads.specs.Within.{Before, Within}
use Rattle.packs.specs.Packing.{Over}
use Rattle.packs.proofs.Over.{over-length, over-capacity, over-fits, over-row, over-more, set-only, over-set}
use Rattle.packs.proofs.Stays.{without_fewer}
use Rattle.packs.proofs.Ended.{ended_is}
use Rattle.navigates.specs.Packing.{settled}

-- ONE WORD WRITTEN ANEW

-- A row with another flag.
abbrev flagged : ℕ → Row → Row
flagged v r = record { doc = r.doc; frame = r.frame; parent = r.parent; shown = v }

-- To hide a document is to write its one row's flag.
hide-is : (rows : List Row) (q d : ℕ) → q < length rows → doc_at rows q ≡ d → ((i : ℕ) → i < length rows → doc_at rows i ≡ d → i ≡ q) →
    ((i : ℕ) → i < length rows → shown_at rows i ≤ 1) → set rows q (flagged 0 (row_at rows q)) ≡ hide d rows
unfolding hide
hide-is rows q d l e only bit =
    let f : ℕ → Bool = λ i. not (is_doc rows d i) && is_shown rows i in
    let g : is_doc rows d q ≡ true = eq-eqb _ _ e in
    set-only rows (hide d rows) q (flagged 0 (row_at rows q)) l (flags-length f rows)
    (flags-row f rows q l ∙ ap (λ x. flagged (flag (not x && is_shown rows q)) (row_at rows q)) g)
    (λ i b ne.
    let h : is_doc rows d i ≡ false = ne_eqb _ _ (λ z. ne (only i b z)) in
    flags-row f rows i b ∙ ap (λ x. flagged (flag (not x && is_shown rows i)) (row_at rows i)) h ∙ ap (λ x. flagged x (row_at rows i)) (flag-back (shown_at rows i) (bit i b)))

-- THE WORDS

module _ (old : List ℕ) (d : ℕ) (f : Navigates old d) (word : (table_of old).next_doc ≤ none) where
  abbrev rows : List Row
  rows = rows_of old

  -- d's window.
  abbrev r : ℕ
  r = root_at rows (place rows d)

  abbrev c : List Row
  c = cleared r rows

  sound-in : WideRows rows (table_of old).next_doc (table_of old).next_frame
  sound-in = wide_rows f.sound.table word

  clear-sound : WideRows c (table_of old).next_doc (table_of old).next_frame
  clear-sound = cleared-sound rows sound-in r

  fits : length rows ≤ capacity old
  fits = f.sound.table.s1.fits

  -- A cleared row with document d is d's row.
  the_row : (q : ℕ) → q < length c → doc_at c q ≡ d → row_at c q ≡ row_at rows (place rows d)
  unfolding without
  the_row q l e =
      let m = gather-from (stays (upcoming_in r rows) rows) (row_at rows) (length rows) q no_row l in
      m.4 ∙ ap (row_at rows) (sym (place_is rows sound-in.tree m.0 d m.1 (ap (λ x. x.doc) (sym m.4) ∙ e)))

  module _ (k : ℕ) (packed : List ℕ) (is : Over c old k packed) where
    few : k ≤ length rows
    few = omega (arith, is.count-is, without_fewer (upcoming_in r rows) rows)

    packed-fits : length (rows_of packed) ≤ capacity packed
    packed-fits = over-fits c old k packed is fits

    row-there : (j : ℕ) → j < k → row_at (rows_of packed) j ≡ row_at c j
    row-there = over-row c old k packed is fits few

    -- d's row is found.
    still-there : So (some_below k (is_doc (rows_of packed) d))
    still-there =
        let s = stayed (table_of old) sound-in f.doc d f.seen in
        let l : s.0 < k = subst (λ x. s.0 < x) (sym is.count-is) s.1 in
        some_in (is_doc (rows_of packed) d) k l (eq-eqb _ _ (ap (λ x. x.doc) (row-there s.0 l) ∙ s.2.d ∙ (row (table_of old) sound-in f.doc d f.seen).2))

    -- What the search for d's row and the settling may rely on.
    pub place-asks : Before packed k × So (some_below k (is_doc (rows_of packed) d))
    place-asks = (record { fits = packed-fits; upto = omega (arith, over-length c old k packed is, few) }, still-there)

    pub settle-asks : (q n e : ℕ) → n ≡ length rows → e ≡ (table_of old).next_doc → q < k → Within packed q × (k < capacity packed) × (n ≤ capacity packed) × (e < none)
    settle-asks q n e b g l =
        let z = f.roomy in
        let u = f.doc in
        let cap = over-capacity c old k packed is in
        (record { fits = packed-fits; below = omega (arith, over-length c old k packed is, few) }, omega (arith, is.count-is), omega (arith, fits), omega (arith, word))

    module _ (q : ℕ) (l : q < k) (found : doc_at (rows_of packed) q ≡ d) where
      inside : q < length c
      inside = omega (arith, is.count-is)

      doc-there : doc_at c q ≡ d
      doc-there = ap (λ x. x.doc) (sym (row-there q l)) ∙ found

      -- Its row hidden.
      hidden-is : Over (hide d c) old k (put packed (6 + 4 * q) (0 ∷ []))
      hidden-is =
          let e : 3 + (4 * q + 3) ≡ 6 + 4 * q = omega arith in
          subst₂ (λ rs j. Over rs old k (put packed j (0 ∷ [])))
          (hide-is c q d inside doc-there (λ i m z. distinct clear-sound.tree i q m inside (z ∙ sym doc-there)) clear-sound.s6.bit) e
          (over-set c old k packed is q 3 0 (flagged 0 (row_at c q)) l (omega arith) refl)

      -- The row that comes.
      abbrev comes : Row
      comes = record { doc = (table_of old).next_doc; frame = frame_at rows (place rows d); parent = parent_at rows (place rows d); shown = 1 }

      -- The rows with it.
      added_is : Over (hide d c ++ comes ∷ []) old (k + 1) (put (put packed (6 + 4 * q) (0 ∷ [])) (3 + 4 * k) ((table_of old).next_doc ∷ frame_at (rows_of packed) q ∷ parent_at (rows_of packed) q ∷ 1 ∷ []))
      added_is =
          let a : Alike (rows_of packed) q rows (place rows d) = alike (row-there q l ∙ the_row q inside doc-there) in
          over-more (hide d c) old k _ hidden-is comes _ (ap₂ (λ x y. put (put packed (6 + 4 * q) (0 ∷ [])) (3 + 4 * k) ((table_of old).next_doc ∷ x ∷ y ∷ 1 ∷ [])) a.f a.p)

      settled_here : (n : ℕ) → n ≡ length rows → settled packed q k n (table_of old).next_doc (table_of old).next_frame ≡ written old (navigated (table_of old) d)
      unfolding settled navigated
      settled_here n b =
          ended_is (hide d c ++ comes ∷ []) old (k + 1) _ added_is f.sound (let z = f.roomy in omega (arith, is.count-is)) n ((table_of old).next_doc + 1) (table_of old).next_frame b
          ∙ ap (λ m. written old (record { rows = hide d c ++ comes ∷ []; next_doc = m; next_frame = (table_of old).next_frame })) (add-one (table_of old).next_doc)

    -- What settling leaves.
    pub settled_is : (q n e next : ℕ) (left : List ℕ) → n ≡ length rows → e ≡ (table_of old).next_doc → next ≡ (table_of old).next_frame → q < k → doc_at (rows_of packed) q ≡ d →
        left ≡ settled packed q k n e next → left ≡ written old (navigated (table_of old) d)
    settled_is q n e next left b g h l found s = s ∙ ap₂ (settled packed q k n) g h ∙ settled_here q l found n b
