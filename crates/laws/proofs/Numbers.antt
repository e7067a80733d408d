-- What Save writes, as a list of numbers, in both forms of the bodies. Assumes nothing.
use Prim.Native.Nat.{ℕ, zero, suc, ◌+◌, ◌*◌, ◌≤◌, ◌<◌}
use mathlib.Core.List.{List, [], ◌∷◌, ◌++◌, flat_map}
use mathlib.Core.Path.{◌≡◌, refl, sym, ap, ap₂, ◌∙◌}
use native.Mathlib.Nat.{not-suc-le-zero}
use native.Mathlib.Omega.{arith}
use lib.ListN.{length, get_or, length-append, get_or-append}
use lib.Seq.{get_or-append-add}
use Rattle.rules.specs.Below.{count, sum, tab, rising}
use Rattle.rules.specs.Rows.{Row, Table, doc_at, in_frame}
use Rattle.rules.specs.Moves.{frames}
use Rattle.rules.specs.Saved.{number, docs_of, shown_place, parent_of, contents, saved_with, body, number_at}
use Rattle.rules.specs.OldSaved.{old_body}
use Rattle.laws.proofs.Tests.{tab-is, length-gather}
use Rattle.laws.proofs.Pieces.{flat_append, before, length-flat, flat-at, sum-within, sum-fours}

-- NUMBERS

pub length-numbers : (xs : List ℕ) → length (flat_map number xs) ≡ 4 * length xs
unfolding flat_map number
length-numbers [] = refl
length-numbers (x ∷ xs) = let h = length-numbers xs in omega arith

read_past : (xs ys : List ℕ) (i at : ℕ) → at ≡ length xs + i → number_at (xs ++ ys) at ≡ number_at ys i
read_past xs ys i at e =
    let past : (k : ℕ) → get_or (xs ++ ys) (at + k) 0 ≡ get_or ys (i + k) 0 =
    λ k. ap (λ j. get_or (xs ++ ys) j 0) (omega arith) ∙ get_or-append-add xs ys (i + k) 0 in
    let here : get_or (xs ++ ys) at 0 ≡ get_or ys i 0 = ap (λ j. get_or (xs ++ ys) j 0) e ∙ get_or-append-add xs ys i 0 in
    rw (here, past 1, past 2, past 3)

-- Number i is read where it was written.
pub number_read : (xs : List ℕ) (i : ℕ) → i < length xs → number_at (flat_map number xs) (4 * i) ≡ get_or xs i 0
unfolding flat_map number
number_read [] i l = absurd (not-suc-le-zero l)
number_read (x ∷ xs) zero l = omega arith
number_read (x ∷ xs) (suc i) l = read_past (number x) (flat_map number xs) (4 * i) (4 * suc i) (omega arith) ∙ number_read xs i (omega arith)

-- FORMS

-- A form of the bodies: what stands in the body of a frame, as bytes and as numbers.
pub record Form : Type 0 where
  pub body : List Row → ℕ → List ℕ
  pub cells : List Row → ℕ → List ℕ
  pub spelt : (rows : List Row) (f : ℕ) → body rows f ≡ flat_map number (cells rows f)

-- The old one.
pub old-spelt : (rows : List Row) (f : ℕ) → old_body rows f ≡ flat_map number (docs_of rows f)
unfolding old_body
old-spelt rows f = refl

abbrev pub old_form : Form
old_form = record { body = old_body; cells = docs_of; spelt = old-spelt }

-- With row places: the numbers of row i, and of the body of frame f.
abbrev pub pair : List Row → ℕ → List ℕ
pair rows i = doc_at rows i ∷ i ∷ []

unfoldable pub pairs_of : List Row → ℕ → List ℕ
pairs_of rows f = flat_map (pair rows) (rising (in_frame rows f) (length rows))

pairs-spelt : (rows : List Row) (is : List ℕ) → flat_map (λ i. number (doc_at rows i) ++ number i) is ≡ flat_map number (flat_map (pair rows) is)
unfolding flat_map number
pairs-spelt rows [] = refl
pairs-spelt rows (i ∷ is) = rw (pairs-spelt rows is)

pub new-spelt : (rows : List Row) (f : ℕ) → body rows f ≡ flat_map number (pairs_of rows f)
unfolding body pairs_of
new-spelt rows f = pairs-spelt rows (rising (in_frame rows f) (length rows))

abbrev pub new_form : Form
new_form = record { body = body; cells = pairs_of; spelt = new-spelt }

-- A frame has so many documents.
pub length-docs_of : (rows : List Row) (f : ℕ) → length (docs_of rows f) ≡ count (in_frame rows f) (length rows)
unfolding docs_of
length-docs_of rows f = length-gather (in_frame rows f) (doc_at rows) (length rows)

module _ (rows : List Row) where
  length_pairs : (is : List ℕ) → length (flat_map (pair rows) is) ≡ 2 * length is
  unfolding flat_map
  length_pairs [] = refl
  length_pairs (i ∷ is) = let h = length_pairs is in omega arith

  -- Number c of entry k.
  pair-at : (is : List ℕ) (k c : ℕ) → k < length is → c < 2 → get_or (flat_map (pair rows) is) (2 * k + c) 0 ≡ get_or (pair rows (get_or is k 0)) c 0
  unfolding flat_map
  pair-at [] k c l m = absurd (not-suc-le-zero l)
  pair-at (i ∷ is) zero c l m =
      let e : 2 * 0 + c ≡ c = omega arith in
      rw e (get_or-append (pair rows i) (flat_map (pair rows) is) 0 c (omega arith))
  pair-at (i ∷ is) (suc k) c l m =
      let e : 2 * suc k + c ≡ length (pair rows i) + (2 * k + c) = omega arith in
      rw e (get_or-append-add (pair rows i) (flat_map (pair rows) is) (2 * k + c) 0 ∙ pair-at is k c (omega arith) m)

  module _ (f : ℕ) where
    pub its-many : length (rising (in_frame rows f) (length rows)) ≡ length (docs_of rows f)
    its-many = length-gather (in_frame rows f) (λ k. k) (length rows) ∙ sym (length-docs_of rows f)

    length-pairs_of : length (pairs_of rows f) ≡ 2 * length (docs_of rows f)
    unfolding pairs_of
    length-pairs_of = omega (arith, length_pairs (rising (in_frame rows f) (length rows)), its-many)

    pairs-at : (k c : ℕ) → k < length (docs_of rows f) → c < 2 → get_or (pairs_of rows f) (2 * k + c) 0 ≡ get_or (pair rows (get_or (rising (in_frame rows f) (length rows)) k 0)) c 0
    unfolding pairs_of
    pairs-at k c l m = pair-at (rising (in_frame rows f) (length rows)) k c (omega (arith, its-many)) m

-- THE NUMBERS OF A TABLE

-- What the contents say of frame f.
unfoldable pub entry_of : List Row → ℕ → List ℕ
entry_of rows f = f ∷ parent_of rows f ∷ length (docs_of rows f) ∷ shown_place rows f ∷ []

entries : (rows : List Row) (fs : List ℕ) → flat_map (contents rows) fs ≡ flat_map number (flat_map (entry_of rows) fs)
unfolding flat_map contents entry_of number
entries rows [] = refl
entries rows (f ∷ fs) = rw (entries rows fs)

-- The j-th frame, and how many documents it has.
abbrev pub frame_no : Table → ℕ → ℕ
frame_no t j = get_or (frames t) j 0

abbrev pub documents : Table → ℕ → ℕ
documents t j = length (docs_of t.rows (frame_no t j))

pub frames-tab : (t : Table) → frames t ≡ tab (length (frames t)) (frame_no t)
frames-tab t = tab-is (frame_no t) (frames t) (length (frames t)) 0 refl (λ k l. refl)

module _ (m : Form) where
  bodies : (rows : List Row) (fs : List ℕ) → flat_map (m.body rows) fs ≡ flat_map number (flat_map (m.cells rows) fs)
  unfolding flat_map
  bodies rows [] = refl
  bodies rows (f ∷ fs) =
      ap (λ l. l ++ flat_map (m.body rows) fs) (m.spelt rows f) ∙ ap (λ l. flat_map number (m.cells rows f) ++ l) (bodies rows fs)
      ∙ sym (flat_append number (m.cells rows f) (flat_map (m.cells rows) fs))

  unfoldable pub numbers_of : Table → List ℕ
  numbers_of t =
      length (frames t) ∷ t.next_doc ∷ t.next_frame ∷ (flat_map (entry_of t.rows) (frames t) ++ flat_map (m.cells t.rows) (frames t))

  pub saved-is : (t : Table) → saved_with m.body t ≡ flat_map number (numbers_of t)
  unfolding saved_with numbers_of flat_map
  saved-is t =
      rw (entries t.rows (frames t), bodies t.rows (frames t), flat_append number)

  module _ (t : Table) where
    abbrev bytes : List ℕ
    bytes = saved_with m.body t

    -- How many numbers the body of the j-th frame has.
    abbrev pub cells_of : ℕ → ℕ
    cells_of j = length (m.cells t.rows (frame_no t j))

    length-cells : length (flat_map (m.cells t.rows) (frames t)) ≡ sum cells_of (length (frames t))
    length-cells = ap (λ l. length (flat_map (m.cells t.rows) l)) (frames-tab t) ∙ length-flat (m.cells t.rows) (frame_no t) (length (frames t))

    entries-before : (j : ℕ) → before (entry_of t.rows) (frame_no t) j ≡ 4 * j
    unfolding entry_of
    entries-before j = sum-fours _ j (λ k l. refl)

    length-entries : length (flat_map (entry_of t.rows) (frames t)) ≡ 4 * length (frames t)
    length-entries =
        ap (λ l. length (flat_map (entry_of t.rows) l)) (frames-tab t) ∙ length-flat (entry_of t.rows) (frame_no t) (length (frames t)) ∙ entries-before (length (frames t))

    length-numbers_of : length (numbers_of t) ≡ 3 + (4 * length (frames t) + sum cells_of (length (frames t)))
    unfolding numbers_of
    length-numbers_of =
        omega (arith, length-append (flat_map (entry_of t.rows) (frames t)) (flat_map (m.cells t.rows) (frames t)), length-entries, length-cells)

    pub length-saved : length bytes ≡ 12 + 16 * length (frames t) + 4 * sum cells_of (length (frames t))
    length-saved = ap length (saved-is t) ∙ omega (arith, length-numbers (numbers_of t), length-numbers_of)

    -- READING

    read : (i at : ℕ) → i < length (numbers_of t) → at ≡ 4 * i → number_at bytes at ≡ get_or (numbers_of t) i 0
    read i at l e = ap (λ k. number_at bytes k) e ∙ ap (λ l. number_at l (4 * i)) (saved-is t) ∙ number_read (numbers_of t) i l

    pub read_count : number_at bytes 0 ≡ length (frames t)
    unfolding numbers_of
    read_count = read 0 0 (omega (arith, length-numbers_of)) refl

    pub read-next-doc : number_at bytes 4 ≡ t.next_doc
    unfolding numbers_of
    read-next-doc = read 1 4 (omega (arith, length-numbers_of)) refl

    pub read-next-frame : number_at bytes 8 ≡ t.next_frame
    unfolding numbers_of
    read-next-frame = read 2 8 (omega (arith, length-numbers_of)) refl

    module _ (j : ℕ) (l : j < length (frames t)) where
      entry_at : (c : ℕ) → c < 4 → get_or (numbers_of t) (3 + (4 * j + c)) 0 ≡ get_or (entry_of t.rows (frame_no t j)) c 0
      unfolding numbers_of entry_of
      entry_at c k =
          get_or-append-add (length (frames t) ∷ t.next_doc ∷ t.next_frame ∷ []) (flat_map (entry_of t.rows) (frames t) ++ flat_map (m.cells t.rows) (frames t)) (4 * j + c) 0
          ∙ get_or-append (flat_map (entry_of t.rows) (frames t)) _ 0 (4 * j + c) (omega (arith, length-entries))
          ∙ ap₂ (λ l k. get_or (flat_map (entry_of t.rows) l) (k + c) 0) (frames-tab t) (sym (entries-before j))
          ∙ flat-at (entry_of t.rows) (frame_no t) (length (frames t)) 0 {j = j} {k = c} l k

      read-entry : (c at : ℕ) → c < 4 → at ≡ 12 + 16 * j + 4 * c → number_at bytes at ≡ get_or (entry_of t.rows (frame_no t j)) c 0
      read-entry c at k e = read (3 + (4 * j + c)) at (omega (arith, length-numbers_of)) (omega arith) ∙ entry_at c k

      pub read_number : number_at bytes (12 + 16 * j) ≡ frame_no t j
      unfolding entry_of
      read_number = read-entry 0 (12 + 16 * j) (omega arith) (omega arith)

      pub read-parent : number_at bytes (16 + 16 * j) ≡ parent_of t.rows (frame_no t j)
      unfolding entry_of
      read-parent = read-entry 1 (16 + 16 * j) (omega arith) (omega arith)

      pub read-documents : number_at bytes (20 + 16 * j) ≡ documents t j
      unfolding entry_of
      read-documents = read-entry 2 (20 + 16 * j) (omega arith) (omega arith)

      pub read-shown : number_at bytes (24 + 16 * j) ≡ shown_place t.rows (frame_no t j)
      unfolding entry_of
      read-shown = read-entry 3 (24 + 16 * j) (omega arith) (omega arith)

      pub read-body : (k at : ℕ) → k < cells_of j → at ≡ 12 + 16 * length (frames t) + 4 * (sum cells_of j + k) → number_at bytes at ≡ get_or (m.cells t.rows (frame_no t j)) k 0
      unfolding numbers_of
      read-body k at n e =
          let all = flat_map (entry_of t.rows) (frames t) in
          let w : sum cells_of j + cells_of j ≤ sum cells_of (length (frames t)) = sum-within cells_of (length (frames t)) l in
          read (3 + (4 * length (frames t) + (sum cells_of j + k))) at (omega (arith, length-numbers_of)) (omega arith)
          ∙ get_or-append-add (length (frames t) ∷ t.next_doc ∷ t.next_frame ∷ []) (all ++ flat_map (m.cells t.rows) (frames t)) (4 * length (frames t) + (sum cells_of j + k)) 0
          ∙ ap (λ n. get_or (all ++ flat_map (m.cells t.rows) (frames t)) (n + (sum cells_of j + k)) 0) (sym length-entries)
          ∙ get_or-append-add all (flat_map (m.cells t.rows) (frames t)) (sum cells_of j + k) 0
          ∙ ap (λ l. get_or (flat_map (m.cells t.rows) l) (sum cells_of j + k) 0) (frames-tab t)
          ∙ flat-at (m.cells t.rows) (frame_no t) (length (frames t)) 0 {j = j} {k = k} l n

-- ENTRIES WITH ROW PLACES

module _ (t : Table) where
  pub cells-twice : (j : ℕ) → sum (cells_of new_form t) j ≡ 2 * sum (documents t) j
  unfolding sum
  cells-twice zero = refl
  cells-twice (suc j) = omega (arith, cells-twice j, length-pairs_of t.rows (frame_no t j))

  -- Number c of entry k of frame j: the document, the row place.
  pub read-pair : (j : ℕ) (l : j < length (frames t)) (k c at : ℕ) → k < documents t j → c < 2 → at ≡ 12 + 16 * length (frames t) + 8 * (sum (documents t) j + k) + 4 * c →
      number_at (saved_with body t) at ≡ get_or (pair t.rows (get_or (rising (in_frame t.rows (frame_no t j)) (length t.rows)) k 0)) c 0
  read-pair j l k c at m n e =
      read-body new_form t j l (2 * k + c) at (omega (arith, length-pairs_of t.rows (frame_no t j))) (omega (arith, cells-twice j)) ∙ pairs-at t.rows (frame_no t j) k c m n
