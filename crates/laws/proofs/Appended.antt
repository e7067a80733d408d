-- The words of a table with one row more. Assumes nothing.
use Prim.Native.Nat.{ℕ, suc, ◌+◌, ◌-◌, ◌*◌, ◌<◌}
use mathlib.Core.List.{List, [], ◌∷◌, ◌++◌, flat_map, append_assoc, append-nil}
use mathlib.Core.Path.{◌≡◌, refl, sym, ap, ◌∙◌}
use native.Mathlib.Omega.{arith}
use lib.ListN.{length, replicate, length-append}
use Rattle.rules.specs.Rows.{Row, Table}
use Rattle.rules.specs.Words.{put, capacity, words_of_row, words_of, written}
use Rattle.laws.proofs.Writes.{put-inside}
use Rattle.laws.proofs.Words.{length-words}
use Rattle.laws.proofs.Pieces.{flat_append}

-- Four zeros of many.
four-zeros : (n : ℕ) → replicate {A = ℕ} (4 * suc n) 0 ≡ (0 ∷ 0 ∷ 0 ∷ 0 ∷ []) ++ replicate (4 * n) 0
four-zeros n =
    let e : 4 * suc n ≡ suc (suc (suc (suc (4 * n)))) = omega arith in
    ap (λ k. replicate {A = ℕ} k 0) e

-- The head and the rest.
pub words_of-shape : (c : ℕ) (t : Table) → words_of c t ≡ (length t.rows ∷ t.next_doc ∷ t.next_frame ∷ []) ++ (flat_map words_of_row t.rows ++ replicate (4 * (c - length t.rows)) 0)
unfolding words_of
words_of-shape c t = refl

pub words_snoc : (rows : List Row) (r : Row) → flat_map words_of_row (rows ++ r ∷ []) ≡ flat_map words_of_row rows ++ words_of_row r
unfolding flat_map
words_snoc rows r = flat_append words_of_row rows (r ∷ []) ∙ ap (λ l. flat_map words_of_row rows ++ l) (append-nil (words_of_row r))

-- A row written after the last and a new head are the table with that row.
pub written-more : (words : List ℕ) (t : Table) (r : Row) (next_doc next_frame : ℕ) → length t.rows < capacity words →
    put (put (written words t) (3 + 4 * length t.rows) (words_of_row r)) 0 ((length t.rows + 1) ∷ next_doc ∷ next_frame ∷ [])
    ≡ written words (record { rows = t.rows ++ r ∷ []; next_doc = next_doc; next_frame = next_frame })
unfolding written
written-more words t r next_doc next_frame room =
    let c = capacity words in
    let n = length t.rows in
    let rows = flat_map words_of_row t.rows in
    let head : List ℕ = n ∷ t.next_doc ∷ t.next_frame ∷ [] in
    let head' : List ℕ = (n + 1) ∷ next_doc ∷ next_frame ∷ [] in
    let rest : List ℕ = replicate (4 * (c - (n + 1))) 0 in
    let m : 4 * (c - n) ≡ 4 * suc (c - (n + 1)) = omega arith in
    let k : 3 + 4 * n ≡ 0 + length (head ++ rows) = let h = length-words t.rows in omega arith in
    let a : words_of c t ≡ (head ++ rows) ++ ((0 ∷ 0 ∷ 0 ∷ 0 ∷ []) ++ rest) =
    words_of-shape c t ∙ ap (λ l. head ++ (rows ++ l)) (ap (λ j. replicate {A = ℕ} j 0) m ∙ four-zeros (c - (n + 1))) in
    let b : words_of c (record { rows = t.rows ++ r ∷ []; next_doc = next_doc; next_frame = next_frame }) ≡ head' ++ (rows ++ (words_of_row r ++ rest)) =
    words_of-shape c (record { rows = t.rows ++ r ∷ []; next_doc = next_doc; next_frame = next_frame }) ∙ rw (length-append t.rows (r ∷ []), words_snoc, append_assoc rows (words_of_row r)) refl in
    ap (λ l. put (put (put words 0 l) (3 + 4 * n) (words_of_row r)) 0 head') a
    ∙ rw k (ap (λ l. put l 0 head') (put-inside (head ++ rows) (0 ∷ 0 ∷ 0 ∷ 0 ∷ []) (words_of_row r) rest words 0 refl))
    ∙ put-inside [] head head' (rows ++ (words_of_row r ++ rest)) words 0 refl
    ∙ ap (put words 0) (sym b)
