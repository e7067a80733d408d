-- Rows put over the first ones of a record: what stands where. Assumes nothing.
use Prim.Native.Nat.{ℕ, zero, suc, ◌+◌, ◌*◌, ◌/◌, ◌%◌, ◌≤◌, ◌<◌}
use mathlib.Core.List.{List, [], ◌∷◌, ◌++◌, flat_map}
use mathlib.Core.Path.{◌≡◌, sym, ap, ap₂, subst, ◌∙◌}
use native.Mathlib.Nat.{not-suc-le-zero}
use native.Mathlib.Numerals.{add-one}
use native.Mathlib.Omega.{arith}
use lib.ListN.{length, get_or, set, length-set}
use lib.Dec.{eqb}
use lib.Seq.{ext_get_or, get_or-set_same, get_or-set_other, set-set, set-append_left}
use borrow.Author.Tests.{eqb-true, eqb-false}
use Rattle.rules.specs.Rows.{Row, no_row, row_at}
use Rattle.rules.specs.Words.{put, capacity, capacity_of, row_in, rows_of, words_of_row}
use Rattle.laws.proofs.Tests.{test}
use Rattle.laws.proofs.Append.{length-snoc}
use Rattle.laws.proofs.Words.{rows-length, rows_row, length-words, word_at, row_in-words}
use Rattle.laws.proofs.Appended.{words_snoc}
use Rattle.laws.proofs.Writes.{length-put, put_one, put-put, put_same, get-put-in, get-put-past, get-put-before, put-before}
use Rattle.packs.specs.Packing.{Over}

-- One value of a run written anew.
set-in-put : (vs l : List ℕ) (i j v : ℕ) → j < length vs → set (put l i vs) (i + j) v ≡ put l i (set vs j v)
unfolding put
set-in-put [] l i j v h = absurd (not-suc-le-zero h)
set-in-put (w ∷ vs) l i zero v h =
    let e : i + 0 ≡ i = omega arith in
    rw e (put-before vs (set l i w) i v ∙ ap (λ t. put t (suc i) vs) (set-set l i w v))
set-in-put (w ∷ vs) l i (suc j) v h =
    let e : i + suc j ≡ suc i + j = omega arith in
    rw e (set-in-put vs (set l i w) (suc i) j v (omega arith))

-- One word of a row.
set-row : (rs : List Row) (q c v : ℕ) (r : Row) → q < length rs → c < 4 → words_of_row r ≡ set (words_of_row (row_at rs q)) c v →
    set (flat_map words_of_row rs) (4 * q + c) v ≡ flat_map words_of_row (set rs q r)
unfolding flat_map
set-row [] q c v r l b e = absurd (not-suc-le-zero l)
set-row (x ∷ rs) zero c v r l b e =
    let z : 4 * zero + c ≡ c = omega arith in
    rw z (set-append_left (words_of_row x) (flat_map words_of_row rs) c v b ∙ ap (λ t. t ++ flat_map words_of_row rs) (sym e))
set-row (x ∷ rs) (suc q) c v r l b e =
    let z : 4 * suc q + c ≡ suc (suc (suc (suc (4 * q + c)))) = omega arith in
    rw z (ap (λ t. words_of_row x ++ t) (set-row rs q c v r (omega arith) b e))

-- A row written anew, where that is all in which two lists of rows differ.
pub set-only : (rs to : List Row) (q : ℕ) (r : Row) → q < length rs → length to ≡ length rs → row_at to q ≡ r →
    ((i : ℕ) → i < length rs → (i ≡ q → ⊥) → row_at to i ≡ row_at rs i) → set rs q r ≡ to
set-only rs to q r l n here rest =
    ext_get_or no_row _ _ (length-set rs q r ∙ sym n) (λ i h.
    let b : i < length rs = subst (λ m. i < m) (length-set rs q r) h in
    test (eqb i q)
    (λ t. let z : i ≡ q = eqb-true i q t in ap (row_at (set rs q r)) z ∙ get_or-set_same rs q r no_row l ∙ sym here ∙ ap (row_at to) (sym z))
    (λ f. get_or-set_other rs q i r no_row (eqb-false i q f) ∙ sym (rest i b (eqb-false i q f))))

module _ (rs : List Row) (old : List ℕ) (k : ℕ) (new : List ℕ) (o : Over rs old k new) where
  -- Their words.
  abbrev ws : List ℕ
  ws = flat_map words_of_row rs

  words-length : length ws ≡ 4 * k
  words-length = length-words rs ∙ ap (λ x. 4 * x) (sym o.count-is)

  -- There are as many words as before.
  pub over-size : length new ≡ length old
  over-size = ap length o.words_are ∙ length-put old 3 ws

  -- There is as much room.
  pub over-capacity : capacity new ≡ capacity old
  over-capacity = ap capacity_of over-size

  -- As many rows are in use.
  pub over-length : length (rows_of new) ≡ length (rows_of old)
  over-length = rows-length new ∙ ap (λ w. get_or w 0 0) o.words_are ∙ get-put-before ws old 3 0 (omega arith) ∙ sym (rows-length old)

  -- They lie within the words.
  pub over-fits : length (rows_of old) ≤ capacity old → length (rows_of new) ≤ capacity new
  over-fits fits = omega (arith, over-length, over-capacity)

  -- A row put.
  pub over-row : length (rows_of old) ≤ capacity old → k ≤ length (rows_of old) → (j : ℕ) → j < k → row_at (rows_of new) j ≡ row_at rs j
  over-row fits few j l =
      let at : (c m : ℕ) → c < 4 → m ≡ 3 + (4 * j + c) → get_or new m 0 ≡ get_or (words_of_row (row_at rs j)) c 0 =
      λ c m b e. ap₂ (λ w m. get_or w m 0) o.words_are e ∙ get-put-in old ws 3 (4 * j + c) (omega (arith, words-length)) (omega (arith, words-length)) ∙ word_at rs j c (omega (arith, o.count-is)) b in
      rows_row new j (omega (arith, over-length, rows-length new))
      ∙ rw (at 0 (3 + 4 * j) (omega arith) (omega arith), at 1 (4 + 4 * j) (omega arith) (omega arith), at 2 (5 + 4 * j) (omega arith) (omega arith), at 3 (6 + 4 * j) (omega arith) (omega arith))

  -- A row past them is as it was.
  pub over-rest : (j : ℕ) → k ≤ j → j < length (rows_of old) → row_at (rows_of new) j ≡ row_at (rows_of old) j
  over-rest j l m =
      let at : (c : ℕ) → 3 + 4 * j ≤ c → get_or new c 0 ≡ get_or old c 0 = λ c b. ap (λ w. get_or w c 0) o.words_are ∙ get-put-past ws old 3 c (omega (arith, words-length)) in
      let same : row_in new j ≡ row_in old j = rw (at (3 + 4 * j) (omega arith), at (4 + 4 * j) (omega arith), at (5 + 4 * j) (omega arith), at (6 + 4 * j) (omega arith)) in
      rows_row new j (omega (arith, over-length, rows-length new)) ∙ same ∙ sym (rows_row old j (omega (arith, rows-length old)))

  -- One row more.
  pub over-more : (r : Row) (next : List ℕ) → next ≡ put new (3 + 4 * k) (words_of_row r) → Over (rs ++ r ∷ []) old (k + 1) next
  over-more r next e =
      let at : 3 + 4 * k ≡ 3 + length ws = omega (arith, words-length) in
      record {
        count-is = add-one k ∙ ap suc o.count-is ∙ sym (length-snoc rs r);
        words_are = e ∙ ap₂ (λ w m. put w m (words_of_row r)) o.words_are at ∙ put-put ws (words_of_row r) old 3 ∙ ap (put old 3) (sym (words_snoc rs r));
      }

  -- One word of one of them written anew: row q is r then.
  pub over-set : (q c v : ℕ) (r : Row) → q < k → c < 4 → words_of_row r ≡ set (words_of_row (row_at rs q)) c v → Over (set rs q r) old k (put new (3 + (4 * q + c)) (v ∷ []))
  over-set q c v r l b e =
      record {
        count-is = o.count-is ∙ sym (length-set rs q r);
        words_are = sym (put_one new (3 + (4 * q + c)) v) ∙ ap (λ w. set w (3 + (4 * q + c)) v) o.words_are ∙ set-in-put ws old 3 (4 * q + c) v (omega (arith, words-length))
            ∙ ap (put old 3) (set-row rs q c v r (omega (arith, o.count-is)) b e);
      }

-- The first rows put where they are.
pub over-same : (rs : List Row) (old : List ℕ) (k : ℕ) → k ≡ length rs → k ≤ length (rows_of old) → ((j : ℕ) → j < k → row_at rs j ≡ row_at (rows_of old) j) → Over rs old k old
over-same rs old k all few h =
    record {
      count-is = all;
      words_are = sym (put_same (flat_map words_of_row rs) old 3 (λ m l.
          let n = length-words rs in
          let j = m / 4 in
          let c = m % 4 in
          let e : m ≡ 4 * j + c = omega arith in
          let i : j < length rs = omega arith in
          let b : c < 4 = omega arith in
          subst (λ m. get_or (flat_map words_of_row rs) m 0 ≡ get_or old (3 + m) 0) (sym e)
          (word_at rs j c i b ∙ ap (λ r. get_or (words_of_row r) c 0) (h j (omega arith) ∙ rows_row old j (omega (arith, rows-length old))) ∙ row_in-words old j c b)));
    }
