-- The words of a table, there and back. Assumes nothing.
use Prim.Native.Nat.{ℕ, zero, suc, ◌+◌, ◌-◌, ◌*◌, ◌/◌, ◌%◌, ◌≤◌, ◌<◌}
use mathlib.Core.List.{List, [], ◌∷◌, ◌++◌, flat_map}
use mathlib.Core.Path.{◌≡◌, refl, sym, ap, subst, ◌∙◌}
use native.Mathlib.Nat.{not-suc-le-zero}
use native.Mathlib.Omega.{arith}
use lib.ListN.{length, get_or, drop, replicate, length-append, length-replicate, get_or-replicate, get_or-append}
use lib.Seq.{get_or-append-add, sets-eq}
use borrow.Author.Rules.{rules}
use Rattle.rules.specs.Below.{tab}
use Rattle.rules.specs.Rows.{Row, Table, no_row, row_at, doc_at, frame_at, parent_at, shown_at}
use Rattle.rules.specs.Words.{put, capacity, row_in, table_of, rows_of, words_of_row, words_of, written}
use Rattle.rules.specs.Sound.{S8, SoundTable, Sound}
use Rattle.laws.proofs.Tests.{by-lt, length-tab, tab-at, tab-is}
use Rattle.laws.proofs.Writes.{length-put, put-over, put_same}

module _ (words : List ℕ) where
  pub rows-length : length (rows_of words) ≡ get_or words 0 0
  unfolding table_of
  rows-length = length-tab (row_in words) (get_or words 0 0)

  pub rows_row : (i : ℕ) → i < get_or words 0 0 → row_at (rows_of words) i ≡ row_in words i
  unfolding table_of
  rows_row i l = tab-at (row_in words) (get_or words 0 0) no_row l

-- What a reader of the words reads.
module _ (words : List ℕ) where
  pub count-in-words : (n : ℕ) → n ≡ get_or words 0 0 → n ≡ length (rows_of words)
  count-in-words n e = e ∙ sym (rows-length words)

  pub next-doc-in : get_or words 1 0 ≡ (table_of words).next_doc
  unfolding table_of
  next-doc-in = refl

  pub next-frame-in : get_or words 2 0 ≡ (table_of words).next_frame
  unfolding table_of
  next-frame-in = refl

  row-in : (i : ℕ) → i < length (rows_of words) → row_in words i ≡ row_at (rows_of words) i
  row-in i l = sym (rows_row words i (omega (arith, rows-length words)))

  pub doc-in : (i : ℕ) → i < length (rows_of words) → get_or words (3 + 4 * i) 0 ≡ doc_at (rows_of words) i
  doc-in i l = ap (λ r. r.doc) (row-in i l)

  pub frame-in : (i : ℕ) → i < length (rows_of words) → get_or words (4 + 4 * i) 0 ≡ frame_at (rows_of words) i
  frame-in i l = ap (λ r. r.frame) (row-in i l)

  pub parent_in : (i : ℕ) → i < length (rows_of words) → get_or words (5 + 4 * i) 0 ≡ parent_at (rows_of words) i
  parent_in i l = ap (λ r. r.parent) (row-in i l)

  pub shown-in : (i : ℕ) → i < length (rows_of words) → get_or words (6 + 4 * i) 0 ≡ shown_at (rows_of words) i
  shown-in i l = ap (λ r. r.shown) (row-in i l)

pub ruleset reading = (rules, count-in-words, next-doc-in, next-frame-in, doc-in, frame-in, parent_in, shown-in)

pub length-words : (rows : List Row) → length (flat_map words_of_row rows) ≡ 4 * length rows
unfolding flat_map
length-words [] = refl
length-words (r ∷ rows) = let h = length-words rows in omega arith

-- Word 4 i + c of the rows' words is word c of row i.
pub word_at : (rows : List Row) (i c : ℕ) → i < length rows → c < 4 → get_or (flat_map words_of_row rows) (4 * i + c) 0 ≡ get_or (words_of_row (row_at rows i)) c 0
unfolding flat_map
word_at [] i c l m = absurd (not-suc-le-zero l)
word_at (r ∷ rows) zero c l m =
    let e : 4 * 0 + c ≡ c = omega arith in
    rw e (get_or-append (words_of_row r) (flat_map words_of_row rows) 0 c (omega arith))
word_at (r ∷ rows) (suc i) c l m =
    let e : 4 * suc i + c ≡ length (words_of_row r) + (4 * i + c) = omega arith in
    rw e (get_or-append-add (words_of_row r) (flat_map words_of_row rows) (4 * i + c) 0 ∙ word_at rows i c (omega arith) m)

words_of-head : (c : ℕ) (t : Table) (k : ℕ) → k < 3 → get_or (words_of c t) k 0 ≡ get_or (length t.rows ∷ t.next_doc ∷ t.next_frame ∷ []) k 0
unfolding words_of
words_of-head c t zero l = refl
words_of-head c t (suc zero) l = refl
words_of-head c t (suc (suc zero)) l = refl
words_of-head c t (suc (suc (suc k))) l = absurd (omega arith)

module _ (c : ℕ) (t : Table) (fits : length t.rows ≤ c) where
  pub length-words_of : length (words_of c t) ≡ 3 + 4 * c
  unfolding words_of
  length-words_of = rw (length-append, length-words, length-replicate) (omega arith)

  -- The words of row i, and those past the rows.
  pub words_of-row : (i k : ℕ) → i < length t.rows → k < 4 → get_or (words_of c t) (3 + (4 * i + k)) 0 ≡ get_or (words_of_row (row_at t.rows i)) k 0
  unfolding words_of
  words_of-row i k l m =
      get_or-append-add (length t.rows ∷ t.next_doc ∷ t.next_frame ∷ []) (flat_map words_of_row t.rows ++ replicate (4 * (c - length t.rows)) 0) (4 * i + k) 0
      ∙ get_or-append (flat_map words_of_row t.rows) _ 0 (4 * i + k) (omega (arith, length-words t.rows)) ∙ word_at t.rows i k l m

  pub words_of-past : (k : ℕ) → 3 + 4 * length t.rows ≤ k → k < 3 + 4 * c → get_or (words_of c t) k 0 ≡ 0
  unfolding words_of
  words_of-past k l m =
      let z : List ℕ = replicate (4 * (c - length t.rows)) 0 in
      let ws = flat_map words_of_row t.rows in
      let n = length-words t.rows in
      let e : k ≡ 3 + (length ws + (k - (3 + 4 * length t.rows))) = omega arith in
      ap (λ j. get_or (words_of c t) j 0) e
      ∙ get_or-append-add (length t.rows ∷ t.next_doc ∷ t.next_frame ∷ []) (ws ++ z) (length ws + (k - (3 + 4 * length t.rows))) 0
      ∙ get_or-append-add ws z (k - (3 + 4 * length t.rows)) 0
      ∙ get_or-replicate (4 * (c - length t.rows)) (k - (3 + 4 * length t.rows)) 0 0 (omega arith)

pub length-written : (words : List ℕ) (t : Table) → length (written words t) ≡ length words
unfolding written
length-written words t = length-put words 0 (words_of (capacity words) t)

pub capacity-written : (words : List ℕ) (t : Table) → capacity (written words t) ≡ capacity words
capacity-written words t = rw length-written

-- THERE AND BACK

module _ (words : List ℕ) (t : Table) (long : 3 ≤ length words) (fits : length t.rows ≤ capacity words) where
  -- The table's words up to 3 + 4C, and then what was there.
  pub written_is : written words t ≡ words_of (capacity words) t ++ drop (3 + 4 * capacity words) words
  unfolding written put
  written_is =
      let n = length-words_of (capacity words) t fits in
      let e : 0 + length (words_of (capacity words) t) ≡ 3 + 4 * capacity words = omega arith in
      sets-eq (words_of (capacity words) t) words 0 (omega arith) ∙ ap (λ k. words_of (capacity words) t ++ drop k words) e

  written_at : (k : ℕ) → k < 3 + 4 * capacity words → get_or (written words t) k 0 ≡ get_or (words_of (capacity words) t) k 0
  written_at k l =
      let n = length-words_of (capacity words) t fits in
      ap (λ w. get_or w k 0) written_is ∙ get_or-append (words_of (capacity words) t) _ 0 k (omega arith)

  row_written : (i : ℕ) → i < length t.rows → row_in (written words t) i ≡ row_at t.rows i
  row_written i l =
      let at : (k j : ℕ) → k < 4 → j ≡ 3 + (4 * i + k) → get_or (written words t) j 0 ≡ get_or (words_of_row (row_at t.rows i)) k 0 =
      λ k j m e. ap (λ j. get_or (written words t) j 0) e ∙ written_at (3 + (4 * i + k)) (omega arith) ∙ words_of-row (capacity words) t fits i k l m in
      rw (at 0 (3 + 4 * i) (omega arith) (omega arith), at 1 (4 + 4 * i) (omega arith) (omega arith), at 2 (5 + 4 * i) (omega arith) (omega arith), at 3 (6 + 4 * i) (omega arith) (omega arith))

  head-written : (k : ℕ) → k < 3 → get_or (written words t) k 0 ≡ get_or (length t.rows ∷ t.next_doc ∷ t.next_frame ∷ []) k 0
  head-written k l = written_at k (omega arith) ∙ words_of-head (capacity words) t k l

  pub table-written : table_of (written words t) ≡ t
  unfolding table_of
  table-written =
      let e : tab (get_or (written words t) 0 0) (row_in (written words t)) ≡ t.rows =
      ap (λ n. tab n (row_in (written words t))) (head-written 0 (omega arith))
      ∙ sym (tab-is (row_in (written words t)) t.rows (length t.rows) no_row refl (λ i l. sym (row_written i l))) in
      rw (e, head-written 1 (omega arith), head-written 2 (omega arith)) refl

  pub written-S8 : S8 (written words t)
  written-S8 =
      record {
        zeros = λ k a b.
            let n : get_or (written words t) 0 0 ≡ length t.rows = head-written 0 (omega arith) in
            let c = capacity-written words t in
            written_at k (omega arith) ∙ words_of-past (capacity words) t fits k (omega arith) (omega arith);
      }

  -- What is written last counts.
  pub written-written : (u : Table) → length u.rows ≤ capacity words → written (written words t) u ≡ written words u
  unfolding written
  written-written u fits' =
      ap (λ c. put (written words t) 0 (words_of c u)) (capacity-written words t)
      ∙ put-over (words_of (capacity words) t) (words_of (capacity words) u) words 0 (length-words_of _ t fits ∙ sym (length-words_of _ u fits'))

pub written-sound : (words : List ℕ) (t : Table) → 3 ≤ length words → SoundTable (capacity words) t → Sound (written words t)
written-sound words t long s =
    record {
      table = subst (λ c. SoundTable c (table_of (written words t))) (sym (capacity-written words t)) (subst (SoundTable (capacity words)) (sym (table-written words t long s.s1.fits)) s);
      s8 = written-S8 words t long s.s1.fits;
    }

-- The words of a record are those of its table.
module _ (words : List ℕ) where
  head-words : (k : ℕ) → k < 3 → get_or (length (rows_of words) ∷ (table_of words).next_doc ∷ (table_of words).next_frame ∷ []) k 0 ≡ get_or words k 0
  unfolding table_of
  head-words zero l = rows-length words
  head-words (suc zero) l = refl
  head-words (suc (suc zero)) l = refl
  head-words (suc (suc (suc k))) l = absurd (omega arith)

  -- Word c of row i, read as a row's and as the words'.
  pub row_in-words : (i c : ℕ) → c < 4 → get_or (words_of_row (row_in words i)) c 0 ≡ get_or words (3 + (4 * i + c)) 0
  row_in-words i zero l = ap (λ j. get_or words j 0) (omega arith)
  row_in-words i (suc zero) l = ap (λ j. get_or words j 0) (omega arith)
  row_in-words i (suc (suc zero)) l = ap (λ j. get_or words j 0) (omega arith)
  row_in-words i (suc (suc (suc zero))) l = ap (λ j. get_or words j 0) (omega arith)
  row_in-words i (suc (suc (suc (suc c)))) l = absurd (omega arith)

  row_words : length (rows_of words) ≤ capacity words → (k : ℕ) → 3 ≤ k → k < 3 + 4 * length (rows_of words) →
      get_or (words_of (capacity words) (table_of words)) k 0 ≡ get_or words k 0
  row_words fits k a b =
      let i = (k - 3) / 4 in
      let c = (k - 3) % 4 in
      let e : k ≡ 3 + (4 * i + c) = omega arith in
      let l : i < length (rows_of words) = omega arith in
      let n = rows-length words in
      let m : c < 4 = omega arith in
      subst (λ k. get_or (words_of (capacity words) (table_of words)) k 0 ≡ get_or words k 0) (sym e)
      (words_of-row (capacity words) (table_of words) fits i c l m ∙ ap (λ r. get_or (words_of_row r) c 0) (rows_row words i (omega arith)) ∙ row_in-words i c m)

  pub written-table : Sound words → written words (table_of words) ≡ words
  unfolding written
  written-table s =
      let c = capacity words in
      let t = table_of words in
      let fits = s.table.s1.fits in
      let n = rows-length words in
      put_same (words_of c t) words 0 (λ k l.
      let m = length-words_of c t fits in
      let o : k ≡ 0 + k = omega arith in
      by-lt k 3
      (λ a. words_of-head c t k a ∙ head-words k a)
      (λ a. by-lt k (3 + 4 * length t.rows) (row_words fits k a) (λ b. words_of-past c t fits k b (omega arith) ∙ sym (s.s8.zeros k (omega arith) (omega arith))))
      ∙ ap (λ j. get_or words j 0) o)
