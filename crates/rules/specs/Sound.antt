-- "A record is sound when all hold": each rule as a proposition in document 01's words (S2: 02's, L7; S5 and S7: 02's, L10) and as a test that computes (marked `?`).
use Rattle.std.specs.Prelude.{ℕ, ◌+◌, ◌*◌, ◌≤◌, ◌<◌, Bool, not, ◌&&◌, ◌||◌, List, ◌⊎◌, ◌≡◌, eqb, leb, ltb, length, get_or}
use Rattle.std.proofs.Math.Bool.{So}
use Rattle.rules.specs.Below.{some_below, all_below, count}
use Rattle.rules.specs.Rows.{Row, Table, none, doc_at, frame_at, parent_at, shown_at, is_shown, is_doc}
use Rattle.rules.specs.Steps.{same, is_step, upcoming}
use Rattle.rules.specs.Windows.{root_at}
use Rattle.rules.specs.Words.{capacity, table_of}

-- "S1. 1 ≤ n ≤ C."
pub record S1 (room : ℕ) (rows : List Row) : Type 0 where
  pub some : 1 ≤ length rows
  pub fits : length rows ≤ room

abbrev pub s1? : ℕ → List Row → Bool
s1? room rows = leb 1 (length rows) && leb (length rows) room

-- "S2 therefore changes: numbers are distinct and all below word 1, no longer rising." (document 02, L7)
pub record S2 (rows : List Row) (next_doc : ℕ) : Type 0 where
  pub distinct : (i j : ℕ) → i < length rows → j < length rows → doc_at rows i ≡ doc_at rows j → i ≡ j
  pub below : (i : ℕ) → i < length rows → doc_at rows i < next_doc

-- Row i is the first with its document, and this is below the next number.
abbrev pub new? : List Row → ℕ → ℕ → Bool
new? rows next_doc i = not (some_below i (is_doc rows (doc_at rows i))) && ltb (doc_at rows i) next_doc

abbrev pub s2? : List Row → ℕ → Bool
s2? rows next_doc = all_below (length rows) (new? rows next_doc)

-- "S3. Every frame number is below word 2."
pub record S3 (rows : List Row) (next_frame : ℕ) : Type 0 where
  pub below : (i : ℕ) → i < length rows → frame_at rows i < next_frame

abbrev pub s3? : List Row → ℕ → Bool
s3? rows next_frame = all_below (length rows) (λ i. ltb (frame_at rows i) next_frame)

-- "S4. A parent is none or the document of an earlier row."
pub record S4 (rows : List Row) : Type 0 where
  pub placed : (i : ℕ) → i < length rows → (parent_at rows i ≡ none) ⊎ ((j : ℕ) × (j < i) × (doc_at rows j ≡ parent_at rows i))

abbrev pub s4? : List Row → Bool
s4? rows = all_below (length rows) (λ i. eqb (parent_at rows i) none || some_below i (is_doc rows (parent_at rows i)))

-- "S5. Rows of one frame have one parent." It "now allows several root frames": document 01's second sentence is gone (document 02, L10).
pub record S5 (rows : List Row) : Type 0 where
  pub kin : (i j : ℕ) → i < length rows → j < length rows → frame_at rows i ≡ frame_at rows j → parent_at rows i ≡ parent_at rows j

abbrev pub kin? : List Row → ℕ → ℕ → Bool
kin? rows i j = not (eqb (frame_at rows i) (frame_at rows j)) || eqb (parent_at rows i) (parent_at rows j)

abbrev pub s5? : List Row → Bool
s5? rows = all_below (length rows) (λ i. all_below (length rows) (kin? rows i))

-- "S6. Shown is 0 or 1, and each frame has exactly one shown row."
pub record S6 (rows : List Row) : Type 0 where
  pub bit : (i : ℕ) → i < length rows → shown_at rows i ≤ 1
  pub one : (i : ℕ) → i < length rows → count (λ k. same (frame_at rows) i k && is_shown rows k) (length rows) ≡ 1

abbrev pub s6? : List Row → Bool
s6? rows =
    all_below (length rows) (λ i. leb (shown_at rows i) 1 && eqb (count (λ k. same (frame_at rows) i k && is_shown rows k) (length rows)) 1)

-- "S7. Every upcoming step is later than every shown document that is a step (001, definition 5)", and this "per window" (document 02, L10).
pub record S7 (rows : List Row) : Type 0 where
  pub later : (i j : ℕ) → i < length rows → j < length rows → root_at rows i ≡ root_at rows j → So (upcoming rows i) → So (is_step rows j) → So (is_shown rows j) → j < i

abbrev pub s7? : List Row → Bool
s7? rows =
    all_below (length rows) (λ i. all_below (length rows) (λ j.
    not (upcoming rows i && (is_step rows j && (is_shown rows j && eqb (root_at rows i) (root_at rows j)))) || ltb j i))

-- "S8. The words of rows n to C - 1 are zero."
pub record S8 (words : List ℕ) : Type 0 where
  pub zeros : (k : ℕ) → 3 + 4 * get_or words 0 0 ≤ k → k < 3 + 4 * capacity words → get_or words k 0 ≡ 0

-- Word k comes before the rows not in use, or is zero.
abbrev pub zero? : List ℕ → ℕ → Bool
zero? words k = ltb k (3 + 4 * get_or words 0 0) || eqb (get_or words k 0) 0

abbrev pub s8? : List ℕ → Bool
s8? words = all_below (3 + 4 * capacity words) (zero? words)

-- All but S8, of a table with room for so many rows.
pub record SoundTable (room : ℕ) (t : Table) : Type 0 where
  pub s1 : S1 room t.rows
  pub s2 : S2 t.rows t.next_doc
  pub s3 : S3 t.rows t.next_frame
  pub s4 : S4 t.rows
  pub s5 : S5 t.rows
  pub s6 : S6 t.rows
  pub s7 : S7 t.rows

unfoldable pub sound_table? : ℕ → Table → Bool
sound_table? room t =
    s1? room t.rows && (s2? t.rows t.next_doc && (s3? t.rows t.next_frame && (s4? t.rows && (s5? t.rows && (s6? t.rows && s7? t.rows)))))

pub record Sound (words : List ℕ) : Type 0 where
  pub table : SoundTable (capacity words) (table_of words)
  pub s8 : S8 words

unfoldable pub sound? : List ℕ → Bool
sound? words = sound_table? (capacity words) (table_of words) && s8? words
