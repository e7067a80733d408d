-- The saved form as document 01 had it. "The old form has its own loading call, which accepts exactly what it accepted." (document 02, L7)
use Rattle.std.specs.Prelude.{ℕ, suc, ◌-◌, ◌<◌, Bool, not, ◌&&◌, ◌||◌, ◌≡◌, eqb, ltb, length}
use mathlib.Core.List.{List, flat_map}
use Rattle.rules.specs.Below.{gather, all_below}
use Rattle.rules.specs.Rows.{Row, Table, none, row_at, doc_at, frame_at, parent_at, in_record, place}
use Rattle.rules.specs.Sound.{SoundTable, sound_table?}
use Rattle.rules.specs.Saved.{number, docs_of, saved_with, number_at, told_rows, same_list}

-- "the m document numbers, rising"
unfoldable pub old_body : List Row → ℕ → List ℕ
old_body rows f = flat_map number (docs_of rows f)

abbrev pub old_saved : Table → List ℕ
old_saved t = saved_with old_body t

-- The table that such bytes tell: its rows by rising document number, since they hold no row places.
unfoldable pub old_loaded : List ℕ → Table
old_loaded bytes =
    record {
      rows = gather (in_record (told_rows 4 bytes)) (λ d. row_at (told_rows 4 bytes) (place (told_rows 4 bytes) d)) (number_at bytes 4);
      next_doc = number_at bytes 4;
      next_frame = number_at bytes 8;
    }

-- S2 as document 01 had it: "Document numbers rise strictly by row; the last is below word 1."
pub record S2rising (rows : List Row) (next_doc : ℕ) : Type 0 where
  pub rise : (i : ℕ) → suc i < length rows → doc_at rows i < doc_at rows (suc i)
  pub last : doc_at rows (length rows - 1) < next_doc

abbrev pub s2rising? : List Row → ℕ → Bool
s2rising? rows next_doc = all_below (length rows - 1) (λ i. ltb (doc_at rows i) (doc_at rows (suc i))) && ltb (doc_at rows (length rows - 1)) next_doc

-- S5's second sentence as document 01 had it: "All rows without a parent are one frame (the root frame)."
pub record S5alone (rows : List Row) : Type 0 where
  pub root : (i j : ℕ) → i < length rows → j < length rows → parent_at rows i ≡ none → parent_at rows j ≡ none → frame_at rows i ≡ frame_at rows j

abbrev pub root? : List Row → ℕ → ℕ → Bool
root? rows i j = not (eqb (parent_at rows i) none && eqb (parent_at rows j) none) || eqb (frame_at rows i) (frame_at rows j)

abbrev pub s5alone? : List Row → Bool
s5alone? rows = all_below (length rows) (λ i. all_below (length rows) (root? rows i))

-- A table that was sound then: "new-form loading follows the wider S5, old-form loading the narrow one" (document 02, L10). With one root frame S7 is that of all rows.
pub record OldTable (room : ℕ) (t : Table) : Type 0 where
  pub sound : SoundTable room t
  pub order : S2rising t.rows t.next_doc
  pub alone : S5alone t.rows

unfoldable pub old_table? : ℕ → Table → Bool
old_table? room t = sound_table? room t && (s2rising? t.rows t.next_doc && s5alone? t.rows)

-- "bytes that Save would write for some sound record of at most 512 rows", as both were then
unfoldable pub from_old_save? : List ℕ → Bool
from_old_save? bytes = old_table? 512 (old_loaded bytes) && same_list (old_saved (old_loaded bytes)) bytes
