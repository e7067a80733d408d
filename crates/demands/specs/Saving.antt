-- Demand 2, its end: "Saving and loading undo each other, and loading accepts only bytes that saving writes."
use Rattle.std.specs.Prelude.{ℕ, ◌≤◌, List, [], ◌∷◌, ◌↔◌, ◌≡◌, length}
use Rattle.rules.specs.Words.{put, capacity, table_of, rows_of}
use Rattle.rules.specs.Sound.{Sound}
use Rattle.rules.specs.OldSaved.{old_saved, S5alone}
use Rattle.rules.specs.Calls.{Call, Answer, ◌leaving◌, outcome}
use Rattle.rules.specs.Runs.{Move, run}
use Rattle.demands.specs.Record.{Words32, Bytes, Accepted}
use Rattle.demands.specs.Standing.{Stands, left}
use Rattle.demands.specs.Refuses.{NotSaved, Rises, NotSavedThen}

-- Save of this record into this room writes these bytes: "the answer is that length and bytes past it are kept".
abbrev pub Writes : List ℕ → List ℕ → List ℕ → Type 0
Writes words room bytes = outcome (Call.Save words room) ≡ (length bytes ∷ [] leaving put room 0 bytes ∷ [])

pub record UndoEachOther : Type 0 where
  -- "Saving and loading undo each other": what Save writes, Load takes into any record with room for the rows, "whose earlier words don't matter",
  -- and the table is the same again. "Demand 2's round trip is about the new form." (document 02, L7)
  pub load-save : (words room bytes other : List ℕ) → Writes words room bytes → length (rows_of words) ≤ capacity other →
      Accepted (Call.Load other bytes) × (table_of (left (Call.Load other bytes)) ≡ table_of words)
  -- After any moves, refused ones among them, Load gives the saved record back, word for word.
  pub load-back : (words room bytes : List ℕ) (moves : List Move) → Words32 words → Writes words room bytes → left (Call.Load (run words moves) bytes) ≡ words
  -- What Load takes, Save writes again, byte for byte.
  pub save-load : (words bytes room : List ℕ) → Accepted (Call.Load words bytes) → length bytes ≤ length room → Writes (left (Call.Load words bytes)) room bytes
  -- "and loading accepts only bytes that saving writes": Save writes them for some sound record of 32-bit words.
  pub accepts-only : (words bytes : List ℕ) → Words32 words → Bytes bytes → Accepted (Call.Load words bytes) → (from room : List ℕ) × Stands from × Writes from room bytes
  -- All other bytes, and only they, are refused by 3, if the record is not under 7 words.
  pub refuses-others : (words bytes : List ℕ) → 7 ≤ length words → ((outcome (Call.Load words bytes)).answer ≡ Answer.refuses 3 []) ↔ NotSaved bytes

-- "The old form has its own loading call, which accepts exactly what it accepted"; "old-form loading [follows] the narrow" S5 (document 02, L10).
pub record TakesOld : Type 0 where
  -- What Save wrote then for a record that was sound then, it takes into any record with room for the rows, and the table is the same again.
  pub takes : (words other : List ℕ) → Sound words → Rises words → S5alone (rows_of words) → length (rows_of words) ≤ capacity other →
      Accepted (Call.LoadOld other (old_saved (table_of words))) × (table_of (left (Call.LoadOld other (old_saved (table_of words)))) ≡ table_of words)
  -- It takes nothing else: the record that it leaves was sound then, and the bytes are those that Save wrote for it then.
  pub only : (words bytes : List ℕ) → Accepted (Call.LoadOld words bytes) →
      Sound (left (Call.LoadOld words bytes)) × Rises (left (Call.LoadOld words bytes)) × S5alone (rows_of (left (Call.LoadOld words bytes)))
      × (old_saved (table_of (left (Call.LoadOld words bytes))) ≡ bytes)
  -- All other bytes, and only they, are refused by 3, if the record is not under 7 words.
  pub refuses : (words bytes : List ℕ) → 7 ≤ length words → ((outcome (Call.LoadOld words bytes)).answer ≡ Answer.refuses 3 []) ↔ NotSavedThen bytes
