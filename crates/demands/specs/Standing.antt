-- What all other demands stand on: a record begins sound and stays sound.
use Rattle.std.specs.Prelude.{ℕ, List, [], get_or}
use Rattle.rules.specs.Sound.{Sound}
use Rattle.rules.specs.Calls.{Call, outcome}
use Rattle.rules.specs.Runs.{Move, after}
use Rattle.demands.specs.Record.{Words32, Bytes, Accepted}

-- A record of 32-bit words that is sound (S1 to S8).
abbrev pub Stands : List ℕ → Type 0
Stands words = Words32 words × Sound words

-- The record that Fresh and the loading calls leave.
abbrev pub left : Call → List ℕ
left c = get_or (outcome c).lent 0 []

pub record Standing : Type 0 where
  -- "Fresh writes n = 1, next numbers 1 and 1, and the row (0, 0, none, 1)"
  pub fresh : (words : List ℕ) → Words32 words → Accepted (Call.Fresh words) → Stands (left (Call.Fresh words))
  -- "Load fills a record [..] from bytes that Save would write for some sound record"
  pub load : (words bytes : List ℕ) → Words32 words → Bytes bytes → Accepted (Call.Load words bytes) → Stands (left (Call.Load words bytes))
  pub load-old : (words bytes : List ℕ) → Words32 words → Bytes bytes → Accepted (Call.LoadOld words bytes) → Stands (left (Call.LoadOld words bytes))
  -- Open, Navigate, Traverse, Drop, Replace and Tab, refused ones among them.
  pub move : (words : List ℕ) → Stands words → (m : Move) → Stands (after words m)
