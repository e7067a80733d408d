-- The paper's number and values for each case of an answer, the refusals that the room decides, and what is appended.
use Rattle.std.specs.Prelude.{ℕ, ◌||◌, List, [], ◌∷◌, Result, Ok, ◌≡◌}
use Rattle.base.specs.declared.Refusal.{Refusal}
use Rattle.base.specs.Answers.{answered}
use Rattle.rules.specs.Moves.{opened}
use Rattle.rules.specs.Words.{table_of, rows_of, written}
use Rattle.rules.specs.Calls.{Answer, Rung, ◌when◌, full, used_up}
use Rattle.moves.specs.declared.Opened.{Opened}

abbrev pub fresh_is : Result (Unit {0}) Refusal → Answer
fresh_is = answered (λ done. [])

abbrev pub opened_is : Result Opened Refusal → Answer
opened_is = answered (λ o. o.document.0 ∷ o.frame.0 ∷ [])

-- The end of Open's table and of Tab's.
abbrev pub room_rungs : List ℕ → List Rung
room_rungs words = 7 when full words (rows_of words) ∷ 8 when (used_up (table_of words).next_doc || used_up (table_of words).next_frame) ∷ []

-- A frame of one row is appended under this parent, or a window where it is none: with the next numbers, which are answered.
pub record Appended (old : List ℕ) (parent : ℕ) (r : Opened) (new : List ℕ) : Type 0 where
  pub numbers : opened_is (Ok r) ≡ Answer.gives ((table_of old).next_doc ∷ (table_of old).next_frame ∷ [])
  pub words_are : new ≡ written old (opened (table_of old) parent)
