-- The paper's number and values for each case of the answer, and the refusals that the room decides.
use Rattle.std.specs.Prelude.{ℕ, Bool, List, [], ◌∷◌, Result}
use Rattle.base.specs.declared.DocNo.{DocNo}
use Rattle.base.specs.declared.Refusal.{Refusal}
use Rattle.base.specs.Answers.{answered}
use Rattle.rules.specs.Words.{table_of}
use Rattle.rules.specs.Calls.{Answer, Rung, ◌when◌, used_up}

-- The new document's number, or the refusal's.
abbrev pub navigated_is : Result DocNo Refusal → Answer
navigated_is = answered (λ d. d.0 ∷ [])

-- The end of Navigate's table, where no row is left after the removal or some is.
abbrev pub room_rungs : Bool → List ℕ → List Rung
room_rungs filled words = 7 when filled ∷ 8 when used_up (table_of words).next_doc ∷ []
