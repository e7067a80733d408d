-- The paper's number and values for each case of the answer, and the refusal that the next number decides.
use Rattle.std.specs.Prelude.{ℕ, List, [], ◌∷◌, Result}
use Rattle.base.specs.declared.DocNo.{DocNo}
use Rattle.base.specs.declared.Refusal.{Refusal}
use Rattle.base.specs.Answers.{answered}
use Rattle.rules.specs.Words.{table_of}
use Rattle.rules.specs.Calls.{Answer, Rung, ◌when◌, used_up}

-- The new document's number, or the refusal's.
abbrev pub replaced_is : Result DocNo Refusal → Answer
replaced_is = answered (λ d. d.0 ∷ [])

-- The end of Replace's table.
abbrev pub number_rungs : List ℕ → List Rung
number_rungs words = 8 when used_up (table_of words).next_doc ∷ []
