-- The paper's number and values for each case of the answer.
use Rattle.std.specs.Prelude.{ℕ, [], ◌∷◌, Result}
use Rattle.base.specs.declared.Refusal.{Refusal}
use Rattle.base.specs.Answers.{answered}
use Rattle.rules.specs.Calls.{Answer}

-- How many rows went, or the refusal's number.
abbrev pub dropped_is : Result ℕ Refusal → Answer
dropped_is = answered (λ n. n ∷ [])
