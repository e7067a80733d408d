-- What a loading call answers, in the paper's numbers. Definitions.
use Rattle.std.specs.Prelude.{ℕ, [], ◌∷◌, Result}
use Rattle.rules.specs.Calls.{Answer}
use Rattle.base.specs.declared.Refusal.{Refusal}
use Rattle.base.specs.Answers.{answered}

-- The number of rows, or the refusal's number.
abbrev pub loading_is : Result ℕ Refusal → Answer
loading_is = answered (λ n. n ∷ [])
