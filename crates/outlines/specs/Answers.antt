-- What Outline answers, in the rules' terms. Definitions.
use Rattle.std.specs.Prelude.{ℕ, [], ◌∷◌, Result}
use Rattle.base.specs.Answers.{answered}
use Rattle.base.specs.declared.Refusal.{Refusal}
use Rattle.rules.specs.Calls.{Answer}

-- The number of pairs, or the refusal's number.
abbrev pub outlined_is : Result ℕ Refusal → Answer
outlined_is = answered (λ n. n ∷ [])
