-- What Save answers, in the paper's numbers. Definitions.
use Rattle.std.specs.Prelude.{ℕ, [], ◌∷◌, Result}
use Rattle.base.specs.Answers.{answered}
use Rattle.base.specs.declared.Refusal.{Refusal}
use Rattle.rules.specs.Calls.{Answer}

-- The length, or the refusal's number.
abbrev pub saving_is : Result ℕ Refusal → Answer
saving_is = answered (λ n. n ∷ [])
