-- What the contents are answered to tell, in the paper's numbers. Definitions.
use Rattle.std.specs.Prelude.{[], ◌∷◌, Result}
use Rattle.rules.specs.Calls.{Answer}
use Rattle.base.specs.declared.Refusal.{Refusal}
use Rattle.base.specs.Answers.{answered}
use Rattle.contents.specs.declared.Told.{Told}

-- Position and steps, or the refusal's number.
abbrev pub told_is : Result Told Refusal → Answer
told_is = answered (λ t. t.position ∷ t.steps ∷ [])
