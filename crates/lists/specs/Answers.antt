-- What Position and Lists answer, in the paper's numbers. Definitions.
use Rattle.std.specs.Prelude.{[], ◌∷◌, Result}
use Rattle.base.specs.Answers.{answered}
use Rattle.base.specs.declared.Refusal.{Refusal}
use Rattle.rules.specs.Calls.{Answer}
use Rattle.lists.specs.declared.Standing.{Standing}
use Rattle.lists.specs.declared.Listed.{Listed}

-- Where the window stands, or the refusal's number.
abbrev pub standing_is : Result Standing Refusal → Answer
standing_is = answered (λ s. s.position ∷ s.steps ∷ s.length ∷ [])

-- How many steps are taken and upcoming, or the refusal's number.
abbrev pub listed_is : Result Listed Refusal → Answer
listed_is = answered (λ n. n.taken ∷ n.upcoming ∷ [])
