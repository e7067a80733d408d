-- What a call answers, in the paper's numbers. Definitions.
use Rattle.std.specs.Prelude.{ℕ, List, Result, Ok, Err}
use Rattle.rules.specs.Calls.{Answer}
use Rattle.base.specs.Numbers.{number_of, carried_by}
use Rattle.base.specs.declared.Refusal.{Refusal}

-- The values that stand for what is answered, or the refusal's number and what it carries.
abbrev pub answered : {A : Type 0} → (A → List ℕ) → Result A Refusal → Answer
answered values (Ok a) = Answer.gives (values a)
answered values (Err r) = Answer.refuses (number_of r) (carried_by r)
