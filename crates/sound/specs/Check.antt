-- Refusals 1 and 2. Definitions.
use Rattle.std.specs.Prelude.{ℕ, false, cond, List, Result, Ok, Err, ◌≡◌}
use Rattle.std.proofs.Math.Bool.{So}
use Rattle.base.specs.declared.Refusal.TheVariants.{ShortRecord, Unsound}
use Rattle.rules.specs.Sound.{sound?}
use Rattle.base.specs.Numbers.{number_of, carried_by}
use Rattle.rules.specs.Calls.{Call, Rung, short, unsound, refusals, Given, NoneGiven}
use Rattle.base.specs.declared.Refusal.{Refusal}

-- What was found, where neither refusal holds.
unfoldable pub checked : {A : Type 0} → A → List ℕ → Result A Refusal
checked a words = cond (short words) (Err ShortRecord) (cond (unsound words) (Err Unsound) (Ok a))

abbrev pub check_of : List ℕ → Result (Unit {0}) Refusal
check_of = checked tt

-- Neither refusal holds.
pub record Examined (words : List ℕ) : Type 0 where
  pub long : short words ≡ false
  pub passes : So (sound? words)

-- What a judge of a table says: none of its refusals is given, or this one is.
abbrev pub Settles : List Rung → Result (Unit {0}) Refusal → Type 0
Settles rungs (Ok u) = NoneGiven rungs
Settles rungs (Err r) = Given (number_of r) (carried_by r) rungs

-- The same of a call.
abbrev pub Judged : Call → Result (Unit {0}) Refusal → Type 0
Judged c = Settles (refusals c)
