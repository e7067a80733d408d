-- S7 as a walk over the rows tests it: from each row that comes on, no shown step of its window may stand. That this is S7 is `clear-calm`. Definitions.
use Rattle.std.specs.Prelude.{ℕ, suc, Bool, false, not, ◌&&◌, List, Option, None, Some, ◌≡◌, leb, length}
use Rattle.std.proofs.Math.Bool.{So}
use Rattle.rules.specs.Below.{some_below}
use Rattle.rules.specs.Rows.{Row}
use Rattle.rules.specs.Windows.{root_at}
use Rattle.windows.proofs.Counted.{shown_step_in}
use Rattle.members.specs.Members.{Recalls}
use Rattle.sound.specs.Quick.{comes}
use Rattle.sound.specs.declared.Seen.{Seen}

-- A shown step of window r stands at row i or later.
unfoldable pub step_from : ℕ → List Row → ℕ → Bool
step_from r rows i = some_below (length rows) (λ k. leb i k && shown_step_in r rows k)

-- Row i does not come, or no shown step of its window stands there or later.
unfoldable pub clear : List Row → ℕ → Bool
clear rows i = not (comes rows i && step_from (root_at rows i) rows i)

-- No shown step of the window last looked at stands at row i or later.
pub record Sees (rows : List Row) (i : ℕ) (seen : Seen) : Type 0 where
  pub recalls : Recalls seen.root.0 rows seen.known
  pub none_from : step_from seen.root.0 rows i ≡ false

-- What a look at row i finds.
abbrev pub Looks : List Row → ℕ → Option Seen → Type 0
Looks rows i None = clear rows i ≡ false
Looks rows i (Some seen) = So (clear rows i) × Sees rows (suc i) seen
