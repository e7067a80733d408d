-- What a walk over the first rows counts of a window. Definitions.
use Rattle.std.specs.Prelude.{ℕ, ◌≤◌, List, ◌≡◌}
use Rattle.rules.specs.Below.{count, latest}
use Rattle.rules.specs.Rows.{Row, frame_at}
use Rattle.windows.proofs.Counted.{hidden_in, shown_step_in}
use Rattle.reads.specs.Under.{Under}
use Rattle.members.specs.Members.{Recalls}
use Rattle.lists.specs.declared.Tally.{Tally}

-- t counts the hidden rows of window r among the first i, and those of them before its latest shown step.
pub record Tallies (r : ℕ) (rows : List Row) (i : ℕ) (t : Tally) : Type 0 where
  pub hidden-are : t.hidden ≡ count (hidden_in r rows) i
  pub taken-are : t.taken ≡ count (hidden_in r rows) (latest (shown_step_in r rows) i)
  pub few : t.hidden ≤ i
  pub under : Under (frame_at rows) i t.high.0
  pub recalls : Recalls r rows t.known
