-- What the loops of `lists::list_mixed` keep.
use Prim.Native.Nat.{◌+◌, ◌-◌, ◌≤◌, ◌<◌}
use mathlib.Core.Bool.{So}
use mathlib.Core.Path.{◌≡◌}
use lib.ListN.{length}
use Rattle.rules.specs.Words.{rows_of}
use Rattle.rules.specs.Below.{count}
use Rattle.rules.specs.Rows.{frame_at}
use Rattle.rules.specs.Steps.{is_step}
use Rattle.reads.specs.Under.{Under}
use Rattle.lists.specs.Listing.{TakensTo, UpcomingsTo}
use Rattle.lists.proofs.list_mixed.Given as goal

abbrev pub invariant-loop-i : goal.invariant-loop-i
invariant-loop-i l = (l.i ≤ length (rows_of l.words)) × (l.m ≡ count (is_step (rows_of l.words)) l.i) × (l.m ≤ l.i) × (l.i ≤ l.m + l.frames)
    × Under (frame_at (rows_of l.words)) l.i l.high.0 × TakensTo (rows_of l.words) l.i l.initial.taken l.taken × UpcomingsTo (rows_of l.words) l.i l.initial.upcoming l.upcoming
    × ((k : _) → k + 1 ≡ l.i → So (is_step (rows_of l.words) k) → l.i - l.m < l.frames)

abbrev pub decreases-loop-i : goal.decreases-loop-i
decreases-loop-i l = length (rows_of l.words) - l.i
