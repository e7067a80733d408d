-- What the loops of `lists::list_upcoming` keep.
use Prim.Native.Nat.{◌≤◌}
use mathlib.Core.List.{List}
use mathlib.Core.Path.{◌≡◌}
use lib.ListN.{length}
use Rattle.rules.specs.Words.{rows_of}
use Rattle.lists.specs.Listing.{UpcomingsTo}
use Rattle.lists.proofs.list_upcoming.Given as goal

abbrev pub invariant-loop-i : goal.invariant-loop-i
invariant-loop-i l = (l.initial.i ≤ l.i) × (l.i ≤ length (rows_of l.words)) × (length l.upcoming ≡ length l.initial.upcoming) × ((old : List _) → UpcomingsTo (rows_of l.words) l.initial.i old l.initial.upcoming → UpcomingsTo (rows_of l.words) l.i old l.upcoming)
