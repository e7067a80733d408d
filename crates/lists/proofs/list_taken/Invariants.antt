-- What the loops of `lists::list_taken` keep.
use Prim.Native.Nat.{◌≤◌}
use mathlib.Core.List.{List}
use mathlib.Core.Path.{◌≡◌}
use lib.ListN.{length}
use Rattle.rules.specs.Words.{rows_of}
use Rattle.lists.specs.Listing.{TakensTo}
use Rattle.lists.proofs.list_taken.Given as goal

abbrev pub invariant-loop-i : goal.invariant-loop-i
invariant-loop-i l = (l.initial.i ≤ l.i) × (l.i ≤ length (rows_of l.words)) × (length l.taken ≡ length l.initial.taken) × ((old : List _) → TakensTo (rows_of l.words) l.initial.i old l.initial.taken → TakensTo (rows_of l.words) l.i old l.taken)
