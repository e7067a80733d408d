-- What the loops of `lists::count_window` keep.
use Rattle.rules.specs.Words.{rows_of}
use Rattle.lists.specs.Tallies.{Tallies}
use Rattle.lists.proofs.count_window.Given as goal

abbrev pub invariant-loop-i : goal.invariant-loop-i
invariant-loop-i l = Tallies l.root.0 (rows_of l.words) l.i l.t
