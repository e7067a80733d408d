-- What the loops of `navigates::close_beside` keep.
use Rattle.navigates.proofs.Beside.{Closing}
use Rattle.navigates.proofs.close_beside.Given as goal

abbrev pub invariant-loop-i : goal.invariant-loop-i
invariant-loop-i l = Closing l.root.0 l.initial.words l.i l.k l.known l.words
