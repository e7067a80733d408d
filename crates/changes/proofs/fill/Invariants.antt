-- What the loop of `changes::fill` keeps: the rows passed are filled, with the change rows of the frames before `from`.
use Rattle.changes.proofs.Filling.{Filled}
use Rattle.changes.proofs.fill.Given as goal

abbrev pub invariant-loop-row : goal.invariant-loop-row
invariant-loop-row l = Filled l.words l.route l.row-items l.row-index l.from.0
