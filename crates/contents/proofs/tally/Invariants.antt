-- What the loops of `contents::tally` keep.
use Rattle.contents.specs.Sums.{Summed}
use Rattle.contents.proofs.tally.Given as goal

abbrev pub invariant-loop-j : goal.invariant-loop-j
invariant-loop-j l = Summed l.bytes l.j l.rows l.back
