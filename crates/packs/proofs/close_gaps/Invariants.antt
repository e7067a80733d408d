-- What the loops of `packs::close_gaps` keep.
use Rattle.rules.specs.Rows.{row_at}
use Rattle.rules.specs.Words.{rows_of}
use Rattle.packs.proofs.Known.{Turned}
use Rattle.packs.proofs.close_gaps.Given as goal

abbrev pub invariant-loop-i : goal.invariant-loop-i
invariant-loop-i g l = Turned (λ i. g.E.Emptied.has l.emptied (row_at (rows_of l.initial.words) i)) l.initial.words l.i l.kept l.words
