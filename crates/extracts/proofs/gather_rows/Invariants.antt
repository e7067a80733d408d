-- What the loops of `extracts::gather_rows` keep.
use Rattle.rules.specs.Words.{rows_of}
use Rattle.members.specs.Members.{Recalls}
use Rattle.extracts.specs.Windows.{Gathered}
use Rattle.extracts.proofs.gather_rows.Given as goal

abbrev pub invariant-loop-i : goal.invariant-loop-i
invariant-loop-i l = Gathered l.root.0 (rows_of l.words) l.i l.k l.own × Recalls l.root.0 (rows_of l.words) l.known
