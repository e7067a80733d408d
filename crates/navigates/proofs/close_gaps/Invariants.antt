-- What the loops of `navigates::close_gaps` keep.
use Rattle.packs.proofs.Packed.{Packed}
use Rattle.navigates.proofs.Gaps.{keep_in}
use Rattle.navigates.proofs.close_gaps.Given as goal

abbrev pub invariant-loop-i : goal.invariant-loop-i
invariant-loop-i l = Packed (keep_in l.initial.words) l.initial.words l.i l.k l.words
