-- What the loops of `sound::highest_upto` keep.
use Prim.Native.Nat.{◌≤◌}
use Rattle.rules.specs.Rows.{frame_at}
use Rattle.rules.specs.Words.{rows_of}
use Rattle.reads.specs.Under.{Under}
use Rattle.sound.proofs.highest_upto.Given as goal

abbrev pub invariant-loop-i : goal.invariant-loop-i
invariant-loop-i l = (frame_at (rows_of l.words) l.fn.at.0 ≤ l.high.0) × Under (frame_at (rows_of l.words)) l.i l.high.0
