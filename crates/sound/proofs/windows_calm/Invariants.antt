-- What the loops of `sound::windows_calm` keep.
use Prim.Native.Nat.{◌≤◌}
use mathlib.Core.Bool.{true}
use mathlib.Core.Path.{◌≡◌}
use Rattle.rules.specs.Below.{all_below}
use Rattle.rules.specs.Rows.{frame_at}
use Rattle.rules.specs.Words.{rows_of}
use Rattle.reads.specs.Under.{Under}
use Rattle.sound.specs.Looks.{clear, Sees}
use Rattle.sound.proofs.windows_calm.Given as goal

abbrev pub invariant-loop-i : goal.invariant-loop-i
invariant-loop-i l = (l.i ≤ l.n) × (all_below l.i (clear (rows_of l.words)) ≡ true) × Under (frame_at (rows_of l.words)) l.i l.high.0 × Sees (rows_of l.words) l.i l.seen
