-- What the loops of `sound::step_from` keep.
use Prim.Native.Nat.{◌≤◌}
use mathlib.Core.Bool.{false}
use mathlib.Core.Path.{◌≡◌}
use Rattle.rules.specs.Below.{some_below}
use Rattle.rules.specs.Rows.{frame_at}
use Rattle.rules.specs.Words.{rows_of}
use Rattle.reads.specs.Under.{Under}
use Rattle.members.specs.Members.{Recalls}
use Rattle.sound.proofs.Calm.{late}
use Rattle.sound.proofs.step_from.Given as goal

abbrev pub invariant-loop-j : goal.invariant-loop-j
invariant-loop-j l = (l.initial.j ≤ l.j) × (some_below l.j (late l.root.0 (rows_of l.words) l.initial.j) ≡ false) × Under (frame_at (rows_of l.words)) l.j l.bound.0 × Recalls l.root.0 (rows_of l.words) l.mind
