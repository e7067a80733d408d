-- What the loops of `sound::documents_apart` keep.
use Prim.Native.Nat.{◌<◌}
use Rattle.rules.specs.Words.{rows_of}
use Rattle.sound.proofs.Documents.{Tail}
use Rattle.sound.proofs.documents_apart.Given as goal

abbrev pub invariant-loop-i : goal.invariant-loop-i
invariant-loop-i l = (l.i < l.n) × Tail (rows_of l.words) l.i l.low.0 l.high.0
