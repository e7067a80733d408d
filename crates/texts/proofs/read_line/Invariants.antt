-- What the loops of `texts::read_line` keep.
use Prim.Native.Nat.{◌≤◌, max}
use lib.ListN.{length}
use Rattle.texts.proofs.Cutting.{Reads}
use Rattle.texts.proofs.read_line.Given as goal

abbrev pub invariant-loop-i : goal.invariant-loop-i
invariant-loop-i l = Reads l.text l.fn.from l.initial.line l.kept l.i l.line l.len × (l.i ≤ max l.fn.from (length l.text))
