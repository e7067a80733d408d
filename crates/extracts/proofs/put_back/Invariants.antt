-- What the loops of `extracts::put_back` keep.
use Prim.Native.Nat.{ℕ}
use Rattle.extracts.specs.Windows.{PutsBack}
use Rattle.extracts.proofs.Returned.{Walking, Returning}
use Rattle.extracts.proofs.put_back.Given as goal

abbrev pub invariant-loop-i : goal.invariant-loop-i
invariant-loop-i l = Walking l.initial.words l.own l.k l.words × ((r : ℕ) (h : PutsBack l.initial.words r l.own) → Returning l.initial.words r l.own h l.i l.k l.words)
