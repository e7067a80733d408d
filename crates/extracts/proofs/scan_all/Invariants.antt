-- What the loops of `extracts::scan_all` keep.
use Prim.Native.Nat.{◌≤◌}
use Rattle.rules.specs.Words.{rows_of}
use Rattle.extracts.specs.Windows.{Scans}
use Rattle.extracts.proofs.scan_all.Given as goal

abbrev pub invariant-loop-i : goal.invariant-loop-i
invariant-loop-i l = (1 ≤ l.i) × (l.i ≤ l.n) × Scans (rows_of l.own) l.i l.s
