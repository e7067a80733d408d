-- What the loops of `sound::rows_pass` keep.
use Prim.Native.Nat.{◌-◌, ◌≤◌}
use mathlib.Core.Bool.{true}
use mathlib.Core.Path.{◌≡◌}
use Rattle.rules.specs.Below.{all_below}
use Rattle.rules.specs.Rows.{doc_at}
use Rattle.rules.specs.Words.{rows_of}
use Rattle.sound.specs.Quick.{bounded, linked, ordered}
use Rattle.sound.specs.Pass.{Passed}
use Rattle.sound.proofs.rows_pass.Given as goal

abbrev pub invariant-loop-i : goal.invariant-loop-i
invariant-loop-i l = (1 ≤ l.i) × (l.i ≤ l.n) × Passed (rows_of l.words) l.i l.p × (all_below l.i (bounded (rows_of l.words) l.top.0) ≡ true) × (all_below l.i (linked (rows_of l.words)) ≡ true) × (l.rises ≡ all_below l.i (ordered (rows_of l.words))) × (l.last.0 ≡ doc_at (rows_of l.words) (l.i - 1))
