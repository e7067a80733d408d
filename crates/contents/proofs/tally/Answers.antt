-- The goals of `contents::tally` that want a word.
use native.Mathlib.Omega.{arith}
use Rattle.contents.proofs.Summing.{summed-none, not-few, summed-more}
use Rattle.contents.proofs.tally.Goals as goal

pub loop-j-init : goal.loop-j-init
loop-j-init c = summed-none _

pub returns-then-rows-e : goal.returns-then-rows-e
returns-then-rows-e c = not-few c.args.bytes.now _ _ _ c.loop-j.invariant _ c.read_entry-e.ensures.1 (omega arith)

pub loop-j-preserved : goal.loop-j-preserved
loop-j-preserved c = summed-more c.args.bytes.now _ _ _ c.loop-j.invariant _ c.read_entry-e.ensures.1 (omega arith) (omega arith)
