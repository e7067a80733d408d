-- The goals of `told::total` that want a word.
use native.Mathlib.Omega.{arith}
use Rattle.rules.specs.Saved.{documents_in}
use Rattle.told.proofs.Sizing.{sum_more, sum-none, total-over}
use Rattle.told.proofs.total.Goals as goal

pub loop-j-init : goal.loop-j-init
loop-j-init c = (omega arith, sum-none _)

pub returns-then-t-gt512 : goal.returns-then-t-gt512
returns-then-t-gt512 c = total-over c.args.bytes.now _ _ _ _ c.loop-j-test.true c.loop-j.invariant.1 c.documents-t.ensures.0 c.if-t-gt512.true

pub loop-j-preserved : goal.loop-j-preserved
loop-j-preserved c = (omega arith, sum_more (documents_in c.args.bytes.now) _ _ _ c.loop-j.invariant.1 c.documents-t.ensures.0)
