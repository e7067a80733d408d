-- `script::run` answers all that its input has left. Assumes nothing.
use Rattle.std.proofs.Common.{arith}
use Rattle.std.proofs.lemmas.Result.{on_ok_weaker}
use Rattle.script.proofs.Runs.{takes_nothing, more_on, end_on}
use Rattle.script.proofs.run.Goals as goal

pub loop-init : goal.loop-init
loop-init g c = takes_nothing _ _ _

pub loop-preserved : goal.loop-preserved
loop-preserved g c = more_on _ _ _ _ _ _ _ _ _ _ _ _ c.in-More.is c.loop.invariant c.in_ok-n.ensures

pub returns-in-End : goal.returns-in-End
returns-in-End g c =
    on_ok_weaker c.finish.result (λ p. λ room. end_on _ _ _ _ _ _ _ _ _ _ _ _ _ c.in-End.is (omega arith) c.loop.invariant c.in_ok-n.ensures (p (omega arith))) c.finish.ensures
