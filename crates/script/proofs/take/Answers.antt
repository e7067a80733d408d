-- `script::take` ends only where nothing is left. Assumes nothing.
use Rattle.std.proofs.Common.{arith}
use Rattle.script.proofs.Runs.{takes_none}
use Rattle.script.proofs.take.Goals as goal

pub returns-then-n-eq0 : goal.returns-then-n-eq0
returns-then-n-eq0 g c =
    let read = rw c.in_ok-n.ensures at c.read.ensures.bytes in
    (takes_none _ _ _ _ _ _ c.if-n-eq0.true read.0, λ room. read.1 c.if-n-eq0.true (omega arith))
