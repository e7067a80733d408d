-- `script::answer_all` starts from Fresh. Assumes nothing.
use Rattle.std.proofs.Common.{lit<}
use Rattle.std.proofs.lemmas.Result.{on_ok_weaker}
use Rattle.script.proofs.Runs.{started}
use Rattle.script.proofs.answer_all.Goals as goal

pub returns : goal.returns
returns g c = on_ok_weaker c.run.result (λ p. started _ _ _ _ _ c.fresh.ensures (p (lit< tt))) c.run.ensures
