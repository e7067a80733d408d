-- The goals of `places::judge_setting` that want a word.
use Rattle.base.proofs.Refused.{handed-on}
use Rattle.places.proofs.Judged.{goes-refused}
use Rattle.places.proofs.judge_setting.Goals as goal

pub returns-in_err-judge : goal.returns-in_err-judge
returns-in_err-judge c = rw (handed-on _ _ c.from_residual.ensures.1) (goes-refused c.args.words.now c.args.places.now _ _ c.judge.ensures _ c.in_err-judge.was c.args.place)
