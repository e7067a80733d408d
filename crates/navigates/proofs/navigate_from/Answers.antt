-- The goals of `navigates::navigate_from` that want a word.
use Rattle.base.proofs.Refused.{handed-on}
use Rattle.sound.proofs.Checks.{judged-fine, judged-refused}
use Rattle.navigates.proofs.Judges.{navigate-given}
use Rattle.navigates.proofs.navigate_from.Goals as goal

pub returns-in_err-judge : goal.returns-in_err-judge
returns-in_err-judge c = rw (handed-on _ _ c.from_residual.ensures.1) (judged-refused _ _ c.judge.ensures _ c.in_err-judge.was)

pub returns : goal.returns
returns c = navigate-given c.args.words.now _ (judged-fine _ _ c.judge.ensures _ c.in_ok-judge.was) _ _ c.go_from.ensures.0 c.go_from.ensures.1
