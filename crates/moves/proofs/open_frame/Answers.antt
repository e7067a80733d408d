-- The goals of `moves::open_frame` that want a word.
use Rattle.base.proofs.Refused.{handed-on}
use Rattle.sound.proofs.Checks.{judged-fine, judged-refused}
use Rattle.moves.proofs.Ways.{open-tabs, open-given}
use Rattle.moves.proofs.open_frame.Goals as goal

pub returns-in_err-judge_open : goal.returns-in_err-judge_open
returns-in_err-judge_open c = rw (handed-on _ _ c.from_residual.ensures.1) (judged-refused _ _ c.judge_open.ensures _ c.in_err-judge_open.was)

pub append_frame-requires : goal.append_frame-requires
append_frame-requires c = open-tabs _ _ (judged-fine _ _ c.judge_open.ensures _ c.in_ok-judge_open.was)

pub returns : goal.returns
returns c = open-given _ _ (judged-fine _ _ c.judge_open.ensures _ c.in_ok-judge_open.was) _ _ c.append_frame.ensures
