-- The goals of `moves::open_window` that want a word.
use Rattle.base.proofs.Refused.{handed-on}
use Rattle.sound.proofs.Checks.{judged-fine, judged-refused}
use Rattle.moves.proofs.Ways.{tab-given}
use Rattle.moves.proofs.open_window.Goals as goal

pub returns-in_err-judge_window : goal.returns-in_err-judge_window
returns-in_err-judge_window c = rw (handed-on _ _ c.from_residual.ensures.1) (judged-refused _ _ c.judge_window.ensures _ c.in_err-judge_window.was)

pub returns : goal.returns
returns c = tab-given _ (judged-fine _ _ c.judge_window.ensures _ c.in_ok-judge_window.was) _ _ c.append_frame.ensures
