-- The goals of `moves::judge_window` that want a word.
use Rattle.base.proofs.Refused.{handed-on}
use Rattle.rules.specs.Calls.{refusals}
use Rattle.sound.proofs.Checks.{check-given, check-passes, examined-past}
use Rattle.moves.specs.Answers.{room_rungs}
use Rattle.moves.proofs.judge_window.Goals as goal

pub returns-in_err-examine : goal.returns-in_err-examine
unfolding refusals
returns-in_err-examine c = rw (handed-on _ _ c.from_residual.ensures.1) (check-given c.args.words.now _ _ _ c.examine.ensures c.in_err-examine.was)

pub returns : goal.returns
unfolding refusals
returns c = examined-past c.args.words.now (check-passes c.args.words.now _ _ c.examine.ensures c.in_ok-examine.was) (room_rungs c.args.words.now) c.judge_room.result c.judge_room.ensures
