-- The goals of `moves::judge_open` that want a word.
use Rattle.base.proofs.Refused.{handed-on}
use Rattle.rules.specs.Calls.{refusals}
use Rattle.sound.proofs.Checks.{check-given, check-passes}
use Rattle.asks.proofs.Judged.{sight-refused, sight-fine}
use Rattle.moves.specs.Answers.{room_rungs}
use Rattle.moves.proofs.judge_open.Goals as goal

pub returns-in_err-examine : goal.returns-in_err-examine
unfolding refusals
returns-in_err-examine c = rw (handed-on _ _ c.from_residual.ensures.1) (check-given c.args.words.now _ _ _ c.examine.ensures c.in_err-examine.was)

pub returns-in_err-judge_sight : goal.returns-in_err-judge_sight
unfolding refusals
returns-in_err-judge_sight c = rw (handed-on _ _ c.from_residual-in_err-judge_sight.ensures.1) (sight-refused c.args.words.now c.args.parent.0 (room_rungs c.args.words.now) _ _ (c.judge_sight.ensures (check-passes c.args.words.now _ _ c.examine.ensures c.in_ok-examine.was)) c.in_err-judge_sight.was)

pub returns : goal.returns
unfolding refusals
returns c = sight-fine c.args.words.now c.args.parent.0 (room_rungs c.args.words.now) _ _ (c.judge_sight.ensures (check-passes c.args.words.now _ _ c.examine.ensures c.in_ok-examine.was)) c.in_ok-judge_sight.was _ c.judge_room.ensures
