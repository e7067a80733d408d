-- The goals of `replaces::judge` that want a word.
use Rattle.base.proofs.Refused.{handed-on}
use Rattle.rules.specs.Calls.{refusals}
use Rattle.asks.proofs.Judged.{sight-refused, sight-fine}
use Rattle.replaces.specs.Answers.{number_rungs}
use Rattle.replaces.proofs.judge.Goals as goal

pub returns-in_err-judge_sight : goal.returns-in_err-judge_sight
unfolding refusals
returns-in_err-judge_sight c = rw (handed-on _ _ c.from_residual.ensures.1) (sight-refused c.args.words.now c.args.d.0 (number_rungs c.args.words.now) _ _ (c.judge_sight.ensures c.requires) c.in_err-judge_sight.was)

pub returns : goal.returns
unfolding refusals
returns c = sight-fine c.args.words.now c.args.d.0 (number_rungs c.args.words.now) _ _ (c.judge_sight.ensures c.requires) c.in_ok-judge_sight.was _ c.judge_number.ensures
