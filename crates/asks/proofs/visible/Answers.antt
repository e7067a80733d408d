-- The goals of `asks::visible` that want a word.
use Rattle.base.proofs.Refused.{handed-on}
use Rattle.sound.proofs.Checks.{check-passes}
use Rattle.asks.proofs.Answered.{visible-refused, visible-given}
use Rattle.asks.proofs.visible.Goals as goal

pub returns-in_err-examine : goal.returns-in_err-examine
returns-in_err-examine c = rw (handed-on _ _ c.from_residual.ensures.1) (visible-refused c.args.words.now _ _ _ c.examine.ensures c.in_err-examine.was)

pub returns : goal.returns
returns c = visible-given c.args.words.now (check-passes c.args.words.now _ _ c.examine.ensures c.in_ok-examine.was) _ _ c.seen.ensures
