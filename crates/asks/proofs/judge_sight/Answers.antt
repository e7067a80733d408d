-- The goals of `asks::judge_sight` that want a word.
use Rattle.base.proofs.Refused.{handed-on}
use Rattle.asks.proofs.Judged.{not_there, not-shown, shown-there}
use Rattle.asks.proofs.judge_sight.Goals as goal

pub returns-in_err-h : goal.returns-in_err-h
returns-in_err-h c e = rw (handed-on _ _ c.from_residual.ensures.1) (not_there c.args.words.now e _ _ c.seen.ensures _ c.in_err-h.was)

pub returns-in-Some : goal.returns-in-Some
returns-in-Some c e = not-shown c.args.words.now e _ _ c.seen.ensures _ c.in_ok-h.was _ c.in-Some.is

pub returns-in-None : goal.returns-in-None
returns-in-None c e = shown-there c.args.words.now e _ _ c.seen.ensures _ c.in_ok-h.was c.in-None.is
