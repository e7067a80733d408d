-- The goals of `places::judge` that want a word.
use Rattle.base.proofs.Refused.{handed-on}
use Rattle.sound.proofs.Checks.{check-passes}
use Rattle.places.proofs.Judged.{judged-short}
use Rattle.places.proofs.judge.Goals as goal

pub judge_sound-requires : goal.judge_sound-requires
judge_sound-requires c = check-passes c.args.words.now _ _ c.examine.ensures c.in_ok-examine.was

pub returns-in_err-examine : goal.returns-in_err-examine
returns-in_err-examine c = rw (handed-on _ _ c.from_residual.ensures.1) (judged-short c.args.words.now c.args.places.now _ _ _ c.examine.ensures c.in_err-examine.was)
