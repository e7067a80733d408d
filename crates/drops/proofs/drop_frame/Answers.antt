-- The goals of `drops::drop_frame` that want a word.
use Rattle.base.proofs.Refused.{handed-on}
use Rattle.sound.proofs.Checks.{check-passes}
use Rattle.drops.proofs.Judges.{drop-refused}
use Rattle.drops.proofs.drop_frame.Goals as goal

pub returns-in_err-examine : goal.returns-in_err-examine
returns-in_err-examine c = rw (handed-on _ _ c.from_residual.ensures.1) (drop-refused c.args.words.now _ _ _ c.examine.ensures c.in_err-examine.was)

pub drop_sound-requires : goal.drop_sound-requires
drop_sound-requires c = check-passes c.args.words.now _ _ c.examine.ensures c.in_ok-examine.was
