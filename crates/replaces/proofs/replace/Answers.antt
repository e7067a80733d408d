-- The goals of `replaces::replace` that want a word.
use Rattle.base.proofs.Refused.{handed-on}
use Rattle.sound.proofs.Checks.{check-passes}
use Rattle.replaces.proofs.Judges.{replace-refused}
use Rattle.replaces.proofs.replace.Goals as goal

pub returns-in_err-examine : goal.returns-in_err-examine
returns-in_err-examine c = rw (handed-on _ _ c.from_residual.ensures.1) (replace-refused c.args.words.now _ _ _ c.examine.ensures c.in_err-examine.was)

pub replace_sound-requires : goal.replace_sound-requires
replace_sound-requires c = check-passes c.args.words.now _ _ c.examine.ensures c.in_ok-examine.was
