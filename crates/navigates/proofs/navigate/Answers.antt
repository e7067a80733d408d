-- The goals of `navigates::navigate` that want a word.
use Rattle.base.proofs.Refused.{handed-on}
use Rattle.sound.proofs.Checks.{survey-stands, survey-several}
use Rattle.navigates.proofs.Judges.{navigate-refused}
use Rattle.navigates.proofs.navigate.Goals as goal

pub returns-in_err-s : goal.returns-in_err-s
returns-in_err-s c = rw (handed-on _ _ c.from_residual.ensures.1) (navigate-refused c.args.words.now _ _ _ c.locate.ensures c.in_err-s.was)

pub navigate_from-requires : goal.navigate_from-requires
navigate_from-requires c = survey-stands c.args.words.now _ _ _ c.locate.ensures c.in_ok-s.was c.in-One.is

pub navigate_beside-requires : goal.navigate_beside-requires
navigate_beside-requires c = survey-several c.args.words.now _ _ c.locate.ensures c.in_ok-s.was
