-- The goals of `changes::shift` that want a word.
use Rattle.base.proofs.Refused.{handed-on}
use Rattle.sound.proofs.Checks.{survey-stands, survey-several}
use Rattle.traverses.proofs.Ways.{survey-way}
use Rattle.changes.proofs.shift.Goals as goal

pub returns-in_err-s : goal.returns-in_err-s
returns-in_err-s c = rw (handed-on _ _ c.from_residual.ensures.1) (λ lent l. survey-way c.args.words.now _ _ lent _ _ c.locate.ensures c.in_err-s.was)

pub shift_alone-requires : goal.shift_alone-requires
shift_alone-requires c = survey-stands c.args.words.now _ _ _ c.locate.ensures c.in_ok-s.was c.in-One.is

pub shift_among-requires : goal.shift_among-requires
shift_among-requires c = survey-several c.args.words.now _ _ c.locate.ensures c.in_ok-s.was
