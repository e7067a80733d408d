-- The goals of `lists::position` that want a word.
use Rattle.std.proofs.lemmas.Result.{err_from_is_err_and}
use Rattle.sound.proofs.Checks.{survey-stands, survey-several}
use Rattle.lists.proofs.Answered.{position-refused}
use Rattle.lists.proofs.position.Goals as goal

pub position_alone-requires : goal.position_alone-requires
position_alone-requires c = survey-stands c.args.words.now _ _ _ c.locate.ensures c.in_ok-s.was c.in-One.is

pub position_among-requires : goal.position_among-requires
position_among-requires c = survey-several c.args.words.now _ _ c.locate.ensures c.in_ok-s.was

pub returns-in_err-s : goal.returns-in_err-s
returns-in_err-s c =
    let p = err_from_is_err_and c.from_residual.result c.from_residual.ensures.1 in
    rw (p.1, p.2) (position-refused c.args.words.now c.args.root.0 _ _ c.locate.ensures c.in_err-s.was)
