-- The goals of `lists::lists` that want a word.
use Rattle.std.proofs.lemmas.Result.{err_from_is_err_and}
use Rattle.sound.proofs.Checks.{survey-stands, survey-several}
use Rattle.lists.proofs.Answered.{lists-refused}
use Rattle.lists.proofs.lists.Goals as goal

pub lists_alone-requires : goal.lists_alone-requires
lists_alone-requires c = survey-stands c.args.words.now _ _ _ c.locate.ensures c.in_ok-s.was c.in-One.is

pub lists_among-requires : goal.lists_among-requires
lists_among-requires c = survey-several c.args.words.now _ _ c.locate.ensures c.in_ok-s.was

pub returns-in_err-s : goal.returns-in_err-s
returns-in_err-s c =
    let p = err_from_is_err_and c.from_residual.result c.from_residual.ensures.1 in
    rw (p.1, p.2) (lists-refused c.args.words.now c.args.root.0 _ _ c.locate.ensures c.in_err-s.was _ _)
