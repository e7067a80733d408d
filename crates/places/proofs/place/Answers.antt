-- The goals of `places::place` that want a word.
use Rattle.base.proofs.Refused.{handed-on}
use Rattle.places.proofs.Present.{asked-for}
use Rattle.sound.proofs.Checks.{judged-fine, judged-refused}
use Rattle.places.proofs.Judged.{place-told}
use Rattle.places.proofs.place.Goals as goal

pub place_of-requires : goal.place_of-requires
place_of-requires c = asked-for _ _ _ (c.shared_slice_known-1.given 1) (judged-fine _ _ c.judge.ensures _ c.in_ok-judge.was)

pub returns-in_err-judge : goal.returns-in_err-judge
returns-in_err-judge c = rw (handed-on _ _ c.from_residual.ensures.1) (judged-refused _ _ c.judge.ensures _ c.in_err-judge.was)

pub returns : goal.returns
returns c = place-told c.args.words.now c.args.places.now _ (judged-fine _ _ c.judge.ensures _ c.in_ok-judge.was) c.place_of.result c.place_of.ensures
