-- The goals of `places::place_at_zoom` that want a word.
use Rattle.base.proofs.Refused.{handed-on}
use Rattle.places.proofs.Present.{asked-for}
use Rattle.sound.proofs.Checks.{judged-fine}
use Rattle.places.proofs.Judged.{zoom-refused, zoom-told}
use Rattle.places.proofs.place_at_zoom.Goals as goal

pub place_of-requires : goal.place_of-requires
place_of-requires c = asked-for _ _ _ (c.shared_slice_known-1.given 1) (judged-fine _ _ c.judge.ensures _ c.in_ok-judge.was)

pub returns-in_err-judge : goal.returns-in_err-judge
returns-in_err-judge c = rw (handed-on _ _ c.from_residual.ensures.1) (zoom-refused c.args.words.now c.args.places.now _ _ c.judge.ensures _ c.in_err-judge.was _)

pub returns : goal.returns
returns c = zoom-told c.args.words.now c.args.places.now _ (judged-fine _ _ c.judge.ensures _ c.in_ok-judge.was) _ c.place_of.result c.zoomed.result c.place_of.ensures c.zoomed.ensures
