-- The goals of `places::put_place` that want a word.
use Rattle.places.proofs.Writes.{put-itself, put-at}
use Rattle.places.proofs.put_place.Goals as goal

pub returns-in-Itself : goal.returns-in-Itself
returns-in-Itself c = put-itself c.args.places.now _ _ _ _ c.in-Itself.is c.from.ensures

pub returns-in-At : goal.returns-in-At
returns-in-At c = put-at _ _ c.in-At.is c.args.places.now _ _ _ _ _ c.from.ensures c.bits_of.ensures c.bits_of-in-At.ensures
