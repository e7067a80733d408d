-- The goals of `frame_history::told_place` that want a word.
use Rattle.frame_history.proofs.Faces.{place-itself, place-point}
use Rattle.frame_history.proofs.told_place.Goals as goal

pub returns-in-Itself : goal.returns-in-Itself
returns-in-Itself c = place-itself c.args.answer c.args.kind.now c.args.x.now c.args.y.now _ c.in-Ok.is c.in-Itself.is

pub returns-in-At : goal.returns-in-At
returns-in-At c = place-point c.args.answer c.args.kind.now c.args.x.now c.args.y.now _ c.in-Ok.is _ c.in-At.is
