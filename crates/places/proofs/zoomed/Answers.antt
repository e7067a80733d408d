-- The goals of `places::zoomed` that want a word.
use Rattle.places.proofs.Judged.{zoomed-not, zoomed-over, zoomed-stands}
use Rattle.places.proofs.zoomed.Goals as goal

pub returns-then-not-is_finite : goal.returns-then-not-is_finite
returns-then-not-is_finite c = zoomed-not c.args.place _ _ c.is_finite.ensures c.if-not-is_finite.true

pub returns-then-not-is_finite_place : goal.returns-then-not-is_finite_place
returns-then-not-is_finite_place c = zoomed-over c.args.place _ _ c.is_finite.ensures c.if-not-is_finite.false c.scale-scaled.result c.scale-scaled.ensures _ c.is_finite_place.ensures c.if-not-is_finite_place.true

pub returns : goal.returns
returns c = zoomed-stands c.args.place _ _ c.is_finite.ensures c.if-not-is_finite.false c.scale-scaled.result c.scale-scaled.ensures _ c.is_finite_place.ensures c.if-not-is_finite_place.false
