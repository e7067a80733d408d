-- The goals of `places::judge_place` that want a word.
use Rattle.places.proofs.Judged.{told-examined, told-there, goes-not, goes-full, goes-there}
use Rattle.places.proofs.judge_place.Goals as goal

pub returns-then-not-is_finite_place : goal.returns-then-not-is_finite_place
returns-then-not-is_finite_place c = goes-not c.args.words.now c.args.places.now _ c.requires c.args.place _ c.is_finite_place.ensures c.if-not-is_finite_place.true

pub spot_of-i-requires : goal.spot_of-i-requires
spot_of-i-requires c = (told-examined c.args.words.now c.args.places.now _ c.requires, told-there c.args.words.now c.args.places.now _ c.requires)

pub returns-then-entry_count-i : goal.returns-then-entry_count-i
returns-then-entry_count-i c = goes-full c.args.words.now c.args.places.now _ c.requires c.args.place _ c.is_finite_place.ensures c.if-not-is_finite_place.false _ _ c.spot_of-i.ensures c.entry_count.ensures c.if-entry_count-i.true

pub returns : goal.returns
returns c = goes-there c.args.words.now c.args.places.now _ c.requires c.args.place _ c.is_finite_place.ensures c.if-not-is_finite_place.false _ _ c.spot_of-i.ensures c.entry_count.ensures c.if-entry_count-i.false
