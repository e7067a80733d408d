-- The goals of `places::place_of` that want a word.
use borrow.Author.Rules.{rules}
use Rattle.places.proofs.Store.{own-finite, place_found, place-missing}
use Rattle.places.proofs.place_of.Goals as goal

pub read_place-requires : goal.read_place-requires
read_place-requires c = (search rules, own-finite c.args.places.now _ _ _ _ c.from.ensures c.entry_count-n.ensures c.entry_below-i.ensures c.requires.0 c.requires.1 c.if-i-n.true)

pub returns-then-i-n : goal.returns-then-i-n
returns-then-i-n c = place_found c.args.places.now _ _ _ _ c.from.ensures c.entry_count-n.ensures c.entry_below-i.ensures c.read_place.result c.if-i-n.true c.read_place.ensures

pub returns : goal.returns
returns c = place-missing c.args.places.now _ _ _ _ c.from.ensures c.entry_count-n.ensures c.entry_below-i.ensures c.if-i-n.false
