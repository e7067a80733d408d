-- The goals of `places::spot_of` that want a word.
use Rattle.rules.specs.Words.{rows_of}
use Rattle.places.proofs.Present.{none-lost}
use Rattle.places.proofs.Freeing.{spot-own, spot-free}
use Rattle.places.proofs.spot_of.Goals as goal

pub returns-then-own-n : goal.returns-then-own-n
returns-then-own-n c = spot-own (rows_of c.args.words.now) c.args.places.now (none-lost c.args.words.now c.requires.0 (c.shared_slice_known-1.given 1)) _ _ _ _ c.requires.1 c.from.ensures c.entry_count-n.ensures c.entry_below-own.ensures c.if-own-n.true

pub returns : goal.returns
returns c = spot-free (rows_of c.args.words.now) c.args.places.now (none-lost c.args.words.now c.requires.0 (c.shared_slice_known-1.given 1)) _ _ _ _ c.requires.1 c.from.ensures c.entry_count-n.ensures c.entry_below-own.ensures _ c.if-own-n.false c.first_gone.ensures
