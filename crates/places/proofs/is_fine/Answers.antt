-- The goals of `places::is_fine` that want a word.
use Rattle.places.proofs.Store.{fine-above, fine-first}
use Rattle.places.proofs.is_fine.Goals as goal

pub returns-then-high-d : goal.returns-then-high-d
returns-then-high-d c = fine-above c.args.places.now c.args.i _ c.word_of-d.ensures c.if-d-eq-FREE.false _ c.is_sane.ensures _ c.if-not-is_sane.false c.requires.1 c.if-high-d.true

pub returns : goal.returns
returns c = fine-first c.args.places.now c.args.i _ c.word_of-d.ensures c.if-d-eq-FREE.false _ c.is_sane.ensures _ c.if-not-is_sane.false c.entry_below.ensures
