-- The goals of `moves::fresh` that want a word.
use Rattle.moves.proofs.Ways.{fresh-short, fresh-done}
use Rattle.moves.proofs.fresh.Goals as goal

pub returns-then-words-lt7 : goal.returns-then-words-lt7
returns-then-words-lt7 c = fresh-short c.args.words.now c.if-words-lt7.true

pub returns : goal.returns
returns c = fresh-done c.args.words.now _ _ _ _ c.if-words-lt7.false c.capacity-c.ensures c.put_head.ensures c.put_row.ensures c.clear.ensures
