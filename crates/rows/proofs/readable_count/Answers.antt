-- The goals of `rows::readable_count` that want a word.
use Rattle.rows.proofs.Readable.{count-over, count_fits}
use Rattle.rows.proofs.readable_count.Goals as goal

pub returns-then-capacity-n : goal.returns-then-capacity-n
returns-then-capacity-n c = count-over c.args.words.now _ _ c.row_count-n.ensures c.capacity.ensures c.if-capacity-n.true

pub returns-else-capacity-n : goal.returns-else-capacity-n
returns-else-capacity-n c = count_fits c.args.words.now _ _ c.row_count-n.ensures c.capacity.ensures c.if-capacity-n.false
