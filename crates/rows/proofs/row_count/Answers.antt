-- The goals of `rows::row_count` that want a word.
use Rattle.laws.proofs.Words.{count-in-words}
use Rattle.rows.proofs.row_count.Goals as goal

pub returns : goal.returns
returns c = count-in-words c.args.words.now _ c.word.ensures
