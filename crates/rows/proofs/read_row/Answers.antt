-- The goals of `rows::read_row` that want a word.
use native.Mathlib.Omega.{arith}
use Rattle.rows.proofs.Readable.{readable-within, row_read}
use Rattle.rows.proofs.read_row.Goals as goal

pub row-requires : goal.row-requires
row-requires c = readable-within _ _ (omega arith)

pub returns : goal.returns
returns c = row_read c.args.words.now _ _ (readable-within _ _ (omega arith)) c.row.ensures
