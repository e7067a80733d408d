-- The goals of `navigates::settle` that want a word.
use Rattle.navigates.proofs.Turns.{settles}
use Rattle.navigates.proofs.settle.Goals as goal

pub returns : goal.returns
returns c = settles c.args.words.now _ _ _ _ _ _ _ _ _ c.row.ensures c.put_flag.ensures c.put_row.ensures c.end_rows.ensures
