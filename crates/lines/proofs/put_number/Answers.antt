-- The goals of `lines::put_number` that want a word.
use Rattle.laws.proofs.Writes.{wrote_then}
use Rattle.lines.proofs.put_number.Goals as goal

pub returns : goal.returns
returns c = wrote_then _ _ _ _ _ _ _ _ c.put_byte-k.ensures c.put_decimal.ensures
