-- The goals of `lines::put_status` that want a word.
use Rattle.laws.proofs.Writes.{wrote_then}
use Rattle.lines.proofs.put_status.Goals as goal

pub returns : goal.returns
returns c = wrote_then _ _ _ _ _ _ _ _ c.put_text-i.ensures c.put_end.ensures
