-- The goals of `packs::end_rows` that want a word.
use Rattle.packs.proofs.Turns.{ends}
use Rattle.packs.proofs.end_rows.Goals as goal

pub returns : goal.returns
returns c = ends _ _ _ _ _ _ _ c.clear_rows.ensures c.put_head.ensures
