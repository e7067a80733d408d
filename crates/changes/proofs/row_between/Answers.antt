-- The goals of `changes::row_between` that want a word.
use Rattle.changes.proofs.Filling.{row_made}
use Rattle.changes.proofs.row_between.Goals as goal

pub returns : goal.returns
returns c = row_made c.args.words.now _ _ _ c.requires _ c.next_change.ensures _ c.unwrap-c.ensures _ _ _ _ c.document.ensures c.document-2.ensures c.climb.ensures c.from.ensures (c.shared_slice_known-1.given 2)
