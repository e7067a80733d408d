-- The goals of `lines::put_end` that want a word.
use Rattle.lines.proofs.Texts.{room-first, room-second, room-third, room-last, wrote-end}
use Rattle.lines.proofs.put_end.Goals as goal

pub put_number-i-requires : goal.put_number-i-requires
put_number-i-requires c = room-first c.args.out.now c.args.at c.args.n c.args.progress.position c.args.progress.steps c.requires

pub put_number-j-requires : goal.put_number-j-requires
put_number-j-requires c = room-second c.args.out.now c.args.at c.args.n c.args.progress.position c.args.progress.steps c.requires _ _ c.put_number-i.ensures

pub put_number-k-requires : goal.put_number-k-requires
put_number-k-requires c = room-third c.args.out.now c.args.at c.args.n c.args.progress.position c.args.progress.steps c.requires _ _ c.put_number-i.ensures _ _ c.put_number-j.ensures

pub put_byte-requires : goal.put_byte-requires
put_byte-requires c = room-last c.args.out.now c.args.at c.args.n c.args.progress.position c.args.progress.steps c.requires _ _ c.put_number-i.ensures _ _ c.put_number-j.ensures _ _ c.put_number-k.ensures

pub returns : goal.returns
returns c = wrote-end c.args.out.now c.args.at c.args.n c.args.progress.position c.args.progress.steps c.requires _ _ c.put_number-i.ensures _ _ c.put_number-j.ensures _ _ c.put_number-k.ensures _ _ c.put_byte.ensures
