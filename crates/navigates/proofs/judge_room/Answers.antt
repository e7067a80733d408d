-- The goals of `navigates::judge_room` that want a word.
use Rattle.base.proofs.Compared.{same, apart}
use Rattle.navigates.proofs.Judges.{room-full, room-used, room-left}
use Rattle.navigates.proofs.judge_room.Goals as goal

pub returns-then-filled : goal.returns-then-filled
returns-then-filled c = room-full c.args.words.now _ c.if-filled.true

pub returns-then-eq : goal.returns-then-eq
returns-then-eq c = room-used c.args.words.now _ _ c.if-filled.false c.next_document.ensures (same _ _ _ c.eq.ensures c.if-eq.true)

pub returns : goal.returns
returns c = room-left c.args.words.now _ _ c.if-filled.false c.next_document.ensures (apart _ _ _ c.eq.ensures c.if-eq.false)
