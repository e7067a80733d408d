-- The goals of `moves::judge_room` that want a word.
use Rattle.base.proofs.Compared.{same, apart}
use Rattle.moves.proofs.Ways.{room-full, no-document, no-frame, room-left}
use Rattle.moves.proofs.judge_room.Goals.{then-eq-via-then-eq, then-eq-via-else-eq+then-eq-2}
use Rattle.moves.proofs.judge_room.Goals as goal

pub returns-then-capacity-row_count : goal.returns-then-capacity-row_count
returns-then-capacity-row_count c = room-full c.args.words.now _ _ c.capacity.ensures c.row_count.ensures c.if-capacity-row_count.true

pub returns-then-eq : goal.returns-then-eq
returns-then-eq c = elim c.then-eq.branch [
  | then-eq-via-then-eq w ↦ no-document c.args.words.now _ _ c.capacity.ensures c.row_count.ensures c.if-capacity-row_count.false _ c.next_document.ensures (same _ _ _ c.eq.ensures w.if-eq.true)
  | then-eq-via-else-eq+then-eq-2 w ↦ no-frame c.args.words.now _ _ c.capacity.ensures c.row_count.ensures c.if-capacity-row_count.false _ c.next_document.ensures (apart _ _ _ c.eq.ensures w.if-eq.false) _ w.next_frame_number.ensures (same _ _ _ w.eq-else-eq.ensures w.if-eq-2.true)
]

pub returns : goal.returns
returns c = room-left c.args.words.now _ _ c.capacity.ensures c.row_count.ensures c.if-capacity-row_count.false _ c.next_document.ensures (apart _ _ _ c.eq.ensures c.if-eq.false) _ c.next_frame_number.ensures (apart _ _ _ c.eq-else-eq.ensures c.if-eq-2.false)
