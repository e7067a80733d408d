-- The goals of `sound::test` that want a word.
use Rattle.sound.proofs.Verdict.{firm-no-room, firm-empty, firm-over, firm-stops, firm-goes}
use Rattle.sound.proofs.test.Goals as goal

pub returns-then-c-eq0 : goal.returns-then-c-eq0
returns-then-c-eq0 c = firm-no-room c.args.words.now _ c.capacity-c.ensures c.if-c-eq0.true

pub returns-then-n-eq0 : goal.returns-then-n-eq0
returns-then-n-eq0 c = firm-empty c.args.words.now _ c.row_count-n.ensures c.if-n-eq0.true

pub returns-then-c-n : goal.returns-then-c-n
returns-then-c-n c = firm-over c.args.words.now _ _ c.capacity-c.ensures c.row_count-n.ensures c.if-c-n.true

pub returns-then-not-rest_zero : goal.returns-then-not-rest_zero
returns-then-not-rest_zero c = firm-stops c.args.words.now _ c.rest_zero.ensures c.if-not-rest_zero.true

pub returns : goal.returns
returns c = firm-goes c.args.words.now _ _ _ c.rows_pass.result _ _ c.capacity-c.ensures c.row_count-n.ensures c.if-n-eq0.false c.if-c-n.false c.rest_zero.ensures c.if-not-rest_zero.false c.next_frame_number.ensures c.next_document.ensures c.rows_pass.ensures
