-- The goals of `texts::put_no` that want a word.
use native.Mathlib.Omega.{arith}
use Rattle.lines.specs.declared.Reply.TheVariants as Replies
use Rattle.texts.proofs.Enough.{room_for, written-short}
use Rattle.texts.proofs.put_no.Goals as goal

pub put_answer-requires : goal.put_answer-requires
put_answer-requires c = room_for (Replies.No c.args.why c.args.progress) _ _ (c.carried.ensures.narrow, omega arith, omega arith) c.requires

pub returns : goal.returns
returns c = written-short (Replies.No c.args.why c.args.progress) _ _ _ _ (c.carried.ensures.narrow, omega arith, omega arith) c.put_answer.ensures
