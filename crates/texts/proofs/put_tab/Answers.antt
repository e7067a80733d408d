-- The goals of `texts::put_tab` that want a word.
use native.Mathlib.Omega.{arith}
use Rattle.lines.specs.declared.Reply.TheVariants as Replies
use Rattle.texts.proofs.Enough.{room_for, written-short}
use Rattle.texts.proofs.put_tab.Goals as goal

pub put_answer-requires : goal.put_answer-requires
put_answer-requires c = room_for (Replies.Tab c.args.d c.args.f c.args.progress) _ _ (omega (arith, c.well_formed.1.1.0), omega (arith, c.well_formed.1.1.1.0), omega arith, omega arith) c.requires

pub returns : goal.returns
returns c = written-short (Replies.Tab c.args.d c.args.f c.args.progress) _ _ _ _ (omega (arith, c.well_formed.1.1.0), omega (arith, c.well_formed.1.1.1.0), omega arith, omega arith) c.put_answer.ensures
