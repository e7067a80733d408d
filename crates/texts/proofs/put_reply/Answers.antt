-- The goals of `texts::put_reply` that want a word.
use mathlib.Core.Path.{ap}
use Rattle.lines.specs.Reply.{reply_is, answer_text}
use Rattle.lines.specs.declared.Reply.TheVariants as Replies
use Rattle.lines.proofs.Answers.{same_text}
use Rattle.texts.proofs.Enough.{room_for, written-short}
use Rattle.texts.proofs.put_reply.Goals as goal

pub put_answer-requires : goal.put_answer-requires
put_answer-requires c = room_for Replies.Bad _ _ tt c.requires

pub returns-in-Bad : goal.returns-in-Bad
returns-in-Bad c = let w = written-short Replies.Bad _ _ _ _ tt c.put_answer.ensures in
    (same_text _ _ _ _ _ _ (ap (λ r. answer_text (reply_is r)) c.in-Bad.is) w.0, w.1)
