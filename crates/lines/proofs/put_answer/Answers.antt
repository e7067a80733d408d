-- The goals of `lines::put_answer` that want a word.
use lib.ListN.{length}
use Rattle.lines.proofs.Answers.{answer_ok, answer-tab, answer-no, answer-bad, same-room, same_text}
use Rattle.lines.proofs.put_answer.Goals as goal

pub put_status-requires : goal.put_status-requires
put_status-requires c = same-room _ _ c.args.at (length c.args.out.now) (answer_ok c.args.reply _ _ c.in-Ok.is) c.requires

pub put_tab-requires : goal.put_tab-requires
put_tab-requires c = same-room _ _ c.args.at (length c.args.out.now) (answer-tab c.args.reply _ _ _ c.in-Tab.is) c.requires

pub put_refusal-requires : goal.put_refusal-requires
put_refusal-requires c = same-room _ _ c.args.at (length c.args.out.now) (answer-no c.args.reply _ _ c.in-No.is) c.requires

pub put_text-requires : goal.put_text-requires
put_text-requires c = same-room _ _ c.args.at (length c.args.out.now) (answer-bad c.args.reply c.in-Bad.is) c.requires

pub returns-in-Ok : goal.returns-in-Ok
returns-in-Ok c = same_text _ _ _ _ _ _ (answer_ok c.args.reply _ _ c.in-Ok.is) c.put_status.ensures

pub returns-in-Tab : goal.returns-in-Tab
returns-in-Tab c = same_text _ _ _ _ _ _ (answer-tab c.args.reply _ _ _ c.in-Tab.is) c.put_tab.ensures

pub returns-in-No : goal.returns-in-No
returns-in-No c = same_text _ _ _ _ _ _ (answer-no c.args.reply _ _ c.in-No.is) c.put_refusal.ensures

pub returns-in-Bad : goal.returns-in-Bad
returns-in-Bad c = same_text _ _ _ _ _ _ (answer-bad c.args.reply c.in-Bad.is) c.put_text.ensures
