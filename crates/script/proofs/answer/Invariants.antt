-- What the loop of `script::answer` keeps: the text before `at` is answered.
use Rattle.std.proofs.Common.{◌≤◌, ◌-◌, length, take}
use Rattle.texts.specs.Feeds.{reader}
use Rattle.script.specs.Runs.{Answers}
use Rattle.script.proofs.answer.Given as goal

abbrev pub invariant-loop-at : goal.invariant-loop-at
invariant-loop-at g l =
    record {
      within : l.at ≤ length l.text;
      told : Answers (reader l.initial.words l.initial.changes l.initial.line l.initial.len) (take l.at l.text) (reader l.words l.changes l.line l.len)
          (g.W.Write.contents l.initial.output) (g.W.Write.contents l.output);
    }

abbrev pub decreases-loop-at : goal.decreases-loop-at
decreases-loop-at g l = length l.text - l.at
