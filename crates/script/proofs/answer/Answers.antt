-- `script::answer` answers all of the text. Assumes nothing.
use Rattle.std.proofs.Common.{arith}
use Rattle.std.proofs.lemmas.List.{length-take, length-drop}
use Rattle.script.proofs.Runs.{answers_nothing, fed_on}
use Rattle.script.proofs.answer.Goals as goal

pub loop-at-init : goal.loop-at-init
loop-at-init g c = record { within = omega arith; told = answers_nothing _ _ }

pub loop-at-preserved : goal.loop-at-preserved
loop-at-preserved g c =
    record {
      within = let w = simp (length-take, length-drop) at c.feed-f.ensures.reads.within in omega arith;
      told = fed_on _ _ _ c.args.text.now c.loop-at.at _ _ _ _ _ _ _ c.loop-at.invariant.told c.feed-f.ensures.reads c.in_ok-print.ensures;
    }
