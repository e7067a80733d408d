-- What the loop of `script::run` keeps: what was taken is answered.
use Rattle.texts.specs.Feeds.{reader}
use Rattle.script.specs.Runs.{Takes}
use Rattle.script.proofs.run.Given as goal

abbrev pub invariant-loop : goal.invariant-loop
invariant-loop g l =
    Takes (g.R.Read.remaining l.initial.input) (g.R.Read.remaining l.input)
    (reader l.initial.words l.initial.changes l.initial.line l.initial.kept) (reader l.words l.changes l.line l.kept)
    (g.W.Write.contents l.initial.output) (g.W.Write.contents l.output)
