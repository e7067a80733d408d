-- The goals of `sound::pass_row` that want a word.
use mathlib.Core.Path.{sym}
use Rattle.rules.specs.Words.{rows_of}
use Rattle.reads.proofs.Scans.{first_found}
use Rattle.sound.proofs.Passes.{step_after}
use Rattle.sound.proofs.pass_row.Goals as goal

pub pass_step-requires : goal.pass_step-requires
pass_step-requires c = (c.requires.0, c.requires.1, step_after (rows_of c.args.words.now) _ _ _ c.previous_under.ensures c.in-Some.is)

pub pass_first-requires : goal.pass_first-requires
pass_first-requires c = (c.requires.0, c.requires.1, c.requires.2, sym (first_found _ _ _ c.previous_under.ensures c.in-None.is))
