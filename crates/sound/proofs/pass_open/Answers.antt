-- The goals of `sound::pass_open` that want a word.
use native.Mathlib.Omega.{arith}
use Rattle.rules.specs.Words.{rows_of}
use Rattle.sound.proofs.Passes.{first_passes}
use Rattle.sound.proofs.pass_open.Goals as goal

pub returns : goal.returns
returns c = first_passes (rows_of c.args.words.now) _ _ c.requires.1 c.requires.2 _ _ _ _ c.shown.ensures (omega (arith, c.higher.ensures, c.frame.ensures)) c.requires.3
