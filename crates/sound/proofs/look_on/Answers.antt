-- The goals of `sound::look_on` that want a word.
use mathlib.Core.Path.{refl}
use Rattle.rules.specs.Words.{rows_of}
use Rattle.sound.proofs.Calm.{look-breaks, look-goes}
use Rattle.sound.proofs.look_on.Goals as goal

pub returns-then-step_from : goal.returns-then-step_from
returns-then-step_from c = look-breaks (rows_of c.args.words.now) _ _ c.requires.3 c.root_of-root.ensures _ c.step_from.ensures c.if-step_from.true

pub returns : goal.returns
returns c = look-goes (rows_of c.args.words.now) _ _ c.requires.3 c.root_of-root.ensures _ c.step_from.ensures _ refl c.known_beneath-known.ensures c.if-step_from.false
