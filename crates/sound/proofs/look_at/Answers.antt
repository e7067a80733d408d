-- The goals of `sound::look_at` that want a word.
use mathlib.Core.Path.{refl}
use Rattle.rules.specs.Words.{rows_of}
use Rattle.sound.proofs.Calm.{look-inside, look-past}
use Rattle.sound.proofs.look_at.Goals as goal

pub returns-then-m : goal.returns-then-m
returns-then-m c = look-inside (rows_of c.args.words.now) _ _ c.requires.2 _ c.belongs-m.ensures _ refl c.if-m.true

pub returns : goal.returns
returns c = look-past (rows_of c.args.words.now) _ _ c.requires.2 _ c.belongs-m.ensures _ refl _ c.comes_at.ensures c.if-comes_at.false
