-- The goals of `sound::is_alone` that want a word.
use mathlib.Core.Path.{◌∙◌}
use Rattle.base.proofs.Compared.{lower}
use Rattle.rules.specs.Words.{rows_of}
use Rattle.sound.proofs.Documents.{alone-below, alone-above, alone-found, alone-lost}
use Rattle.sound.proofs.is_alone.Goals as goal

pub returns-then-lt : goal.returns-then-lt
returns-then-lt c = alone-below (rows_of c.args.words.now) _ _ _ _ c.requires.0.below c.requires.2 c.document-d.ensures (lower _ _ _ c.lt.ensures c.if-lt.true)

pub returns-then-lt-2 : goal.returns-then-lt-2
returns-then-lt-2 c = alone-above (rows_of c.args.words.now) _ _ _ _ c.requires.0.below c.requires.2 c.document-d.ensures (lower _ _ _ c.lt-2.ensures c.if-lt-2.true)

pub returns-in-Some : goal.returns-in-Some
returns-in-Some c = c.eq.ensures ∙ alone-found (rows_of c.args.words.now) _ _ _ _ c.requires.0.below c.requires.2 c.document-d.ensures _ c.requires.1 _ c.find_below.ensures _ c.in-Some.is

pub returns-in-None : goal.returns-in-None
returns-in-None c = alone-lost (rows_of c.args.words.now) _ _ _ _ c.requires.0.below c.requires.2 c.document-d.ensures _ c.requires.1 _ c.find_below.ensures c.in-None.is
