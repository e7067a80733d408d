-- The goals of `sound::examine` that want a word.
use mathlib.Core.Path.{sym, ◌∙◌}
use Rattle.sound.proofs.Checks.{checked-short, checked-unsound, checked-fine}
use Rattle.sound.proofs.examine.Goals as goal

pub returns-then-is_short : goal.returns-then-is_short
returns-then-is_short c = checked-short _ c.args.words.now (sym c.is_short.ensures ∙ c.if-is_short.true)

pub returns-then-not-sound : goal.returns-then-not-sound
returns-then-not-sound c = checked-unsound _ c.args.words.now (sym c.is_short.ensures ∙ c.if-is_short.false) (sym c.sound.ensures ∙ c.if-not-sound.true)

pub returns : goal.returns
returns c = checked-fine _ c.args.words.now (sym c.is_short.ensures ∙ c.if-is_short.false) (sym c.sound.ensures ∙ c.if-not-sound.false)
