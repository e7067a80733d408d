-- The goals of `packs::last_parent` that want a word.
use mathlib.Core.Path.{refl}
use Rattle.rules.specs.Words.{rows_of}
use Rattle.packs.proofs.Turns.{last_none, last_some}
use Rattle.packs.proofs.last_parent.Goals as goal

pub returns-then-k-eq0 : goal.returns-then-k-eq0
returns-then-k-eq0 c = last_none (rows_of c.args.words.now) _ _ _ c.if-k-eq0.true refl

pub returns-else-k-eq0 : goal.returns-else-k-eq0
returns-else-k-eq0 c = last_some (rows_of c.args.words.now) _ _ _ c.if-k-eq0.false c.parent.ensures
