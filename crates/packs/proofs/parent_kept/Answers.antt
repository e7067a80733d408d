-- The goals of `packs::parent_kept` that want a word.
use mathlib.Core.Path.{◌∙◌}
use Rattle.base.proofs.Compared.{same, apart}
use Rattle.rules.specs.Words.{rows_of}
use Rattle.packs.proofs.Turns.{kept-root, kept-found}
use Rattle.packs.proofs.parent_kept.Goals as goal

pub returns-then-eq : goal.returns-then-eq
returns-then-eq c = c.if-eq.true ∙ kept-root (rows_of c.args.words.now) _ _ _ c.parent-up.ensures (same _ _ _ c.eq.ensures c.if-eq.true)

pub returns-else-eq : goal.returns-else-eq
returns-else-eq c = kept-found (rows_of c.args.words.now) _ _ _ c.parent-up.ensures (apart _ _ _ c.eq.ensures c.if-eq.false) _ _ c.find_below.ensures c.is_some.ensures
