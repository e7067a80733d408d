-- The goals of `navigates::row_joins` that want a word.
use mathlib.Core.Bool.{not}
use mathlib.Core.Path.{ap, ◌∙◌}
use Rattle.rules.specs.Words.{rows_of}
use Rattle.navigates.proofs.Turns.{joins-framed, joins-first}
use Rattle.navigates.proofs.row_joins.Goals as goal

pub returns-then-not-frame_before : goal.returns-then-not-frame_before
returns-then-not-frame_before c = joins-first (rows_of c.args.words.now) _ _ _ c.frame_before.ensures c.if-not-frame_before.true _ c.parent_kept.ensures

pub returns-else-not-frame_before : goal.returns-else-not-frame_before
returns-else-not-frame_before c = ap not c.if-not-frame_before.false ∙ joins-framed (rows_of c.args.words.now) _ _ _ c.frame_before.ensures c.if-not-frame_before.false
