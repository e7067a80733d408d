-- The goals of `places::in_record` that want a word.
use mathlib.Core.Path.{◌∙◌}
use Rattle.base.proofs.Compared.{not-higher}
use Rattle.places.proofs.Present.{high-absent, found-present}
use Rattle.places.proofs.in_record.Goals as goal

pub returns-then-le : goal.returns-then-le
returns-then-le c = high-absent c.args.words.now c.requires (c.shared_slice_known-1.given 1) _ _ _ c.next_document.ensures c.from-top.ensures (not-higher _ _ _ c.le.ensures c.if-le.true)

pub returns : goal.returns
returns c = c.is_some.ensures ∙ found-present c.args.words.now c.requires _ _ c.find.ensures
