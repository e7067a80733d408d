-- The goals of `navigates::side_of` that want a word.
use mathlib.Core.Path.{sym, ap, ◌∙◌}
use Rattle.base.proofs.Compared.{same, apart}
use Rattle.rules.specs.Words.{rows_of}
use Rattle.navigates.specs.Sides.{side_if}
use Rattle.navigates.proofs.Looks.{side-top, side-looked, side-known}
use Rattle.navigates.proofs.side_of.Goals as goal

pub returns-then-eq-2 : goal.returns-then-eq-2
returns-then-eq-2 c = ap side_if (sym c.if-eq-2.true) ∙ side-top _ (rows_of c.args.words.now) _ _ _ c.parent-up.ensures (same _ _ _ c.eq.ensures c.if-eq.true) _ _ c.frame.ensures c.eq-then-eq.ensures

pub returns-else-eq-2 : goal.returns-else-eq-2
returns-else-eq-2 c = ap side_if (sym c.if-eq-2.false) ∙ side-top _ (rows_of c.args.words.now) _ _ _ c.parent-up.ensures (same _ _ _ c.eq.ensures c.if-eq.true) _ _ c.frame.ensures c.eq-then-eq.ensures

pub returns-then-eq-3 : goal.returns-then-eq-3
returns-then-eq-3 c = side-known _ (rows_of c.args.words.now) _ _ _ c.parent-up.ensures (apart _ _ _ c.eq.ensures c.if-eq.false) _ _ c.requires.2.within-is (same _ _ _ c.eq-2.ensures c.if-eq-3.true)

pub returns-then-eq-4 : goal.returns-then-eq-4
returns-then-eq-4 c = side-known _ (rows_of c.args.words.now) _ _ _ c.parent-up.ensures (apart _ _ _ c.eq.ensures c.if-eq.false) _ _ c.requires.2.outside-is (same _ _ _ c.eq-3.ensures c.if-eq-4.true)

pub returns-then-eq-5 : goal.returns-then-eq-5
returns-then-eq-5 c = side-known _ (rows_of c.args.words.now) _ _ _ c.parent-up.ensures (apart _ _ _ c.eq.ensures c.if-eq.false) _ _ c.requires.2.missed-is (same _ _ _ c.eq-4.ensures c.if-eq-5.true)

pub returns : goal.returns
returns c = side-looked _ (rows_of c.args.words.now) _ _ _ c.parent-up.ensures (apart _ _ _ c.eq.ensures c.if-eq.false) _ c.doc_side.ensures
