-- The goals of `lists::tally_row` that want a word.
use native.Mathlib.Omega.{arith}
use borrow.Author.Tests.{not-true, not-false}
use Rattle.rules.specs.Words.{rows_of}
use Rattle.lists.proofs.Tallies.{tally-other, tally-step, tally-row}
use Rattle.lists.proofs.tally_row.Goals as goal

pub returns-then-not-m : goal.returns-then-not-m
returns-then-not-m c = tally-other _ (rows_of c.args.words.now) _ _ c.requires.1 _ c.belongs-m.ensures _ (omega (arith, c.higher.ensures, c.frame.ensures)) (not-true _ c.if-not-m.true)

pub returns-then-is_shown_step : goal.returns-then-is_shown_step
returns-then-is_shown_step c = tally-step _ (rows_of c.args.words.now) _ _ c.requires.1 _ c.belongs-m.ensures _ (omega (arith, c.higher.ensures, c.frame.ensures)) (not-false _ c.if-not-m.false) _ c.is_shown_step.ensures c.if-is_shown_step.true

pub returns : goal.returns
returns c = rw c.from.ensures (tally-row _ (rows_of c.args.words.now) _ _ c.requires.1 _ c.belongs-m.ensures _ (omega (arith, c.higher.ensures, c.frame.ensures)) (not-false _ c.if-not-m.false) _ c.is_shown_step.ensures c.if-is_shown_step.false _ c.is_shown.ensures)
