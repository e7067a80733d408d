-- The goals of `sound::pass_step` that want a word.
use mathlib.Core.Path.{refl}
use Rattle.base.proofs.Compared.{differ, agree}
use Rattle.rules.specs.Words.{rows_of}
use Rattle.sound.proofs.Passes.{step-unlinked, step-late, step-turns, step-taken}
use Rattle.sound.proofs.pass_step.Goals as goal

pub returns-then-ne : goal.returns-then-ne
returns-then-ne c = step-unlinked (rows_of c.args.words.now) _ _ c.requires.1 _ _ _ _ c.requires.2 refl c.parent.ensures c.parent-2.ensures (differ _ _ _ c.ne.ensures c.if-ne.true)

pub returns-then-p : goal.returns-then-p
returns-then-p c = step-late (rows_of c.args.words.now) _ _ c.requires.1 _ _ _ _ c.requires.2 c.shown-shown.ensures c.parent.ensures c.parent-2.ensures (agree _ _ _ c.ne.ensures c.if-ne.false) _ c.if-p.true c.pass_late.ensures

pub returns-then-is_shown : goal.returns-then-is_shown
returns-then-is_shown c = step-turns (rows_of c.args.words.now) _ _ c.requires.1 _ _ _ _ c.requires.2 c.shown-shown.ensures c.parent.ensures c.parent-2.ensures (agree _ _ _ c.ne.ensures c.if-ne.false) _ _ _ refl c.is_shown.ensures c.if-p.false c.if-is_shown.true c.pass_late-then-is_shown.ensures

pub returns : goal.returns
returns c = step-taken (rows_of c.args.words.now) _ _ c.requires.1 _ _ _ _ c.requires.2 c.shown-shown.ensures c.parent.ensures c.parent-2.ensures (agree _ _ _ c.ne.ensures c.if-ne.false) _ _ refl c.is_shown.ensures c.if-p.false c.if-is_shown.false
