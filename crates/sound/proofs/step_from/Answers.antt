-- The goals of `sound::step_from` that want a word.
use native.Mathlib.Omega.{arith}
use Rattle.rules.specs.Rows.{frame_at}
use Rattle.rules.specs.Words.{rows_of}
use Rattle.reads.proofs.Scans.{under_more}
use Rattle.sound.proofs.Calm.{late-start, late-more, late-found, late-done}
use Rattle.sound.proofs.step_from.Goals as goal

pub loop-j-init : goal.loop-j-init
loop-j-init c = (omega arith, late-start c.args.root.0 (rows_of c.args.words.now) _, c.requires.1, c.requires.2)

pub returns-then-m : goal.returns-then-m
returns-then-m c = late-found c.args.root.0 (rows_of c.args.words.now) _ _ c.loop-j.invariant.0 _ c.step_within-m.ensures.0 (omega (arith, c.row_count-n.ensures)) c.if-m.true

pub loop-j-preserved : goal.loop-j-preserved
loop-j-preserved c = let rows = rows_of c.args.words.now in (
  omega arith,
  late-more c.args.root.0 rows _ _ c.loop-j.invariant.0 _ c.step_within-m.ensures.0 c.loop-j.invariant.1 c.if-m.false,
  under_more (frame_at rows) _ _ _ c.loop-j.invariant.2 (omega (arith, c.higher-bound.ensures, c.frame.ensures)),
  c.step_within-m.ensures.1,
)

pub returns : goal.returns
returns c = late-done c.args.root.0 (rows_of c.args.words.now) _ _ (omega (arith, c.row_count-n.ensures)) c.loop-j.invariant.1
