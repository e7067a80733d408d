-- The goals of `extracts::put_back` that want a word.
use native.Mathlib.Omega.{arith}
use Rattle.extracts.proofs.Returned.{walk-starts, walk_more, returning-starts, returning-more, returning-ends}
use Rattle.extracts.proofs.put_back.Goals as goal

pub loop-i-init : goal.loop-i-init
loop-i-init c = (walk-starts _ _, λ r h. returning-starts _ r _ h)

pub loop-i-preserved : goal.loop-i-preserved
loop-i-preserved c = (
  walk_more c.args.words.now c.args.own.now _ _ _ _ _ c.loop-i.invariant.0 c.give_flag-k.ensures (omega (arith, c.row_count-i-end.ensures)),
  λ r h. returning-more c.args.words.now r c.args.own.now h _ _ _ _ _ (c.loop-i.invariant.1 r h) (omega (arith, c.row_count-i-end.ensures)) c.give_flag-k.ensures,
)

pub returns : goal.returns
returns c = λ r h. returning-ends c.args.words.now r c.args.own.now h _ _ _ (c.loop-i.invariant.1 r h) (omega (arith, c.loop-i.auto.i-end, c.row_count-i-end.ensures)) (omega (arith, c.loop-i-test.false, c.row_count-i-end.ensures))
