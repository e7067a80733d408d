-- The goals of `navigates::close_gaps` that want a word.
use native.Mathlib.Omega.{arith}
use Rattle.packs.proofs.Gaps.{gaps-start, gaps-end}
use Rattle.navigates.proofs.Gaps.{turn-within, turn-done}
use Rattle.navigates.proofs.close_gaps.Goals as goal

pub loop-i-init : goal.loop-i-init
loop-i-init c = gaps-start _ c.args.words.now _ c.requires.3

pub row_joins-stays-requires : goal.row_joins-stays-requires
row_joins-stays-requires c = turn-within c.args.words.now c.requires.0 c.requires.1 c.requires.2 _ _ _ c.loop-i.invariant (omega (arith, c.requires.4.upto))

pub keep_row-k-requires : goal.keep_row-k-requires
keep_row-k-requires c = turn-within c.args.words.now c.requires.0 c.requires.1 c.requires.2 _ _ _ c.loop-i.invariant (omega (arith, c.requires.4.upto))

pub loop-i-preserved : goal.loop-i-preserved
loop-i-preserved c = turn-done c.args.words.now c.requires.0 c.requires.1 c.requires.2 _ _ _ c.loop-i.invariant (omega (arith, c.requires.4.upto)) _ c.requires.3 (omega arith) _ _ _ c.row_joins-stays.ensures c.keep_row-k.ensures

pub returns : goal.returns
returns c = gaps-end _ c.args.words.now _ _ _ c.loop-i.invariant (omega (arith, c.requires.4.after, c.requires.4.upto, c.requires.3)) (λ j l m. c.requires.4.rest j (omega arith) m)
