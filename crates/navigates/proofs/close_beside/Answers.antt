-- The goals of `navigates::close_beside` that want a word.
use mathlib.Core.Path.{refl}
use native.Mathlib.Omega.{arith}
use lib.ListN.{length}
use Rattle.rules.specs.Moves.{upcoming_in}
use Rattle.rules.specs.Words.{rows_of}
use Rattle.laws.proofs.Loops.{earliest-out}
use Rattle.navigates.proofs.Beside.{closing-starts, closing-within, closing-asks, closing-more, closing-ends}
use Rattle.navigates.proofs.close_beside.Goals as goal

pub loop-i-init : goal.loop-i-init
loop-i-init c = closing-starts _ c.args.words.now _ c.requires.2 _ refl refl refl

pub row_turn-t-requires : goal.row_turn-t-requires
row_turn-t-requires c = closing-asks _ c.args.words.now c.requires.0 c.requires.1 _ _ _ _ c.loop-i.invariant (omega (arith, c.row_count-n.ensures))

pub keep_row-k-requires : goal.keep_row-k-requires
keep_row-k-requires c = closing-within _ c.args.words.now c.requires.0 c.requires.1 _ _ _ _ c.loop-i.invariant (omega (arith, c.row_count-n.ensures))

pub loop-i-preserved : goal.loop-i-preserved
loop-i-preserved c = closing-more _ c.args.words.now c.requires.0 c.requires.1 _ _ _ _ c.loop-i.invariant (omega (arith, c.row_count-n.ensures)) _ c.requires.2 (omega arith) _ _ _ c.row_turn-t.ensures c.keep_row-k.ensures

pub returns : goal.returns
returns c = let w = (earliest-out (upcoming_in c.args.root.0 (rows_of c.args.words.now)) (length (rows_of c.args.words.now))).within in
    closing-ends _ c.args.words.now _ _ _ _ _ c.loop-i.invariant c.row_count-n.ensures (omega (arith, w, c.requires.2, c.row_count-n.ensures)) (omega arith)
