-- The goals of `packs::close_gaps` that want a word.
use native.Mathlib.Omega.{arith}
use Rattle.packs.proofs.Starts.{turn-start}
use Rattle.packs.proofs.Closing.{closing-asks, closing-more, closing-ends}
use Rattle.packs.proofs.close_gaps.Goals as goal

pub loop-i-init : goal.loop-i-init
loop-i-init g c = turn-start _ c.args.words.now _ c.requires.2

pub has-passes-requires : goal.has-passes-requires
has-passes-requires g c = (closing-asks (g.E.Emptied.has c.args.emptied) c.args.words.now c.requires.0 c.requires.1 _ _ _ c.loop-i.invariant (omega (arith, c.row_count-n.ensures))).0

pub turn-kept-requires : goal.turn-kept-requires
turn-kept-requires g c = closing-asks (g.E.Emptied.has c.args.emptied) c.args.words.now c.requires.0 c.requires.1 _ _ _ c.loop-i.invariant (omega (arith, c.row_count-n.ensures))

pub loop-i-preserved : goal.loop-i-preserved
loop-i-preserved g c = closing-more (g.E.Emptied.has c.args.emptied) c.args.words.now c.requires.0 c.requires.1 _ _ _ c.loop-i.invariant (omega (arith, c.row_count-n.ensures)) _ _ _ c.has-passes.ensures c.turn-kept.ensures

pub returns : goal.returns
returns g c = let few = c.requires.2.few in
    closing-ends (g.E.Emptied.has c.args.emptied) c.args.words.now c.requires.0 c.requires.1 _ _ _ c.loop-i.invariant (omega (arith, few, c.row_count-n.ensures)) (omega (arith, c.row_count-n.ensures))
