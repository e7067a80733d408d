-- The goals of `places::are_fine` that want a word.
use native.Mathlib.Omega.{arith}
use Rattle.laws.proofs.Loops.{loops}
use Rattle.places.proofs.Store.{reaches-none, fine-fails, fine-done}
use Rattle.places.proofs.are_fine.Goals as goal

pub loop-i-init : goal.loop-i-init
loop-i-init c = (search loops, search loops, reaches-none c.args.places.now)

pub returns-then-not-is_fine : goal.returns-then-not-is_fine
returns-then-not-is_fine c = fine-fails c.args.places.now _ _ c.entry_count-n.ensures _ c.loop-i-test.true c.is_fine.ensures c.if-not-is_fine.true

pub loop-i-preserved : goal.loop-i-preserved
loop-i-preserved c = (search loops, search loops, c.higher-high.ensures)

pub returns : goal.returns
returns c = fine-done c.args.places.now _ _ c.entry_count-n.ensures c.loop-i.invariant.0 (omega arith) c.loop-i.invariant.1
