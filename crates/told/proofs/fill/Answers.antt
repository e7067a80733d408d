-- The goals of `told::fill` that want a word.
use native.Mathlib.Omega.{arith}
use Rattle.told.proofs.Filling.{fill-full, fill-rows}
use Rattle.told.proofs.fill.Goals as goal

pub returns-then-c-n : goal.returns-then-c-n
returns-then-c-n c = fill-full c.args.from.now c.requires.1 c.requires.2 c.args.words.now _ _ c.row_count-n.ensures c.capacity-c.ensures (omega arith)

pub returns : goal.returns
returns c = fill-rows c.args.from.now c.requires.1 c.requires.2 c.args.words.now _ _ c.row_count-n.ensures c.capacity-c.ensures _ (omega arith) c.copy.ensures
