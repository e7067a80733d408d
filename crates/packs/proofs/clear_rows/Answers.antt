-- The goals of `packs::clear_rows` that want a word.
use native.Mathlib.Omega.{arith}
use Rattle.packs.proofs.Turns.{zeros-none}
use Rattle.packs.proofs.clear_rows.Goals as goal

pub returns-else-k-n : goal.returns-else-k-n
returns-else-k-n c = zeros-none _ _ _ (omega arith)
