-- The goals of `places::free_gone` that want a word.
use native.Mathlib.Omega.{arith}
use Rattle.places.proofs.Freeing.{freed-start, freed-next}
use Rattle.places.proofs.free_gone.Goals as goal

pub loop-i-init : goal.loop-i-init
loop-i-init c = (omega arith, freed-start _ _)

pub loop-i-preserved : goal.loop-i-preserved
loop-i-preserved c = (omega arith, freed-next _ _ _ _ _ c.loop-i.invariant.1 c.free_at.ensures)
