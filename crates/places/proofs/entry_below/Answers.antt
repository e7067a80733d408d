-- The goals of `places::entry_below` that want a word.
use Rattle.laws.proofs.Loops.{loops}
use Rattle.places.proofs.entry_below.Goals as goal

pub loop-i-init : goal.loop-i-init
loop-i-init c = search loops

pub returns-then-is_of : goal.returns-then-is_of
returns-then-is_of c = search loops

pub loop-i-preserved : goal.loop-i-preserved
loop-i-preserved c = search loops

pub returns : goal.returns
returns c = search loops
