-- The goals of `points::is_finite_bits` that want a word.
use Rattle.laws.proofs.Doubles.{pattern-below}
use Rattle.points.proofs.is_finite_bits.Goals as goal

pub returns : goal.returns
returns c = pattern-below c.args.bits
