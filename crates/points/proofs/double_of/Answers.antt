-- The goals of `points::double_of` that want a word.
use Rattle.laws.proofs.Doubles.{finite-pattern}
use Rattle.points.proofs.double_of.Goals as goal

pub float_from_bits-result : goal.float_from_bits-result
float_from_bits-result c = finite-pattern c.args.bits c.requires
