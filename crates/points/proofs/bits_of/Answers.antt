-- The goals of `points::bits_of` that want a word.
use Rattle.laws.proofs.Doubles.{finite_number}
use Rattle.points.proofs.bits_of.Goals as goal

pub float_to_bits-result : goal.float_to_bits-result
float_to_bits-result c = finite_number c.args.x c.requires
