-- The goals of `points::is_finite` that want a word.
use lib.Ieee.{neg, div, of_bits}
use Rattle.laws.proofs.Doubles.{between}
use Rattle.points.proofs.is_finite.Goals as goal

pub returns : goal.returns
unfolding neg div of_bits
returns c = between c.args.x
