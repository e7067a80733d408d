-- The goals of `frame_history::frame_history_position` that want a word.
use mathlib.Core.Path.{ap}
use native.Mathlib.Omega.{arith}
use Rattle.lists.specs.Answers.{standing_is}
use Rattle.frame_history.proofs.Bounds.{position-small}
use Rattle.frame_history.proofs.frame_history_position.Goals as goal

pub overflow_cast-position : goal.overflow_cast-position
overflow_cast-position c = let b = position-small _ _ _ _ _ _ _ c.position.ensures (ap standing_is c.in-Ok.is) in omega (arith, b)

pub overflow_cast-steps : goal.overflow_cast-steps
overflow_cast-steps c = let b = position-small _ _ _ _ _ _ _ c.position.ensures (ap standing_is c.in-Ok.is) in omega (arith, b)

pub overflow_cast-length : goal.overflow_cast-length
overflow_cast-length c = let b = position-small _ _ _ _ _ _ _ c.position.ensures (ap standing_is c.in-Ok.is) in omega (arith, b)
