-- The goals of `frame_history::frame_history_lists` that want a word.
use mathlib.Core.Path.{ap}
use native.Mathlib.Omega.{arith}
use Rattle.lists.specs.Answers.{listed_is}
use Rattle.frame_history.proofs.Bounds.{lists-small}
use Rattle.frame_history.proofs.frame_history_lists.Goals as goal

pub overflow_cast-takens : goal.overflow_cast-takens
overflow_cast-takens c = let b = lists-small _ _ _ _ _ _ _ _ c.lists.ensures (ap listed_is c.in-Ok.is) in omega (arith, b)

pub overflow_cast-upcomings : goal.overflow_cast-upcomings
overflow_cast-upcomings c = let b = lists-small _ _ _ _ _ _ _ _ c.lists.ensures (ap listed_is c.in-Ok.is) in omega (arith, b)
