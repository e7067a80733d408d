-- The goals of `frame_history::frame_history_traverse` that want a word.
use mathlib.Core.Path.{ap}
use native.Mathlib.Omega.{arith}
use Rattle.traverses.specs.Answers.{traversed_is}
use Rattle.frame_history.proofs.Bounds.{traverse-small, small-count}
use Rattle.frame_history.proofs.frame_history_traverse.Goals as goal

pub told_count-requires : goal.told_count-requires
told_count-requires c = small-count _ (λ n e. omega (arith, traverse-small _ _ _ _ _ _ _ c.traverse-answer.ensures (ap traversed_is e)))
