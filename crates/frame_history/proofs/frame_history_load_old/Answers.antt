-- The goals of `frame_history::frame_history_load_old` that want a word.
use mathlib.Core.Path.{ap}
use native.Mathlib.Omega.{arith}
use Rattle.laws.proofs.Calls.{load-old-is}
use Rattle.told.specs.Answers.{loading_is}
use Rattle.frame_history.proofs.Bounds.{load-small, small-count}
use Rattle.frame_history.proofs.frame_history_load_old.Goals as goal

pub told_count-requires : goal.told_count-requires
told_count-requires c = small-count _ (λ n e. omega (arith, load-small (load-old-is _ _) _ _ _ c.load_old-answer.ensures (ap loading_is e)))
