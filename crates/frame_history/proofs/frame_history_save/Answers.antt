-- The goals of `frame_history::frame_history_save` that want a word.
use mathlib.Core.Path.{ap}
use native.Mathlib.Omega.{arith}
use Rattle.saved.specs.Answers.{saving_is}
use Rattle.frame_history.proofs.Bounds.{save-small, small-count}
use Rattle.frame_history.proofs.frame_history_save.Goals as goal

pub told_count-requires : goal.told_count-requires
told_count-requires c = small-count _ (λ n e. omega (arith, save-small _ _ _ _ _ c.save-answer.ensures (ap saving_is e)))
