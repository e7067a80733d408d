-- The goals of `frame_history::frame_history_stretch` that want a word.
use mir.Syntax.{w32}
use mir.ValLaws.{to_z-of_z}
use mathlib.Core.Path.{ap}
use Rattle.asks.specs.Answers.{stretch_is}
use Rattle.frame_history.proofs.Bounds.{stretch-small, small-count}
use Rattle.frame_history.proofs.frame_history_stretch.Goals as goal

pub told_count-requires : goal.told_count-requires
told_count-requires c = small-count _ (λ n e. stretch-small _ _ _ _ _ _ c.ranges.delta (simp (to_z-of_z w32 _ c.ranges.delta) at c.stretch_count-answer.ensures) (ap stretch_is e))
