-- The goals of `frame_history::frame_history_contents` that want a word.
use mathlib.Core.Path.{sym, ap, ◌∙◌}
use Rattle.laws.proofs.Calls.{contents-is}
use Rattle.contents.specs.Answers.{told_is}
use Rattle.frame_history.proofs.Bounds.{contents-small, small-contents}
use Rattle.frame_history.proofs.frame_history_contents.Goals as goal

pub told_contents-requires : goal.told_contents-requires
told_contents-requires c = small-contents _ (λ t e. contents-small 8 _ _ _ _ _ (sym (contents-is _) ∙ c.contents-answer.ensures) (ap told_is e))
