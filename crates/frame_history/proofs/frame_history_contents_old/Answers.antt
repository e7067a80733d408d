-- The goals of `frame_history::frame_history_contents_old` that want a word.
use mathlib.Core.Path.{sym, ap, ◌∙◌}
use Rattle.laws.proofs.Calls.{contents-old-is}
use Rattle.contents.specs.Answers.{told_is}
use Rattle.frame_history.proofs.Bounds.{contents-small, small-contents}
use Rattle.frame_history.proofs.frame_history_contents_old.Goals as goal

pub told_contents-requires : goal.told_contents-requires
told_contents-requires c = small-contents _ (λ t e. contents-small 4 _ _ _ _ _ (sym (contents-old-is _) ∙ c.contents_old-answer.ensures) (ap told_is e))
