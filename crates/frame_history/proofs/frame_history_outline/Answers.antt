-- The goals of `frame_history::frame_history_outline` that want a word.
use mathlib.Core.Path.{ap}
use native.Mathlib.Omega.{arith}
use Rattle.laws.proofs.Words.{next-doc-in}
use Rattle.outlines.specs.Answers.{outlined_is}
use Rattle.frame_history.proofs.Bounds.{outline-small, small-count}
use Rattle.frame_history.proofs.frame_history_outline.Goals as goal

pub told_count-requires : goal.told_count-requires
told_count-requires c = small-count _ (λ n e. omega (arith, outline-small _ _ _ _ _ _ (omega (arith, c.shared_slice_known-1.given 1, next-doc-in c.args.words.now)) c.outline-answer.ensures (ap outlined_is e)))
