-- The goals of `navigates::navigate_beside` that want a word.
use mathlib.Core.Path.{refl}
use Rattle.std.specs.Prelude.{Err}
use Rattle.base.proofs.Refused.{handed-on}
use Rattle.sound.proofs.Checks.{judged-refused}
use Rattle.navigates.proofs.Judges.{sight-judged}
use Rattle.navigates.proofs.navigate_beside.Goals as goal

pub returns-in_err-judge_sight : goal.returns-in_err-judge_sight
returns-in_err-judge_sight c = rw (handed-on _ _ c.from_residual.ensures.1) (judged-refused _ (Err _) (sight-judged c.args.words.now _ _ _ (c.judge_sight.ensures c.requires) c.in_err-judge_sight.was) _ refl)
