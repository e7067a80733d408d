-- The goals of `drops::drop_sound` that want a word.
use mathlib.Core.Path.{refl}
use Rattle.std.specs.Prelude.{Err}
use Rattle.base.specs.declared.Refusal.TheVariants.{Absent}
use Rattle.base.proofs.Refused.{handed-on}
use Rattle.sound.proofs.Checks.{judged-fine, judged-refused}
use Rattle.drops.proofs.Judges.{drop-absent, drop-given}
use Rattle.drops.proofs.drop_sound.Goals as goal

pub returns-in_default : goal.returns-in_default
returns-in_default c = judged-refused _ (Err Absent) (drop-absent c.args.words.now c.requires _ _ c.first_of.ensures c.in_default.is) _ refl

pub returns-in_err-judge : goal.returns-in_err-judge
returns-in_err-judge c = rw (handed-on _ _ c.from_residual.ensures.1) (judged-refused _ _ c.judge.ensures _ c.in_err-judge.was)

pub returns : goal.returns
returns c = drop-given c.args.words.now _ (judged-fine _ _ c.judge.ensures _ c.in_ok-judge.was) _ _ c.take_out.ensures.0 c.take_out.ensures.1
