-- The goals of `navigates::judge` that want a word.
use Rattle.base.proofs.Refused.{handed-on}
use Rattle.asks.specs.Answers.{sight_rungs}
use Rattle.sound.specs.Check.{Settles}
use Prim.Native.Nat.{◌≤◌}
use mathlib.Core.Path.{subst, sym, ap, ◌∙◌}
use native.Mathlib.Omega.{arith}
use Rattle.rules.specs.Rows.{none}
use Rattle.rules.specs.Words.{table_of}
use Rattle.rules.specs.Calls.{full}
use Rattle.laws.proofs.Words.{next-doc-in}
use Rattle.sound.proofs.Checks.{examined-sound}
use Rattle.navigates.proofs.Judges.{sight-judged, sight-sees, room-settles, cleared-stands}
use Rattle.navigates.proofs.judge.Goals as goal

pub returns-in_err-judge_sight : goal.returns-in_err-judge_sight
returns-in_err-judge_sight c = rw (handed-on _ _ c.from_residual.ensures.1) (sight-judged c.args.words.now _ _ _ (c.judge_sight.ensures c.requires.examined) c.in_err-judge_sight.was)

pub returns : goal.returns
returns c = let w : (table_of c.args.words.now).next_doc ≤ none = omega (arith, c.shared_slice_known-1.given 1, next-doc-in c.args.words.now) in
    let h = subst (Settles (sight_rungs c.args.words.now c.args.from.0)) c.in_ok-judge_sight.was (c.judge_sight.ensures c.requires.examined) in
    room-settles c.args.words.now _ _ _ (c.judge_sight.ensures c.requires.examined) c.in_ok-judge_sight.was _
    (c.is_full.ensures ∙ ap (full c.args.words.now) (sym (cleared-stands c.args.words.now c.args.from.0 (examined-sound c.args.words.now c.requires.examined) c.requires.alone w (sight-sees c.args.words.now c.args.from.0 h)))) _ c.judge_room.ensures
