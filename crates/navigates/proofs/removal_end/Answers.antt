-- The goals of `navigates::removal_end` that want a word.
use Prim.Native.Nat.{◌+◌}
use mathlib.Core.Path.{ap, ◌∙◌}
use borrow.Author.Rules.{rules}
use Rattle.rules.specs.Words.{rows_of}
use Rattle.laws.proofs.Central.{position-steps}
use Rattle.laws.proofs.Standing.{steps-most}
use Rattle.sound.proofs.Checks.{examined-fits}
use Rattle.navigates.proofs.Gaps.{ends-early, ends_last}
use Rattle.navigates.proofs.removal_end.Goals as goal

pub overflow_add-s : goal.overflow_add-s
overflow_add-s c = let h = examined-fits _ c.requires.examined in
    let p = ap (λ s. s.frames + s.position) c.requires.stand-is in
    let q = position-steps (rows_of c.args.words.now) in
    let r = steps-most (rows_of c.args.words.now) in search rules

pub returns-then-s : goal.returns-then-s
returns-then-s c = ends-early (rows_of c.args.words.now) _ c.requires.stand-is c.if-s.true

pub returns-else-s : goal.returns-else-s
returns-else-s c = c.row_count.ensures ∙ ends_last (rows_of c.args.words.now) _ c.requires.stand-is c.if-s.false
