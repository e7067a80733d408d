-- The goals of `lists::lists_alone` that want a word.
use mathlib.Core.Path.{ap}
use native.Mathlib.Omega.{arith}
use Rattle.rules.specs.Words.{rows_of}
use Rattle.laws.proofs.Central.{position-steps}
use Rattle.lists.proofs.Answered.{lists-rootless, lists-short-first, lists-short-second, lists-given}
use Rattle.lists.proofs.lists_alone.Goals as goal

pub returns-then-not-is_only_root : goal.returns-then-not-is_only_root
returns-then-not-is_only_root c = lists-rootless c.args.words.now c.requires.examined _ _ c.is_only_root.ensures c.if-not-is_only_root.true _ _

pub overflow_sub-ahead : goal.overflow_sub-ahead
overflow_sub-ahead c = let here = ap (λ s. s.position) c.requires.stand-is in
    let all = ap (λ s. s.steps) c.requires.stand-is in
    omega (arith, position-steps (rows_of c.args.words.now))

pub returns-then-taken-s : goal.returns-then-taken-s
returns-then-taken-s c = lists-short-first c.args.words.now _ c.requires (c.type_inv.words 1) _ _ c.is_only_root.ensures c.if-not-is_only_root.false _ _ c.if-taken-s.true

pub returns-then-upcoming-ahead : goal.returns-then-upcoming-ahead
returns-then-upcoming-ahead c = lists-short-second c.args.words.now _ c.requires (c.type_inv.words 1) _ _ c.is_only_root.ensures c.if-not-is_only_root.false _ _ c.if-taken-s.false c.if-upcoming-ahead.true

pub returns : goal.returns
returns c = lists-given c.args.words.now _ c.requires (c.type_inv.words 1) _ _ c.is_only_root.ensures c.if-not-is_only_root.false _ _ _ _
    c.if-taken-s.false c.if-upcoming-ahead.false (c.list_taken.ensures _ c.list_mixed-begun.ensures.takens) (c.list_upcoming.ensures _ c.list_mixed-begun.ensures.upcomings)
