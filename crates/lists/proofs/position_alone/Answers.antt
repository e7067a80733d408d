-- The goals of `lists::position_alone` that want a word.
use native.Mathlib.Omega.{arith}
use Rattle.lists.proofs.Answered.{position-rootless, length-fits, position-given}
use Rattle.lists.proofs.position_alone.Goals as goal

pub returns-then-not-is_only_root : goal.returns-then-not-is_only_root
returns-then-not-is_only_root c = position-rootless c.args.words.now c.requires.examined _ _ c.is_only_root.ensures c.if-not-is_only_root.true

pub overflow_add-result : goal.overflow_add-result
overflow_add-result c = omega (arith, length-fits c.args.words.now _ c.requires)

pub returns : goal.returns
returns c = position-given c.args.words.now _ c.requires (c.type_inv.words 1) _ _ c.is_only_root.ensures c.if-not-is_only_root.false
