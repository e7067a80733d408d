-- The goals of `lists::position_among` that want a word.
use Prim.Native.Nat.{◌≤◌}
use native.Mathlib.Omega.{arith}
use Rattle.rules.specs.Rows.{none}
use Rattle.rules.specs.Words.{table_of}
use Rattle.laws.proofs.Words.{next-doc-in}
use Rattle.sound.proofs.Checks.{examined-fits}
use Rattle.lists.proofs.Answered.{position-rootless}
use Rattle.lists.proofs.Tallies.{tally-answers}
use Rattle.lists.proofs.position_among.Goals as goal

pub returns-then-not-has_root : goal.returns-then-not-has_root
returns-then-not-has_root c = position-rootless c.args.words.now c.requires _ _ c.has_root.ensures c.if-not-has_root.true

pub overflow_add-result : goal.overflow_add-result
overflow_add-result c = omega (arith, c.count_window-t.ensures.few, examined-fits c.args.words.now c.requires)

pub returns : goal.returns
returns c = let w : (table_of c.args.words.now).next_doc ≤ none = omega (arith, c.type_inv.words 1, next-doc-in c.args.words.now) in
    tally-answers c.args.words.now c.requires w _ _ c.has_root.ensures c.if-not-has_root.false _ c.count_window-t.ensures
