-- The goals of `asks::stretch` that want a word.
use native.Mathlib.Nat.{sub-zero}
use mir.Syntax.{w32}
use mir.ValLaws.{to_z-of_z}
use Rattle.asks.proofs.Answered.{stretch-all, stretch-none}
use Rattle.asks.proofs.stretch.Goals as goal

pub returns-then-n-list : goal.returns-then-n-list
returns-then-n-list c = let e = to_z-of_z w32 c.args.delta c.ranges.delta in
    rw sub-zero (stretch-all c.args.taken.now c.args.upcoming.now c.args.delta _ _ (simp e at c.own_list-list.ensures) (simp e at c.magnitude-n.ensures) c.if-n-list.true)

pub returns-else-n-list : goal.returns-else-n-list
returns-else-n-list c = let e = to_z-of_z w32 c.args.delta c.ranges.delta in
    stretch-none c.args.taken.now c.args.upcoming.now c.args.delta _ _ (simp e at c.own_list-list.ensures) (simp e at c.magnitude-n.ensures) c.if-n-list.false
