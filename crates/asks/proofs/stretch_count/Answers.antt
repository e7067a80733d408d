-- The goals of `asks::stretch_count` that want a word.
use mir.Syntax.{w32}
use mir.ValLaws.{to_z-of_z}
use Rattle.asks.proofs.Answered.{stretch-given, stretch-refused}
use Rattle.asks.proofs.stretch_count.Goals as goal

pub returns-then-list-n : goal.returns-then-list-n
returns-then-list-n c = let e = to_z-of_z w32 c.args.delta c.ranges.delta in
    stretch-refused c.args.taken.now c.args.upcoming.now c.args.delta _ _ (simp e at c.own_list-list.ensures) (simp e at c.magnitude-n.ensures) c.if-list-n.true

pub returns : goal.returns
returns c = let e = to_z-of_z w32 c.args.delta c.ranges.delta in
    stretch-given c.args.taken.now c.args.upcoming.now c.args.delta _ _ (simp e at c.own_list-list.ensures) (simp e at c.magnitude-n.ensures) c.if-list-n.false
