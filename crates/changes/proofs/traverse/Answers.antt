-- The goals of `changes::traverse` that want a word.
use mir.Syntax.{w32}
use mir.ValLaws.{to_z-of_z}
use Rattle.base.proofs.Refused.{handed-on}
use Rattle.changes.proofs.Routes.{routes-stayed, routes-went}
use Rattle.changes.proofs.Filling.{traverse-stayed, traverse-went}
use Rattle.changes.proofs.traverse.Goals as goal

pub returns-in_err-route : goal.returns-in_err-route
returns-in_err-route c =
    let e = to_z-of_z w32 c.args.delta c.ranges.delta in
    rw (handed-on _ _ c.from_residual.ensures.1) (traverse-stayed _ _ _ _ _ _ (routes-stayed _ _ _ _ _ _ (simp e at c.shift.ensures) _ c.in_err-route.was))

pub returns : goal.returns
returns c =
    let e = to_z-of_z w32 c.args.delta c.ranges.delta in
    traverse-went _ _ _ _ _ _ (routes-went _ _ _ _ _ _ (simp e at c.shift.ensures) _ c.in_ok-route.was) _ c.fill.ensures
