-- The goals of `changes::fill` that want a word.
use mathlib.Core.Path.{refl}
use native.Mathlib.Omega.{arith}
use Rattle.std.proofs.lemmas.List.{length-take-le}
use Rattle.changes.proofs.Filling.{filled-starts, filled-awaits, filled_more, filled-ends}
use Rattle.changes.proofs.fill.Goals as goal

pub loop-row-init : goal.loop-row-init
loop-row-init c = filled-starts _ _ _ c.requires _

pub next_row-requires : goal.next_row-requires
next_row-requires c = let e = length-take-le c.args.route.trip.count c.args.rows.now c.requires.arrived.fits in
    filled-awaits _ _ _ c.requires _ _ _ c.loop-row.invariant (omega arith) (omega (arith, c.loop-row-test.true))

pub loop-row-preserved : goal.loop-row-preserved
loop-row-preserved c = let e = length-take-le c.args.route.trip.count c.args.rows.now c.requires.arrived.fits in
    filled_more _ _ _ c.requires _ _ _ c.loop-row.invariant (omega arith) _ (omega (arith, c.loop-row-test.true)) c.next_row.ensures

pub returns : goal.returns
returns c = let e = length-take-le c.args.route.trip.count c.args.rows.now c.requires.arrived.fits in
    filled-ends _ _ _ c.requires _ _ _ c.loop-row.invariant (omega arith) (omega (arith, c.loop-row-test.false)) c.args.rows.now refl
