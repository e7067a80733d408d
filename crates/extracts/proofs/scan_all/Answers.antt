-- The goals of `extracts::scan_all` that want a word.
use native.Mathlib.Omega.{arith}
use Rattle.rules.specs.Words.{rows_of}
use Rattle.sound.proofs.Checks.{examined-sound, examined-fits}
use Rattle.extracts.proofs.Stands.{scan-start}
use Rattle.extracts.proofs.scan_all.Goals as goal

pub is_shown-shown-requires : goal.is_shown-shown-requires
is_shown-shown-requires c = record { fits = examined-fits _ c.requires; below = (examined-sound c.args.own.now c.requires).table.s1.some }

pub frame-requires : goal.frame-requires
frame-requires c = record { fits = examined-fits _ c.requires; below = (examined-sound c.args.own.now c.requires).table.s1.some }

pub loop-i-init : goal.loop-i-init
loop-i-init c = (omega arith, omega (arith, c.row_count-n.ensures, (examined-sound c.args.own.now c.requires).table.s1.some), rw (c.from.ensures, c.from-2.ensures) (scan-start (rows_of c.args.own.now) _ _ c.is_shown-shown.ensures c.frame.ensures))

pub scan_row-s-requires : goal.scan_row-s-requires
scan_row-s-requires c = (record { fits = examined-fits _ c.requires; below = omega (arith, c.row_count-n.ensures) }, omega arith, c.loop-i.invariant.2)
