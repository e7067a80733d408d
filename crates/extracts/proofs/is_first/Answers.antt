-- The goals of `extracts::is_first` that want a word.
use native.Mathlib.Omega.{arith}
use Rattle.sound.proofs.Checks.{examined-sound, examined-fits}
use Rattle.extracts.proofs.is_first.Goals as goal

pub frame-requires : goal.frame-requires
frame-requires c = record { fits = examined-fits _ c.requires; below = omega (arith, (examined-sound _ c.requires).table.s1.some) }
