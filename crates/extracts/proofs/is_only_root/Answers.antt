-- The goals of `extracts::is_only_root` that want a word.
use mathlib.Core.Path.{ap, ◌∙◌}
use native.Mathlib.Omega.{arith}
use lib.Dec.{eqb}
use Rattle.sound.proofs.Checks.{examined-sound, examined-fits}
use Rattle.extracts.proofs.Heads.{only-root}
use Rattle.extracts.proofs.is_only_root.Goals as goal

pub frame-requires : goal.frame-requires
frame-requires c = record { fits = examined-fits _ c.requires.examined; below = omega (arith, (examined-sound _ c.requires.examined).table.s1.some) }

pub returns : goal.returns
returns c = c.eq.ensures ∙ ap (λ x. eqb x c.args.root.0) c.frame.ensures ∙ only-root c.args.words.now _ c.requires _
