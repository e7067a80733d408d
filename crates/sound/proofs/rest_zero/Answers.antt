-- The goals of `sound::rest_zero` that want a word.
use mathlib.Core.Path.{sym, refl}
use native.Mathlib.Omega.{arith}
use Rattle.sound.proofs.Passes.{rest-starts, rest_more}
use Rattle.sound.proofs.rest_zero.Goals as goal

pub loop-k-init : goal.loop-k-init
loop-k-init c = (omega arith, omega arith, omega arith, sym (rest-starts c.args.words.now _ c.requires.0))

pub loop-k-preserved : goal.loop-k-preserved
loop-k-preserved c = (omega arith, omega arith, omega arith, rest_more c.args.words.now _ _ _ c.loop-k.invariant.3 c.loop-k.invariant.2 refl)
