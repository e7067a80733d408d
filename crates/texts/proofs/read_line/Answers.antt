-- The goals of `texts::read_line` that want a word.
use mathlib.Core.Path.{◌≡◌, refl}
use native.Mathlib.Omega.{arith}
use Rattle.texts.proofs.Cutting.{reads_more, reads-ended, reads-past}
use Rattle.texts.proofs.read_line.Goals as goal

pub returns-then-b-eq10 : goal.returns-then-b-eq10
returns-then-b-eq10 c = reads-ended _ _ _ _ _ _ _ c.loop-i.invariant.0 c.loop-i-test.true _ refl c.if-b-eq10.true

pub loop-i-preserved : goal.loop-i-preserved
loop-i-preserved c = (reads_more _ _ _ _ _ _ _ c.loop-i.invariant.0 c.loop-i-test.true _ refl c.if-b-eq10.false _ c.keep-len.ensures.0 _ c.keep-len.ensures.1, omega arith)

pub returns : goal.returns
returns c = let e : c.max.result ≡ c.loop-i.i = omega (arith, c.max.ensures) in rw e (reads-past _ _ _ _ _ _ _ c.loop-i.invariant.0 c.loop-i-test.false)
