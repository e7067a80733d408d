-- The goals of `texts::feed` that want a word.
use mathlib.Core.Path.{refl}
use native.Mathlib.Omega.{arith}
use borrow.Author.Rules.{rules}
use lib.ListN.{length}
use Rattle.texts.proofs.Feeding.{reads_nothing, reads-settled, cut-forward, goes_in}
use Rattle.texts.proofs.feed.Goals as goal

pub loop-at-init : goal.loop-at-init
loop-at-init c = (reads_nothing _ _ _, refl, refl, refl, refl)

pub loop-at-smaller : goal.loop-at-smaller
loop-at-smaller c =
    let t = goes_in (length c.args.line.now) c.loop-at.at (length c.args.text.now) (length c.loop-at.out) c.loop-at.used c.loop-at-test.true in
    omega (arith, cut-forward _ _ _ _ _ _ c.read_line-c.ensures t.1)

pub loop-at-preserved : goal.loop-at-preserved
loop-at-preserved c =
    let t = goes_in (length c.args.line.now) c.loop-at.at (length c.args.text.now) (length c.loop-at.out) c.loop-at.used c.loop-at-test.true in
    let r = reads-settled _ _ _ _ _ _ _ _ _ _ c.loop-at.invariant.0 c.loop-at.invariant.4 _ _ c.read_line-c.ensures (omega (arith, t.0, c.loop-at.invariant.1)) _ _ _ _ c.settle-p.ensures t.2 in
    (r.0, search rules, search rules, search rules, r.1)
