-- The goals of `sound::windows_calm` that want a word.
use mathlib.Core.Path.{ap, ◌∙◌}
use native.Mathlib.Omega.{arith}
use Rattle.rules.specs.Below.{all_below}
use Rattle.rules.specs.Rows.{frame_at}
use Rattle.rules.specs.Words.{rows_of}
use Rattle.laws.proofs.Loops.{all_done}
use Rattle.reads.proofs.Scans.{under_more}
use Rattle.sound.specs.Looks.{clear}
use Rattle.sound.proofs.Calm.{clear-before, clear-calm, look-broke, look-went}
use Rattle.sound.proofs.windows_calm.Goals as goal

pub returns-in_default : goal.returns-in_default
returns-in_default c = look-broke (rows_of c.args.words.now) _ _ c.look_on.ensures c.in_default.is c.requires.0.below

pub loop-i-init : goal.loop-i-init
loop-i-init c = let rows = rows_of c.args.words.now in
    let w = look-went rows _ _ c.look_on.ensures _ c.in-Some.is (clear-before rows _ c.requires.3) in
    (omega (arith, c.requires.0.below, c.row_count-n.ensures), w.0, c.highest_upto-high.ensures, w.1)

pub returns-in_default-look_at : goal.returns-in_default-look_at
returns-in_default-look_at c = look-broke (rows_of c.args.words.now) _ _ c.look_at.ensures c.in_default-look_at.is (omega (arith, c.row_count-n.ensures))

pub loop-i-preserved : goal.loop-i-preserved
loop-i-preserved c = let rows = rows_of c.args.words.now in
    let w = look-went rows _ _ c.look_at.ensures _ c.in-Some-look_at.is c.loop-i.invariant.1 in
    (omega arith, w.0, under_more (frame_at rows) _ _ _ c.loop-i.invariant.2 (omega (arith, c.higher-high.ensures, c.frame.ensures)), w.1)

pub returns : goal.returns
returns c = let rows = rows_of c.args.words.now in
    all_done (clear rows) _ _ c.loop-i.invariant.0 c.loop-i-test.false c.loop-i.invariant.1 ∙ ap (λ n. all_below n (clear rows)) c.row_count-n.ensures ∙ clear-calm rows
