-- The goals of `sound::stand_of` that want a word.
use mathlib.Core.Bool.{cond}
use mathlib.Core.Path.{◌≡◌}
use native.Mathlib.Omega.{arith}
use Rattle.laws.proofs.Words.{next-doc-in}
use Rattle.sound.proofs.Stands.{begun-before, stand-is}
use Rattle.sound.proofs.stand_of.Goals.{then-p, else-p, then-p-2, else-p-2}
use Rattle.sound.proofs.stand_of.Goals as goal

pub overflow_sub-result-2 : goal.overflow_sub-result-2
overflow_sub-result-2 c =
    let s : c.if-p.start ≡ cond c.args.p.late c.args.p.upcoming.0 c.row_count-n.result = elim c.if-p.branch [ then-p w ↦ rw w.if-p.true w.start-is | else-p w ↦ rw w.if-p.false w.start-is ] in
    let b : c.if-p-2.begun ≡ cond c.args.p.late c.args.p.begun c.args.p.frames = elim c.if-p-2.branch [ then-p-2 w ↦ rw w.if-p-2.true w.begun-is | else-p-2 w ↦ rw w.if-p-2.false w.begun-is ] in
    rw (s, b) (begun-before c.args.words.now c.requires.0 c.requires.1 (omega (arith, c.shared_slice_known-1.given 1, next-doc-in c.args.words.now)) _ c.requires.2 _ c.row_count-n.ensures)

pub returns : goal.returns
returns c =
    let s : c.if-p.start ≡ cond c.args.p.late c.args.p.upcoming.0 c.row_count-n.result = elim c.if-p.branch [ then-p w ↦ rw w.if-p.true w.start-is | else-p w ↦ rw w.if-p.false w.start-is ] in
    let b : c.if-p-2.begun ≡ cond c.args.p.late c.args.p.begun c.args.p.frames = elim c.if-p-2.branch [ then-p-2 w ↦ rw w.if-p-2.true w.begun-is | else-p-2 w ↦ rw w.if-p-2.false w.begun-is ] in
    rw (s, b) (stand-is c.args.words.now c.requires.0 c.requires.1 (omega (arith, c.shared_slice_known-1.given 1, next-doc-in c.args.words.now)) _ c.requires.2 _ c.row_count-n.ensures)
