-- The goals of `drops::judge` that want a word.
use Prim.Native.Nat.{◌≤◌}
use native.Mathlib.Omega.{arith}
use Rattle.rules.specs.Rows.{none}
use Rattle.rules.specs.Words.{table_of}
use Rattle.laws.proofs.Words.{next-doc-in}
use Rattle.sound.proofs.Checks.{examined-fits}
use Rattle.base.proofs.Compared.{same, apart}
use Rattle.drops.proofs.Frames.{frame-within}
use Rattle.drops.proofs.Judges.{drop-root, parent-before, drop-hidden, drop-fine}
use Rattle.drops.proofs.judge.Goals as goal

pub parent-up-requires : goal.parent-up-requires
parent-up-requires c = record { fits = examined-fits _ c.requires.0; below = frame-within _ _ _ c.requires.1 }

pub returns-then-eq : goal.returns-then-eq
returns-then-eq c = drop-root c.args.words.now c.requires.0 _ _ c.requires.1 _ c.parent-up.ensures (same _ _ _ c.eq.ensures c.if-eq.true)

pub place_before-above-requires : goal.place_before-above-requires
place_before-above-requires c = parent-before c.args.words.now c.requires.0 _ _ c.requires.1 _ c.parent-up.ensures (apart _ _ _ c.eq.ensures c.if-eq.false)

pub returns-in-Some : goal.returns-in-Some
returns-in-Some c = let w : (table_of c.args.words.now).next_doc ≤ none = omega (arith, c.shared_slice_known-1.given 1, next-doc-in c.args.words.now) in
    drop-hidden c.args.words.now c.requires.0 _ _ c.requires.1 _ c.parent-up.ensures (apart _ _ _ c.eq.ensures c.if-eq.false) w _
    c.place_before-above.ensures.0 c.place_before-above.ensures.1 _ c.hiding.ensures _ c.in-Some.is

pub returns-in-None : goal.returns-in-None
returns-in-None c = let w : (table_of c.args.words.now).next_doc ≤ none = omega (arith, c.shared_slice_known-1.given 1, next-doc-in c.args.words.now) in
    drop-fine c.args.words.now c.requires.0 _ _ c.requires.1 _ c.parent-up.ensures (apart _ _ _ c.eq.ensures c.if-eq.false) w _
    c.place_before-above.ensures.0 c.place_before-above.ensures.1 _ c.hiding.ensures c.in-None.is
