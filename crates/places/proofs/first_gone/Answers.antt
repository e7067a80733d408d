-- The goals of `places::first_gone` that want a word.
use native.Mathlib.Omega.{arith}
use Rattle.rules.specs.Words.{rows_of}
use Rattle.laws.proofs.Loops.{loops}
use Rattle.places.proofs.Freeing.{first-here, first-end}
use Rattle.places.proofs.first_gone.Goals as goal

pub loop-i-init : goal.loop-i-init
loop-i-init c = search loops

pub returns-then-is_gone : goal.returns-then-is_gone
returns-then-is_gone c = first-here (rows_of c.args.words.now) c.args.places.now _ _ _ c.entry_count-n.ensures c.loop-i.invariant.1 c.loop-i-test.true c.is_gone.ensures c.if-is_gone.true

pub loop-i-preserved : goal.loop-i-preserved
loop-i-preserved c = search loops

pub returns : goal.returns
returns c = first-end (rows_of c.args.words.now) c.args.places.now _ _ c.entry_count-n.ensures c.loop-i.invariant.0 (omega arith) c.loop-i.invariant.1
