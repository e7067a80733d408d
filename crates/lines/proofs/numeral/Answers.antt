-- The goals of `lines::numeral` that want a word.
use Prim.Native.Nat.{◌+◌}
use native.Mathlib.Omega.{arith}
use Rattle.lines.proofs.Numerals.{spelled_none, spelled-more, numeral_none, numeral_over, numeral_done, decimal_digit}
use Rattle.lines.proofs.numeral.Goals as goal

pub returns-then-not-is_decimal : goal.returns-then-not-is_decimal
returns-then-not-is_decimal c = numeral_none c.args.text.now c.args.top c.if-not-is_decimal.ensures

pub loop-b-init : goal.loop-b-init
loop-b-init c = (omega arith, spelled_none _)

pub overflow_sub-b : goal.overflow_sub-b
overflow_sub-b c = decimal_digit c.args.text.now c.if-not-is_decimal.ensures _ c.loop-b-test.true

pub returns-then-n-from : goal.returns-then-n-from
returns-then-n-from c =
    numeral_over c.args.text.now c.if-not-is_decimal.ensures _ (c.loop-b.b-index + 1) _ (spelled-more _ _ _ _ c.loop-b.invariant.1 c.from.ensures) (omega arith) (omega arith)

pub loop-b-preserved : goal.loop-b-preserved
loop-b-preserved c = (omega arith, spelled-more _ _ _ _ c.loop-b.invariant.1 c.from.ensures)

pub returns : goal.returns
returns c = numeral_done c.args.text.now c.if-not-is_decimal.ensures _ _ _ c.loop-b.invariant.1 (omega arith) c.loop-b-test.false c.loop-b.invariant.0
