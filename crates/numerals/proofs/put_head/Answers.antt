-- The goals of `numerals::put_head` that want a word.
use native.Mathlib.Omega.{arith}
use Rattle.laws.proofs.Writes.{wrote_then}
use Rattle.numerals.proofs.put_head.Goals as goal

pub returns : goal.returns
returns c = (search wrote_then, omega arith)
