-- The goals of `numerals::put_entry` that want a word.
use native.Mathlib.Omega.{arith}
use Rattle.rules.specs.Words.{rows_of}
use Rattle.numerals.proofs.Parts.{entry-wrote}
use Rattle.numerals.proofs.put_entry.Goals as goal

pub returns : goal.returns
returns c = (entry-wrote (rows_of c.args.words.now) _ _ _ _ _ _ _ _ c.document.ensures c.put_number-p.ensures.0 c.put_number.ensures.0, omega (arith, c.put_number-p.ensures.1, c.put_number.ensures.1))
