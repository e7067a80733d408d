-- The goals of `rows::find` that want a word.
use native.Mathlib.Omega.{arith}
use Rattle.rows.proofs.Readable.{find_none, find-before, find-within}
use Rattle.rows.proofs.find.Goals as goal

pub returns-then-n-eq0 : goal.returns-then-n-eq0
returns-then-n-eq0 c = find_none c.args.words.now _ _ c.readable_count-n.ensures c.if-n-eq0.true

pub find_below-requires : goal.find_below-requires
find_below-requires c = find-before c.args.words.now _ c.readable_count-n.ensures (omega arith)

pub returns : goal.returns
returns c = find-within c.args.words.now _ _ _ c.readable_count-n.ensures (omega arith) c.find_below.ensures
