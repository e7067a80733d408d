-- What the loop of `writes::clear` keeps: the words passed are zero.
use Rattle.std.proofs.Common.{◌≡◌, replicate, take}
use Rattle.writes.proofs.clear.Given as goal

abbrev pub invariant-loop-word : goal.invariant-loop-word
invariant-loop-word l = take l.word-index l.word-items ≡ replicate l.word-index 0
