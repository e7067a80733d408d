-- The goals of `replaces::judge_number` that want a word.
use Rattle.base.proofs.Compared.{same, apart}
use Rattle.replaces.proofs.Judges.{number-used, number-left}
use Rattle.replaces.proofs.judge_number.Goals as goal

pub returns-then-eq : goal.returns-then-eq
returns-then-eq c = number-used c.args.words.now _ c.next_document.ensures (same _ _ _ c.eq.ensures c.if-eq.true)

pub returns : goal.returns
returns c = number-left c.args.words.now _ c.next_document.ensures (apart _ _ _ c.eq.ensures c.if-eq.false)
