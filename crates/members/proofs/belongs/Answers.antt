-- The goals of `members::belongs` that want a word.
use Rattle.base.proofs.Compared.{same}
use Rattle.rules.specs.Words.{rows_of}
use Rattle.members.proofs.Members.{member-top}
use Rattle.members.proofs.belongs.Goals as goal

pub returns-then-eq : goal.returns-then-eq
returns-then-eq c = member-top (rows_of c.args.words.now) _ _ c.requires.0.below _ c.requires.1 _ c.parent-up.ensures _ _ (same _ _ _ c.eq.ensures c.if-eq.true) c.frame.ensures c.eq-inside.ensures
