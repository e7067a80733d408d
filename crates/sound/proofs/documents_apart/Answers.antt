-- The goals of `sound::documents_apart` that want a word.
use mathlib.Core.Path.{◌∙◌}
use native.Mathlib.Omega.{arith}
use borrow.Author.Rules.{rules}
use Rattle.base.proofs.Compared.{is-lower}
use Rattle.rules.specs.Words.{rows_of}
use Rattle.sound.proofs.Documents.{tail_more, tail-twice, tail_all}
use Rattle.sound.proofs.documents_apart.Goals as goal

pub returns-then-not-is_alone : goal.returns-then-not-is_alone
returns-then-not-is_alone c = tail-twice (rows_of c.args.words.now) _ _ _ c.loop-i.invariant.1 (omega arith) (omega (arith, c.requires.1)) _ c.is_alone.ensures c.if-not-is_alone.true _

pub loop-i-preserved : goal.loop-i-preserved
loop-i-preserved c = (omega arith, tail_more (rows_of c.args.words.now) _ _ _ c.loop-i.invariant.1 (omega arith) (omega (arith, c.requires.1)) _ c.is_alone.ensures c.if-not-is_alone.false _ _ _ c.document-d.ensures (search rules) (search rules))

pub returns : goal.returns
returns c = is-lower _ _ _ c.lt.ensures ∙ tail_all (rows_of c.args.words.now) _ _ _ _ c.loop-i.invariant.1 (omega arith)
