-- The goals of `sound::documents_fit` that want a word.
use mathlib.Core.Path.{◌∙◌}
use native.Mathlib.Omega.{arith}
use Rattle.base.proofs.Compared.{is-lower}
use Rattle.rules.specs.Words.{rows_of}
use Rattle.sound.proofs.Documents.{rises-fit}
use Rattle.sound.proofs.documents_fit.Goals as goal

pub returns-then-rises : goal.returns-then-rises
returns-then-rises c = is-lower _ _ _ c.lt.ensures ∙ rises-fit (rows_of c.args.words.now) _ _ _ _ (omega (arith, c.requires.0.below)) c.requires.1 c.requires.2 c.if-rises.true c.requires.3
