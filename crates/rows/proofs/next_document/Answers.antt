-- The goals of `rows::next_document` that want a word.
use mathlib.Core.Path.{◌∙◌}
use Rattle.laws.proofs.Words.{next-doc-in}
use Rattle.rows.proofs.next_document.Goals as goal

pub returns : goal.returns
returns c = c.word.ensures ∙ next-doc-in c.args.words.now
