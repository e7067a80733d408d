-- The goals of `rows::next_frame_number` that want a word.
use mathlib.Core.Path.{◌∙◌}
use Rattle.laws.proofs.Words.{next-frame-in}
use Rattle.rows.proofs.next_frame_number.Goals as goal

pub returns : goal.returns
returns c = c.word.ensures ∙ next-frame-in c.args.words.now
