-- The goals of `navigates::is_full_beside` that want a word.
use mathlib.Core.Path.{◌∙◌}
use borrow.Author.Tests.{lt-leb}
use Rattle.rules.specs.Words.{rows_of}
use Rattle.rules.specs.Moves.{upcoming_in}
use Rattle.sound.proofs.Checks.{examined-fits}
use Rattle.navigates.proofs.Room.{room-left-over, full-when, gap-last}
use Rattle.navigates.proofs.is_full_beside.Goals as goal

pub returns-then-capacity-n : goal.returns-then-capacity-n
returns-then-capacity-n c = full-when c.args.words.now (upcoming_in c.args.root.0 (rows_of c.args.words.now)) _ _ c.row_count-n.ensures c.capacity.ensures (examined-fits _ c.requires.0) c.if-capacity-n.true _
    (gap-last _ _ _ _ c.row_count-n.ensures c.requires.1)

pub returns-else-capacity-n : goal.returns-else-capacity-n
returns-else-capacity-n c = lt-leb _ _ c.if-capacity-n.false ∙ room-left-over c.args.words.now (upcoming_in c.args.root.0 (rows_of c.args.words.now)) _ _ c.row_count-n.ensures c.capacity.ensures c.if-capacity-n.false
