-- The goals of `navigates::is_full` that want a word.
use mathlib.Core.Path.{ap, ◌∙◌}
use borrow.Author.Tests.{lt-leb}
use Rattle.rules.specs.Words.{rows_of}
use Rattle.rules.specs.Steps.{upcoming}
use Rattle.sound.proofs.Checks.{examined-fits}
use Rattle.navigates.proofs.Room.{room-left-over, full-when, taken-all}
use Rattle.navigates.proofs.is_full.Goals as goal

pub returns-then-capacity-row_count : goal.returns-then-capacity-row_count
returns-then-capacity-row_count c = full-when c.args.words.now (upcoming (rows_of c.args.words.now)) _ _ c.row_count.ensures c.capacity.ensures (examined-fits _ c.requires.examined) c.if-capacity-row_count.true _
    (taken-all (rows_of c.args.words.now) _ _ (ap (λ s. s.position) c.requires.stand-is) (ap (λ s. s.steps) c.requires.stand-is))

pub returns-else-capacity-row_count : goal.returns-else-capacity-row_count
returns-else-capacity-row_count c = lt-leb _ _ c.if-capacity-row_count.false ∙ room-left-over c.args.words.now (upcoming (rows_of c.args.words.now)) _ _ c.row_count.ensures c.capacity.ensures c.if-capacity-row_count.false
