-- The goals of `navigates::is_first_gap` that want a word.
use mathlib.Core.Bool.{not}
use mathlib.Core.Path.{ap, ◌∙◌}
use Rattle.rules.specs.Words.{rows_of}
use Rattle.windows.proofs.Window.{wide_rows}
use Rattle.sound.proofs.Checks.{examined-sound, examined-fits}
use Rattle.navigates.proofs.Search.{gap-shown, gap-comes}
use Rattle.navigates.proofs.is_first_gap.Goals as goal

pub is_shown-requires : goal.is_shown-requires
is_shown-requires c = record { fits = examined-fits _ c.requires.0; below = c.requires.2 }

pub comes_in-requires : goal.comes_in-requires
comes_in-requires c = record { fits = examined-fits _ c.requires.0; below = c.requires.2 }

pub returns-then-not-is_shown : goal.returns-then-not-is_shown
returns-then-not-is_shown c = gap-comes (rows_of c.args.words.now) (wide_rows (examined-sound c.args.words.now c.requires.0).table c.requires.1) _ _ c.requires.2 c.requires.3 _ c.comes_in.ensures

pub returns-else-not-is_shown : goal.returns-else-not-is_shown
returns-else-not-is_shown c = ap not c.if-not-is_shown.false ∙ gap-shown (rows_of c.args.words.now) (wide_rows (examined-sound c.args.words.now c.requires.0).table c.requires.1) _ _ c.requires.2 _ c.is_shown.ensures c.if-not-is_shown.false
