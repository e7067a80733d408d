-- The goals of `lines::going` that want a word.
use mathlib.Core.Path.{sym, ap, ◌∙◌}
use Rattle.std.specs.Prelude.{Some, None}
use Rattle.lines.specs.Lines.{command_is}
use Rattle.lines.proofs.Commands.{going_alone, going_named}
use Rattle.lines.proofs.going.Goals as goal

pub returns-in_default : goal.returns-in_default
returns-in_default c = c.going_by.ensures ∙ going_alone c.args.text.now (sym c.blank.ensures ∙ c.in_default.is)

pub returns-in_err-root : goal.returns-in_err-root
returns-in_err-root c = ap command_is c.from_residual.ensures ∙ going_named c.args.text.now _ None (sym c.blank.ensures ∙ c.in-Some.is) (sym c.in_err-root.was ∙ c.numeral.ensures)

pub returns : goal.returns
returns c = c.going_by-2.ensures ∙ going_named c.args.text.now _ (Some _) (sym c.blank.ensures ∙ c.in-Some.is) (sym c.in_ok-root.was ∙ c.numeral.ensures)
