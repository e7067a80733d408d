-- The goals of `lines::going_by` that want a word.
use mathlib.Core.Path.{sym, ap, ◌∙◌}
use Rattle.std.specs.Prelude.{Some, None}
use Rattle.lines.specs.Lines.{command_is, back_by}
use Rattle.lines.proofs.Numerals.{numeral-most}
use Rattle.lines.proofs.Signs.{forth_fits, forth_is, back_fits, back_is}
use Rattle.lines.proofs.Commands.{going_back, going_forth}
use Rattle.lines.proofs.going_by.Goals as goal

pub returns-in_err-n : goal.returns-in_err-n
returns-in_err-n c = ap command_is c.from_residual.ensures ∙ going_back c.args.text.now c.args.root.0 None _ c.in-Some.ensures.cases (sym c.in_err-n.was ∙ c.numeral.ensures)

pub returns-then-n-eq0 : goal.returns-then-n-eq0
returns-then-n-eq0 c =
    ap (back_by c.args.root.0) (sym c.if-n-eq0.true) ∙ going_back c.args.text.now c.args.root.0 (Some _) _ c.in-Some.ensures.cases (sym c.in_ok-n.was ∙ c.numeral.ensures)

pub overflow_cast-result : goal.overflow_cast-result
overflow_cast-result c = back_fits _ (numeral-most c.in-Some.digits.now _ _ (sym c.numeral.ensures ∙ c.in_ok-n.was)) _ c.from.ensures

pub returns-in-Some : goal.returns-in-Some
returns-in-Some c =
    back_is _ (numeral-most c.in-Some.digits.now _ _ (sym c.numeral.ensures ∙ c.in_ok-n.was)) _ c.from.ensures c.args.root.0 c.if-n-eq0.false
    ∙ going_back c.args.text.now c.args.root.0 (Some _) _ c.in-Some.ensures.cases (sym c.in_ok-n.was ∙ c.numeral.ensures)

pub returns-in_err-n-2 : goal.returns-in_err-n-2
returns-in_err-n-2 c =
    ap command_is c.from_residual-in_err-n-2.ensures ∙ going_forth c.args.text.now c.args.root.0 None c.in_default.ensures.cases (sym c.in_err-n-2.was ∙ c.numeral-2.ensures)

pub overflow_cast-result-2 : goal.overflow_cast-result-2
overflow_cast-result-2 c = forth_fits _ (numeral-most c.args.text.now _ _ (sym c.numeral-2.ensures ∙ c.in_ok-n-2.was))

pub returns : goal.returns
returns c =
    forth_is _ (numeral-most c.args.text.now _ _ (sym c.numeral-2.ensures ∙ c.in_ok-n-2.was)) c.args.root.0
    ∙ going_forth c.args.text.now c.args.root.0 (Some _) c.in_default.ensures.cases (sym c.in_ok-n-2.was ∙ c.numeral-2.ensures)
