-- The goals of `lines::worded` that want a word.
use mathlib.Core.Path.{sym, ap, ◌∙◌}
use lib.Dec.{eqb}
use lib.Pointwise.{pointwise}
use Rattle.std.specs.Prelude.{Some, None}
use Rattle.lines.specs.Lines.{command_is}
use Rattle.lines.proofs.Commands.{worded_open, worded_nav, worded_go, worded_drop, worded_replace, worded_tab}
use Rattle.lines.proofs.worded.Goals as goal

pub returns-in_err-numeral : goal.returns-in_err-numeral
returns-in_err-numeral c = ap command_is c.from_residual.ensures ∙ worded_open c.args.line.now _ None c.in-Some.ensures.cases (sym c.in_err-numeral.was ∙ c.numeral.ensures)

pub returns-in-Some : goal.returns-in-Some
returns-in-Some c = worded_open c.args.line.now _ (Some _) c.in-Some.ensures.cases (sym c.in_ok-numeral.was ∙ c.numeral.ensures)

pub returns-in_err-numeral-2 : goal.returns-in_err-numeral-2
returns-in_err-numeral-2 c =
    ap command_is c.from_residual-in_err-numeral-2.ensures
    ∙ worded_nav c.args.line.now _ None c.in_default.ensures.cases c.in-Some-strip_prefix.ensures.cases (sym c.in_err-numeral-2.was ∙ c.numeral-in-Some-strip_prefix.ensures)

pub returns-in-Some-strip_prefix : goal.returns-in-Some-strip_prefix
returns-in-Some-strip_prefix c =
    worded_nav c.args.line.now _ (Some _) c.in_default.ensures.cases c.in-Some-strip_prefix.ensures.cases (sym c.in_ok-numeral-2.was ∙ c.numeral-in-Some-strip_prefix.ensures)

pub returns-in-Some-strip_prefix-2 : goal.returns-in-Some-strip_prefix-2
returns-in-Some-strip_prefix-2 c =
    c.going.ensures ∙ worded_go c.args.line.now c.in_default.ensures.cases c.in_default-strip_prefix.ensures.cases _ c.in-Some-strip_prefix-2.ensures.cases

pub returns-in_err-numeral-3 : goal.returns-in_err-numeral-3
returns-in_err-numeral-3 c =
    ap command_is c.from_residual-in_err-numeral-3.ensures
    ∙ worded_drop c.args.line.now c.in_default.ensures.cases c.in_default-strip_prefix.ensures.cases c.in_default-strip_prefix-2.ensures.cases
    _ None c.in-Some-strip_prefix-3.ensures.cases (sym c.in_err-numeral-3.was ∙ c.numeral-in-Some-strip_prefix-3.ensures)

pub returns-in-Some-strip_prefix-3 : goal.returns-in-Some-strip_prefix-3
returns-in-Some-strip_prefix-3 c =
    worded_drop c.args.line.now c.in_default.ensures.cases c.in_default-strip_prefix.ensures.cases c.in_default-strip_prefix-2.ensures.cases
    _ (Some _) c.in-Some-strip_prefix-3.ensures.cases (sym c.in_ok-numeral-3.was ∙ c.numeral-in-Some-strip_prefix-3.ensures)

pub returns-in_err-numeral-4 : goal.returns-in_err-numeral-4
returns-in_err-numeral-4 c =
    ap command_is c.from_residual-in_err-numeral-4.ensures
    ∙ worded_replace c.args.line.now c.in_default.ensures.cases c.in_default-strip_prefix.ensures.cases c.in_default-strip_prefix-2.ensures.cases c.in_default-strip_prefix-3.ensures.cases
    _ None c.in-Some-strip_prefix-4.ensures.cases (sym c.in_err-numeral-4.was ∙ c.numeral-in-Some-strip_prefix-4.ensures)

pub returns-in-Some-strip_prefix-4 : goal.returns-in-Some-strip_prefix-4
returns-in-Some-strip_prefix-4 c =
    worded_replace c.args.line.now c.in_default.ensures.cases c.in_default-strip_prefix.ensures.cases c.in_default-strip_prefix-2.ensures.cases c.in_default-strip_prefix-3.ensures.cases
    _ (Some _) c.in-Some-strip_prefix-4.ensures.cases (sym c.in_ok-numeral-4.was ∙ c.numeral-in-Some-strip_prefix-4.ensures)

pub returns : goal.returns
returns c =
    ap command_is c.then_some.ensures
    ∙ worded_tab c.args.line.now c.in_default.ensures.cases c.in_default-strip_prefix.ensures.cases c.in_default-strip_prefix-2.ensures.cases c.in_default-strip_prefix-3.ensures.cases
    c.in_default-strip_prefix-4.ensures.cases _ (c.eq.ensures ∙ ap (pointwise eqb c.args.line.now) c.as_slice.ensures)
