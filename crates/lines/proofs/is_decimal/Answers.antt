-- The goals of `lines::is_decimal` that want a word.
use Rattle.std.proofs.Common.{arith, ◌∙◌}
use Rattle.std.proofs.lemmas.Grind.{common_steps}
use Rattle.lines.specs.Decimal.{decimal?}
use Rattle.lines.proofs.Numerals.{all_ascii}
use Rattle.lines.proofs.is_decimal.Goals as goal

pub returns-then-not-leads_zero : goal.returns-then-not-leads_zero
unfolding decimal?
returns-then-not-leads_zero c = let h = c.all_digits.ensures ∙ all_ascii c.args.text.now in grind (arith, common_steps)

pub returns-else-not-leads_zero : goal.returns-else-not-leads_zero
unfolding decimal?
returns-else-not-leads_zero c = grind (arith, common_steps)
