-- The goals of `extracts::first_other` that want a word.
use borrow.Author.Rules.{rules}
use mathlib.Core.Bool.{So, false}
use mathlib.Core.Path.{◌≡◌, ap, ◌∙◌}
use Rattle.std.proofs.Common.{tests}
use Rattle.std.proofs.lemmas.Iterator.{serves_from_Range, first_from_Range}
use Rattle.rules.specs.Below.{earliest}
use Rattle.rules.specs.Words.{rows_of}
use Rattle.extracts.specs.Windows.{other_root}
use Rattle.extracts.proofs.Heads.{row-within}
use Rattle.extracts.proofs.Ranges.{first-below}
use Rattle.extracts.proofs.first_other.Goals as goal

pub find-first-requires-clause-callable : goal.find-first-requires-clause-callable
find-first-requires-clause-callable c = serves_from_Range (λ x q r. search (rules, tests)) (λ x m l. search (rules, row-within))

pub returns : goal.returns
returns c =
    let p = other_root c.args.root.0 (rows_of c.args.words.now) in
    c.unwrap_or.ensures
    ∙ first-below p _ _ (first_from_Range _ _ _ c.find-first.result (λ i. So (p i)) (λ i. p i ≡ false) c.find-first.ensures.ran (λ x q k. search (rules, tests)) (λ x q k. search (rules, tests)))
    ∙ ap (earliest p) c.row_count-n.ensures
