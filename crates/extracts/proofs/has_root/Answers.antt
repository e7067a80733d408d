-- The goals of `extracts::has_root` that want a word.
use mathlib.Core.Path.{refl, ap, ◌∙◌}
use native.Mathlib.Omega.{arith}
use borrow.Author.Rules.{rules}
use Rattle.std.proofs.Common.{tests}
use Rattle.std.proofs.lemmas.Iterator.{serves_from_Range, YieldsList-from_range}
use Rattle.std.proofs.lemmas.Iterator.Search.{any_from_yields_List}
use Rattle.rules.specs.Below.{some_below}
use Rattle.rules.specs.Windows.{is_root}
use Rattle.rules.specs.Words.{rows_of}
use Rattle.extracts.specs.Windows.{heads}
use Rattle.extracts.proofs.Heads.{row-within}
use Rattle.extracts.proofs.Ranges.{any-below}
use Rattle.extracts.proofs.has_root.Goals as goal

pub any-requires-clause-callable : goal.any-requires-clause-callable
any-requires-clause-callable c = serves_from_Range (λ x q r. search (rules, tests)) (λ x m l. search (rules, row-within))

pub returns : goal.returns
unfolding is_root
returns c =
    let p = heads (rows_of c.args.words.now) c.args.root.0 in
    any_from_yields_List p _ _ _ c.any.ensures.ran (YieldsList-from_range 0 c.row_count-n.result c.row_count-n.result refl (omega arith)) (λ x b q k. search (rules, tests))
    ∙ any-below p c.row_count-n.result ∙ ap (λ n. some_below n p) c.row_count-n.ensures
