-- The goals of `writes::clear` that want a word.
use Rattle.std.proofs.Common.{◌++◌, [], ◌∷◌, refl, ap, ◌∙◌, arith}
use Rattle.std.proofs.lemmas.List.{take_more_set, replicate-append-replicate}
use Rattle.writes.proofs.Parts.{clear_part, all_zero}
use Rattle.writes.proofs.clear.Goals as goal

pub loop-word-init : goal.loop-word-init
loop-word-init c = refl

pub loop-word-preserved : goal.loop-word-preserved
loop-word-preserved c = take_more_set _ _ 0 (omega (arith, c.loop-word.auto.word-items, c.loop-word-test.true)) ∙ ap (λ t. t ++ (0 ∷ [])) c.loop-word.invariant ∙ replicate-append-replicate _ 1 0

pub returns : goal.returns
returns c = clear_part _ _ _ _ c.requires.0 c.requires.1 (all_zero _ _ _ c.loop-word.auto.word-items c.loop-word-test.false c.loop-word.invariant)
