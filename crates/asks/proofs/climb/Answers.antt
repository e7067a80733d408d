-- The goals of `asks::climb` that want a word.
use mathlib.Core.Path.{refl, ◌∙◌}
use Rattle.asks.proofs.Climbs.{climb-by, hiding-is}
use Rattle.asks.proofs.climb.Goals as goal

pub returns : goal.returns
returns c = c.is_nobody.ensures ∙ climb-by _ _ _ (hiding-is _ _ _ _ c.climbed.ensures refl)
