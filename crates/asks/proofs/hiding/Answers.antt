-- The goals of `asks::hiding` that want a word.
use Rattle.asks.proofs.Climbs.{hiding-is}
use Rattle.asks.proofs.hiding.Goals as goal

pub returns : goal.returns
returns c = hiding-is _ _ _ _ c.climbed.ensures c.told.ensures
