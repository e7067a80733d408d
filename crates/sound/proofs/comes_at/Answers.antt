-- The goals of `sound::comes_at` that want a word.
use Rattle.rules.specs.Words.{rows_of}
use Rattle.sound.proofs.Passes.{prior-within}
use Rattle.sound.proofs.Calm.{own-after, own_first, comes-first, comes-step}
use Rattle.sound.proofs.comes_at.Goals as goal

pub is_shown-requires : goal.is_shown-requires
is_shown-requires c = prior-within c.args.words.now _ _ c.requires.0 (own-after (rows_of c.args.words.now) _ _ c.previous_under.ensures _ c.in-Some.is)

pub returns-in-Some : goal.returns-in-Some
returns-in-Some c = let rows = rows_of c.args.words.now in
    comes-step rows _ _ _ (own-after rows _ _ c.previous_under.ensures _ c.in-Some.is) c.is_shown.ensures

pub returns-in-None : goal.returns-in-None
returns-in-None c = let rows = rows_of c.args.words.now in
    comes-first rows _ (own_first rows _ _ c.previous_under.ensures c.in-None.is)
