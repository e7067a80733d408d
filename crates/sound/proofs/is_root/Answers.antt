-- The goals of `sound::is_root` that want a word.
use mathlib.Core.Bool.{◌&&◌}
use mathlib.Core.Path.{◌∙◌, ap}
use Rattle.rules.specs.Words.{rows_of}
use Rattle.sound.proofs.Passes.{root_is}
use Rattle.sound.proofs.is_root.Goals as goal

pub returns : goal.returns
returns c = ap (λ e. c.is_bounded.result && e) c.eq.ensures ∙ root_is (rows_of c.args.words.now) _ _ _ c.is_bounded.ensures c.parent.ensures
