-- The goals of `lines::put_text` that want a word.
use mathlib.Core.Path.{refl}
use Rattle.lines.proofs.Texts.{put_part}
use Rattle.lines.proofs.put_text.Goals as goal

pub returns : goal.returns
returns c = record { list = put_part _ _ _ _ c.requires c.copy_from_slice.ensures.after; past = refl }
