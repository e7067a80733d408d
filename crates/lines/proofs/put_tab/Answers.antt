-- The goals of `lines::put_tab` that want a word.
use mathlib.Core.List.{[], ◌∷◌, ◌++◌}
use Rattle.lines.specs.Decimal.{decimal}
use Rattle.lines.specs.Reply.{end_text, tab_text}
use Rattle.lines.proofs.Texts.{room_front, room_middle, room_end, wrote_three}
use Rattle.lines.proofs.put_tab.Goals as goal

pub put_text-i-requires : goal.put_text-i-requires
unfolding tab_text
put_text-i-requires c = room_front _ _ (111 ∷ 107 ∷ []) ((32 ∷ decimal c.args.d.0) ++ end_text c.args.f.0 c.args.progress.position c.args.progress.steps) c.requires

pub put_number-j-requires : goal.put_number-j-requires
unfolding tab_text
put_number-j-requires c = room_middle _ _ (111 ∷ 107 ∷ []) (32 ∷ decimal c.args.d.0) (end_text c.args.f.0 c.args.progress.position c.args.progress.steps) c.requires _ _ c.put_text-i.ensures

pub put_end-requires : goal.put_end-requires
unfolding tab_text
put_end-requires c = room_end _ _ (111 ∷ 107 ∷ []) (32 ∷ decimal c.args.d.0) (end_text c.args.f.0 c.args.progress.position c.args.progress.steps) c.requires _ _ c.put_text-i.ensures _ _ c.put_number-j.ensures

pub returns : goal.returns
unfolding tab_text
returns c = wrote_three _ _ (111 ∷ 107 ∷ []) (32 ∷ decimal c.args.d.0) (end_text c.args.f.0 c.args.progress.position c.args.progress.steps) c.requires _ _ c.put_text-i.ensures _ _ c.put_number-j.ensures _ _ c.put_end.ensures
