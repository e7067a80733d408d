-- The goals of `places::set_place` that want a word.
use Rattle.places.proofs.Judged.{set-refused, set-examined, set-finite, set_room, set-done}
use Rattle.places.proofs.set_place.Goals as goal

pub free_gone-requires : goal.free_gone-requires
free_gone-requires c = set-examined c.args.words.now c.args.places.now _ c.args.place _ c.judge_setting.ensures _ c.in-Ok.is

pub put_place-requires : goal.put_place-requires
put_place-requires c = (set_room c.args.words.now c.args.places.now _ c.args.place _ c.judge_setting.ensures _ c.in-Ok.is _ c.free_gone.ensures, set-finite c.args.words.now c.args.places.now _ c.args.place _ c.judge_setting.ensures _ c.in-Ok.is)

pub returns-in-Err : goal.returns-in-Err
returns-in-Err c = set-refused c.args.words.now c.args.places.now _ c.args.place _ c.judge_setting.ensures _ c.in-Err.is

pub returns-in-Ok : goal.returns-in-Ok
returns-in-Ok c = set-done c.args.words.now c.args.places.now _ c.args.place _ c.judge_setting.ensures _ c.in-Ok.is _ _ c.free_gone.ensures c.put_place.ensures
