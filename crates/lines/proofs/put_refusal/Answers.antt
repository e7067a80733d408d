-- The goals of `lines::put_refusal` that want a word.
use lib.ListN.{length}
use Rattle.lines.proofs.Answers.{denied-plain, room_no, room_number, room_hider, wrote_hider, same-room, same_text}
use Rattle.lines.proofs.put_refusal.Goals as goal

pub put_status-requires : goal.put_status-requires
put_status-requires c = same-room _ _ c.args.at (length c.args.out.now)
    (denied-plain c.args.why _ _ _ c.from-k.ensures _ c.carried.ensures.is c.in_default.is) c.requires

pub returns-in_default : goal.returns-in_default
returns-in_default c = same_text _ _ _ _ _ _ (denied-plain c.args.why _ _ _ c.from-k.ensures _ c.carried.ensures.is c.in_default.is) c.put_status.ensures

pub put_text-i-requires : goal.put_text-i-requires
put_text-i-requires c =
    room_no c.args.why _ c.args.progress.position c.args.progress.steps c.from-k.ensures _ c.carried.ensures.is c.in-Some.d c.in-Some.is c.args.out.now c.args.at c.requires

pub put_number-j-requires : goal.put_number-j-requires
put_number-j-requires c =
    room_number c.args.why _ c.args.progress.position c.args.progress.steps c.from-k.ensures _ c.carried.ensures.is c.in-Some.d c.in-Some.is c.args.out.now c.args.at c.requires
    _ _ c.put_text-i.ensures

pub put_status-requires-2 : goal.put_status-requires-2
put_status-requires-2 c =
    room_hider c.args.why _ c.args.progress.position c.args.progress.steps c.from-k.ensures _ c.carried.ensures.is c.in-Some.d c.in-Some.is c.args.out.now c.args.at c.requires
    _ _ c.put_text-i.ensures _ _ c.put_number-j.ensures

pub returns : goal.returns
returns c =
    wrote_hider c.args.why _ c.args.progress.position c.args.progress.steps c.from-k.ensures _ c.carried.ensures.is c.in-Some.d c.in-Some.is c.args.out.now c.args.at c.requires
    _ _ c.put_text-i.ensures _ _ c.put_number-j.ensures _ _ c.put_status-2.ensures
