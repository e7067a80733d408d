-- The goals of `moves::append_frame` that want a word.
use lib.ListN.{length}
use mathlib.Core.Path.{ap, ◌∙◌}
use native.Mathlib.Omega.{arith}
use Rattle.laws.proofs.Writes.{length-put}
use Rattle.laws.proofs.Accepted.{tab-relies}
use Rattle.moves.proofs.Ways.{append-done}
use Rattle.moves.proofs.append_frame.Goals as goal

pub put_row-requires : goal.put_row-requires
put_row-requires c = let o = (tab-relies _ c.requires).roomy in omega arith

pub overflow_add-n : goal.overflow_add-n
overflow_add-n c = let o = (tab-relies _ c.requires).roomy in omega arith

pub overflow_add-document : goal.overflow_add-document
overflow_add-document c = let o = (tab-relies _ c.requires).doc in omega arith

pub overflow_add-frame : goal.overflow_add-frame
overflow_add-frame c = let o = (tab-relies _ c.requires).frame in omega arith

pub put_head-requires : goal.put_head-requires
put_head-requires c = let o = tab-relies _ c.requires in let l = o.long in let r = o.roomy in let e = ap length c.put_row.ensures ∙ length-put _ _ _ in omega arith

pub returns : goal.returns
returns c = append-done c.args.words.now (tab-relies _ c.requires) _ _ _ _ _ _ c.row_count-n.ensures c.next_document-document.ensures c.next_frame_number-frame.ensures c.put_row.ensures c.put_head.ensures
