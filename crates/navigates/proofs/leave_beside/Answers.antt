-- The goals of `navigates::leave_beside` that want a word.
use Rattle.base.proofs.Refused.{handed-on}
use Prim.Native.Nat.{◌≤◌}
use native.Mathlib.Omega.{arith}
use Rattle.rules.specs.Rows.{none}
use Rattle.rules.specs.Words.{table_of}
use Rattle.laws.proofs.Words.{next-doc-in}
use Rattle.sound.proofs.Checks.{judged-fine, judged-refused}
use Rattle.navigates.proofs.Judges.{navigate-given}
use Rattle.navigates.proofs.Leaves.{leave-place, leave-within, leave-root, leave-search, leave-judged}
use Rattle.navigates.proofs.leave_beside.Goals as goal

pub place_before-at-requires : goal.place_before-at-requires
place_before-at-requires c = leave-place c.args.words.now _ c.requires.0 c.requires.1 _ c.row_count.ensures

pub root_of-root-requires : goal.root_of-root-requires
root_of-root-requires c = let w : (table_of c.args.words.now).next_doc ≤ none = omega (arith, c.slice_known-1.given 1, next-doc-in c.args.words.now) in
    leave-within c.args.words.now _ c.requires.0 c.requires.1 w _ _ c.row_count.ensures c.place_before-at.ensures.0 c.place_before-at.ensures.1

pub search_start-requires : goal.search_start-requires
search_start-requires c = let w : (table_of c.args.words.now).next_doc ≤ none = omega (arith, c.slice_known-1.given 1, next-doc-in c.args.words.now) in
    leave-within c.args.words.now _ c.requires.0 c.requires.1 w _ _ c.row_count.ensures c.place_before-at.ensures.0 c.place_before-at.ensures.1

pub first_gap-gap-requires : goal.first_gap-gap-requires
first_gap-gap-requires c = let w : (table_of c.args.words.now).next_doc ≤ none = omega (arith, c.slice_known-1.given 1, next-doc-in c.args.words.now) in
    leave-search c.args.words.now _ c.requires.0 c.requires.1 w _ _ c.row_count.ensures c.place_before-at.ensures.0 c.place_before-at.ensures.1 _ c.root_of-root.ensures _ c.search_start.ensures

pub go_beside-requires : goal.go_beside-requires
go_beside-requires c = let w : (table_of c.args.words.now).next_doc ≤ none = omega (arith, c.slice_known-1.given 1, next-doc-in c.args.words.now) in
    (c.requires.0, judged-fine _ _ (leave-judged c.args.words.now _ c.requires.0 c.requires.1 w _ _ c.row_count.ensures c.place_before-at.ensures.0 c.place_before-at.ensures.1 _ c.root_of-root.ensures _ c.is_full_beside.ensures c.judge_room.result c.judge_room.ensures) _ c.in_ok-judge_room.was, leave-root c.args.words.now _ c.requires.0 c.requires.1 w _ _ c.row_count.ensures c.place_before-at.ensures.0 c.place_before-at.ensures.1 _ c.root_of-root.ensures, c.first_gap-gap.ensures)

pub returns-in_err-judge_room : goal.returns-in_err-judge_room
returns-in_err-judge_room c = let w : (table_of c.args.words.now).next_doc ≤ none = omega (arith, c.slice_known-1.given 1, next-doc-in c.args.words.now) in
    rw (handed-on _ _ c.from_residual.ensures.1) (judged-refused _ _ (leave-judged c.args.words.now _ c.requires.0 c.requires.1 w _ _ c.row_count.ensures c.place_before-at.ensures.0 c.place_before-at.ensures.1 _ c.root_of-root.ensures _ c.is_full_beside.ensures c.judge_room.result c.judge_room.ensures) _ c.in_err-judge_room.was)

pub returns : goal.returns
returns c = let w : (table_of c.args.words.now).next_doc ≤ none = omega (arith, c.slice_known-1.given 1, next-doc-in c.args.words.now) in
    navigate-given c.args.words.now _ (judged-fine _ _ (leave-judged c.args.words.now _ c.requires.0 c.requires.1 w _ _ c.row_count.ensures c.place_before-at.ensures.0 c.place_before-at.ensures.1 _ c.root_of-root.ensures _ c.is_full_beside.ensures c.judge_room.result c.judge_room.ensures) _ c.in_ok-judge_room.was) _ _ c.go_beside.ensures.0 c.go_beside.ensures.1
