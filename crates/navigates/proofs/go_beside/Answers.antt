-- The goals of `navigates::go_beside` that want a word.
use Prim.Native.Nat.{◌≤◌}
use native.Mathlib.Omega.{arith}
use Rattle.rules.specs.Rows.{none}
use Rattle.rules.specs.Words.{table_of}
use Rattle.laws.proofs.Words.{next-doc-in}
use Rattle.laws.proofs.Accepted.{navigate-relies}
use Rattle.navigates.proofs.Leaves.{closed-window}
use Rattle.navigates.proofs.Settled.{place-asks, settle-asks, settled_is}
use Rattle.navigates.proofs.go_beside.Goals as goal

pub place_before-left-requires : goal.place_before-left-requires
place_before-left-requires c = let w : (table_of c.args.words.now).next_doc ≤ none = omega (arith, c.slice_known-1.given 1, next-doc-in c.args.words.now) in
    let f = navigate-relies c.args.words.now _ c.requires.1 in
    place-asks c.args.words.now _ f w _ _ (closed-window c.args.words.now _ _ _ _ c.requires.2 c.close_beside-k.ensures)

pub settle-requires : goal.settle-requires
settle-requires c = let w : (table_of c.args.words.now).next_doc ≤ none = omega (arith, c.slice_known-1.given 1, next-doc-in c.args.words.now) in
    let f = navigate-relies c.args.words.now _ c.requires.1 in
    settle-asks c.args.words.now _ f w _ _ (closed-window c.args.words.now _ _ _ _ c.requires.2 c.close_beside-k.ensures) _ _ _ c.row_count-n.ensures c.next_document-d.ensures c.place_before-left.ensures.0

pub returns : goal.returns
returns c = let w : (table_of c.args.words.now).next_doc ≤ none = omega (arith, c.slice_known-1.given 1, next-doc-in c.args.words.now) in
    let f = navigate-relies c.args.words.now _ c.requires.1 in
    (c.next_document-d.ensures, settled_is c.args.words.now _ f w _ _ (closed-window c.args.words.now _ _ _ _ c.requires.2 c.close_beside-k.ensures) _ _ _ _ _ c.row_count-n.ensures c.next_document-d.ensures c.next_frame_number-next.ensures c.place_before-left.ensures.0 c.place_before-left.ensures.1 c.settle.ensures)
