-- The goals of `replaces::go_on` that want a word.
use Prim.Native.Nat.{◌≤◌}
use native.Mathlib.Omega.{arith}
use Rattle.rules.specs.Rows.{none}
use Rattle.rules.specs.Words.{table_of}
use Rattle.laws.proofs.Words.{next-doc-in}
use Rattle.laws.proofs.Accepted.{replace-relies}
use Rattle.replaces.proofs.Gaps.{gaps-begin}
use Rattle.replaces.proofs.Named.{place-asks, name-asks, end-asks, replaced-words}
use Rattle.replaces.proofs.go_on.Goals as goal

pub place_before-at-requires : goal.place_before-at-requires
place_before-at-requires c = let w : (table_of c.args.words.now).next_doc ≤ none = omega (arith, c.slice_known-1.given 1, next-doc-in c.args.words.now) in
    place-asks c.args.words.now _ (replace-relies _ _ c.requires) w _ c.row_count-n.ensures

pub close_gaps-k-requires : goal.close_gaps-k-requires
close_gaps-k-requires c = let w : (table_of c.args.words.now).next_doc ≤ none = omega (arith, c.slice_known-1.given 1, next-doc-in c.args.words.now) in
    let f = replace-relies c.args.words.now _ c.requires in
    (f.sound, w, gaps-begin c.args.words.now f.sound w f.doc _ (omega (arith, c.place_before-at.ensures.0, c.row_count-n.ensures)) _ _ c.place_before-at.ensures.1 c.next_document-m.ensures)

pub put_document-requires : goal.put_document-requires
put_document-requires c = let w : (table_of c.args.words.now).next_doc ≤ none = omega (arith, c.slice_known-1.given 1, next-doc-in c.args.words.now) in
    name-asks c.args.words.now _ (replace-relies _ _ c.requires) w _ _ c.place_before-at.ensures.0 c.row_count-n.ensures c.place_before-at.ensures.1 _ _ c.close_gaps-k.ensures

pub overflow_add-m : goal.overflow_add-m
overflow_add-m c = let w = (replace-relies _ _ c.requires).doc in
    omega (arith, c.next_document-m.ensures, c.slice_known-1.given 1, next-doc-in c.args.words.now)

pub end_rows-requires : goal.end_rows-requires
end_rows-requires c = let w : (table_of c.args.words.now).next_doc ≤ none = omega (arith, c.slice_known-1.given 1, next-doc-in c.args.words.now) in
    end-asks c.args.words.now _ (replace-relies _ _ c.requires) w _ _ c.place_before-at.ensures.0 c.row_count-n.ensures c.place_before-at.ensures.1 _ _ c.close_gaps-k.ensures _ _ c.put_document.ensures

pub returns : goal.returns
returns c = let w : (table_of c.args.words.now).next_doc ≤ none = omega (arith, c.slice_known-1.given 1, next-doc-in c.args.words.now) in
    (c.next_document-m.ensures, replaced-words c.args.words.now _ (replace-relies _ _ c.requires) w _ _ c.place_before-at.ensures.0 c.row_count-n.ensures c.place_before-at.ensures.1 _ _ c.close_gaps-k.ensures _ _ c.put_document.ensures _ _ c.next_document-m.ensures c.next_frame_number-top.ensures c.end_rows.ensures)
