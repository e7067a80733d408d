-- The goals of `navigates::go_from` that want a word.
use Prim.Native.Nat.{◌≤◌}
use mathlib.Core.Path.{ap}
use native.Mathlib.Omega.{arith}
use Rattle.rules.specs.Rows.{none}
use Rattle.rules.specs.Words.{table_of}
use Rattle.laws.proofs.Words.{next-doc-in}
use Rattle.laws.proofs.Accepted.{navigate-relies}
use Rattle.sound.proofs.Alone.{alone-rows}
use Rattle.sound.proofs.Checks.{examined-sound}
use Rattle.navigates.proofs.Gaps.{end-ends, gaps-window}
use Rattle.navigates.proofs.Settled.{place-asks, settle-asks, settled_is}
use Rattle.navigates.proofs.go_from.Goals as goal

pub close_gaps-k-requires : goal.close_gaps-k-requires
close_gaps-k-requires c = let w : (table_of c.args.words.now).next_doc ≤ none = omega (arith, c.slice_known-1.given 1, next-doc-in c.args.words.now) in
    let t = alone-rows c.args.words.now (examined-sound c.args.words.now c.requires.0.examined) c.requires.0.alone w in
    (c.requires.0.examined, c.requires.0.alone, w, ap (λ c. c.upcoming.0) c.requires.0.stand-is, end-ends _ t.s6 t.s7 _ c.removal_end-end.ensures)

pub place_before-at-requires : goal.place_before-at-requires
place_before-at-requires c = let w : (table_of c.args.words.now).next_doc ≤ none = omega (arith, c.slice_known-1.given 1, next-doc-in c.args.words.now) in
    let f = navigate-relies c.args.words.now _ c.requires.1 in
    place-asks c.args.words.now _ f w _ _ (gaps-window c.args.words.now _ c.requires.0.examined c.requires.0.alone w f.seen _ _ c.close_gaps-k.ensures)

pub settle-requires : goal.settle-requires
settle-requires c = let w : (table_of c.args.words.now).next_doc ≤ none = omega (arith, c.slice_known-1.given 1, next-doc-in c.args.words.now) in
    let f = navigate-relies c.args.words.now _ c.requires.1 in
    settle-asks c.args.words.now _ f w _ _ (gaps-window c.args.words.now _ c.requires.0.examined c.requires.0.alone w f.seen _ _ c.close_gaps-k.ensures) _ _ _ c.row_count-n.ensures c.next_document-d.ensures c.place_before-at.ensures.0

pub returns : goal.returns
returns c = let w : (table_of c.args.words.now).next_doc ≤ none = omega (arith, c.slice_known-1.given 1, next-doc-in c.args.words.now) in
    let f = navigate-relies c.args.words.now _ c.requires.1 in
    (c.next_document-d.ensures, settled_is c.args.words.now _ f w _ _ (gaps-window c.args.words.now _ c.requires.0.examined c.requires.0.alone w f.seen _ _ c.close_gaps-k.ensures) _ _ _ _ _ c.row_count-n.ensures c.next_document-d.ensures c.next_frame_number-next.ensures c.place_before-at.ensures.0 c.place_before-at.ensures.1 c.settle.ensures)
