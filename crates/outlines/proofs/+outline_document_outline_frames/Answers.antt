-- The goals of `outlines::outline_document` and `outlines::outline_frames` that want a word.
use Prim.Native.Nat.{ℕ, ◌+◌}
use mathlib.Core.List.{◌∷◌, ◌++◌}
use mathlib.Core.Path.{◌≡◌, sym, ap, ◌∙◌}
use native.Mathlib.Omega.{arith}
use lib.ListN.{length, length-append}
use Rattle.std.specs.Prelude.{Option, Some}
use Rattle.rules.specs.Rows.{Table, doc_at}
use Rattle.rules.specs.Words.{put, table_of}
use Rattle.base.specs.declared.RowPlace.{RowPlace}
use Rattle.laws.specs.Outlines.{frames_below, frames_text, document_text, Best}
use Rattle.laws.proofs.OutlineTexts.{document-code, run-start, run_at, run_end, run_room}
use Rattle.outlines.specs.Next.{Hidden, NextAt}
use Rattle.outlines.proofs.Nexts.{next-at, next-none}
use Rattle.outlines.proofs.Shown.{hidden-text}
use Rattle.outlines.proofs.Stores.{stored_on, stored-pair}
use Rattle.outlines.proofs.+outline_document_outline_frames.Goals as goal

-- A DOCUMENT

-- The text is the document's own two words and its frames', by the rows from the first shown one on.
text : (w : Table) (p depth d e : ℕ) → d ≡ doc_at w.rows p → Hidden w.rows (p + 1) e → document_text w p depth ≡ depth ∷ d ∷ frames_text w e (depth + 1) d
text w p depth d e x h = document-code w p depth d x ∙ ap (λ l. depth ∷ d ∷ l) (hidden-text w (depth + 1) d w.next_frame (p + 1) e h)

pub outline_document-outline_frames-requires : goal.outline_document-outline_frames-requires
outline_document-outline_frames-requires t c =
    let h = c.first_shown-first.ensures.before in
    let r = c.requires.0 in
    let e = text (table_of c.args.words.now) c.args.at.0 c.args.depth _ _ c.document-d.ensures h in (
      omega arith,
      record { long = r.long; fits = r.fits; upto = h.upto; shallow = omega (arith, r.shallow, h.after); small = omega (arith, ap length e, r.small) },
    )

pub outline_document-returns : goal.outline_document-returns
outline_document-returns t c =
    let e = text (table_of c.args.words.now) c.args.at.0 c.args.depth _ _ c.document-d.ensures c.first_shown-first.ensures.before in (
      omega (arith, c.outline_frames.ensures.0, ap length e),
      stored-pair _ _ _ _ c.args.k c.args.depth _ _ _ c.store.ensures c.store-2.ensures e c.outline_frames.ensures.1,
    )

-- ITS FRAMES

pub outline_frames-loop-at-init : goal.outline_frames-loop-at-init
outline_frames-loop-at-init t c =
    let r = run-start (table_of c.args.words.now) c.args.from.0 c.args.depth c.args.d.0 c.args.pairs.now c.args.k in
    (c.next_frame_number-limit.ensures, omega arith, r.0, r.1)

pub outline_frames-returns : goal.outline_frames-returns
outline_frames-returns t c =
    let w = table_of c.args.words.now in
    let none = next-none w.rows c.args.from.0 c.args.d.0 c.loop-at.least.0 w.next_frame (rw c.loop-at.invariant.0 at c.next_child.ensures) c.in_default.is in
    let e = run_end w c.args.from.0 c.args.depth c.args.d.0 c.loop-at.least.0 (omega arith) none in
    (omega (arith, c.loop-at.invariant.3, ap length e), c.loop-at.invariant.2 ∙ sym (ap (put c.args.pairs.now c.args.k) e))

-- The row at the match, of the frames up to the record's own next frame number.
child : (w : Table) (s d least limit : ℕ) (r : Option RowPlace) (q : RowPlace) → limit ≡ w.next_frame → NextAt w.rows s d least limit r → r ≡ Some q →
    Best w.rows s (length w.rows) d least w.next_frame q.0
child w s d least limit r q e n i = next-at w.rows s d least w.next_frame q (rw e at n) i

pub outline_frames-outline_document-free-requires : goal.outline_frames-outline_document-free-requires
outline_frames-outline_document-free-requires t c =
    let w = table_of c.args.words.now in
    let b = child w _ _ _ _ _ _ c.loop-at.invariant.0 c.next_child.ensures c.in-Some.is in
    let room = run_room w c.args.from.0 c.args.depth c.args.d.0 c.loop-at.least.0 c.in-Some.at.0 b in
    let r = c.requires in (
      omega (arith, b.after, b.inside),
      (
        record {
          long = r.long;
          fits = r.fits;
          upto = omega (arith, b.inside);
          shallow = omega (arith, r.shallow, b.after);
          small = omega (arith, r.small, c.loop-at.invariant.3, room);
        },
        b.inside,
      ),
    )

pub outline_frames-frame-requires : goal.outline_frames-frame-requires
outline_frames-frame-requires t c =
    record { fits = c.requires.fits; below = (child (table_of c.args.words.now) _ _ _ _ _ _ c.loop-at.invariant.0 c.next_child.ensures c.in-Some.is).inside }

-- Its frame number is below the limit, so the next one fits.
pub outline_frames-overflow_add-least : goal.outline_frames-overflow_add-least
outline_frames-overflow_add-least t c =
    let b = child (table_of c.args.words.now) _ _ _ _ _ _ c.loop-at.invariant.0 c.next_child.ensures c.in-Some.is in
    omega (arith, b.limited, c.next_frame_number-limit.type_inv)

pub outline_frames-loop-at-smaller : goal.outline_frames-loop-at-smaller
outline_frames-loop-at-smaller t c =
    let b = child (table_of c.args.words.now) _ _ _ _ _ _ c.loop-at.invariant.0 c.next_child.ensures c.in-Some.is in
    omega (arith, b.from_on, b.limited)

pub outline_frames-loop-at-preserved : goal.outline_frames-loop-at-preserved
outline_frames-loop-at-preserved t c =
    let w = table_of c.args.words.now in
    let b = child w _ _ _ _ _ _ c.loop-at.invariant.0 c.next_child.ensures c.in-Some.is in
    let done = frames_below w c.args.from.0 c.args.depth c.args.d.0 c.loop-at.least.0 in
    let more = document_text w c.in-Some.at.0 c.args.depth in
    let run : frames_below w c.args.from.0 c.args.depth c.args.d.0 (c.frame.result.0 + 1) ≡ done ++ more = rw c.frame.ensures (run_at w _ _ _ _ _ b) in (
      c.loop-at.invariant.0,
      omega (arith, b.limited),
      stored_on c.args.pairs.now c.loop-at.pairs _ c.args.k c.loop-at.free done more _ c.loop-at.invariant.2 c.loop-at.invariant.3 run c.outline_document-free.ensures.1,
      omega (arith, c.outline_document-free.ensures.0, c.loop-at.invariant.3, ap length run, length-append done more),
    )
