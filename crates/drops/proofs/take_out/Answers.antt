-- The goals of `drops::take_out` that want a word.
use Prim.Native.Nat.{◌-◌, ◌≤◌}
use mathlib.Core.Path.{ap₂}
use native.Mathlib.Omega.{arith}
use Rattle.rules.specs.Rows.{none, in_frame}
use Rattle.rules.specs.Words.{table_of, rows_of}
use Rattle.sound.proofs.Checks.{examined-sound, examined-long, examined-fits}
use Rattle.laws.proofs.Words.{next-doc-in}
use Rattle.drops.proofs.Frames.{frame-within, drop-begins}
use Rattle.packs.proofs.Ends.{few, end-asks, ended-out}
use Rattle.drops.proofs.take_out.Goals as goal

pub parent-requires : goal.parent-requires
parent-requires c = record { fits = examined-fits c.args.words.now c.requires.0; below = frame-within _ _ _ c.requires.1 }

pub document-requires : goal.document-requires
document-requires c = record { fits = examined-fits c.args.words.now c.requires.0; below = frame-within _ _ _ c.requires.1 }

pub close_gaps-k-requires : goal.close_gaps-k-requires
close_gaps-k-requires c = let w : (table_of c.args.words.now).next_doc ≤ none = omega (arith, c.slice_known-1.given 1, next-doc-in c.args.words.now) in
    let s = examined-sound c.args.words.now c.requires.0 in
    (s, w, drop-begins c.args.words.now s w c.args.frame.0 _ c.requires.1 _ _ c.parent.ensures c.document.ensures)

pub end_rows-requires : goal.end_rows-requires
end_rows-requires c = end-asks (in_frame (rows_of c.args.words.now) c.args.frame.0) c.args.words.now (examined-sound c.args.words.now c.requires.0) (examined-long c.args.words.now c.requires.0) _ _ _ c.close_gaps-k.ensures c.row_count-n.ensures

pub overflow_sub-result : goal.overflow_sub-result
overflow_sub-result c = omega (arith, few (in_frame (rows_of c.args.words.now) c.args.frame.0) c.args.words.now (examined-sound _ c.requires.0) (examined-long _ c.requires.0) _ _ _ c.close_gaps-k.ensures c.row_count-n.ensures)

pub overflow_cast-result : goal.overflow_cast-result
overflow_cast-result c = record { fits = omega (arith, end-asks (in_frame (rows_of c.args.words.now) c.args.frame.0) c.args.words.now (examined-sound _ c.requires.0) (examined-long _ c.requires.0) _ _ _ c.close_gaps-k.ensures c.row_count-n.ensures) }

pub returns : goal.returns
returns c = (
  ap₂ (λ x y. x - y) c.row_count-n.ensures c.close_gaps-k.ensures.count-is,
  ended-out (in_frame (rows_of c.args.words.now) c.args.frame.0) c.args.words.now (examined-sound _ c.requires.0) (examined-long _ c.requires.0) _ _ _ c.close_gaps-k.ensures c.row_count-n.ensures _ _ _ c.next_document-next.ensures c.next_frame_number-top.ensures c.end_rows.ensures,
)
