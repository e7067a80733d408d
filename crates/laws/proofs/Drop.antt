-- Drop: a frame goes with all beneath it, and the rest stays as it was. Assumes nothing.
use Prim.Native.Nat.{ℕ, ◌+◌, ◌≤◌, ◌<◌}
use mathlib.Core.Path.{◌≡◌, sym, ◌∙◌, subst}
use mathlib.Core.List.{List}
use mathlib.Core.Logic.{◌≢◌, ⊎_elim}
use mathlib.Core.Bool.{Bool, false, not, ◌&&◌, So}
use native.Mathlib.Omega.{arith}
use lib.ListN.{length}
use borrow.Author.Tests.{eqb-true, eq-eqb}
use Rattle.rules.specs.Below.{count}
use Rattle.rules.specs.Rows.{Row, Table, none, row_at, doc_at, in_record, in_frame}
use Rattle.rules.specs.Steps.{taken, position}
use Rattle.rules.specs.Moves.{without, dropped}
use Rattle.rules.specs.Saved.{parent_of}
use Rattle.laws.proofs.Tests.{clash, off, count-in}
use Rattle.laws.proofs.Kept.{kept_row, kept-length}
use Rattle.laws.proofs.Tree.{TreeOf, distinct, parent-of, came}
use Rattle.laws.proofs.Reflect.{record_is}
use Rattle.laws.proofs.Climb.{gone-cases}
use Rattle.laws.proofs.Removal.{SoundRows, Together, Removed, stays, stays-in, stays_up, removed}

-- With one row of a frame all of it passes.
pub frame-together : (rows : List Row) (f p : ℕ) → Together (in_frame rows f) rows p
frame-together rows f p j k l m e d v = eq-eqb _ _ (sym e ∙ eqb-true _ _ v)

-- The rows that stay without frame f.
abbrev pub stays_but : ℕ → List Row → ℕ → Bool
stays_but f rows = stays (in_frame rows f) rows

module _ (t : Table) (f : ℕ) where
  -- "gaps close in order, the rest keeps its flags": a row that stays reads as before, and comes after the rows that stay before it.
  pub dropped-rest : (k : ℕ) → k < length t.rows → So (stays_but f t.rows k) → row_at (dropped t f).rows (count (stays_but f t.rows) k) ≡ row_at t.rows k
  unfolding without
  dropped-rest k l h = kept_row (stays_but f t.rows) t.rows k l h

  -- So many rows stay.
  pub dropped-length : length (dropped t f).rows ≡ count (stays_but f t.rows) (length t.rows)
  unfolding without
  dropped-length = kept-length (stays_but f t.rows) t.rows

  module _ (s : SoundRows t.rows t.next_doc t.next_frame) where
    frame-removed : Removed (in_frame t.rows f) t.rows t.next_doc t.next_frame
    frame-removed = removed t.rows s (in_frame t.rows f) (frame-together t.rows f (position t.rows))

    -- The rows left are sound.
    pub dropped-sound : SoundRows (dropped t f).rows (dropped t f).next_doc (dropped t f).next_frame
    dropped-sound = frame-removed.sound

    -- "The position falls by the taken steps removed", and by nothing else.
    pub dropped-position : position (dropped t f).rows + count (λ k. not (stays_but f t.rows k) && taken t.rows k) (length t.rows) ≡ position t.rows
    dropped-position = frame-removed.falls

  module _ {a b : ℕ} (tree : TreeOf t.rows a b) where
    -- Where the frame lies in a document, the first row of the record stays: it has no parent.
    pub dropped-some : parent_of t.rows f ≢ none → 1 ≤ length t.rows → 1 ≤ length (dropped t f).rows
    dropped-some child some =
        let top = ⊎_elim (λ e. e) (λ r. absurd (omega arith)) (tree.placed 0 some) in
        let stay = stays-in (in_frame t.rows f) t.rows 0 (λ g.
        gone-cases (in_frame t.rows f) t.rows 0 g
        (λ v. child (parent-of t.rows tree.kin 0 f some (eqb-true _ _ v) ∙ top))
        (λ j l h e. omega arith)) in
        omega (arith, dropped-length, count-in (stays_but f t.rows) (length t.rows) {i = 0} some stay)

    -- The document of a row that goes is in the record no more.
    pub dropped-out : (k : ℕ) → k < length t.rows → stays_but f t.rows k ≡ false → in_record (dropped t f).rows (doc_at t.rows k) ≡ false
    unfolding without
    dropped-out k l goes =
        off _ (λ h.
        let o = (record_is (dropped t f).rows (doc_at t.rows k)).0 h in
        let c = came (stays_but f t.rows) t.rows tree (stays_up (in_frame t.rows f) t.rows tree) o.0 o.1 in
        clash (subst (λ i. So (stays_but f t.rows i)) (distinct tree c.0 k c.1 l (sym c.4.d ∙ o.2)) c.2) goes)
