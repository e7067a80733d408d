-- The loop of a removal: rows that pass a test go, with all beneath them. Assumes nothing.
use Prim.Native.Nat.{ℕ, ◌+◌, ◌≤◌, ◌<◌}
use mathlib.Core.Bool.{Bool, not, ◌&&◌, So}
use mathlib.Core.List.{List}
use mathlib.Core.Path.{◌≡◌, refl, sym, subst, ◌∙◌}
use lib.ListN.{length}
use Rattle.rules.specs.Below.{earliest}
use Rattle.rules.specs.Moves.{without}
use Rattle.rules.specs.Words.{capacity, rows_of}
use Rattle.laws.proofs.Tree.{TreeOf}
use Rattle.laws.proofs.Climb.{gone-self}
use Rattle.laws.proofs.Removal.{stays}
use Rattle.laws.proofs.Loops.{Earliest, earliest-out}
use Rattle.packs.specs.Packing.{parent_kept, Moved, Over}
use Rattle.packs.proofs.Packed.{Packed, packed-starts, packed_ends, packed-sees, packed_more}
use Rattle.packs.proofs.Stays.{early-stays, stays-is}

module _ (q : ℕ → Bool) (old : List ℕ) where
  -- Up to the earliest row that passes nothing moves.
  pub gaps-start : (start : ℕ) → start ≡ earliest q (length (rows_of old)) → Packed (stays q (rows_of old)) old start start old
  gaps-start start first =
      let begins = subst (Earliest q (length (rows_of old))) (sym first) (earliest-out q (length (rows_of old))) in
      packed-starts (stays q (rows_of old)) old start begins.within (early-stays q (rows_of old) start begins.none_before)

  module _ (i k : ℕ) (new : List ℕ) (p : Packed (stays q (rows_of old)) old i k new) where
    -- A turn whose test is whether the row does not pass itself, and has no parent or one among the rows kept so far.
    pub gaps-more : {a b : ℕ} → TreeOf (rows_of old) a b → length (rows_of old) ≤ capacity old → i < length (rows_of old) →
        (v : Bool) (r : ℕ) (next : List ℕ) → v ≡ (not (q i) && parent_kept (rows_of new) k i) → Moved v new i k r next → Packed (stays q (rows_of old)) old (i + 1) r next
    gaps-more t fits l v r next e m =
        packed_more (stays q (rows_of old)) old i k new p fits l v r next (e ∙ stays-is q (rows_of old) t (rows_of new) i k l (packed-sees (stays q (rows_of old)) old i k new p fits l)) m

    -- From a place on from which all pass nothing stays.
    pub gaps-end : i ≤ length (rows_of old) → ((j : ℕ) → i ≤ j → j < length (rows_of old) → So (q j)) → Over (without q (rows_of old)) old k new
    unfolding without
    gaps-end upto rest = packed_ends (stays q (rows_of old)) old i k new p upto (λ j l m. rw (gone-self q (rows_of old) j (rest j l m)) refl)
