-- Which rows stay where those that pass a test go with all beneath them, as the rows kept so far tell. Assumes nothing.
use Prim.Native.Nat.{ℕ, suc, ◌≤◌, ◌<◌}
use mathlib.Core.Bool.{Bool, false, not, ◌&&◌, So}
use mathlib.Core.List.{List}
use mathlib.Core.Logic.{⊎_elim}
use mathlib.Core.Path.{◌≡◌, refl, sym, ap, subst, ◌∙◌}
use native.Mathlib.Omega.{arith}
use lib.Dec.{eqb}
use lib.ListN.{length}
use borrow.Author.Tests.{eqb-true, eq-eqb}
use Rattle.rules.specs.Below.{some_below}
use Rattle.rules.specs.Rows.{Row, none, doc_at, parent_at, is_doc, climb}
use Rattle.rules.specs.Moves.{beneath_ask, gone, without}
use Rattle.laws.proofs.Tests.{test, clash, same_tests, or_right, or_cases, some_in, some_out, count-in, count_most, nth}
use Rattle.laws.proofs.Kept.{kept-length}
use Rattle.laws.proofs.Tree.{TreeOf, distinct, proper}
use Rattle.laws.proofs.Climb.{climb-none, climb-is}
use Rattle.laws.proofs.Removal.{stays, stays-in, gone-later}
use Rattle.packs.specs.Packing.{doc_kept, parent_kept}
use Rattle.packs.proofs.Packed.{Sees}

module _ (q : ℕ → Bool) (rows : List Row) where
  -- No more rows are left than there were.
  pub without_fewer : length (without q rows) ≤ length rows
  unfolding without
  without_fewer = omega (arith, kept-length (stays q rows) rows, count_most (stays q rows) (length rows))

  -- A row before every row that passes stays.
  pub early-stays : (u : ℕ) → ((v : ℕ) → v < u → q v ≡ false) → (i : ℕ) → i < u → So (stays q rows i)
  early-stays u none_before i l =
      stays-in q rows i (λ g. let v = gone-later q rows (suc i) i (omega arith) g in clash v.2 (none_before v.0 (omega arith)))

  -- Nothing above row i goes.
  abbrev pub upheld : ℕ → Bool
  upheld i = not (climb false (beneath_ask q rows) rows i (parent_at rows i))

  -- A row stays exactly when it does not pass itself and nothing above it goes.
  pub stays-split : (i : ℕ) → (not (q i) && upheld i) ≡ stays q rows i
  unfolding gone
  stays-split i = test (q i) (λ t. rw t refl) (λ f. rw f refl)

  -- What a turn at row i is told by the rows kept so far.
  module _ {a b : ℕ} (t : TreeOf rows a b) (new : List Row) (i k : ℕ) (below : i < length rows) (see : Sees (stays q rows) rows new i k) where
    abbrev keep : ℕ → Bool
    keep = stays q rows

    -- What they hold is the document of an earlier row that stays.
    pub held_stays : (d : ℕ) → So (some_below k (is_doc new d)) → (j : ℕ) × (j < i) × So (keep j) × (doc_at rows j ≡ d)
    held_stays d f =
        let o = some_out (is_doc new d) k f in
        let m = nth keep i o.0 (subst (λ x. o.0 < x) see.count-is o.1) in
        (m.0, m.1, m.2, sym (see.moved m.0 m.1 m.2).d ∙ ap (doc_at new) m.3 ∙ eqb-true _ _ o.2)

    -- They hold the document of an earlier row exactly when that row stays.
    pub doc-told : (j : ℕ) → j < i → doc_kept new k (doc_at rows j) ≡ keep j
    unfolding doc_kept
    doc-told j l =
        same_tests
        (λ h.
        ⊎_elim
        (λ z. absurd (proper t j (omega arith) (eqb-true _ _ z)))
        (λ f.
        let m = held_stays (doc_at rows j) f in
        subst (λ x. So (keep x)) (distinct t m.0 j (omega (arith, m.1)) (omega arith) m.3) m.2)
        (or_cases (eqb (doc_at rows j) none) _ h))
        (λ s. or_right (eqb (doc_at rows j) none) (some_in (is_doc new (doc_at rows j)) k (omega (arith, see.count-is, count-in keep i l s)) (eq-eqb _ _ (see.moved j l s).d)))

    -- They hold the parent of a row up to this one, if it has one, exactly when nothing above it goes.
    pub parent-told : (j : ℕ) → j ≤ i → doc_kept new k (parent_at rows j) ≡ upheld j
    unfolding doc_kept gone
    parent-told j l =
        ⊎_elim
        (λ z. rw (z, climb-none false (beneath_ask q rows) rows j none (λ m u. proper t m (omega arith))) refl)
        (λ r. ap (doc_kept new k) (sym r.2) ∙ doc-told r.0 (omega arith) ∙ ap not (sym (climb-is false (beneath_ask q rows) rows t j (parent_at rows j) {j = r.0} (omega arith) r.1 r.2)))
        (t.placed j (omega arith))

    -- A row stays exactly when it does not pass itself, and has no parent or one among the rows kept so far.
    pub stays-is : (not (q i) && parent_kept new k i) ≡ keep i
    stays-is = ap (λ b. not (q i) && b) (ap (doc_kept new k) see.here.p ∙ parent-told i (omega arith)) ∙ stays-split i
