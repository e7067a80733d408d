-- The loop of a removal that keeps in mind parents that stay and one that goes. Assumes nothing.
use Prim.Native.Nat.{ℕ, ◌+◌, ◌-◌, ◌≤◌, ◌<◌}
use mathlib.Core.Bool.{Bool, true, false, not, ◌&&◌, ◌||◌, So, cond}
use mathlib.Core.List.{List}
use mathlib.Core.Logic.{◌≢◌, ◌⊎◌, inl, inr, ⊎_elim}
use mathlib.Core.Path.{◌≡◌, refl, sym, ap, subst, ◌∙◌}
use native.Mathlib.Omega.{arith}
use lib.Dec.{eqb}
use lib.ListN.{length}
use borrow.Author.Tests.{eqb-false, ne_eqb}
use Rattle.rules.specs.Below.{some_below}
use Rattle.rules.specs.Rows.{Row, none, doc_at, parent_at, is_doc}
use Rattle.rules.specs.Moves.{without}
use Rattle.rules.specs.Words.{capacity, rows_of}
use Rattle.laws.proofs.Tests.{test, clash, off, nth}
use Rattle.laws.proofs.Tree.{TreeOf, distinct}
use Rattle.laws.proofs.Removal.{stays, stays_up}
use Rattle.reads.specs.Within.{Within}
use Rattle.packs.specs.Packing.{doc_kept, parent_kept, last_parent, Knows, Turn, Over}
use Rattle.packs.specs.declared.Keeping.{Keeping}
use Rattle.packs.proofs.Packed.{Packed, Sees, packed-within, packed-sees}
use Rattle.packs.proofs.Stays.{held_stays, doc-told}
use Rattle.packs.proofs.Gaps.{gaps-more, gaps-end}

-- Document d is none, or that of a row before i that stays; it is neither that of a row that stays nor none.
abbrev pub StaysBefore : (ℕ → Bool) → List Row → ℕ → ℕ → Type 0
StaysBefore q rows i d = (d ≡ none) ⊎ ((j : ℕ) × (j < i) × So (stays q rows j) × (doc_at rows j ≡ d))

abbrev pub StaysNowhere : (ℕ → Bool) → List Row → ℕ → Type 0
StaysNowhere q rows d = (d ≢ none) × ((j : ℕ) → j < length rows → doc_at rows j ≡ d → stays q rows j ≡ false)

-- The rows before i are done, and what is kept in mind is so.
pub record Turned (q : ℕ → Bool) (old : List ℕ) (i : ℕ) (kept : Keeping) (new : List ℕ) : Type 0 where
  pub packed : Packed (stays q (rows_of old)) old i kept.rows new
  pub found-is : StaysBefore q (rows_of old) i kept.found.0
  pub missed-is : StaysNowhere q (rows_of old) kept.missed.0

module _ (q : ℕ → Bool) (old : List ℕ) {a b : ℕ} (tree : TreeOf (rows_of old) a b) where
  abbrev rows : List Row
  rows = rows_of old

  abbrev keep : ℕ → Bool
  keep = stays q rows

  -- The parent of a row, where the earlier row that holds it stays; and what is so before a row is so after it.
  pub parent-stays : (i : ℕ) → i < length rows → ((j : ℕ) → j < i → doc_at rows j ≡ parent_at rows i → So (keep j)) → StaysBefore q rows i (parent_at rows i)
  parent-stays i l h = ⊎_elim (λ z. inl z) (λ r. inr (r.0, r.1, h r.0 r.1 r.2, r.2)) (tree.placed i l)

  stays_on : {i j d : ℕ} → i ≤ j → StaysBefore q rows i d → StaysBefore q rows j d
  stays_on m h = ⊎_elim (λ z. inl z) (λ r. let l = r.1 in inr (r.0, omega arith, r.2, r.3)) h

  pub stays-later : {i d : ℕ} → StaysBefore q rows i d → StaysBefore q rows (i + 1) d
  stays-later {i} h = stays_on {j = i + 1} (omega arith) h

  module _ (fits : length rows ≤ capacity old) (i : ℕ) (kept : Keeping) (new : List ℕ) (t : Turned q old i kept new) (l : i < length rows) where
    sees : Sees keep rows (rows_of new) i kept.rows
    sees = packed-sees keep old i kept.rows new t.packed fits l

    told : (j : ℕ) → j < i → doc_kept (rows_of new) kept.rows (doc_at rows j) ≡ keep j
    told = doc-told q rows tree (rows_of new) i kept.rows l sees

    -- What stays before the row is kept.
    stays-kept : (d : ℕ) → StaysBefore q rows i d → doc_kept (rows_of new) kept.rows d ≡ true
    unfolding doc_kept
    stays-kept d h = ⊎_elim (λ z. rw z refl) (λ r. ap (doc_kept (rows_of new) kept.rows) (sym r.3) ∙ told r.0 r.1 ∙ r.2) h

    -- The parent of a row kept stays.
    kept-parent : (m : ℕ) → m < kept.rows → StaysBefore q rows i (parent_at (rows_of new) m)
    kept-parent m b =
        let j = nth keep i m (subst (λ x. m < x) sees.count-is b) in
        let k : j.0 < length rows = omega (arith, j.1) in
        subst (StaysBefore q rows i) (sym (sees.moved j.0 j.1 j.2).p ∙ ap (parent_at (rows_of new)) j.3)
        (stays_on (omega (arith, j.1)) (parent-stays j.0 k (λ u v e. stays_up q rows tree u j.0 v k e j.2)))

    abbrev last : ℕ
    last = last_parent (rows_of new) kept.rows kept.found.0

    -- So does that of the last row kept, or the one found where none is.
    last-stays : StaysBefore q rows i last
    unfolding last_parent
    last-stays = test (eqb kept.rows 0) (λ z. rw z t.found-is) (λ f. rw f (kept-parent (kept.rows - 1) (omega (arith, eqb-false kept.rows 0 f))))

    missed-gone : doc_kept (rows_of new) kept.rows kept.missed.0 ≡ false
    unfolding doc_kept
    missed-gone =
        let m = t.missed-is in
        rw (ne_eqb kept.missed.0 none m.0) (off (some_below kept.rows (is_doc (rows_of new) kept.missed.0)) (λ s.
        let j = held_stays q rows tree (rows_of new) i kept.rows l sees kept.missed.0 s in
        clash j.2 (m.1 j.0 (omega (arith, j.1)) j.3)))

    -- What a turn may rely on.
    pub turn-asks : Within new i × Knows (rows_of new) i kept
    turn-asks =
        let w = packed-within keep old i kept.rows new t.packed fits l in
        (w.0, record { few = w.1; last-is = stays-kept last last-stays; found-is = stays-kept kept.found.0 t.found-is; missed-is = missed-gone })

    -- By whether the parent is kept.
    abbrev up : Bool
    up = parent_kept (rows_of new) kept.rows i

    up_is : up ≡ doc_kept (rows_of new) kept.rows (parent_at rows i)
    up_is = ap (doc_kept (rows_of new) kept.rows) sees.here.p

    found-next : (c : Bool) → StaysBefore q rows (i + 1) (cond c last kept.found.0)
    found-next true = stays-later last-stays
    found-next false = stays-later t.found-is

    missed-next : (v : Bool) → StaysNowhere q rows (cond (v || up) kept.missed.0 (parent_at (rows_of new) i))
    unfolding doc_kept
    missed-next true = t.missed-is
    missed-next false =
        test up
        (λ y. rw y t.missed-is)
        (λ n.
        rw (n, sees.here.p) (
          λ z. clash (ap (doc_kept (rows_of new) kept.rows) z) (sym up_is ∙ n),
          λ j m e.
              ⊎_elim
              (λ z. absurd (clash (ap (doc_kept (rows_of new) kept.rows) z) (sym up_is ∙ n)))
              (λ r. ap keep (distinct tree j r.0 m (omega (arith, r.1)) (e ∙ sym r.2)) ∙ sym (told r.0 r.1) ∙ ap (doc_kept (rows_of new) kept.rows) r.2 ∙ sym up_is ∙ n)
              (tree.placed i l),
        ))

    -- A turn whose test is whether the row passes.
    pub turn-done : (v : Bool) (next : Keeping) (left : List ℕ) → v ≡ q i → Turn v new i kept next left → Turned q old (i + 1) next left
    turn-done v next left e m =
        record {
          packed = gaps-more q old i kept.rows new t.packed tree fits l _ next.rows left (ap (λ c. not c && up) e) m.moved;
          found-is = rw m.found-is (found-next (not v && (not (eqb (parent_at (rows_of new) i) last) && up)));
          missed-is = rw m.missed-is (missed-next v);
        }

  -- After the last turn.
  pub turn_end : (i : ℕ) (kept : Keeping) (new : List ℕ) → Turned q old i kept new → i ≤ length rows → length rows ≤ i → Over (without q rows) old kept.rows new
  turn_end i kept new t x y = gaps-end q old i kept.rows new t.packed x (λ j l m. absurd (omega arith))
