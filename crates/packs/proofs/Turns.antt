-- What the scans and the single writes tell. Assumes nothing.
use Prim.Native.Nat.{ℕ, ◌+◌, ◌-◌, ◌*◌, ◌≤◌, ◌<◌}
use mathlib.Core.Bool.{Bool, true, So}
use mathlib.Core.List.{List, [], ◌∷◌}
use mathlib.Core.Path.{◌≡◌, refl, sym, ap, subst, ◌∙◌}
use native.Mathlib.Omega.{arith}
use lib.ListN.{replicate}
use borrow.Author.Tests.{eqb-true, eq-eqb, ne_eqb}
use Rattle.base.specs.declared.RowPlace.{RowPlace}
use Rattle.rules.specs.Below.{some_below}
use Rattle.rules.specs.Rows.{Row, none, doc_at, parent_at, is_doc}
use Rattle.rules.specs.Words.{put}
use Rattle.laws.proofs.Tests.{clash, latest-out}
use Rattle.laws.proofs.Writes.{put-none}
use Rattle.reads.specs.Found.{found_below}
use Rattle.std.specs.Prelude.{Option, None, Some}
use Rattle.std.specs.Option.{is_some, unwrap_or}
use Rattle.reads.proofs.Scans.{found_at, found-lower, found_nothing, some-found, none_found}
use Rattle.packs.specs.Packing.{doc_kept, parent_kept, last_parent, ended}

module _ (rows : List Row) (k i up : ℕ) (named : up ≡ parent_at rows i) where
  -- A row without a parent.
  pub kept-root : up ≡ none → true ≡ parent_kept rows k i
  unfolding doc_kept
  kept-root z = rw (eq-eqb (parent_at rows i) none (sym named ∙ z)) refl

  module _ (some : up ≡ none → ⊥) where
    -- One whose parent is looked for among the first k rows, and found or not.
    kept-scan : (b : Bool) → b ≡ some_below k (is_doc rows up) → b ≡ parent_kept rows k i
    unfolding doc_kept
    kept-scan b e = rw (ne_eqb (parent_at rows i) none (λ z. some (named ∙ z)), ← named) e

    pub kept-found : (r : Option RowPlace) (b : Bool) → r ≡ found_below (is_doc rows up) k → b ≡ is_some r → b ≡ parent_kept rows k i
    kept-found None b scan e = kept-scan b (e ∙ none_found (is_doc rows up) k None scan refl)
    kept-found (Some q) b scan e = kept-scan b (e ∙ some-found (is_doc rows up) k (Some q) q scan refl)

-- The parent of the last of k rows, and where there is none.
pub last_none : (rows : List Row) (k other r : ℕ) → k ≡ 0 → r ≡ other → r ≡ last_parent rows k other
unfolding last_parent
last_none rows k other r z e = rw z e

pub last_some : (rows : List Row) (k other r : ℕ) → (k ≡ 0 → ⊥) → r ≡ parent_at rows (k - 1) → r ≡ last_parent rows k other
unfolding last_parent
last_some rows k other r n e = rw (ne_eqb k 0 n) e

-- The row found holds the document, where a row holds it.
pub found-row : (rows : List Row) (k d : ℕ) (f : Option RowPlace) (q : RowPlace) → f ≡ found_below (is_doc rows d) k → q ≡ unwrap_or f (record { 0 = 0 }) → So (some_below k (is_doc rows d)) →
    (q.0 < k) × (doc_at rows q.0 ≡ d)
found-row rows k d None q scan e s = absurd (clash s (found_nothing (is_doc rows d) k (sym scan)))
found-row rows k d (Some p) q scan e s =
    let r = found_at (is_doc rows d) k p (sym scan) in
    rw e (found-lower (is_doc rows d) k p (sym scan), eqb-true _ _ (subst (λ x. So (is_doc rows d x)) r.1 (latest-out (is_doc rows d) k r.0).1))

-- No zeros.
pub zeros-none : (l : List ℕ) (from to : ℕ) → to ≤ from → l ≡ put l (3 + 4 * from) (replicate (4 * (to - from)) 0)
zeros-none l from to h = let e : 4 * (to - from) ≡ 0 = omega arith in rw e (put-none l (3 + 4 * from))

-- The zeros and then the head.
pub ends : (w : List ℕ) (k n next top : ℕ) (w1 w2 : List ℕ) → w1 ≡ put w (3 + 4 * k) (replicate (4 * (n - k)) 0) → w2 ≡ put w1 0 (k ∷ next ∷ top ∷ []) → w2 ≡ ended w k n next top
unfolding ended
ends w k n next top w1 w2 a b = b ∙ ap (λ l. put l 0 (k ∷ next ∷ top ∷ [])) a
