-- 001's traversals of a sound record's history are the walks of document 01, and they compose. Assumes nothing.
use Prim.Native.Nat.{ℕ, suc, ◌+◌, ◌-◌, ◌≤◌}
use mathlib.Core.Path.{◌≡◌, refl, sym, ap, ap₂, ◌∙◌, subst}
use mathlib.Core.List.{List}
use mathlib.Core.Logic.{◌↔◌}
use mathlib.Core.Bool.{false}
use native.Mathlib.Omega.{arith}
use lib.Dec.{ltb}
use lib.IntN.{ℤ, pos, negsuc, ◌+ℤ◌, +ℤ_assoc}
use lib.ListN.{length}
use borrow.Author.Tests.{ltb-false, le-ltb}
use Rattle.rules.specs.Rows.{Row, doc_at, frame_at, parent_at, is_shown}
use Rattle.rules.specs.Steps.{position, steps}
use Rattle.rules.specs.Moves.{walked}
use Rattle.rules.specs.Calls.{outside}
use Rattle.laws.proofs.Tests.{test}
use Rattle.laws.proofs.Frames.{shows}
use Rattle.laws.proofs.Central.{flags_at, central, at_length, at-doc, at-frame, at-parent, at-shown, position-steps}
use Rattle.laws.proofs.Tree.{distinct}
use Rattle.laws.proofs.Travel.{walked_at}
use Rattle.laws.proofs.Removal.{SoundRows}
use Rattle.demands.specs.Model.{History, Same, Forward, Backward, Traverses}
use Rattle.demands.specs.Follows.{of_places, of_rows}
use Rattle.demands.proofs.Histories.{traverses-same, traverses-end}
use Rattle.demands.proofs.Places.{goes-forward, goes_back, only-forward, only-back}

-- Where a sum of ℤ lands.
same-landing : {m n : ℕ} → pos m ≡ pos n → m ≡ n
same-landing e = cc

pub lands-back : (p k q : ℕ) → pos p +ℤ negsuc k ≡ pos q → q + suc k ≡ p
lands-back p k q e =
    test (ltb p (suc k))
    (λ t. absurd (apart _ q (rw t at e)))
    (λ f. let l = ltb-false p (suc k) f in let z = same-landing {m = p - suc k} {n = q} (rw f at e) in omega arith)
  where
    apart : (m n : ℕ) → negsuc m ≡ pos n → ⊥
    apart m n e = let z : ◌≡◌ {A = ℕ} 0 1 = cc in omega arith

back-lands : (p k q : ℕ) → q + suc k ≡ p → pos p +ℤ negsuc k ≡ pos q
back-lands p k q e = let z : p - suc k ≡ q = omega arith in rw (le-ltb p (suc k) (omega arith)) (ap pos z)

-- The history of these rows at position p.
abbrev pub places_at : List Row → ℕ → History
places_at rows p = of_places (length rows) (doc_at rows) (frame_at rows) (parent_at rows) (shows (length rows) (frame_at rows) p)

pub at-history : (p : ℕ) (rows : List Row) → of_rows (flags_at p rows) ≡ places_at rows p
at-history p rows =
    ap₂ (λ n doc. of_places n doc (frame_at (flags_at p rows)) (parent_at (flags_at p rows)) (is_shown (flags_at p rows))) (at_length p rows) (at-doc p rows)
    ∙ ap₂ (λ fr par. of_places (length rows) (doc_at rows) fr par (is_shown (flags_at p rows))) (at-frame p rows) (at-parent p rows)
    ∙ ap (of_places (length rows) (doc_at rows) (frame_at rows) (parent_at rows)) (at-shown p rows)

module _ (rows : List Row) {a b : ℕ} (s : SoundRows rows a b) where
  pub now-history : places_at rows (position rows) ≡ of_rows rows
  now-history = sym (at-history (position rows) rows) ∙ ap of_rows (central rows s.s6 s.s7)

  -- The model goes by δ from a position to that position + δ,
  goes : (δ : ℤ) (p q : ℕ) → p ≤ steps rows → q ≤ steps rows → pos p +ℤ δ ≡ pos q → Traverses δ (places_at rows p) (places_at rows q)
  unfolding steps
  goes (pos k) p q l m e =
      let z : p + k ≡ q = same-landing e in
      subst (λ q. Forward k (places_at rows p) (places_at rows q)) z
      (goes-forward (length rows) (doc_at rows) (frame_at rows) (parent_at rows) (distinct s.tree) k p (omega arith))
  goes (negsuc k) p q l m e =
      let z = lands-back p k q e in
      subst (λ p. Backward (suc k) (places_at rows p) (places_at rows q)) z
      (goes_back (length rows) (doc_at rows) (frame_at rows) (parent_at rows) (distinct s.tree) (suc k) q (omega arith))

  -- and nowhere else.
  goes-only : (δ : ℤ) (p : ℕ) (K : History) → p ≤ steps rows → Traverses δ (places_at rows p) K →
      (q : ℕ) × (q ≤ steps rows) × (pos p +ℤ δ ≡ pos q) × Same (places_at rows q) K
  unfolding steps
  goes-only (pos k) p K l t =
      let r = only-forward (length rows) (doc_at rows) (frame_at rows) (parent_at rows) (distinct s.tree) k p K l t in
      (p + k, r.0, refl, r.1)
  goes-only (negsuc k) p K l t =
      let r = only-back (length rows) (doc_at rows) (frame_at rows) (parent_at rows) (distinct s.tree) (suc k) p K l t in
      (r.0, omega (arith, r.1), back-lands p k r.0 r.1, r.2)

  -- The model has a traversal by δ only where position + δ lies within the steps.
  pub traversed-inside : (δ : ℤ) (K : History) → Traverses δ (of_rows rows) K → outside (steps rows) (pos (position rows) +ℤ δ) ≡ false
  traversed-inside δ K t =
      let r = goes-only δ (position rows) K (position-steps rows) (subst (λ H. Traverses δ H K) (sym now-history) t) in
      ap (outside (steps rows)) r.2 ∙ le-ltb _ _ r.1

  -- And it is the walk.
  module _ (δ : ℤ) (h : outside (steps rows) (pos (position rows) +ℤ δ) ≡ false) where
    walk : (q : ℕ) × (q ≤ steps rows) × (pos (position rows) +ℤ δ ≡ pos q) × (of_rows (walked δ rows) ≡ places_at rows q)
    walk = let r = walked_at rows s.s6 s.s7 δ h in (r.to, r.within, r.sum, ap of_rows r.rows_are ∙ at-history r.to rows)

    pub walk-model : (K : History) → Traverses δ (of_rows rows) K ↔ Same (of_rows (walked δ rows)) K
    walk-model K =
        let w = walk in (
          λ t.
              let r = goes-only δ (position rows) K (position-steps rows) (subst (λ H. Traverses δ H K) (sym now-history) t) in
              let e : r.0 ≡ w.0 = same-landing (sym r.2 ∙ w.2) in
              subst (λ H. Same H K) (ap (places_at rows) e ∙ sym w.3) r.3,
          λ e.
              subst (λ H. Traverses δ H K) now-history (traverses-end δ (places_at rows (position rows)) (places_at rows w.0) K
              (goes δ (position rows) w.0 (position-steps rows) w.1 w.2) (subst (λ H. Same H K) w.3 e)),
        )

  -- 001, theorem 1, of the history of a sound record.
  pub theorem-1 : (δ δ' : ℤ) (K L : History) → Traverses δ (of_rows rows) K → Traverses δ' K L → Traverses (δ +ℤ δ') (of_rows rows) L
  theorem-1 δ δ' K L t u =
      let p = position rows in
      let r = goes-only δ p K (position-steps rows) (subst (λ H. Traverses δ H K) (sym now-history) t) in
      let v = goes-only δ' r.0 L r.1 (traverses-same δ' L r.3 u) in
      let sum = sym (+ℤ_assoc (pos p) δ δ') ∙ ap (λ z. z +ℤ δ') r.2 ∙ v.2 in
      subst (λ H. Traverses (δ +ℤ δ') H L) now-history (traverses-end (δ +ℤ δ') (places_at rows p) (places_at rows v.0) L (goes (δ +ℤ δ') p v.0 (position-steps rows) v.1 sum) v.3)
