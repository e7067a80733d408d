-- The nearest document that isn't shown is the one that the climb finds. Assumes nothing.
use Prim.Native.Nat.{ℕ, zero, suc, ◌<◌}
use mathlib.Core.Path.{◌≡◌, refl, sym, ap, subst, ◌∙◌}
use mathlib.Core.List.{List}
use mathlib.Core.Logic.{⊎_elim}
use mathlib.Core.Bool.{false, So, false≢true}
use native.Mathlib.Nat.{not-suc-le-zero}
use native.Mathlib.Omega.{arith}
use lib.ListN.{length}
use Rattle.rules.specs.Rows.{Row, doc_at, parent_at, in_record}
use Rattle.rules.specs.Steps.{Hider, is_nobody, hider_number, hider_at, hider_of, visible}
use Rattle.rules.specs.Words.{rows_of}
use Rattle.rules.specs.Sound.{S4, Sound}
use Rattle.rules.specs.Calls.{hider}
use Rattle.laws.proofs.Tree.{Once, once-of}
use Rattle.laws.proofs.Reflect.{record_is}
use Rattle.laws.proofs.Climb.{somebody-is, hides-itself, hider-row, hider-up, hider-cases}
use Rattle.demands.specs.Refuses.{Nearest}

pub nobody-not : {x : Hider} {h : ℕ} → x ≡ Hider.nobody → x ≡ Hider.document h → ⊥
nobody-not a b = false≢true (ap is_nobody (sym b ∙ a))

-- Where a document has one row, and a parent an earlier one.
module _ (rows : List Row) (once : Once (length rows) (doc_at rows)) (s4 : S4 rows) where
  row-nearest : (n i h : ℕ) → i < n → i < length rows → hider_at rows i ≡ Hider.document h → Nearest rows (doc_at rows i) h
  row-nearest zero i h c l e = absurd (not-suc-le-zero c)
  row-nearest (suc n) i h c l e =
      hider-cases rows once s4 i l
      (λ f q. subst (Nearest rows (doc_at rows i)) (ap hider_number (sym q ∙ e)) (Nearest.itself i l refl f))
      (λ s q. absurd (nobody-not q e))
      (λ s p j m q u. Nearest.above i l refl s p (subst (λ d. Nearest rows d h) q (row-nearest n j h (omega arith) (omega arith) (sym u ∙ e))))

  pub hider-nearest : (d h : ℕ) → So (in_record rows d) → hider_of rows d ≡ Hider.document h → Nearest rows d h
  hider-nearest d h there e =
      let r = (record_is rows d).0 there in
      subst (λ d. Nearest rows d h) r.2 (row-nearest (suc r.0) r.0 h (omega arith) r.1 (sym (hider-row rows once d {i = r.0} r.1 r.2) ∙ e))

  pub nearest-hider : {d h : ℕ} → Nearest rows d h → hider_of rows d ≡ Hider.document h
  nearest-hider {d} (Nearest.itself i l e f) = hider-row rows once d {i = i} l e ∙ hides-itself rows i f ∙ ap Hider.document e
  nearest-hider {d} (Nearest.above i l e s p up) =
      ⊎_elim
      (λ z. absurd (p z))
      (λ r.
      hider-row rows once d {i = i} l e ∙ hider-up rows once i l s p {j = r.0} r.1 r.2
      ∙ sym (hider-row rows once (parent_at rows i) {i = r.0} (omega arith) r.2) ∙ nearest-hider up)
      (s4.placed i l)

  pub nearest-one : {d h h' : ℕ} → Nearest rows d h → Nearest rows d h' → h ≡ h'
  nearest-one a b = ap hider_number (sym (nearest-hider a) ∙ nearest-hider b)

-- In a sound record the number that is told of a hidden document is the nearest's, and no other is.
module _ (words : List ℕ) (s : Sound words) where
  pub hider-is : (d : ℕ) → So (in_record (rows_of words) d) → visible (rows_of words) d ≡ false → Nearest (rows_of words) d (hider words d)
  hider-is d there f =
      let h = somebody-is (rows_of words) d f in
      hider-nearest (rows_of words) (once-of s.table) s.table.s4 d _ there (h.1 ∙ ap Hider.document (ap hider_number (sym h.1)))

  pub is-hider : (d h : ℕ) → Nearest (rows_of words) d h → h ≡ hider words d
  is-hider d h n = ap hider_number (sym (nearest-hider (rows_of words) (once-of s.table) s.table.s4 n))
