-- Navigate and then -1: the visible set does return. Assumes nothing.
use Prim.Native.Nat.{ℕ, suc}
use mathlib.Core.Path.{◌≡◌, refl, sym, ap, ◌∙◌, subst}
use mathlib.Core.List.{List, [], ◌∷◌, ◌++◌}
use mathlib.Core.Logic.{◌≢◌}
use mathlib.Core.Bool.{So, false, true, not}
use native.Mathlib.Omega.{arith}
use lib.Dec.{eqb}
use lib.IntN.{negsuc}
use lib.ListN.{length}
use borrow.Author.Tests.{eqb-true, eqb-false, eq-eqb}
use Rattle.rules.specs.Rows.{Row, Table, none, doc_at, is_shown, marked, climb}
use Rattle.rules.specs.Steps.{position, visible}
use Rattle.rules.specs.Windows.{window_rows, window_of}
use Rattle.rules.specs.Words.{table_of, rows_of}
use Rattle.rules.specs.Runs.{Move, after}
use Rattle.laws.specs.Alone.{cleared_all, navigated_all}
use Rattle.laws.proofs.Tests.{test, off}
use Rattle.laws.proofs.Central.{flags_at, central, at_at, at_position}
use Rattle.laws.proofs.Append.{length-snoc, snoc_new, append_at}
use Rattle.laws.proofs.Climb.{visible_ask, visible-is, sees-out}
use Rattle.laws.proofs.Removal.{SoundRows, cleared-steps}
use Rattle.laws.proofs.Travel.{walked_at}
use Rattle.laws.proofs.Navigate.{arrival, new-step, navigated-at, arrived-steps}
use Rattle.laws.proofs.Accepted.{navigate-relies}
use Rattle.windows.proofs.Window.{window-sound}
use Rattle.windows.proofs.Navigated.{navigated-here}
use Rattle.windows.proofs.Flagged.{traversed-here}
use Rattle.windows.proofs.Members.{sees-here, sees-each}
use Rattle.demands.specs.Windows.{rows_in, window_of_doc}
use Rattle.demands.specs.Readings.{BackRestoresVisible}
use Rattle.demands.proofs.Accepted.{accepted-none, accepted-after, go-relies}
use Rattle.demands.proofs.Lasting.{wide_of, table-after}
use Rattle.demands.proofs.Standing.{sound-kept, words-kept}
use Rattle.demands.proofs.Windows.{leaves-others}
use Rattle.demands.proofs.Seen.{seen-append, seen-cleared}
use Rattle.demands.proofs.Traverses.{lands-back}

-- A row that is appended and not shown is not visible, nor is a document of no row.
hidden-append : (rows : List Row) (r : Row) → eqb r.shown 1 ≡ false → visible (rows ++ r ∷ []) r.doc ≡ false
unfolding climb
hidden-append rows r h =
    let all = rows ++ r ∷ [] in
    let here : eqb (doc_at all (length rows)) r.doc ≡ true = eq-eqb _ _ (ap (λ x. x.doc) (snoc_new rows r)) in
    let off : is_shown all (length rows) ≡ false = ap (λ x. eqb x.shown 1) (snoc_new rows r) ∙ h in
    visible-is all r.doc ∙ ap (λ n. climb false (visible_ask all) all n r.doc) (length-snoc rows r) ∙ rw (here, off) refl

module _ (t : Table) (s : SoundRows t.rows t.next_doc t.next_frame) (unused : t.next_doc ≢ none) (d : ℕ) (sees : So (visible t.rows d)) where
  abbrev c : List Row
  c = cleared_all t.rows

  abbrev x : Row
  x = arrival t s unused d sees

  arrived-position : position (navigated_all t d).rows ≡ suc (position t.rows)
  arrived-position =
      ap position (navigated-at t s unused d sees) ∙ at_position _ (c ++ x ∷ []) ∙ omega (arith, arrived-steps t s unused d sees)

  -- One step back from the new document: its row is there, and not shown.
  stepped-back : (p : ℕ) → p ≡ position t.rows → flags_at p (navigated_all t d).rows ≡ flags_at p c ++ x ∷ []
  stepped-back p e =
      ap (flags_at p) (navigated-at t s unused d sees) ∙ at_at _ p (c ++ x ∷ []) ∙ append_at p c x (omega (arith, cleared-steps t.rows s))
      ∙ ap (λ b. flags_at p c ++ marked (not b) x ∷ []) (new-step t s unused d sees)

  seen_back : (p : ℕ) → p ≡ position t.rows → (e : ℕ) → visible (flags_at p (navigated_all t d).rows) e ≡ visible t.rows e
  seen_back p q e =
      ap (λ l. visible l e) (stepped-back p q) ∙ test (eqb e t.next_doc)
      (λ y.
      let same : e ≡ t.next_doc = eqb-true _ _ y in
      ap (visible (flags_at p c ++ x ∷ [])) same ∙ hidden-append (flags_at p c) x refl
      ∙ sym (off (visible t.rows e) (λ v. let o = sees-out t.rows e v in omega (arith, s.tree.below o.0 o.1, o.2))))
      (λ n.
      seen-append (flags_at p c) x e (eqb-false _ _ n) ∙ seen-cleared t.rows s p (omega arith) e
      ∙ ap (λ l. visible l e) (ap (λ p. flags_at p t.rows) q ∙ central t.rows s.s6 s.s7))

-- "the visible set does return": in the window, and in every other nothing changed.
pub back-restores-visible : BackRestoresVisible
back-restores-visible words d room wide s a b e =
    let t = table_of words in
    let v = window_of_doc words d in
    let m = Move.navigates d in
    let n = accepted-none _ a in
    let o = navigate-relies words d n in
    let rows = wide_of words wide s in
    let own = window-sound t.rows rows v in
    let sees = sees-here t.rows rows.tree v d o.seen refl in
    let next = after words m in
    let wide' = words-kept words wide s m in
    let s' = sound-kept words wide s m in
    let rows' = wide_of next wide' s' in
    let own' = window-sound (rows_of next) rows' v in
    let there : rows_in v next ≡ (navigated_all (window_of t v) d).rows =
    ap (λ (u : Table). window_rows v u.rows) (table-after words wide s m n (accepted-after words m n)) ∙ navigated-here t rows o.doc d o.seen in
    let k = Move.goes v (negsuc 0) room in
    let n' = accepted-none _ b in
    let g = (go-relies next v (negsuc 0) room n').inside in
    let w = walked_at (rows_in v next) own'.s6 own'.s7 (negsuc 0) g in
    let back : rows_in v (after next k) ≡ flags_at w.to (rows_in v next) =
    ap (λ (u : Table). window_rows v u.rows) (table-after next wide' s' k n' (accepted-after next k n')) ∙ traversed-here (table_of next) rows' v (negsuc 0) g ∙ w.rows_are in
    let stood : position (rows_in v next) ≡ suc (position (rows_in v words)) = ap position there ∙ arrived-position (window_of t v) own o.doc d sees in
    let lands = lands-back (position (rows_in v next)) 0 w.to w.sum in
    let here : visible (rows_in v (after next k)) e ≡ visible (rows_in v words) e =
    ap (λ l. visible l e) (back ∙ ap (flags_at w.to) there) ∙ seen_back (window_of t v) own o.doc d sees w.to (omega arith) e in
    let last = wide_of (after next k) (words-kept next wide' s' k) (sound-kept next wide' s' k) in
    sees-each (rows_of (after next k)) t.rows last.tree rows.tree e (λ x.
    test (eqb x v)
    (λ y. subst (λ x. visible (rows_in x (after next k)) e ≡ visible (rows_in x words) e) (sym (eqb-true x v y)) here)
    (λ y. ap (λ l. visible l e) (leaves-others next k wide' s' x (eqb-false x v y) ∙ leaves-others words m wide s x (eqb-false x v y))))
