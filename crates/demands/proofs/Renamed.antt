-- A row renamed: of the documents below n the same ones are visible at position p. Assumes nothing.
use Prim.Native.Nat.{ℕ, ◌≤◌, ◌<◌}
use mathlib.Core.Path.{◌≡◌, refl, sym, ap, ◌∙◌, subst}
use mathlib.Core.List.{List}
use mathlib.Core.Logic.{◌≢◌, inl, ⊎_elim}
use mathlib.Core.Bool.{So}
use native.Mathlib.Omega.{arith}
use lib.ListN.{length}
use borrow.Author.Tests.{ne_eqb}
use Rattle.rules.specs.Below.{count}
use Rattle.rules.specs.Rows.{Row, none, doc_at, frame_at, parent_at, is_shown, is_doc, in_record}
use Rattle.rules.specs.Steps.{step, is_step, steps, visible}
use Rattle.rules.specs.Moves.{renamed}
use Rattle.laws.proofs.Tests.{test, same_tests}
use Rattle.laws.proofs.Frames.{shows}
use Rattle.laws.proofs.Central.{flags_at, at_length, at-doc, at-parent, at-shown}
use Rattle.laws.proofs.Tree.{TreeOf}
use Rattle.laws.proofs.Reflect.{record_is}
use Rattle.laws.proofs.Navigate.{tree-at}
use Rattle.laws.proofs.Replace.{renamed-length, renamed-frame, renamed-parent, renamed-doc, renamed-steps, tree-renamed}
use Rattle.demands.proofs.From.{renamed-back, from-renamed}
use Rattle.demands.proofs.Seen.{seen-over}
use Rattle.demands.proofs.Steady.{Early, Closed, Steady, seen-in}

module _ (Out : Type 0) (p n : ℕ) (rows : List Row) (few : p ≤ steps rows) (closed : Closed n rows) where
  -- A document from n on renamed to a new one, which nothing lies in, where the early steps are older.
  module _ (d m : ℕ) {b : ℕ} (t : TreeOf rows m b) (left : m < none) (bare : (i : ℕ) → i < length rows → parent_at rows i ≡ d → ⊥)
      (late : n ≤ d) (new : n ≤ m) (old : (e : ℕ) → Early p rows e → e < n) where
    abbrev to : List Row
    to = renamed d m rows

    len : length to ≡ length rows
    len = renamed-length d m rows

    -- A row that is not d's own has its document still.
    same-doc : (i : ℕ) → i < length rows → doc_at rows i ≢ d → doc_at to i ≡ doc_at rows i
    same-doc i l ne = renamed-doc d m rows i l ∙ rw (ne_eqb (doc_at rows i) d ne) refl

    -- A document below n stands where it stood.
    doc-on : (i e : ℕ) → i < length rows → e < n → doc_at rows i ≡ e → doc_at to i ≡ e
    doc-on i e l x q = same-doc i l (λ z. omega arith) ∙ q

    renamed-noted : (e : ℕ) → Early p to e → Early p rows e
    renamed-noted e h =
        let k = h.0 in
        let l : k < length rows = subst (λ n. k < n) len h.1 in
        let s : So (is_step rows k) = ap (λ fr. step fr k) (sym (renamed-frame d m rows)) ∙ h.3 in
        let c : count (is_step rows) k < p = subst (λ fr. count (step fr) k < p) (renamed-frame d m rows) h.4 in
        let x = old (doc_at rows k) (k, l, refl, s, c) in
        (k, l, sym (same-doc k l (λ z. omega arith)) ∙ h.2, s, c)

    -- A document of which a row lies in another, by the old numbers and the new.
    over : (i j : ℕ) → j < i → i < length rows → doc_at rows j ≡ parent_at rows i → doc_at to j ≡ parent_at to i
    over i j l x e = same-doc j (omega arith) (λ z. bare i x (sym e ∙ z)) ∙ e ∙ ap (λ f. f i) (sym (renamed-parent d m rows))

    back-over : (i j : ℕ) → j < i → i < length rows → doc_at to j ≡ parent_at to i → doc_at rows j ≡ parent_at rows i
    back-over i j l x e =
        let q : doc_at to j ≡ parent_at rows i = e ∙ ap (λ f. f i) (renamed-parent d m rows) in
        let r = renamed-doc d m rows j (omega arith) in
        test (is_doc rows d j)
        (λ y.
        let z : m ≡ parent_at rows i = sym (rw y at r) ∙ q in
        absurd (⊎_elim (λ w. omega arith) (λ w. omega (arith, t.below w.0 (omega (arith, w.1)), w.2)) (t.placed i x)))
        (λ y. sym (rw y at r) ∙ q)

    -- The flags at position p are the same.
    marks : (i : ℕ) → is_shown (flags_at p to) i ≡ is_shown (flags_at p rows) i
    marks i =
        ap (λ f. f i) (at-shown p to) ∙ ap (λ n. shows n (frame_at to) p i) len ∙ ap (λ f. shows (length rows) f p i) (renamed-frame d m rows)
        ∙ ap (λ f. f i) (sym (at-shown p rows))

    parents : (i : ℕ) → parent_at (flags_at p to) i ≡ parent_at (flags_at p rows) i
    parents i = ap (λ f. f i) (at-parent p to) ∙ ap (λ f. f i) (renamed-parent d m rows) ∙ ap (λ f. f i) (sym (at-parent p rows))

    seen-renamed : (e : ℕ) → e < n → So (in_record to e) → visible (flags_at p to) e ≡ visible (flags_at p rows) e
    seen-renamed e x h =
        let o = (record_is to e).0 h in
        let l : o.0 < length rows = subst (λ n. o.0 < n) len o.1 in
        let a : doc_at (flags_at p to) o.0 ≡ e = ap (λ f. f o.0) (at-doc p to) ∙ o.2 in
        let c : doc_at (flags_at p rows) o.0 ≡ e = ap (λ f. f o.0) (at-doc p rows) ∙ renamed-back n d m rows new o.0 e l x o.2 in
        let n1 = at_length p to in
        let n2 = at_length p rows in
        let tree = tree-renamed d m rows t left bare in
        same_tests
        (seen-over (flags_at p to) (flags_at p rows) (tree-at p to tree) (tree-at p rows t)
        (λ i k. (omega (arith, len), λ s. sym (marks i) ∙ s, parents i))
        (λ i j k y q.
        ap (λ f. f j) (at-doc p rows) ∙ back-over i j k (omega (arith, len)) (ap (λ f. f j) (sym (at-doc p to)) ∙ q ∙ ap (λ f. f i) (at-parent p to)) ∙ ap (λ f. f i) (sym (at-parent p rows)))
        e o.0 (omega (arith, o.1)) a c)
        (seen-over (flags_at p rows) (flags_at p to) (tree-at p rows t) (tree-at p to tree)
        (λ i k. (omega (arith, len), λ s. marks i ∙ s, sym (parents i)))
        (λ i j k y q.
        ap (λ f. f j) (at-doc p to) ∙ over i j k (omega arith) (ap (λ f. f j) (sym (at-doc p rows)) ∙ q ∙ ap (λ f. f i) (at-parent p rows)) ∙ ap (λ f. f i) (sym (at-parent p to)))
        e o.0 (omega (arith, l)) c a)

    pub steady-renamed : Steady Out p n rows to
    steady-renamed =
        record {
          enough = omega (arith, renamed-steps d m rows);
          closed = λ i l a ne.
              let k : i < length rows = subst (λ n. i < n) len l in
              let par = ap (λ f. f i) (renamed-parent d m rows) in
              let was = closed i k (subst (λ v. n ≤ v) par a) (λ z. ne (par ∙ z)) in
              subst (λ v. n ≤ v) (sym (renamed-doc d m rows i k)) (test (is_doc rows d i) (λ y. rw y new) (λ y. rw y was));
          noted = renamed-noted;
          was = from-renamed n d m rows new;
          seen = seen-renamed;
          lost = λ e x v.
              let o = (record_is rows e).0 (seen-in Out p n rows few closed e v) in
              inl ((record_is to e).1 (o.0, omega (arith, len, o.1), doc-on o.0 e o.1 x o.2));
        }
