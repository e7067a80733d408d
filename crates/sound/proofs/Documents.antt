-- S2: at a glance where the documents rise, else from the last row to the first. Assumes nothing.
use Prim.Native.Nat.{ℕ, suc, ◌+◌, ◌-◌, ◌≤◌, ◌<◌, min, max}
use mathlib.Core.Bool.{Bool, true, false, ◌&&◌}
use mathlib.Core.List.{List}
use mathlib.Core.Path.{◌≡◌, refl, sym, ap, subst, ◌∙◌}
use native.Mathlib.Omega.{arith}
use lib.Dec.{eqb, ltb}
use lib.ListN.{length}
use borrow.Author.Tests.{eqb-true, eqb-false, eq-eqb, ne_eqb, ltb-true, lt-ltb}
use Rattle.base.specs.declared.RowPlace.{RowPlace}
use Rattle.rules.specs.Below.{all_below, latest}
use Rattle.rules.specs.Rows.{Row, doc_at, is_doc}
use Rattle.rules.specs.Sound.{s2?}
use Rattle.laws.proofs.Tests.{clash, off, same_tests, by-lt, by_order, some_in, all-out, greatest, latest-is, latest-out}
use Rattle.laws.proofs.Loops.{all-flag}
use Rattle.laws.proofs.Reflect.{s2-is}
use Rattle.laws.proofs.Tree.{rising-S2}
use Rattle.reads.specs.Found.{found_below}
use Rattle.std.specs.Prelude.{Option, None, Some}
use Rattle.reads.proofs.Scans.{found_at, found_nothing}
use Rattle.sound.specs.Quick.{ordered, alone, Spans}

-- WHERE THEY RISE

module _ (rows : List Row) where
  pub rises-start : true ≡ all_below 1 (ordered rows)
  unfolding all_below
  rises-start = refl

  pub rises-more : (i a b : ℕ) (z : Bool) → 0 < i → z ≡ all_below i (ordered rows) → a ≡ doc_at rows (i - 1) → b ≡ doc_at rows i → (z && ltb a b) ≡ all_below (i + 1) (ordered rows)
  rises-more i a b z l h e f = all-flag (ordered rows) i z (ltb a b) h (rw (ne_eqb i 0 (λ z. omega arith), e, f) refl)

  ordered-suc : (i : ℕ) → ordered rows (suc i) ≡ ltb (doc_at rows i) (doc_at rows (suc i))
  ordered-suc i =
      let e : suc i - 1 ≡ i = omega arith in
      rw (ne_eqb (suc i) 0 (λ z. omega arith)) (ap (λ k. ltb (doc_at rows k) (doc_at rows (suc i))) e)

  -- The last is the highest.
  pub rises-fit : (n a next : ℕ) (z : Bool) → 0 < length rows → n ≡ length rows → z ≡ all_below n (ordered rows) → z ≡ true → a ≡ doc_at rows (n - 1) → ltb a next ≡ s2? rows next
  rises-fit n a next z some all h t e =
      let k : n - 1 ≡ length rows - 1 = omega arith in
      let top : a ≡ doc_at rows (length rows - 1) = e ∙ ap (doc_at rows) k in
      same_tests
      (λ l.
      (s2-is rows next).1 (rising-S2 rows next (record {
        rise = λ i m. ltb-true _ _ (sym (ordered-suc i) ∙ all-out (ordered rows) n (sym h ∙ t) (suc i) (omega arith));
        last = subst (λ x. x < next) top (ltb-true a next l);
      })))
      (λ s. lt-ltb a next (subst (λ x. x < next) (sym top) (((s2-is rows next).0 s).below (length rows - 1) (omega arith))))

-- WHETHER A DOCUMENT STANDS IN NO LATER ROW

module _ (rows : List Row) (i low high d : ℕ) (inside : i < length rows) (span : Spans (doc_at rows) (i + 1) (length rows) low high) (e : d ≡ doc_at rows i) where
  alone-by : ((k : ℕ) → low ≤ doc_at rows k → doc_at rows k ≤ high → doc_at rows k ≡ d → ⊥) → true ≡ alone rows i
  unfolding alone
  alone-by out =
      sym (eq-eqb _ _ (latest-is (is_doc rows (doc_at rows i)) (length rows) inside (eq-eqb (doc_at rows i) (doc_at rows i) refl) (λ k a b t.
      let w = span k (omega arith) b in out k w.0 w.1 (eqb-true (doc_at rows k) (doc_at rows i) t ∙ sym e))))

  pub alone-below : d < low → true ≡ alone rows i
  alone-below l = alone-by (λ k a b f. omega arith)

  pub alone-above : high < d → true ≡ alone rows i
  alone-above l = alone-by (λ k a b f. omega arith)

  -- By a scan from the end of the rows.
  module _ (n : ℕ) (all : n ≡ length rows) (r : Option RowPlace) (f : r ≡ found_below (is_doc rows d) n) where
    pub alone-found : (q : RowPlace) → r ≡ Some q → eqb q.0 i ≡ alone rows i
    unfolding alone
    alone-found q h = rw (← e, ← all, (found_at (is_doc rows d) n q (sym f ∙ h)).1) refl

    pub alone-lost : r ≡ None → false ≡ alone rows i
    alone-lost h = absurd (clash (some_in (is_doc rows d) n {k = i} (omega arith) (eq-eqb (doc_at rows i) d (sym e))) (found_nothing (is_doc rows d) n (sym f ∙ h)))

-- FROM THE LAST ROW TO THE FIRST

-- The rows from i on: their documents are from low to high, which is one of them, and none stands twice.
pub record Tail (rows : List Row) (i low high : ℕ) : Type 0 where
  pub span : Spans (doc_at rows) i (length rows) low high
  pub apart : (j k : ℕ) → i ≤ j → j < k → k < length rows → doc_at rows j ≡ doc_at rows k → ⊥
  pub top : (k : ℕ) × (k < length rows) × (doc_at rows k ≡ high)

module _ (rows : List Row) where
  pub tail-last : (n d : ℕ) → n ≡ length rows → 0 < n → d ≡ doc_at rows (n - 1) → Tail rows (n - 1) d d
  tail-last n d all some e =
      record {
        span = λ k a b. let z : k ≡ n - 1 = omega arith in rw z (omega arith, omega arith);
        apart = λ j k a b c. absurd (omega arith);
        top = (n - 1, omega arith, sym e);
      }

  module _ (i low high : ℕ) (t : Tail rows i low high) (some : 0 < i) (inside : i ≤ length rows) (b : Bool) (f : b ≡ alone rows (i - 1)) where
    -- A later row with the document of the row before: it is not alone.
    not-alone : (k : ℕ) → i ≤ k → k < length rows → doc_at rows (i - 1) ≡ doc_at rows k → alone rows (i - 1) ≡ false
    unfolding alone
    not-alone k a c q =
        ne_eqb (latest (is_doc rows (doc_at rows (i - 1))) (length rows)) (i - 1) (λ z.
        let g = greatest (is_doc rows (doc_at rows (i - 1))) (length rows) c (eq-eqb (doc_at rows k) (doc_at rows (i - 1)) (sym q)) in
        let m = latest-is (is_doc rows (doc_at rows (i - 1))) (length rows) g.2 g.3 g.4 in
        let h = g.1 in
        omega arith)

    pub tail_more : b ≡ true → (d lo hi : ℕ) → d ≡ doc_at rows (i - 1) → lo ≡ min low d → hi ≡ max high d → Tail rows (i - 1) lo hi
    tail_more y d lo hi e g h =
        record {
          span = λ k a c.
              by-lt k i
              (λ l. let z : k ≡ i - 1 = omega arith in rw z (omega arith, omega arith))
              (λ l. let w = t.span k l c in let x = w.0 in let y = w.1 in (omega arith, omega arith));
          apart = λ j k a c l q.
              by-lt j i
              (λ m.
              let z : j ≡ i - 1 = omega arith in
              clash (sym f ∙ y) (not-alone k (omega arith) l (ap (doc_at rows) (sym z) ∙ q)))
              (λ m. t.apart j k m c l q);
          top = by-lt high d (λ l. (i - 1, omega arith, omega arith)) (λ l. (t.top.0, t.top.1, let x = t.top.2 in omega arith));
        }

    -- It stands in a later row too.
    pub tail-twice : b ≡ false → (next : ℕ) → false ≡ s2? rows next
    unfolding alone
    tail-twice o next =
        sym (off (s2? rows next) (λ h.
        let own = some_in (is_doc rows (doc_at rows (i - 1))) (length rows) {k = i - 1} (omega arith) (eq-eqb (doc_at rows (i - 1)) (doc_at rows (i - 1)) refl) in
        let k = latest-out (is_doc rows (doc_at rows (i - 1))) (length rows) own in
        eqb-false _ _ (sym f ∙ o) (((s2-is rows next).0 h).distinct _ (i - 1) k.0 (omega arith) (eqb-true _ _ k.1))))

  pub tail_all : (i low high next : ℕ) → Tail rows i low high → i ≡ 0 → ltb high next ≡ s2? rows next
  tail_all i low high next t z =
      same_tests
      (λ h.
      (s2-is rows next).1 (record {
        distinct = λ j k a b e. by_order j k (λ l. absurd (t.apart j k (omega arith) l b e)) (λ q. q) (λ l. absurd (t.apart k j (omega arith) l a (sym e)));
        below = λ k l. let w = (t.span k (omega arith) l).1 in omega (arith, ltb-true high next h);
      }))
      (λ h. let k = t.top in lt-ltb high next (subst (λ x. x < next) k.2 (((s2-is rows next).0 h).below k.0 k.1)))

  -- What is asked before the row before.
  pub tail-span : (i low high : ℕ) → Tail rows i low high → 0 < i → Spans (doc_at rows) (i - 1 + 1) (length rows) low high
  tail-span i low high t some = let e : i - 1 + 1 ≡ i = omega arith in rw e t.span
