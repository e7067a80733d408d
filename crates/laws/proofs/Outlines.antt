-- The outline of a sound record has each visible document once, at its depth, and no other. Assumes nothing.
use Prim.Native.Nat.{ℕ, zero, suc, ◌+◌, ◌*◌, ◌/◌, ◌≤◌, ◌<◌}
use mathlib.Core.Bool.{Bool, ◌&&◌, So, cond, and-eq-true_iff}
use mathlib.Core.List.{List, ◌∷◌}
use mathlib.Core.Logic.{◌↔◌}
use mathlib.Core.Path.{◌≡◌, refl, sym, ap, subst, subst₂, ◌∙◌}
use native.Mathlib.Omega.{arith}
use lib.Dec.{eqb}
use lib.ListN.{length, get_or}
use borrow.Author.Tests.{eqb-true, eq-eqb, ne_eqb}
use Rattle.rules.specs.Below.{sum, count}
use Rattle.rules.specs.Rows.{Table, none, doc_at, flag}
use Rattle.rules.specs.Steps.{climb_of, visible_at, visible}
use Rattle.rules.specs.Moves.{frames}
use Rattle.rules.specs.Asks.{outline_of}
use Rattle.rules.specs.Sound.{SoundTable}
use Rattle.laws.proofs.Tests.{test, off, clash, count-in, count-zero, count-flat, count_same, one_in, one_out}
use Rattle.laws.proofs.Tree.{once-of, tree_of, distinct, proper}
use Rattle.laws.proofs.Climb.{sees-in, sees-out, links-up}
use Rattle.laws.proofs.OutlineWeights.{Pairs, nil, pair, pairs-flat, pairs-frame, Paired, paired-below, weigh, outline-weighs}
use Rattle.laws.proofs.OutlineTexts.{outline-code}

paired-outline : (t : Table) → Paired (outline_of t)
paired-outline t = subst Paired (outline-code t none refl) (paired-below t 0 0 none t.next_frame)

-- HOW LONG IT IS

length-weighs : {l : List ℕ} → Paired l → weigh (λ d. 2) l ≡ length l
unfolding weigh
length-weighs nil = refl
length-weighs (pair h p) = omega (arith, length-weighs p)

sum_bound : (f : ℕ → ℕ) (n : ℕ) → ((k : ℕ) → f k ≤ 2) → sum f n ≤ 2 * n
unfolding sum
sum_bound f zero h = omega arith
sum_bound f (suc n) h = omega (arith, h n, sum_bound f n h)

-- Two words a row at most.
pub outline-bound : (t : Table) (room : ℕ) → SoundTable room t → t.next_doc ≤ none → length (outline_of t) ≤ 2 * length t.rows
outline-bound t room s w =
    omega (
      arith,
      length-weighs (paired-outline t),
      outline-weighs (λ d. 2) t room s w,
      sum_bound (λ j. cond (visible_at t.rows j) 2 0) (length t.rows) (λ k. test (visible_at t.rows k) (λ y. rw y (omega arith)) (λ n. rw n (omega arith))),
    )

-- WHAT IS IN IT

-- Pair i is of document d.
abbrev pub pair_is : List ℕ → ℕ → ℕ → Bool
pair_is l d i = eqb (get_or l (2 * i + 1) 0) d

-- How many pairs are of document d.
abbrev pub pairs_of : List ℕ → ℕ → ℕ
pairs_of l d = count (pair_is l d) (length l / 2)

count-suc : (p : ℕ → Bool) (n : ℕ) → count p (suc n) ≡ flag (p 0) + count (λ i. p (suc i)) n
unfolding count
count-suc p zero = test (p 0) (λ y. rw y refl) (λ f. rw f refl)
count-suc p (suc n) = let ih = count-suc p n in test (p (suc n)) (λ y. rw y (omega arith)) (λ f. rw f ih)

next-pair : (i : ℕ) → suc (suc (2 * i + 1)) ≡ 2 * suc i + 1
next-pair i = omega arith

pairs-weigh : (d : ℕ) {l : List ℕ} → Paired l → weigh (λ x. flag (eqb x d)) l ≡ pairs_of l d
unfolding weigh
pairs-weigh d nil = sym (count-zero _)
pairs-weigh d (pair {x} {y} {l} h p) =
    let e : length (x ∷ y ∷ l) / 2 ≡ suc (length l / 2) = omega arith in
    rw e (ap (λ k. flag (eqb y d) + k) (pairs-weigh d p ∙ count_same _ _ (length l / 2) (λ i m. ap (λ k. eqb (get_or (x ∷ y ∷ l) k 0) d) (next-pair i)))
    ∙ sym (count-suc (pair_is (x ∷ y ∷ l) d) (length l / 2)))

pairs-at : {P : ℕ → ℕ → Type 0} {l : List ℕ} → Pairs P l → (k : ℕ) → k < length l / 2 → P (get_or l (2 * k) 0) (get_or l (2 * k + 1) 0)
pairs-at nil k m = absurd (omega arith)
pairs-at (pair h p) zero m = h
pairs-at {P = P} (pair {x} {y} {l} h p) (suc k) m =
    let e : suc (suc (2 * k)) ≡ 2 * suc k = omega arith in
    subst₂ (λ i j. P (get_or (x ∷ y ∷ l) i 0) (get_or (x ∷ y ∷ l) j 0)) e (next-pair k) (pairs-at p k (omega arith))

sum-count : (v e : ℕ → Bool) (n : ℕ) → sum (λ j. cond (v j) (flag (e j)) 0) n ≡ count (λ j. v j && e j) n
unfolding sum count
sum-count v e zero = refl
sum-count v e (suc n) =
    let ih = sum-count v e n in
    test (v n)
    (λ y. test (e n) (λ z. rw (y, z) (omega arith)) (λ z. rw (y, z) (omega arith)))
    (λ y. rw y (omega arith))

module _ (t : Table) (room : ℕ) (sound : SoundTable room t) (word : t.next_doc ≤ none) where
  -- One visible row has document d where d is visible, else none.
  visible-rows : (d : ℕ) → count (λ j. visible_at t.rows j && eqb (doc_at t.rows j) d) (length t.rows) ≡ flag (visible t.rows d)
  visible-rows d =
      let rows = t.rows in
      let tree = tree_of sound word in
      let p : ℕ → Bool = λ j. visible_at rows j && eqb (doc_at rows j) d in
      test (visible rows d)
      (λ y.
      let r = sees-out rows d y in
      rw y (one_in p (length rows) r.0 r.1 (simp and-eq-true_iff (r.3, eq-eqb _ _ r.2))
      (λ i l h. let u = simp and-eq-true_iff at h in distinct tree i r.0 l r.1 (eqb-true _ _ u.1 ∙ sym r.2))))
      (λ n.
      rw n (count-flat p (length rows) {i = 0} (omega arith)
      (λ k a l. off (p k) (λ h. let u = simp and-eq-true_iff at h in clash (sees-in rows tree d l (eqb-true _ _ u.1) u.0) n))
      ∙ count-zero p))

  -- A visible document is in one pair, another document in none.
  pub outline-once : (d : ℕ) → pairs_of (outline_of t) d ≡ flag (visible t.rows d)
  outline-once d =
      sym (pairs-weigh d (paired-outline t)) ∙ outline-weighs (λ x. flag (eqb x d)) t room sound word
      ∙ sum-count (visible_at t.rows) (λ j. eqb (doc_at t.rows j) d) (length t.rows) ∙ visible-rows d

  -- A document is in the outline exactly when it is visible.
  pub outline-visible : (d : ℕ) → ((i : ℕ) × (i < length (outline_of t) / 2) × (get_or (outline_of t) (2 * i + 1) 0 ≡ d)) ↔ So (visible t.rows d)
  outline-visible d = (
    λ r.
        let c = count-in (pair_is (outline_of t) d) (length (outline_of t) / 2) r.1 (eq-eqb _ _ r.2) in
        test (visible t.rows d) (λ y. y) (λ n. let z : pairs_of (outline_of t) d ≡ 0 = outline-once d ∙ rw n refl in absurd (omega arith)),
    λ y.
        let z : pairs_of (outline_of t) d ≡ 1 = outline-once d ∙ rw y refl in
        let r = (one_out (pair_is (outline_of t) d) (length (outline_of t) / 2) z).0 in
        (r.0, r.1, eqb-true _ _ r.2),
  )

  -- And no two pairs are of one document.
  pub outline-distinct : (i j : ℕ) → i < length (outline_of t) / 2 → j < length (outline_of t) / 2 →
      get_or (outline_of t) (2 * i + 1) 0 ≡ get_or (outline_of t) (2 * j + 1) 0 → i ≡ j
  outline-distinct i j a b e =
      let d = get_or (outline_of t) (2 * j + 1) 0 in
      let y = (outline-visible d).0 (j, b, refl) in
      let z : pairs_of (outline_of t) d ≡ 1 = outline-once d ∙ rw y refl in
      (one_out (pair_is (outline_of t) d) (length (outline_of t) / 2) z).1 i j a b (eq-eqb _ _ e) (eq-eqb d d refl)

  -- The depth of each pair is the number of links of the climb from its document. The frames of a document are one deeper, those of none at 0.
  pub outline-depth : (k : ℕ) → k < length (outline_of t) / 2 → get_or (outline_of t) (2 * k) 0 ≡ (climb_of t.rows (get_or (outline_of t) (2 * k + 1) 0)).links
  unfolding outline_of
  outline-depth k l =
      let rows = t.rows in
      let links : ℕ → ℕ = λ d. (climb_of rows d).links in
      let beneath : ℕ → ℕ = λ d. cond (eqb d none) 0 (suc (links d)) in
      pairs-at (pairs-flat _ (λ f. pairs-frame (λ n d. n ≡ links d) (λ n d. n ≡ beneath d) (frames t) rows (λ j m s n q.
      let e : n ≡ links (doc_at rows j) = q ∙ sym (links-up rows (once-of sound) sound.s4 j m s) in
      (e, rw (ne_eqb (doc_at rows j) none (proper (tree_of sound word) j m)) (ap suc e))) 0 none f refl) (frames t)) k l
