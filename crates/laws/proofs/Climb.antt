-- The climb from a row to its parent's: what stands beneath a row, what is visible, and what hides it. Assumes nothing.
use Prim.Native.Nat.{ℕ, zero, suc, ◌≤◌, ◌<◌}
use mathlib.Core.Path.{◌≡◌, refl, sym, ap, ◌∙◌}
use mathlib.Core.List.{List}
use mathlib.Core.Logic.{◌⊎◌, ◌↔◌, inl, inr, ⊎_elim}
use mathlib.Core.Bool.{Bool, false, ◌&&◌, ◌||◌, So, cond, false≢true, and-eq-true_iff}
use native.Mathlib.Nat.{not-suc-le-zero}
use native.Mathlib.Omega.{arith}
use lib.Dec.{eqb}
use lib.ListN.{length}
use borrow.Author.Tests.{eqb-true, eqb-false, eq-eqb, ne_eqb}
use Rattle.rules.specs.Rows.{Row, none, doc_at, parent_at, is_shown, is_doc, in_record, climb}
use Rattle.rules.specs.Steps.{Hider, is_nobody, Climb, ended, further, climb_ask, lost, climb_at, climb_of, hider_at, hider_of, visible_at, visible}
use Rattle.rules.specs.Moves.{beneath_ask, gone}
use Rattle.rules.specs.Sound.{S4}
use Rattle.laws.proofs.Tests.{test, clash, or_left, or_right, or_cases, below-cases}
use Rattle.laws.proofs.Tree.{TreeOf, Once, distinct}
use Rattle.laws.proofs.Reflect.{record_is}

module _ {A : Type 0} (lost : A) (ask : (ℕ → A) → ℕ → A) (rows : List Row) where
  -- Where no row has the document, the question is lost.
  pub climb-none : (k d : ℕ) → ((j : ℕ) → j < k → doc_at rows j ≡ d → ⊥) → climb lost ask rows k d ≡ lost
  unfolding climb
  climb-none zero d h = refl
  climb-none (suc k) d h = rw (ne_eqb _ _ (h k (omega arith))) (climb-none k d (λ j l. h j (omega arith)))

  -- Where row j has it and no later one does, row j answers.
  pub climb-found : (k d : ℕ) {j : ℕ} → j < k → doc_at rows j ≡ d → ((m : ℕ) → j < m → m < k → doc_at rows m ≡ d → ⊥) →
      climb lost ask rows k d ≡ ask (climb lost ask rows j) j
  unfolding climb
  climb-found zero d l e h = absurd (not-suc-le-zero l)
  climb-found (suc k) d {j} l e h =
      ⊎_elim
      (λ q. rw (← q, eq-eqb _ _ e) refl)
      (λ m. rw (ne_eqb _ _ (h k m (omega arith))) (climb-found k d m e (λ i a b. h i a (omega arith))))
      (below-cases l)

  -- Where a document has one row, as in a tree, that row answers.
  pub climb-once : Once (length rows) (doc_at rows) → (k d : ℕ) {j : ℕ} → k ≤ length rows → j < k → doc_at rows j ≡ d →
      climb lost ask rows k d ≡ ask (climb lost ask rows j) j
  climb-once once k d {j} n l e =
      climb-found k d l e (λ m a b q. let z = once m j (omega arith) (omega arith) (q ∙ sym e) in omega arith)

  pub climb-is : {a b : ℕ} → TreeOf rows a b → (k d : ℕ) {j : ℕ} → k ≤ length rows → j < k → doc_at rows j ≡ d →
      climb lost ask rows k d ≡ ask (climb lost ask rows j) j
  climb-is t k d {j} n l e = climb-once (distinct t) k d {j = j} n l e

-- Where row by row g makes one question's answers those of another, it does so all the way up.
pub climb-along : {A B : Type 0} (g : A → B) {lost : A} {ask : (ℕ → A) → ℕ → A} {lost' : B} {ask' : (ℕ → B) → ℕ → B} (rows : List Row) → g lost ≡ lost' →
    ((up : ℕ → A) (up' : ℕ → B) → ((d : ℕ) → g (up d) ≡ up' d) → (k : ℕ) → g (ask up k) ≡ ask' up' k) → (k d : ℕ) → g (climb lost ask rows k d) ≡ climb lost' ask' rows k d
unfolding climb
climb-along g rows l a zero d = l
climb-along g rows l a (suc k) d =
    test (is_doc rows d k) (λ t. rw t (a _ _ (climb-along g rows l a k) k)) (λ f. rw f (climb-along g rows l a k d))

-- A question of yes or no that is lost to no: a yes comes from a row.
pub climb-out : (ask : (ℕ → Bool) → ℕ → Bool) (rows : List Row) (k d : ℕ) → So (climb false ask rows k d) →
    (j : ℕ) × (j < k) × (doc_at rows j ≡ d) × So (ask (climb false ask rows j) j)
unfolding climb
climb-out ask rows zero d h = absurd (false≢true h)
climb-out ask rows (suc k) d h =
    test (is_doc rows d k)
    (λ t. (k, omega arith, eqb-true _ _ t, rw t at h))
    (λ f. let r = climb-out ask rows k d (rw f at h) in (r.0, omega arith, r.2, r.3))

-- BENEATH

module _ (q : ℕ → Bool) (rows : List Row) where
  pub gone-self : (i : ℕ) → So (q i) → So (gone q rows i)
  unfolding gone
  gone-self i t = or_left _ t

  pub gone-child : {a b : ℕ} → TreeOf rows a b → {j i : ℕ} → j < i → i < length rows → So (gone q rows j) → doc_at rows j ≡ parent_at rows i → So (gone q rows i)
  unfolding gone
  gone-child t {j} {i} l m g e = or_right (q i) (climb-is false (beneath_ask q rows) rows t i (parent_at rows i) {j = j} (omega arith) l e ∙ g)

  pub gone-cases {ℓ} : {C : Type ℓ} (i : ℕ) → So (gone q rows i) → (So (q i) → C) → ((j : ℕ) → j < i → So (gone q rows j) → doc_at rows j ≡ parent_at rows i → C) → C
  unfolding gone
  gone-cases i g a b =
      ⊎_elim a (λ c. let r = climb-out (beneath_ask q rows) rows i (parent_at rows i) c in b r.0 r.1 r.3 r.2) (or_cases (q i) _ g)

-- VISIBLE

-- Whether row k is visible, when `up d` is whether document d is: "when it and every document above it are shown".
abbrev pub visible_ask : List Row → (ℕ → Bool) → ℕ → Bool
visible_ask rows up k = is_shown rows k && (eqb (parent_at rows k) none || up (parent_at rows k))

module _ (rows : List Row) where
  -- Nobody hides row k: it is shown, and nobody hides what is above it.
  nobody-asks : (up : ℕ → Climb) (up' : ℕ → Bool) → ((d : ℕ) → is_nobody (up d).hider ≡ up' d) → (k : ℕ) → is_nobody (climb_ask rows up k).hider ≡ visible_ask rows up' k
  nobody-asks up up' h k =
      test (is_shown rows k)
      (λ t. test (eqb (parent_at rows k) none) (λ e. rw (t, e) refl) (λ e. rw (t, e) (h (parent_at rows k))))
      (λ f. rw f refl)

  nobody-along : (k d : ℕ) → is_nobody (climb lost (climb_ask rows) rows k d).hider ≡ climb false (visible_ask rows) rows k d
  nobody-along k d = climb-along (λ c. is_nobody c.hider) {lost = lost} {ask = climb_ask rows} rows refl nobody-asks k d

  -- What is visible goes by yes or no alone, from row to row.
  pub visible-is : (d : ℕ) → visible rows d ≡ climb false (visible_ask rows) rows (length rows) d
  unfolding visible hider_of climb_of
  visible-is d = nobody-along (length rows) d

  pub visible-at-is : (k : ℕ) → visible_at rows k ≡ visible_ask rows (climb false (visible_ask rows) rows k) k
  unfolding visible_at hider_at climb_at
  visible-at-is k = nobody-asks (climb lost (climb_ask rows) rows k) (climb false (visible_ask rows) rows k) (nobody-along k) k

-- The two ways up: there is no parent, or an earlier row has it and passes.
abbrev pub Up : List Row → (ℕ → Bool) → ℕ → Type 0
Up rows g i = (parent_at rows i ≡ none) ⊎ ((j : ℕ) × (j < i) × So (g j) × (doc_at rows j ≡ parent_at rows i))

module _ (rows : List Row) where
  pub visible-in : {a b : ℕ} → TreeOf rows a b → (i : ℕ) → i < length rows → So (is_shown rows i) → Up rows (visible_at rows) i → So (visible_at rows i)
  visible-in t i l s u =
      visible-at-is rows i ∙ simp and-eq-true_iff (
        s,
        ⊎_elim (λ e. or_left _ (eq-eqb _ _ e))
            (λ r. or_right (eqb (parent_at rows i) none)
            (climb-is false (visible_ask rows) rows t i (parent_at rows i) {j = r.0} (omega arith) r.1 r.3 ∙ sym (visible-at-is rows r.0) ∙ r.2)) u,
      )

  pub visible-out : (i : ℕ) → So (visible_at rows i) → So (is_shown rows i) × Up rows (visible_at rows) i
  visible-out i v =
      let t = simp and-eq-true_iff at (sym (visible-at-is rows i) ∙ v) in (
        t.0,
        ⊎_elim (λ e. inl (eqb-true _ _ e))
            (λ c. let r = climb-out (visible_ask rows) rows i (parent_at rows i) c in inr (r.0, r.1, visible-at-is rows r.0 ∙ r.3, r.2))
            (or_cases (eqb (parent_at rows i) none) _ t.1),
      )

  pub sees-in : {a b : ℕ} → TreeOf rows a b → {i : ℕ} (d : ℕ) → i < length rows → doc_at rows i ≡ d → So (visible_at rows i) → So (visible rows d)
  sees-in t {i} d l e v = visible-is rows d ∙ climb-is false (visible_ask rows) rows t (length rows) d {j = i} (omega arith) l e ∙ sym (visible-at-is rows i) ∙ v

  pub sees-out : (d : ℕ) → So (visible rows d) → (i : ℕ) × (i < length rows) × (doc_at rows i ≡ d) × So (visible_at rows i)
  sees-out d s =
      let r = climb-out (visible_ask rows) rows (length rows) d (sym (visible-is rows d) ∙ s) in (r.0, r.1, r.2, visible-at-is rows r.0 ∙ r.3)

  -- What is visible is in the record.
  pub seen-there : (d : ℕ) → So (visible rows d) → So (in_record rows d)
  seen-there d v = let o = sees-out d v in (record_is rows d).1 (o.0, o.1, o.2)

-- WHAT THE CLIMB FINDS

module _ (rows : List Row) where
  -- From a row that isn't shown the climb ends at once, with itself; from one that is and has no parent too, with nobody.
  pub climbs-itself : (i : ℕ) → is_shown rows i ≡ false → climb_at rows i ≡ ended (Hider.document (doc_at rows i))
  unfolding climb_at
  climbs-itself i f = rw f refl

  pub climbs-nobody : (i : ℕ) → So (is_shown rows i) → parent_at rows i ≡ none → climb_at rows i ≡ ended Hider.nobody
  unfolding climb_at
  climbs-nobody i s e = rw (s, eq-eqb _ _ e) refl

  -- Where a document has one row, the climb from it is that from the row, and a shown row's goes one link further than that from its parent's row.
  module _ (once : Once (length rows) (doc_at rows)) where
    pub climbs-row : (d : ℕ) {i : ℕ} → i < length rows → doc_at rows i ≡ d → climb_of rows d ≡ climb_at rows i
    unfolding climb_of climb_at
    climbs-row d {i} l e = climb-once lost (climb_ask rows) rows once (length rows) d {j = i} (omega arith) l e

    pub climbs-up : (i : ℕ) → i < length rows → So (is_shown rows i) → (parent_at rows i ≡ none → ⊥) → {j : ℕ} → j < i → doc_at rows j ≡ parent_at rows i →
        climb_at rows i ≡ further (climb_at rows j)
    unfolding climb_at
    climbs-up i l s p {j} m e = rw (s, ne_eqb _ _ p) (ap further (climb-once lost (climb_ask rows) rows once i (parent_at rows i) {j = j} (omega arith) m e))

    -- With parents in earlier rows the climb is never lost: it ends at once, with the row itself or with nobody, or goes on from the parent's row.
    pub climb-cases {ℓ} : {C : Type ℓ} → S4 rows → (i : ℕ) → i < length rows →
        (is_shown rows i ≡ false → climb_at rows i ≡ ended (Hider.document (doc_at rows i)) → C) →
        (So (is_shown rows i) → parent_at rows i ≡ none → climb_at rows i ≡ ended Hider.nobody → C) →
        (So (is_shown rows i) → (parent_at rows i ≡ none → ⊥) → (j : ℕ) → j < i → doc_at rows j ≡ parent_at rows i → climb_at rows i ≡ further (climb_at rows j) → C) → C
    climb-cases s4 i l itself nobody above =
        test (is_shown rows i)
        (λ s.
        test (eqb (parent_at rows i) none)
        (λ e. nobody s (eqb-true _ _ e) (climbs-nobody i s (eqb-true _ _ e)))
        (λ f.
        let p = eqb-false _ _ f in
        ⊎_elim (λ e. absurd (p e)) (λ r. above s p r.0 r.1 r.2 (climbs-up i l s p {j = r.0} r.1 r.2)) (s4.placed i l)))
        (λ f. itself f (climbs-itself i f))

-- WHO HIDES IT

by-hider {ℓ} : {C : Type ℓ} (x : Hider) → (x ≡ Hider.nobody → C) → ((h : ℕ) → x ≡ Hider.document h → C) → C
by-hider Hider.nobody a b = a refl
by-hider (Hider.document h) a b = b h refl

module _ (rows : List Row) where
  -- What is visible nobody hides, and what is not some document does.
  pub nobody-is : (d : ℕ) → (hider_of rows d ≡ Hider.nobody) ↔ So (visible rows d)
  unfolding visible
  nobody-is d = (λ e. rw e refl, λ v. by-hider (hider_of rows d) (λ e. e) (λ h e. absurd (false≢true (rw e at v))))

  pub somebody-is : (d : ℕ) → visible rows d ≡ false → (h : ℕ) × (hider_of rows d ≡ Hider.document h)
  unfolding visible
  somebody-is d f = by-hider (hider_of rows d) (λ e. absurd (false≢true (sym f ∙ rw e refl))) (λ h e. (h, e))

  -- A row that isn't shown hides itself; one that is and has no parent nobody hides.
  pub hides-itself : (i : ℕ) → is_shown rows i ≡ false → hider_at rows i ≡ Hider.document (doc_at rows i)
  unfolding hider_at
  hides-itself i f = ap (λ c. c.hider) (climbs-itself rows i f)

  pub hides-nobody : (i : ℕ) → So (is_shown rows i) → parent_at rows i ≡ none → hider_at rows i ≡ Hider.nobody
  unfolding hider_at
  hides-nobody i s e = ap (λ c. c.hider) (climbs-nobody rows i s e)

  -- Where a document has one row, what hides the row hides the document, and what hides the parent's row hides a row that is shown.
  module _ (once : Once (length rows) (doc_at rows)) where
    pub hider-row : (d : ℕ) {i : ℕ} → i < length rows → doc_at rows i ≡ d → hider_of rows d ≡ hider_at rows i
    unfolding hider_of hider_at
    hider-row d {i} l e = ap (λ c. c.hider) (climbs-row rows once d {i = i} l e)

    pub hider-up : (i : ℕ) → i < length rows → So (is_shown rows i) → (parent_at rows i ≡ none → ⊥) → {j : ℕ} → j < i → doc_at rows j ≡ parent_at rows i →
        hider_at rows i ≡ hider_at rows j
    unfolding hider_at
    hider-up i l s p {j} m e = ap (λ c. c.hider) (climbs-up rows once i l s p {j = j} m e)

    -- With parents in earlier rows the climb is never lost: a row is hidden by itself, by nobody, or by what hides its parent's row.
    pub hider-cases {ℓ} : {C : Type ℓ} → S4 rows → (i : ℕ) → i < length rows →
        (is_shown rows i ≡ false → hider_at rows i ≡ Hider.document (doc_at rows i) → C) →
        (So (is_shown rows i) → hider_at rows i ≡ Hider.nobody → C) →
        (So (is_shown rows i) → (parent_at rows i ≡ none → ⊥) → (j : ℕ) → j < i → doc_at rows j ≡ parent_at rows i → hider_at rows i ≡ hider_at rows j → C) → C
    hider-cases s4 i l itself nobody above =
        climb-cases rows once s4 i l
        (λ f e. itself f (hides-itself i f))
        (λ s r e. nobody s (hides-nobody i s r))
        (λ s p j m d e. above s p j m d (hider-up i l s p {j = j} m d))

-- HOW FAR IT GOES

-- Of any rows: one link more than from whatever is above.
links-asked : (rows : List Row) (up : ℕ → Climb) (k most : ℕ) → ((d : ℕ) → (up d).links ≤ most) → (climb_ask rows up k).links ≤ suc most
links-asked rows up k most h =
    test (is_shown rows k)
    (λ s. test (eqb (parent_at rows k) none) (λ e. rw (s, e) (omega arith)) (λ e. rw (s, e) (omega (arith, h (parent_at rows k)))))
    (λ s. rw s (omega arith))

-- So at most as many as there are rows before; and from a row one more, to a document of no row.
pub links-within : (rows : List Row) (k d : ℕ) → (climb lost (climb_ask rows) rows k d).links ≤ k
unfolding climb
links-within rows zero d = omega arith
links-within rows (suc k) d =
    test (is_doc rows d k) (λ t. rw t (links-asked rows (climb lost (climb_ask rows) rows k) k k (links-within rows k))) (λ f. rw f (omega (arith, links-within rows k d)))

pub links-at : (rows : List Row) (k : ℕ) → (climb_at rows k).links ≤ suc k
unfolding climb_at
links-at rows k = links-asked rows (climb lost (climb_ask rows) rows k) k k (links-within rows k)

-- Where a document has one row and a parent an earlier one, never more than there are rows before its own.
module _ (rows : List Row) (once : Once (length rows) (doc_at rows)) (s4 : S4 rows) where
  row-links : (n i : ℕ) → i < n → i < length rows → (climb_at rows i).links ≤ i
  row-links zero i c l = absurd (not-suc-le-zero c)
  row-links (suc n) i c l =
      climb-cases rows once s4 i l
      (λ f e. rw e (omega arith))
      (λ s p e. rw e (omega arith))
      (λ s p j m q e. rw e (omega (arith, row-links n j (omega arith) (omega arith))))

  pub links-before : (d : ℕ) {i : ℕ} → i < length rows → doc_at rows i ≡ d → (climb_of rows d).links ≤ i
  links-before d {i} l e = rw (climbs-row rows once d {i = i} l e) (row-links (suc i) i (omega arith) l)

  -- The links from a shown row: none where it has no parent, one more than from its parent where it has.
  pub links-up : (i : ℕ) → i < length rows → So (is_shown rows i) →
      (climb_of rows (doc_at rows i)).links ≡ cond (eqb (parent_at rows i) none) 0 (suc (climb_of rows (parent_at rows i)).links)
  links-up i l s =
      ap (λ c. c.links) (climbs-row rows once (doc_at rows i) {i = i} l refl)
      ∙ climb-cases rows once s4 i l
      (λ f e. absurd (clash s f))
      (λ s p e. rw (e, eq-eqb _ _ p) refl)
      (λ s p j m q e. rw (e, ne_eqb _ _ p) (ap (λ c. suc c.links) (sym (climbs-row rows once (parent_at rows i) {i = j} (omega arith) q))))
