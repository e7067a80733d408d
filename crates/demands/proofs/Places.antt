-- n places in order as a history of 001: its traversals are the positions, forward and back, and nothing else. No list of rows is in sight.
-- Assumes nothing.
use Prim.Native.Nat.{ℕ, zero, suc, ◌+◌, ◌≤◌, ◌<◌}
use mathlib.Core.Path.{◌≡◌, refl, sym, ap, ◌∙◌, subst}
use mathlib.Core.List.{List, [], ◌∷◌}
use mathlib.Core.Logic.{◌⊎◌, inl, inr, ⊎_elim, ◌↔◌, ◌≢◌}
use mathlib.Core.Bool.{Bool, So, false, cond}
use native.Mathlib.Nat.{add-suc, add-zero}
use native.Mathlib.Omega.{arith}
use lib.Dec.{eqb}
use lib.ListN.{length}
use borrow.Author.Tests.{eqb-true, eqb-false, eq-eqb}
use Rattle.rules.specs.Below.{count}
use Rattle.rules.specs.Steps.{same, step}
use Rattle.laws.proofs.Tests.{test, off, count-in, nth, greatest, by_order, by-lt}
use Rattle.laws.proofs.Frames.{due, first, step_in, step-out, due-first, due_in, due-out, due-down, reach-out, last_out, shows, shows-reach, next-due, next-shows, before-shows, swap}
use Rattle.demands.specs.Model.{History, Earlier, Future, JointFuture, JointPast, CanGoBack, traversing_to, Same, Leads, ToEach, Forward, NextBefore, FromEach, Backward}
use Rattle.demands.specs.Follows.{of_places}
use Rattle.demands.proofs.Histories.{same_refl, same-sym, through_same, back-same, leads-same}

module _ (n : ℕ) (doc fr par : ℕ → ℕ) (one : (i j : ℕ) → i < n → j < n → doc i ≡ doc j → i ≡ j) where
  abbrev M : (ℕ → Bool) → History
  M sh = of_places n doc fr par sh

  -- To traverse to the document of place i is to show it in its frame.
  to_row : (sh new : ℕ → Bool) (i : ℕ) → i < n → ((k : ℕ) → k < n → cond (same fr i k) (eqb k i) (sh k) ≡ new k) → Same (traversing_to (M sh) (doc i)) (M new)
  to_row sh new i a h =
      record {
        D = λ d. (λ x. x, λ x. x);
        A = λ e. (
          ⊎_elim
              (λ x.
              let k = x.1 in
              let f : same fr i k.0 ≡ false = off _ (λ t. x.0 (i, k.0, a, k.1, refl, k.2, sym (eqb-true _ _ t))) in
              (k.0, k.1, k.2, sym (h k.0 k.1) ∙ rw f k.3))
              (λ q. (i, a, q, sym (h i a) ∙ rw (eq-eqb (fr i) (fr i) refl, eq-eqb i i refl))),
          λ k.
              let s = h k.0 k.1 ∙ k.3 in
              test (same fr i k.0)
              (λ t. inr (ap doc (sym (eqb-true k.0 i (rw t at s))) ∙ k.2))
              (λ f. inl (
                λ x.
                    eqb-false _ _ f (ap fr (one k.0 x.1 k.1 x.3 (k.2 ∙ sym x.5)) ∙ sym x.6 ∙ ap fr (one x.0 i x.2 a x.4)),
                (k.0, k.1, k.2, rw f at s),
              )),
        );
        child = λ d e. (λ x. x, λ x. x);
        le = λ d e. (λ x. x, λ x. x);
        sim = λ d e. (λ x. x, λ x. x);
      }

  module _ (sh : ℕ → Bool) where
    lt_in : {i j : ℕ} → i < j → j < n → Earlier (M sh) (doc i) (doc j)
    lt_in {i} {j} a b = ((i, j, omega arith, b, refl, refl), λ e. let q = one i j (omega arith) b e in omega arith)

    le_out : {d e : ℕ} (i j : ℕ) → i < n → j < n → doc i ≡ d → doc j ≡ e → (M sh).le d e → i ≤ j
    le_out i j a b p q x =
        let u = one x.0 i (omega (arith, x.2, x.3)) a (x.4 ∙ sym p) in
        let v = one x.1 j x.3 b (x.5 ∙ sym q) in
        omega (arith, x.2)

    later-in : {i j : ℕ} → i < j → j < n → fr i ≡ fr j → Future (M sh) (doc i) (doc j)
    later-in {i} {j} a b e = ((i, j, omega arith, b, refl, refl, e), lt_in a b)

    pub later-out : {d e : ℕ} → Future (M sh) d e → (i : ℕ) × (j : ℕ) × (i < j) × (j < n) × (doc i ≡ d) × (doc j ≡ e) × (fr i ≡ fr j)
    later-out x =
        let s = x.0 in
        let l = le_out s.0 s.1 s.2 s.3 s.4 s.5 x.1.0 in
        let ne : s.0 ≢ s.1 = λ q. x.1.1 (sym s.4 ∙ ap doc q ∙ s.5) in
        (s.0, s.1, omega arith, s.3, s.4, s.5, s.6)

  -- The documents of the steps from number p on, and of those before.
  abbrev Upcoming : ℕ → ℕ → Type 0
  Upcoming p e = (i : ℕ) × (i < n) × (doc i ≡ e) × So (step fr i) × (p ≤ count (step fr) i)

  abbrev Taken : ℕ → ℕ → Type 0
  Taken p e = (i : ℕ) × (i < n) × (doc i ≡ e) × So (step fr i) × (count (step fr) i < p)

  abbrev at : ℕ → History
  at p = M (shows n fr p)

  module _ (p : ℕ) where
    -- Patch 2's joint session future, and patch 3's list without documents that can't go back.
    pub future-out : (e : ℕ) → JointFuture (at p) e → Upcoming p e
    future-out e x =
        let a = later-out (shows n fr p) x.2 in
        let k = x.1 in
        let q = one k.0 a.0 k.1 (omega (arith, a.2, a.3)) (k.2 ∙ sym a.4) in
        let s = step_in fr a.2 a.6 in
        let o = last_out n fr (due fr p) k.0 k.3 in
        (a.1, a.3, a.5, s, by-lt (count (step fr) a.1) p (λ l. absurd (o.1 a.1 (omega (arith, a.2)) a.3 (sym a.6 ∙ ap fr (sym q)) (due_in fr p a.1 l))) (λ l. l))

    pub future-in : (e : ℕ) → Upcoming p e → JointFuture (at p) e
    future-in e u =
        let j = first fr u.0 in
        let b = u.1 in
        let r = reach-out n fr (shows n fr p) j.0 (shows-reach n fr p j.0 (omega (arith, j.1)) ∙ due-first fr p j.0 j.3) in
        let f = r.3 ∙ j.2 in
        let l : r.0 < u.0 =
        by-lt r.0 u.0 (λ l. l) (λ l. absurd (omega (arith, u.4, due-out fr p u.0 (due-down fr p l f (last_out n fr (due fr p) r.0 r.4).0) u.3))) in
        (doc r.0, (r.0, r.2, refl, r.4), subst (λ e. Future (at p) (doc r.0) e) u.2 (later-in (shows n fr p) l u.1 f))

    past-out : (e : ℕ) → (JointPast (at p) e ⊎ (at p).A e) × CanGoBack (at p) e → Taken p e
    past-out e x =
        let c = later-out (shows n fr p) x.1.1 in
        let s = step_in fr c.2 c.6 in
        let d : So (due fr p c.1) =
        ⊎_elim
        (λ y.
        let a = later-out (shows n fr p) y.2 in
        let k = y.1 in
        let u = one a.0 c.1 (omega (arith, a.2, a.3)) c.3 (a.4 ∙ sym c.5) in
        let v = one k.0 a.1 k.1 a.3 (k.2 ∙ sym a.5) in
        due-down fr p {i = c.1} {k = k.0} (omega (arith, a.2)) (ap fr v ∙ sym a.6 ∙ ap fr u) (last_out n fr (due fr p) k.0 k.3).0)
        (λ k. subst (λ i. So (due fr p i)) (one k.0 c.1 k.1 c.3 (k.2 ∙ sym c.5)) (last_out n fr (due fr p) k.0 k.3).0)
        x.0 in
        (c.1, c.3, c.5, s, due-out fr p c.1 d s)

    past-in : (e : ℕ) → Taken p e → (JointPast (at p) e ⊎ (at p).A e) × CanGoBack (at p) e
    past-in e u =
        let r = reach-out n fr (shows n fr p) u.0 (shows-reach n fr p u.0 u.1 ∙ due_in fr p u.0 u.4) in
        let o = step-out fr u.0 u.3 in (
          by-lt u.0 r.0
              (λ l. inl (doc r.0, (r.0, r.2, refl, r.4), subst (λ e. Future (at p) e (doc r.0)) u.2 (later-in (shows n fr p) l r.2 (sym r.3))))
              (λ l. let q : r.0 ≡ u.0 = omega (arith, r.1) in inr (r.0, r.2, ap doc q ∙ u.2, r.4)),
          (doc o.0, subst (λ e. Future (at p) (doc o.0) e) u.2 (later-in (shows n fr p) o.1 u.1 o.2)),
        )

  abbrev ordered : ℕ → ℕ → Type 0
  ordered = Earlier (at 0)

  abbrev reversed : ℕ → ℕ → Type 0
  reversed d e = Earlier (at 0) e d

  -- Place i is the step with number p: it stands between position p and the next.
  module _ (p i : ℕ) (a : i < n) (s : So (step fr i)) (c : count (step fr) i ≡ p) where
    later_ones : (e : ℕ) → Upcoming (suc p) e ↔ (Upcoming p e × (doc i ≢ e))
    later_ones e = (
      λ u. ((u.0, u.1, u.2, u.3, omega (arith, u.4)), λ q. let w = ap (count (step fr)) (one i u.0 a u.1 (q ∙ sym u.2)) in omega (arith, u.4)),
      λ u.
          let v = u.0 in
          by_order i v.0
          (λ l. (v.0, v.1, v.2, v.3, omega (arith, count-in (step fr) v.0 l s)))
          (λ q. absurd (u.1 (ap doc q ∙ v.2)))
          (λ l. absurd (omega (arith, count-in (step fr) i l v.3, v.4))),
    )

    earlier-ones : (e : ℕ) → Taken p e ↔ (Taken (suc p) e × (doc i ≢ e))
    earlier-ones e = (
      λ u. ((u.0, u.1, u.2, u.3, omega (arith, u.4)), λ q. let w = ap (count (step fr)) (one i u.0 a u.1 (q ∙ sym u.2)) in omega (arith, u.4)),
      λ u.
          let v = u.0 in
          by_order i v.0
          (λ l. absurd (omega (arith, count-in (step fr) v.0 l s, v.4)))
          (λ q. absurd (u.1 (ap doc q ∙ v.2)))
          (λ l. (v.0, v.1, v.2, v.3, omega (arith, count-in (step fr) i l v.3))),
    )

    -- the of_places's one step there and back
    there : Same (traversing_to (at p) (doc i)) (at (suc p))
    there = to_row (shows n fr p) (shows n fr (suc p)) i a (swap n fr p (suc p) i a (next-shows n fr p i a s c) (next-due n fr p i a s c))

    back-row : (g : ℕ) × (g < i) × So (same fr i g) × ((m : ℕ) → g < m → m < i → So (same fr i m) → ⊥)
    back-row = let o = step-out fr i s in let g = greatest (same fr i) i o.1 (eq-eqb _ _ o.2) in (g.0, g.2, g.3, g.4)

    back-again : Same (traversing_to (at (suc p)) (doc back-row.0)) (at p)
    back-again =
        let g = back-row in
        let l : g.0 < n = omega (arith, g.1) in
        let f = eqb-true _ _ g.2 in
        to_row (shows n fr (suc p)) (shows n fr p) g.0 l (swap n fr (suc p) p g.0 l
        (before-shows n fr p i a s c g.0 g.1 f (λ x y z q. g.3 x y z (eq-eqb _ _ q)))
        (λ x ne. sym (next-due n fr p i a s c x (λ q. ne (q ∙ sym f)))))

    back-before : (sh : ℕ → Bool) → NextBefore (M sh) (doc i) (doc back-row.0)
    back-before sh =
        let g = back-row in (
          later-in sh g.1 a (eqb-true _ _ g.2),
          λ e x.
              let y = later-out sh x in
              let q = one y.1 i y.3 a y.5 in
              let l : y.0 ≤ g.0 = by-lt g.0 y.0 (λ l. absurd (g.3 y.0 l (omega (arith, y.2)) (eq-eqb _ _ (y.6 ∙ ap fr q)))) (λ l. l) in
              (y.0, g.0, l, omega (arith, g.1), y.4, refl),
        )

    before-only : (sh : ℕ → Bool) (b : ℕ) → NextBefore (M sh) (doc i) b → b ≡ doc back-row.0
    before-only sh b x = same_row back-row.0 (omega (arith, back-row.1)) (back-before sh) (later-out sh x.0)
      where
        same_row : (g : ℕ) → g < n → NextBefore (M sh) (doc i) (doc g) → ((u : ℕ) × (v : ℕ) × (u < v) × (v < n) × (doc u ≡ b) × (doc v ≡ doc i) × (fr u ≡ fr v)) → b ≡ doc g
        same_row g l v y =
            let u : y.0 < n = omega (arith, y.2, y.3) in
            let l₁ = le_out sh g y.0 l u refl y.4 (x.1 (doc g) v.0) in
            let l₂ = le_out sh y.0 g u l y.4 refl (v.1 b x.0) in
            let e : y.0 ≡ g = omega arith in
            sym y.4 ∙ ap doc e

  -- THERE: by way of the steps in order.
  forward-list : (k p : ℕ) → p + k ≤ count (step fr) n → (ds : List ℕ) × (length ds ≡ k) × Leads ordered (Upcoming p) ds × ToEach ds (at p) (at (p + k))
  forward-list zero p l = ([], refl, tt, subst (λ q. Same (at p) (at q)) (sym (add-zero p)) (same_refl (at p)))
  forward-list (suc k) p l =
      let t = nth (step fr) n p (omega arith) in
      let i = t.0 in
      let r = forward-list k (suc p) (omega arith) in (
        doc i ∷ r.0,
        ap suc r.1,
        (
          (i, t.1, refl, t.2, omega (arith, t.3)),
          λ e u.
              by_order i u.0
              (λ a. inr (subst (ordered (doc i)) u.2 (lt_in (shows n fr 0) a u.1)))
              (λ q. inl (ap doc q ∙ u.2))
              (λ a. absurd (omega (arith, count-in (step fr) i a u.3, u.4, t.3))),
          leads-same ordered r.0 (Upcoming (suc p)) (λ e. Upcoming p e × (doc i ≢ e)) (later_ones p i t.1 t.2 t.3) r.2,
        ),
        subst (λ q. ToEach r.0 (traversing_to (at p) (doc i)) (at q)) (sym (add-suc p k ∙ (let z : suc (p + k) ≡ suc p + k = omega arith in z)))
            (through_same r.0 (at (suc p + k)) (there p i t.1 t.2 t.3) r.3),
      )

  back-list : (k p : ℕ) → p + k ≤ count (step fr) n → (ds : List ℕ) × (length ds ≡ k) × Leads reversed (Taken (p + k)) ds × FromEach ds (at (p + k)) (at p)
  back-list zero p l = ([], refl, tt, subst (λ q. Same (at q) (at p)) (sym (add-zero p)) (same_refl (at p)))
  back-list (suc k) p l =
      let m = p + k in
      let t = nth (step fr) n m (omega arith) in
      let i = t.0 in
      let r = back-list k p (omega arith) in
      let leads : Leads reversed (Taken (suc m)) (doc i ∷ r.0) = (
        (i, t.1, refl, t.2, omega (arith, t.3)),
        λ e u.
            by_order i u.0
            (λ a. absurd (omega (arith, count-in (step fr) u.0 a t.2, u.4, t.3)))
            (λ q. inl (ap doc q ∙ u.2))
            (λ a. inr (subst (λ e. ordered e (doc i)) u.2 (lt_in (shows n fr 0) a t.1))),
        leads-same reversed r.0 (Taken m) (λ e. Taken (suc m) e × (doc i ≢ e)) (earlier-ones m i t.1 t.2 t.3) r.2,
      ) in (
        doc i ∷ r.0,
        ap suc r.1,
        subst (λ q. Leads reversed (Taken q) (doc i ∷ r.0)) (sym (add-suc p k)) leads,
        subst (λ q. FromEach (doc i ∷ r.0) (at q) (at p)) (sym (add-suc p k))
            (doc (back-row m i t.1 t.2 t.3).0, back-before m i t.1 t.2 t.3 (shows n fr (suc m)), back-same r.0 (at p) (back-again m i t.1 t.2 t.3) r.3),
      )

  -- 001's traversals reach the positions.
  pub goes-forward : (k p : ℕ) → p + k ≤ count (step fr) n → Forward k (at p) (at (p + k))
  goes-forward k p l =
      let r = forward-list k p l in
      (r.0, r.1, leads-same ordered r.0 (Upcoming p) (JointFuture (at p)) (λ e. (future-in p e, future-out p e)) r.2, r.3)

  pub goes_back : (k p : ℕ) → p + k ≤ count (step fr) n → Backward k (at (p + k)) (at p)
  goes_back k p l =
      let r = back-list k p l in
      (r.0, r.1, leads-same reversed r.0 (Taken (p + k)) _ (λ e. (past-in (p + k) e, past-out (p + k) e)) r.2, r.3)

  -- and nothing else is the of_places's
  forward-only : (ds : List ℕ) (p : ℕ) (K : History) → p ≤ count (step fr) n → Leads ordered (Upcoming p) ds → ToEach ds (at p) K → (p + length ds ≤ count (step fr) n) × Same (at (p + length ds)) K
  forward-only [] p K few l t = rw (add-zero p) (few, t)
  forward-only (d ∷ ds) p K few l t =
      let u = l.0 in
      let x = nth (step fr) n p (omega (arith, count-in (step fr) n u.1 u.3, u.4)) in
      let i = x.0 in
      let q : doc i ≡ d =
      ⊎_elim sym (λ y.
      let m = le_out (shows n fr 0) u.0 i u.1 x.1 u.2 refl y.0 in
      by_order u.0 i (λ z. absurd (omega (arith, count-in (step fr) i z u.3, u.4, x.3))) (λ z. ap doc (sym z) ∙ u.2) (λ z. absurd (omega arith)))
      (l.1 (doc i) (i, x.1, refl, x.2, omega (arith, x.3))) in
      let e : p + suc (length ds) ≡ suc p + length ds = omega arith in
      let r = forward-only ds (suc p) K (omega (arith, count-in (step fr) n u.1 u.3, u.4))
      (leads-same ordered ds (λ e. Upcoming p e × (doc i ≢ e)) (Upcoming (suc p)) (λ e. let h = later_ones p i x.1 x.2 x.3 e in (h.1, h.0)) (subst (λ d. Leads ordered (λ e. Upcoming p e × (d ≢ e)) ds) (sym q) l.2))
      (through_same ds K (same-sym (there p i x.1 x.2 x.3)) (subst (λ d. ToEach ds (traversing_to (at p) d) K) (sym q) t)) in
      subst (λ m. (m ≤ count (step fr) n) × Same (at m) K) (sym e) r

  one_more : (k p : ℕ) (K : History) → ((q : ℕ) × (q + k ≡ p) × Same (at q) K) → (q : ℕ) × (q + suc k ≡ suc p) × Same (at q) K
  one_more k p K r = (r.0, add-suc r.0 k ∙ ap suc r.1, r.2)

  back-only : (ds : List ℕ) (p : ℕ) (K : History) → p ≤ count (step fr) n → Leads reversed (Taken p) ds → FromEach ds (at p) K → (q : ℕ) × (q + length ds ≡ p) × Same (at q) K
  back-only [] p K few l t = (p, add-zero p, t)
  back-only (d ∷ ds) zero K few l t = absurd (omega (arith, l.0.4))
  back-only (d ∷ ds) (suc p) K few l t =
      let u = l.0 in
      let x = nth (step fr) n p (omega arith) in
      let i = x.0 in
      let q : doc i ≡ d =
      ⊎_elim sym (λ y.
      let m = le_out (shows n fr 0) i u.0 x.1 u.1 refl u.2 y.0 in
      by_order i u.0 (λ z. absurd (omega (arith, count-in (step fr) u.0 z x.2, u.4, x.3))) (λ z. ap doc z ∙ u.2) (λ z. absurd (omega arith)))
      (l.1 (doc i) (i, x.1, refl, x.2, omega (arith, x.3))) in
      let sh = shows n fr (suc p) in
      let g = back-row p i x.1 x.2 x.3 in
      let same-b : t.0 ≡ doc g.0 = before-only p i x.1 x.2 x.3 sh t.0 (subst (λ d. NextBefore (at (suc p)) d t.0) (sym q) t.1) in
      let r = back-only ds p K (omega arith)
      (leads-same reversed ds (λ e. Taken (suc p) e × (doc i ≢ e)) (Taken p) (λ e. let h = earlier-ones p i x.1 x.2 x.3 e in (h.1, h.0)) (subst (λ d. Leads reversed (λ e. Taken (suc p) e × (d ≢ e)) ds) (sym q) l.2))
      (back-same ds K (same-sym (back-again p i x.1 x.2 x.3)) (subst (λ b. FromEach ds (traversing_to (at (suc p)) b) K) same-b t.2)) in
      one_more (length ds) p K r

  pub only-forward : (k p : ℕ) (K : History) → p ≤ count (step fr) n → Forward k (at p) K → (p + k ≤ count (step fr) n) × Same (at (p + k)) K
  only-forward k p K few f =
      subst (λ k. (p + k ≤ count (step fr) n) × Same (at (p + k)) K) f.1
      (forward-only f.0 p K few (leads-same ordered f.0 (JointFuture (at p)) (Upcoming p) (λ e. (future-out p e, future-in p e)) f.2) f.3)

  pub only-back : (k p : ℕ) (K : History) → p ≤ count (step fr) n → Backward k (at p) K → (q : ℕ) × (q + k ≡ p) × Same (at q) K
  only-back k p K few f =
      subst (λ k. (q : ℕ) × (q + k ≡ p) × Same (at q) K) f.1
      (back-only f.0 p K few (leads-same reversed f.0 _ (Taken p) (λ e. (past-out p e, past-in p e)) f.2) f.3)
