-- n places in order, fr telling their frames: at a position each frame shows one of its places, and that is all that S6 and S7 allow.
-- Everything that the theory of rows needs, with no list in it. Assumes nothing.
use Prim.Native.Nat.{ℕ, zero, suc, ◌≤◌, ◌<◌, min}
use mathlib.Core.Path.{◌≡◌, refl, sym, ap, ◌∙◌}
use mathlib.Core.Bool.{Bool, false, not, ◌&&◌, ◌||◌, So, cond, and-eq-true_iff}
use native.Mathlib.Omega.{arith}
use lib.Dec.{ltb, eqb}
use borrow.Author.Tests.{ltb-true, lt-ltb, le-ltb, leb-true, le-leb, eqb-true, eqb-false, eq-eqb, ne_eqb, not-true}
use Rattle.rules.specs.Below.{some_below, count, earliest, latest}
use Rattle.rules.specs.Steps.{same, step, reach}
use Rattle.laws.proofs.Tests.{test, clash, off, same_tests, by_order, by-lt, some_in, some_out, count-in, count-le, count-mono, count-flat, count_same, count-first}
use Rattle.laws.proofs.Tests.{count-zero, count_yes, count_no, count-but, one_in, greatest, least, earliest-is, latest-is}

-- Of n places, i passes q and no later place of its frame does.
unfoldable pub last : ℕ → (ℕ → ℕ) → (ℕ → Bool) → ℕ → Bool
last n fr q i = ltb i n && q i && not (some_below n (λ k. same fr i k && ltb i k && q k))

-- No step, or one of the first p steps.
unfoldable pub due : (ℕ → ℕ) → ℕ → ℕ → Bool
due fr p i = not (step fr i) || ltb (count (step fr) i) p

-- Position, S6 and S7 over plain functions, s telling who is shown.
abbrev pub position_of : ℕ → (ℕ → ℕ) → (ℕ → Bool) → ℕ
position_of n fr s = count (λ k. step fr k && reach n fr s k) n

abbrev pub OneEach : ℕ → (ℕ → ℕ) → (ℕ → Bool) → Type 0
OneEach n fr s = (i : ℕ) → i < n → count (λ k. same fr i k && s k) n ≡ 1

abbrev pub Later : ℕ → (ℕ → ℕ) → (ℕ → Bool) → Type 0
Later n fr s = (i j : ℕ) → i < n → j < n → So (step fr i && not (reach n fr s i)) → So (step fr j) → So (s j) → j < i

module _ (fr : ℕ → ℕ) where
  pub step_in : {j i : ℕ} → j < i → fr j ≡ fr i → So (step fr i)
  unfolding step
  step_in {j} {i} l e = some_in (same fr i) i l (eq-eqb (fr j) (fr i) e)

  pub step-out : (i : ℕ) → So (step fr i) → (j : ℕ) × (j < i) × (fr j ≡ fr i)
  unfolding step
  step-out i s = let r = some_out (same fr i) i s in (r.0, r.1, eqb-true _ _ r.2)

  -- The first place of i's frame.
  pub first : (i : ℕ) → (j : ℕ) × (j ≤ i) × (fr j ≡ fr i) × (step fr j ≡ false)
  first i =
      let r = least (same fr i) i (eq-eqb (fr i) (fr i) refl) in
      let e = eqb-true _ _ r.2 in
      (r.0, r.1, e, off _ (λ s. let o = step-out r.0 s in r.3 o.0 o.1 (eq-eqb _ _ (o.2 ∙ e))))

  module _ (p i : ℕ) where
    pub due-first : step fr i ≡ false → So (due fr p i)
    unfolding due
    due-first h = rw h refl

    pub due_in : count (step fr) i < p → So (due fr p i)
    unfolding due
    due_in l = test (step fr i) (λ t. rw (t, lt-ltb _ _ l) refl) (λ f. rw f refl)

    pub due-out : So (due fr p i) → So (step fr i) → count (step fr) i < p
    unfolding due
    due-out d s = ltb-true _ _ (rw s at d)

    pub due-step : (step fr i && due fr p i) ≡ (step fr i && ltb (count (step fr) i) p)
    unfolding due
    due-step = test (step fr i) (λ t. rw t refl) (λ f. rw f refl)

  -- With a place every earlier one of its frame is due.
  pub due-down : (p : ℕ) {i k : ℕ} → i ≤ k → fr k ≡ fr i → So (due fr p k) → So (due fr p i)
  due-down p {i} {k} a e d =
      by_order i k (λ l. due_in p i (omega (arith, due-out p k d (step_in l (sym e)), count-mono (step fr) k a))) (λ q. rw q d) (λ l. absurd (omega arith))

module _ (n : ℕ) (fr : ℕ → ℕ) where
  module _ (s : ℕ → Bool) where
    pub reach-in : {i k : ℕ} → i ≤ k → k < n → fr k ≡ fr i → So (s k) → So (reach n fr s i)
    unfolding reach
    reach-in {i} {k} a b e t = some_in _ n b (simp and-eq-true_iff ((eq-eqb _ _ e, le-leb _ _ a), t))

    pub reach-out : (i : ℕ) → So (reach n fr s i) → (k : ℕ) × (i ≤ k) × (k < n) × (fr k ≡ fr i) × So (s k)
    unfolding reach
    reach-out i h =
        let r = some_out _ n h in
        let t = simp and-eq-true_iff at r.2 in
        (r.0, leb-true _ _ t.0.1, r.1, eqb-true _ _ t.0.0, t.1)

    pub last-in : {i : ℕ} → i < n → So (s i) → ((k : ℕ) → i < k → k < n → fr k ≡ fr i → So (s k) → ⊥) → So (last n fr s i)
    unfolding last
    last-in {i} l h none =
        rw (
          lt-ltb _ _ l,
          h,
          off (some_below n (λ k. same fr i k && ltb i k && s k)) (λ o.
              let r = some_out _ n o in
              let t = simp and-eq-true_iff at r.2 in
              none r.0 (ltb-true _ _ t.0.1) r.1 (eqb-true _ _ t.0.0) t.1),
        )

    pub last_out : (i : ℕ) → So (last n fr s i) → So (s i) × ((k : ℕ) → i < k → k < n → fr k ≡ fr i → So (s k) → ⊥)
    unfolding last
    last_out i h =
        let t = simp and-eq-true_iff at h in
        (t.0.1, λ k a b e u. clash (some_in _ n b (simp and-eq-true_iff ((eq-eqb _ _ e, lt-ltb _ _ a), u))) (not-true _ t.1))

  module _ (s : ℕ → Bool) where
    pub last-below : (i : ℕ) → n ≤ i → last n fr s i ≡ false
    unfolding last
    last-below i l = rw (le-ltb _ _ l) refl

    -- Where a frame shows at most one place, that is the last one reached.
    pub last-reach : ((i k : ℕ) → i < n → k < n → fr k ≡ fr i → So (s i) → So (s k) → i ≡ k) → (i : ℕ) → i < n → last n fr (reach n fr s) i ≡ s i
    last-reach only i a =
        same_tests
        (λ h.
        let l = last_out (reach n fr s) i h in
        let r = reach-out s i l.0 in
        by_order i r.0 (λ b. absurd (l.1 r.0 b r.2 r.3 (reach-in s (omega arith) r.2 refl r.4))) (λ q. rw q r.4) (λ b. absurd (omega arith)))
        (λ t. last-in (reach n fr s) a (reach-in s (omega arith) a refl t) (λ k b c e r.
        let m = reach-out s k r in
        let q = only i m.0 a m.2 (m.3 ∙ e) t m.4 in
        omega arith))

    -- A test that goes back to the first of each frame is what its last places reach.
    pub reach-last : ((i k : ℕ) → i ≤ k → k < n → fr k ≡ fr i → So (s k) → So (s i)) → (i : ℕ) → i < n → reach n fr (last n fr s) i ≡ s i
    reach-last down i a =
        same_tests
        (λ h. let r = reach-out (last n fr s) i h in down i r.0 r.1 r.2 r.3 (last_out s r.0 r.4).0)
        (λ t.
        let g = greatest (λ k. same fr i k && s k) n a (simp and-eq-true_iff (eq-eqb (fr i) (fr i) refl, t)) in
        let u = simp and-eq-true_iff at g.3 in
        let e = eqb-true _ _ u.0 in
        reach-in (last n fr s) g.1 g.2 e (last-in s g.2 u.1 (λ k b c f v. g.4 k b c (simp and-eq-true_iff (eq-eqb (fr k) (fr i) (f ∙ e), v)))))

  -- Only the frame's own places count.
  pub last-same : (q r : ℕ → Bool) (i : ℕ) → i < n → ((k : ℕ) → k < n → fr k ≡ fr i → q k ≡ r k) → last n fr q i ≡ last n fr r i
  last-same q r i a h = same_tests (half q r h) (half r q (λ k l e. sym (h k l e)))
    where
      half : (q r : ℕ → Bool) → ((k : ℕ) → k < n → fr k ≡ fr i → q k ≡ r k) → So (last n fr q i) → So (last n fr r i)
      half q r h t = let o = last_out q i t in last-in r a (sym (h i a refl) ∙ o.0) (λ k b c e u. o.1 k b c e (h k c e ∙ u))

  -- Where S7 holds and firsts are reached, what is reached is what is due at the count of reached steps.
  module _ (s : ℕ → Bool)
      (kept : (i : ℕ) → i < n → step fr i ≡ false → So (reach n fr s i))
      (later : (i j : ℕ) → i < n → j < n → So (step fr i) → reach n fr s i ≡ false → So (step fr j) → So (s j) → j < i) where
    abbrev taken : ℕ → Bool
    taken i = step fr i && reach n fr s i

    -- A taken step comes before every step that is not taken.
    before : (i k : ℕ) → i < n → k < n → So (step fr i) → reach n fr s i ≡ false → So (taken k) → k < i
    before i k a b t f u =
        let v = simp and-eq-true_iff at u in
        let r = reach-out s k v.1 in
        let o = step-out fr k v.0 in
        omega (arith, later i r.0 a r.2 t f (step_in fr {j = o.0} (omega arith) (o.2 ∙ sym r.3)) r.4)

    pub reached-due : (i : ℕ) → i < n → reach n fr s i ≡ due fr (count taken n) i
    reached-due i a =
        same_tests
        (λ r.
        test (step fr i)
        (λ t.
        let u : So (taken i) = simp and-eq-true_iff (t, r) in
        let c = count-le (step fr) taken i (λ k l v.
        test (reach n fr s k) (λ w. simp and-eq-true_iff (v, w)) (λ f. absurd (omega (arith, before k i (omega arith) a v f u)))) in
        due_in fr _ i (omega (arith, count-in taken n a u)))
        (λ f. due-first fr _ i f))
        (λ d.
        test (reach n fr s i) (λ r. r) (λ f.
        test (step fr i)
        (λ t.
        let c = count-le taken (step fr) i (λ k l v. (simp and-eq-true_iff at v).0) in
        let e = count-flat taken n {i = i} (omega arith) (λ k l m. off (taken k) (λ v. omega (arith, before i k a m t f v))) in
        absurd (omega (arith, due-out fr _ i d t)))
        (λ g. kept i a g)))

  -- WHO IS SHOWN AT POSITION p: the last due place of each frame.
  module _ (p : ℕ) where
    abbrev pub shows : ℕ → Bool
    shows = last n fr (due fr p)

    pub shows-reach : (i : ℕ) → i < n → reach n fr shows i ≡ due fr p i
    shows-reach = reach-last (due fr p) (λ i k a b e d. due-down fr p a e d)

    pub shows-count : position_of n fr shows ≡ min p (count (step fr) n)
    shows-count = count_same _ _ n (λ k a. rw (shows-reach k a) (due-step fr p k)) ∙ count-first (step fr) p n

    pub shows_same : (i k : ℕ) → i < n → k < n → fr k ≡ fr i → So (shows i) → So (shows k) → k ≡ i
    shows_same i k a b e s t =
        let u = last_out (due fr p) i s in
        let v = last_out (due fr p) k t in
        by_order i k (λ l. absurd (u.1 k l b e v.0)) (λ q. sym q) (λ l. absurd (v.1 i l a (sym e) u.0))

    pub shows-one : OneEach n fr shows
    shows-one i a =
        let j = first fr i in
        let l : j.0 < n = omega arith in
        let r = reach-out shows j.0 (shows-reach j.0 l ∙ due-first fr p j.0 j.3) in
        let e = r.3 ∙ j.2 in
        one_in _ n r.0 r.2 (simp and-eq-true_iff (eq-eqb _ _ e, r.4)) (λ k b t.
        let u = simp and-eq-true_iff at t in
        shows_same r.0 k r.2 b (eqb-true _ _ u.0 ∙ sym e) r.4 u.1)

    pub shows_later : Later n fr shows
    shows_later i j a b s t m =
        let d = due-out fr p j (last_out (due fr p) j m).0 t in
        let u = simp and-eq-true_iff at s in
        by-lt j i (λ l. l) (λ l.
        absurd (clash (shows-reach i a ∙ due_in fr p i (omega (arith, count-mono (step fr) j l))) (not-true _ u.1)))

  -- ONE STEP: i is the step between position p and the next.
  module _ (p i : ℕ) (a : i < n) (s : So (step fr i)) (e : count (step fr) i ≡ p) where
    pub next-due : (m : ℕ) → (fr m ≡ fr i → ⊥) → due fr p m ≡ due fr (suc p) m
    next-due m ne =
        same_tests
        (λ d. test (step fr m) (λ t. due_in fr _ m (omega (arith, due-out fr p m d t))) (λ f. due-first fr _ m f))
        (λ d.
        test (step fr m)
        (λ t.
        let c = due-out fr (suc p) m d t in
        by_order m i (λ l. due_in fr p m (omega (arith, count-in (step fr) i l t))) (λ q. absurd (ne (ap fr q))) (λ l. absurd (omega (arith, count-in (step fr) m l s))))
        (λ f. due-first fr _ m f))

    -- After it, i is shown.
    pub next-shows : So (shows (suc p) i)
    next-shows =
        last-in (due fr (suc p)) a (due_in fr (suc p) i (omega arith)) (λ k b c f d.
        omega (arith, due-out fr (suc p) k d (step_in fr b (sym f)), count-in (step fr) k b s))

    -- It is the earliest upcoming step at p,
    pub next-first : earliest (λ k. step fr k && not (reach n fr (shows p) k)) n ≡ i
    next-first =
        earliest-is _ n a
        (rw (shows-reach p i a, s, off (due fr p i) (λ d. omega (arith, due-out fr p i d s))) refl)
        (λ m l t.
        let u = simp and-eq-true_iff at t in
        clash (shows-reach p m (omega arith) ∙ due_in fr p m (omega (arith, count-in (step fr) i l u.0))) (not-true _ u.1))

    -- and the latest shown step at the next position.
    pub next_last : latest (λ k. step fr k && shows (suc p) k) n ≡ i
    next_last =
        latest-is _ n a (simp and-eq-true_iff (s, next-shows)) (λ m b c t.
        let u = simp and-eq-true_iff at t in
        omega (arith, due-out fr (suc p) m (last_out (due fr (suc p)) m u.1).0 u.0, count-in (step fr) m b s))

    -- Before it, its frame shows the place before it there.
    module _ (j : ℕ) (l : j < i) (f : fr j ≡ fr i) (gap : (m : ℕ) → j < m → m < i → fr m ≡ fr i → ⊥) where
      pub before-shows : So (shows p j)
      before-shows =
          last-in (due fr p) (omega arith) (test (step fr j) (λ t. due_in fr p j (omega (arith, count-in (step fr) i l t))) (λ g. due-first fr p j g)) (λ k b c g d.
          by-lt k i (λ v. gap k b v (g ∙ f)) (λ v. omega (arith, due-out fr p k d (step_in fr b (sym g)), count-mono (step fr) k v)))

  -- To show i at p gives q, if i is shown at q and no other frame differs.
  pub swap : (p q i : ℕ) → i < n → So (shows q i) → ((m : ℕ) → (fr m ≡ fr i → ⊥) → due fr p m ≡ due fr q m) → (k : ℕ) → k < n →
      cond (same fr i k) (eqb k i) (shows p k) ≡ shows q k
  swap p q i a s rest k b =
      test (same fr i k)
      (λ t.
      rw t (same_tests (λ e. rw (eqb-true k i e) s) (λ m. eq-eqb k i (shows_same q i k a b (eqb-true _ _ t) s m))))
      (λ f. rw f (last-same (due fr p) (due fr q) k b (λ m c e. rest m (λ g. eqb-false _ _ f (sym e ∙ g)))))

-- Where p passes at most one of a frame, and only of frames of which q passes one, p passes no more than q.
pub no_more : (n m : ℕ) (fr : ℕ → ℕ) (p q : ℕ → Bool) → ((i : ℕ) → i < n → So (p i) → (k : ℕ) × (k < m) × (fr k ≡ fr i) × So (q k)) →
    ((i j : ℕ) → i < j → j < n → fr i ≡ fr j → So (p i) → So (p j) → ⊥) → count p n ≤ count q m
no_more zero m fr p q to apart = omega (arith, count-zero p)
no_more (suc n) m fr p q to apart =
    test (p n)
    (λ t.
    let x = to n (omega arith) t in
    let less = no_more n m fr p (λ k. not (eqb k x.0) && q k)
    (λ i l s.
    let k = to i (omega arith) s in
    let ne = ne_eqb k.0 x.0 (λ e. apart i n l (omega arith) (sym k.2 ∙ ap fr e ∙ x.2) s t) in
    (k.0, k.1, k.2, rw ne k.3))
    (λ i j a b. apart i j a (omega arith)) in
    omega (arith, count_yes p n t, count-but q m x.0 x.1 x.3))
    (λ f. omega (arith, count_no p n f, no_more n m fr p q (λ i l. to i (omega arith)) (λ i j a b. apart i j a (omega arith))))
