-- The two lists, filled row by row. Assumes nothing.
use Prim.Native.Nat.{ℕ, suc, ◌+◌, ◌-◌, ◌≤◌, ◌<◌, max}
use mathlib.Core.Bool.{Bool, true, false, ◌&&◌, So}
use mathlib.Core.List.{List, [], ◌∷◌, reverse, reverse-append}
use mathlib.Core.Path.{◌≡◌, refl, sym, ap, ap₂, subst, ◌∙◌}
use native.Mathlib.Nat.{le_antisymm}
use native.Mathlib.Numerals.{add-one}
use native.Mathlib.Omega.{arith}
use mir.Val.{bool_byte}
use lib.ListN.{length, set}
use borrow.Author.Tests.{ltb-true, lt-ltb, le-ltb}
use Rattle.rules.specs.Below.{count, earliest, gather}
use Rattle.rules.specs.Rows.{Row, doc_at}
use Rattle.rules.specs.Steps.{is_step, taken, upcoming, position, steps}
use Rattle.rules.specs.Words.{put}
use Rattle.rules.specs.Sound.{S6}
use Rattle.rules.specs.Asks.{taken_list, upcoming_list}
use Rattle.laws.specs.Alone.{InOrder}
use Rattle.laws.proofs.Tests.{test, off, count_yes, count_no, count-mono, count_most, count-run, count-full, length-gather, gather-flat}
use Rattle.laws.proofs.Lists.{taken_is, upcoming-is, count-taken, count-upcoming}
use Rattle.laws.proofs.Standing.{upto-start, position-start}
use Rattle.laws.proofs.Writes.{put-none, put-before, put-after}
use Rattle.lists.specs.Listing.{taken_with, upcoming_with, Begun, TakensTo, UpcomingsTo}

module _ (rows : List Row) (s6 : S6 rows) (s7 : InOrder rows) where
  pub lists-none : (ts us : List ℕ) → TakensTo rows 0 ts ts × UpcomingsTo rows 0 us us
  unfolding gather
  lists-none ts us = (put-none ts _, put-none us _)

  pub takens-more : (i m d : ℕ) (s : Bool) (ts₀ ts ts' : List ℕ) → i < length rows → s ≡ is_step rows i → m ≡ count (is_step rows) i → d ≡ doc_at rows i →
      TakensTo rows i ts₀ ts → ts' ≡ taken_with s m (position rows) d ts → TakensTo rows (i + 1) ts₀ ts'
  unfolding gather
  takens-more i m d s ts₀ ts ts' l e f g h z =
      let xs = gather (taken rows) (doc_at rows) i in
      let t-is = taken_is rows s6 s7 i l in
      let c = count-taken rows s6 s7 i (omega arith) in
      z ∙ rw (e, f, g) (rw (← t-is) (test (taken rows i)
      (λ t.
      let lt = ltb-true (count (is_step rows) i) (position rows) (snd (is_step rows i) _ (sym t-is ∙ t)) in
      let a : position rows - count (taken rows) i ≡ suc (position rows - 1 - count (is_step rows) i) = omega arith in
      let b : position rows - 1 - count (is_step rows) i ≡ position rows - count (taken rows) (i + 1) = omega (arith, ap (count (taken rows)) (add-one i), count_yes (taken rows) i t) in
      rw (t, add-one i, t) (ap (λ z. set z (position rows - 1 - count (is_step rows) i) (doc_at rows i)) (h ∙ ap (λ k. put ts₀ k (reverse xs)) a)
      ∙ put-before (reverse xs) ts₀ (position rows - 1 - count (is_step rows) i) (doc_at rows i)
      ∙ ap₂ (put ts₀) (b ∙ ap (λ k. position rows - count (taken rows) k) (add-one i)) (sym (reverse-append xs (doc_at rows i ∷ [])))))
      (λ t.
      rw (t, add-one i, t) (h ∙ ap (λ k. put ts₀ (position rows - k) (reverse xs)) (sym (count_no (taken rows) i t))))))
    where
      snd : (a b : Bool) → So (a && b) → So b
      snd true b h = h
      snd false b h = absurd (mathlib.Core.Bool.false≢true h)

  pub upcomings-more : (i m d : ℕ) (s : Bool) (us₀ us us' : List ℕ) → i < length rows → s ≡ is_step rows i → m ≡ count (is_step rows) i → d ≡ doc_at rows i →
      UpcomingsTo rows i us₀ us → us' ≡ upcoming_with s m (position rows) d us → UpcomingsTo rows (i + 1) us₀ us'
  unfolding gather
  upcomings-more i m d s us₀ us us' l e f g h z =
      let xs = gather (upcoming rows) (doc_at rows) i in
      let u-is = upcoming-is rows s6 s7 i l in
      let n : count (is_step rows) i - position rows ≡ 0 + length xs = omega (arith, count-upcoming rows s6 s7 i (omega arith), length-gather (upcoming rows) (doc_at rows) i) in
      z ∙ rw (e, f, g) (rw (← u-is) (test (upcoming rows i)
      (λ t.
      rw (t, add-one i, t) (ap (λ z. set z (count (is_step rows) i - position rows) (doc_at rows i)) h ∙ ap (λ k. set (put us₀ 0 xs) k (doc_at rows i)) n ∙ put-after xs us₀ 0 (doc_at rows i)))
      (λ t. rw (t, add-one i, t) h)))

  -- WHERE ALL ROWS FROM PLACE b ON ARE STEPS

  -- It is so where as many first rows come before as there are frames.
  module _ (i m frames : ℕ) (e : m ≡ count (is_step rows) i) (h : m ≤ i) (f : frames ≡ length rows - steps rows) where
    pub begun-later : i ≤ length rows → i - m < frames → i < length rows
    unfolding steps
    begun-later l g = omega (arith, count-mono (is_step rows) (length rows) l, count_most (is_step rows) (length rows))

    -- It was not yet so before a step.
    pub begun-not-yet : (b : Bool) → b ≡ is_step rows i → i - m < frames → (k : ℕ) → k + 1 ≡ i + 1 → So (is_step rows k) → i + 1 - (m + bool_byte b) < frames
    begun-not-yet b g l k q t =
        let z : k ≡ i = omega arith in
        let y : b ≡ true = g ∙ subst (λ k. So (is_step rows k)) z t in
        rw y (omega arith)

    pub begun-here : i ≤ length rows → i ≤ m + frames → ((k : ℕ) → k + 1 ≡ i → So (is_step rows k) → i - m < frames) → frames ≤ i - m → Begun rows i
    unfolding steps
    begun-here l a j b =
        record { upto = l; steps = count-full (is_step rows) (length rows) (omega (arith, count_most (is_step rows) (length rows))); just = λ k q. off (is_step rows k) (λ t. omega (arith, j k q t)) }

  abbrev start : ℕ
  start = earliest (upcoming rows) (length rows)

  module _ (b : ℕ) (begun : Begun rows b) where
    -- How many steps come before a place, counted from the earliest upcoming step and from the rows' end.
    to_start : (i : ℕ) → b ≤ i → i ≤ start → position rows ≡ count (is_step rows) i + (start - i)
    to_start i x y = sym (position-start rows s6 s7) ∙ count-run (is_step rows) start y (λ k c d. begun.steps k (omega arith) (omega (arith, upto-start rows s6 s7)))

    to_end : (i : ℕ) → b ≤ i → i ≤ length rows → steps rows ≡ count (is_step rows) i + (length rows - i)
    unfolding steps
    to_end i x y = count-run (is_step rows) (length rows) y (λ k c d. begun.steps k (omega arith) d)

    past-start : (i : ℕ) → start ≤ i → position rows ≤ count (is_step rows) i
    past-start i x = omega (arith, position-start rows s6 s7, count-mono (is_step rows) i x)

    -- The taken ones.
    pub taken-room : (i : ℕ) → b ≤ i → i < start → start - i ≤ position rows
    taken-room i x y = omega (arith, to_start i x (omega arith))

    pub taken-on : (i d : ℕ) (ts₀ ts : List ℕ) → b ≤ i → i < start → d ≡ doc_at rows i → TakensTo rows i ts₀ ts → TakensTo rows (i + 1) ts₀ (set ts (start - 1 - i) d)
    taken-on i d ts₀ ts x y e h =
        let c = to_start i x (omega arith) in
        let l : i < length rows = omega (arith, upto-start rows s6 s7) in
        let k : start - 1 - i ≡ position rows - 1 - count (is_step rows) i = omega arith in
        takens-more i (count (is_step rows) i) d true ts₀ ts _ l (sym (begun.steps i x l)) refl e h
        (rw (lt-ltb (count (is_step rows) i) (position rows) (omega arith)) (ap (λ k. set ts k d) k))

    pub takens-done : (i : ℕ) (ts₀ ts : List ℕ) → start ≤ i → i ≤ length rows → TakensTo rows i ts₀ ts → ts ≡ put ts₀ 0 (taken_list rows)
    unfolding taken_list
    takens-done i ts₀ ts x y h =
        let none : (k : ℕ) → i ≤ k → k < length rows → taken rows k ≡ false =
        λ k c d. taken_is rows s6 s7 k d ∙ rw (le-ltb (count (is_step rows) k) (position rows) (past-start k (omega arith))) (test (is_step rows k) (λ t. rw t refl) (λ f. rw f refl)) in
        let z : position rows - count (taken rows) i ≡ 0 = omega (arith, count-taken rows s6 s7 i y, past-start i x) in
        h ∙ ap₂ (λ k xs. put ts₀ k (reverse xs)) z (sym (gather-flat (taken rows) (doc_at rows) (length rows) y none))

    -- The upcoming ones; `first` is where the first of them were, if all rows from there on were steps.
    pub first-room : (i first : ℕ) → b ≤ i → start ≤ i → i < length rows → first ≡ length rows - steps rows + position rows → (first ≤ i) × (i - first < steps rows - position rows)
    first-room i first x y l e = let a = to_end i x (omega arith) in let c = past-start i y in (omega (arith, count_most (is_step rows) i), omega arith)

    pub upcoming-from : (i : ℕ) (us₀ us : List ℕ) → i ≡ max b start → UpcomingsTo rows b us₀ us → UpcomingsTo rows i us₀ us
    upcoming-from i us₀ us e h =
        let none : (k : ℕ) → b ≤ k → k < i → upcoming rows k ≡ false =
        λ k c d.
        let l : k < length rows = omega (arith, upto-start rows s6 s7) in
        upcoming-is rows s6 s7 k l ∙ rw (begun.steps k c l, lt-ltb (count (is_step rows) k) (position rows) (omega (arith, to_start k c (omega arith)))) refl in
        h ∙ ap (put us₀ 0) (sym (gather-flat (upcoming rows) (doc_at rows) i (omega arith) none))

    pub upcoming-on : (i d first : ℕ) (us₀ us : List ℕ) → b ≤ i → start ≤ i → i < length rows → first ≡ length rows - steps rows + position rows → d ≡ doc_at rows i →
        UpcomingsTo rows i us₀ us → UpcomingsTo rows (i + 1) us₀ (set us (i - first) d)
    upcoming-on i d first us₀ us x y l q e h =
        let a = to_end i x (omega arith) in
        let c = past-start i y in
        let k : i - first ≡ count (is_step rows) i - position rows = omega (arith, count_most (is_step rows) i) in
        upcomings-more i (count (is_step rows) i) d true us₀ us _ l (sym (begun.steps i x l)) refl e h
        (rw (le-ltb (count (is_step rows) i) (position rows) c) (ap (λ k. set us k d) k))

    pub upcomings-done : (i : ℕ) (us₀ us : List ℕ) → length rows ≤ i → i ≤ length rows → UpcomingsTo rows i us₀ us → us ≡ put us₀ 0 (upcoming_list rows)
    unfolding upcoming_list
    upcomings-done i us₀ us x y h = h ∙ ap (λ k. put us₀ 0 (gather (upcoming rows) (doc_at rows) k)) (le_antisymm y x)
