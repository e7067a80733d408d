-- When no row is left after the removal. Assumes nothing.
use Prim.Native.Nat.{ℕ, ◌+◌, ◌≤◌, ◌<◌}
use mathlib.Core.Bool.{Bool, false, not, ◌&&◌, So, and-eq-true_iff}
use mathlib.Core.List.{List}
use mathlib.Core.Path.{◌≡◌, refl, sym, ◌∙◌}
use native.Mathlib.Omega.{arith}
use lib.Dec.{eqb}
use lib.ListN.{length}
use borrow.Author.Tests.{eqb-true, eq-eqb, ne_eqb, leb-true, le-leb, lt-leb}
use Rattle.rules.specs.Below.{some_below, count, earliest}
use Rattle.rules.specs.Rows.{Row}
use Rattle.rules.specs.Steps.{is_step, reached, upcoming, position, steps}
use Rattle.rules.specs.Moves.{without}
use Rattle.rules.specs.Words.{capacity, rows_of}
use Rattle.rules.specs.Calls.{full}
use Rattle.laws.proofs.Tests.{test, clash, off, same_tests, some_in, some_out, count-zero, count-in, count-flat, count_same, count-split, count-all, count-misses}
use Rattle.laws.proofs.Loops.{earliest-out, earliest-past}
use Rattle.laws.proofs.Kept.{kept-length}
use Rattle.laws.proofs.Climb.{gone-self}
use Rattle.laws.proofs.Removal.{stays}
use Rattle.packs.proofs.Stays.{without_fewer, early-stays}

module _ (q : ℕ → Bool) (rows : List Row) where
  left-length : length (without q rows) ≡ count (stays q rows) (length rows)
  unfolding without
  left-length = kept-length (stays q rows) rows

  all_stay : some_below (length rows) q ≡ false → length (without q rows) ≡ length rows
  all_stay f = left-length ∙ count-all _ (length rows) (early-stays q rows (length rows) (λ v l. off (q v) (λ t. clash (some_in q (length rows) l t) f)))

  fewer-stay : So (some_below (length rows) q) → length (without q rows) < length rows
  fewer-stay t =
      let v = some_out q (length rows) t in
      let h = count-misses (stays q rows) (length rows) v.1 (rw (gone-self q rows v.0 v.2) refl) in
      omega (arith, left-length)

-- Where rows that pass go.
module _ (words : List ℕ) (q : ℕ → Bool) (n c : ℕ) (en : n ≡ length (rows_of words)) (ec : c ≡ capacity words) where
  pub room-left-over : n < c → false ≡ full words (without q (rows_of words))
  room-left-over l = sym (lt-leb (capacity words) (length (without q (rows_of words))) (omega (arith, without_fewer q (rows_of words))))

  -- With all rows in use one is left exactly when some row passes.
  pub full-when : length (rows_of words) ≤ capacity words → c ≤ n → (b : Bool) → b ≡ not (some_below (length (rows_of words)) q) → b ≡ full words (without q (rows_of words))
  full-when fits l b e =
      test (some_below (length (rows_of words)) q)
      (λ t. e ∙ rw t (sym (lt-leb (capacity words) (length (without q (rows_of words))) (omega (arith, fewer-stay q (rows_of words) t)))))
      (λ f. e ∙ rw f (sym (le-leb (capacity words) (length (without q (rows_of words))) (omega (arith, all_stay q (rows_of words) f)))))

-- Of one window: all steps are taken exactly when none is upcoming.
module _ (rows : List Row) where
  split : steps rows ≡ position rows + count (upcoming rows) (length rows)
  unfolding steps position
  split =
      let n = length rows in
      let swap : (p : ℕ → Bool) → count (λ k. is_step rows k && p k) n ≡ count (λ k. p k && is_step rows k) n =
      λ p. count_same _ _ n (λ k m. same_tests (λ x. let y = simp and-eq-true_iff at x in simp and-eq-true_iff (y.1, y.0)) (λ x. let y = simp and-eq-true_iff at x in simp and-eq-true_iff (y.1, y.0))) in
      omega (arith, count-split (reached rows) (is_step rows) n, swap (reached rows), swap (λ k. not (reached rows k)))

  pub taken-all : (p s : ℕ) → p ≡ position rows → s ≡ steps rows → eqb s p ≡ not (some_below (length rows) (upcoming rows))
  taken-all p s ep es =
      test (some_below (length rows) (upcoming rows))
      (λ t.
      let v = some_out (upcoming rows) (length rows) t in
      let l = count-in (upcoming rows) (length rows) v.1 v.2 in
      rw t (ne_eqb s p (λ e. omega (arith, split))))
      (λ f.
      let z = count-flat (upcoming rows) (length rows) {i = 0} (omega arith) (λ k a l. off (upcoming rows k) (λ t. clash (some_in (upcoming rows) (length rows) l t) f)) in
      rw f (eq-eqb s p (omega (arith, split, count-zero (upcoming rows)))))

-- Of one of several: its first upcoming step is past the last row.
pub gap-last : (q : ℕ → Bool) (m n gap : ℕ) → n ≡ m → gap ≡ earliest q m → eqb gap n ≡ not (some_below m q)
gap-last q m n gap en eg =
    let w = (earliest-out q m).within in
    same_tests
    (λ t. sym (earliest-past q m) ∙ le-leb m (earliest q m) (let e = eqb-true gap n t in omega arith))
    (λ t. eq-eqb gap n (let l = leb-true m (earliest q m) (earliest-past q m ∙ t) in omega arith))
