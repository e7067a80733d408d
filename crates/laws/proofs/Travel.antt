-- A traversal by δ that is not refused is the rows at position + δ. Assumes nothing.
use Prim.Native.Nat.{ℕ, zero, suc, ◌+◌, ◌-◌, ◌≤◌}
use mathlib.Core.Path.{◌≡◌, refl, sym, ap, ◌∙◌}
use mathlib.Core.List.{List}
use mathlib.Core.Bool.{false}
use native.Mathlib.Omega.{arith}
use lib.Dec.{ltb}
use lib.IntN.{ℤ, pos, negsuc, ◌+ℤ◌}
use lib.ListN.{length}
use borrow.Author.Tests.{ltb-false}
use Rattle.rules.specs.Rows.{Row}
use Rattle.rules.specs.Steps.{position, steps}
use Rattle.rules.specs.Moves.{show, forward, back, times, walked}
use Rattle.rules.specs.Sound.{S6}
use Rattle.rules.specs.Calls.{outside}
use Rattle.laws.specs.Alone.{InOrder}
use Rattle.laws.proofs.Tests.{test, clash}
use Rattle.laws.proofs.Flags.{flags-length}
use Rattle.laws.proofs.Central.{flags_at, central, at_position, at-steps, position-steps, forward-many, back-many}

-- Where a traversal lands.
pub record Landing (rows : List Row) (δ : ℤ) : Type 0 where
  pub to : ℕ
  pub within : to ≤ steps rows
  pub sum : pos (position rows) +ℤ δ ≡ pos to
  pub rows_are : walked δ rows ≡ flags_at to rows

module _ (rows : List Row) (s6 : S6 rows) (s7 : InOrder rows) where
  pub walked_at : (δ : ℤ) → outside (steps rows) (pos (position rows) +ℤ δ) ≡ false → Landing rows δ
  unfolding walked
  walked_at (pos k) h =
      let l : position rows + k ≤ steps rows = ltb-false _ _ h in
      record {
        to = position rows + k;
        within = l;
        sum = refl;
        rows_are = ap (times k forward) (sym (central rows s6 s7)) ∙ forward-many k (position rows) rows l;
      }
  walked_at (negsuc k) h =
      test (ltb (position rows) (suc k))
      (λ t. absurd (clash refl (rw t at h)))
      (λ f.
      let l = ltb-false (position rows) (suc k) f in
      let e : position rows ≡ (position rows - suc k) + suc k = omega arith in
      record {
        to = position rows - suc k;
        within = omega (arith, position-steps rows);
        sum = rw f refl;
        rows_are =
            ap (times (suc k) back) (sym (central rows s6 s7) ∙ ap (λ p. flags_at p rows) e)
            ∙ back-many (suc k) (position rows - suc k) rows (omega (arith, position-steps rows));
      })

  module _ (δ : ℤ) (h : outside (steps rows) (pos (position rows) +ℤ δ) ≡ false) where
    pub walked-position : position (walked δ rows) ≡ (walked_at δ h).to
    walked-position = let r = walked_at δ h in let l = r.within in ap position r.rows_are ∙ at_position r.to rows ∙ omega arith

    pub walked-steps : steps (walked δ rows) ≡ steps rows
    walked-steps = let r = walked_at δ h in ap steps r.rows_are ∙ at-steps r.to rows

-- No traversal takes or adds a row.
module _ (f : List Row → List Row) (same : (rows : List Row) → length (f rows) ≡ length rows) (rows : List Row) where
  times-length : (k : ℕ) → length (times k f rows) ≡ length rows
  times-length zero = refl
  times-length (suc k) = same (times k f rows) ∙ times-length k

pub walked-length : (δ : ℤ) (rows : List Row) → length (walked δ rows) ≡ length rows
unfolding walked forward back show
walked-length (pos k) rows = times-length forward (λ l. flags-length _ l) rows k
walked-length (negsuc k) rows = times-length back (λ l. flags-length _ l) rows (suc k)
