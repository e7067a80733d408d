-- The rows before a shown one. Assumes nothing.
use Prim.Native.Nat.{ℕ, zero, suc, ◌≤◌, ◌<◌}
use mathlib.Core.Bool.{So, false}
use mathlib.Core.List.{List, flat_map}
use mathlib.Core.Path.{◌≡◌, refl, ap, ◌∙◌, fun_ext}
use native.Mathlib.Omega.{arith}
use lib.ListN.{length}
use Rattle.std.specs.Prelude.{Option, None, Some}
use Rattle.std.specs.Option.{MatchOption, unwrap_or}
use lib.Seq.{drop-cons}
use Rattle.rules.specs.Below.{rising}
use Rattle.rules.specs.Rows.{Row, Table, no_row, is_shown, is_frame}
use Rattle.rules.specs.Asks.{outline_frame}
use Rattle.laws.specs.Outlines.{frames_below}
use Rattle.laws.proofs.Tests.{by-lt}
use Rattle.outlines.specs.Next.{Hidden, NextShown}

-- THE SCAN

module _ (rows : List Row) (s n : ℕ) (upto : s ≤ n) (all : n ≡ length rows) where
  -- The first shown row is what `find` answers.
  pub first-shown : (r : Option ℕ) →
      MatchOption r ((k : ℕ) → s ≤ k → k < n → is_shown rows k ≡ false) (λ i. (s ≤ i) × (i < n) × So (is_shown rows i) × ((k : ℕ) → s ≤ k → k < i → is_shown rows k ≡ false)) →
      NextShown rows s (unwrap_or r n)
  first-shown None h = record { before = record { after = upto; upto = omega arith; hidden = h }; shown = λ l. absurd (omega arith) }
  first-shown (Some i) h = record { before = record { after = h.0; upto = omega (arith, h.1); hidden = h.3 }; shown = λ l. h.2 }

-- WHAT IS WRITTEN

module _ (t : Table) (depth d g : ℕ) where
  -- A row that is not shown adds nothing.
  hidden-row : (s : ℕ) → s < length t.rows → is_shown t.rows s ≡ false → frames_below t s depth d g ≡ frames_below t (suc s) depth d g
  unfolding frames_below outline_frame
  hidden-row s l n = ap (λ h. flat_map h (rising (is_frame t.rows) g)) (fun_ext (λ f. rw (drop-cons t.rows s no_row l, n) refl))

  -- So the rows from a shown one on give the same text.
  pub hidden-text : (s e : ℕ) → Hidden t.rows s e → frames_below t s depth d g ≡ frames_below t e depth d g
  hidden-text s zero h = let a = h.after in let z : s ≡ zero = omega arith in rw z refl
  hidden-text s (suc e) h =
      let a = h.after in
      let u = h.upto in
      by-lt e s
      (λ l. let z : s ≡ suc e = omega arith in rw z refl)
      (λ l.
      hidden-text s e (record { after = l; upto = omega arith; hidden = λ j m k. h.hidden j m (omega arith) })
      ∙ hidden-row e u (h.hidden e l (omega arith)))
