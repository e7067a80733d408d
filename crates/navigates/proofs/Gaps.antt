-- The loop that closes Navigate's gaps: where it may end, and that its test is whether a row stays. Assumes nothing.
use Prim.Native.Nat.{ℕ, ◌+◌, ◌-◌, ◌≤◌, ◌<◌}
use mathlib.Core.Bool.{Bool, So}
use mathlib.Core.List.{List}
use mathlib.Core.Path.{◌≡◌, refl, sym, subst, ◌∙◌}
use native.Mathlib.Omega.{arith}
use lib.ListN.{length}
use lib.Dec.{eqb}
use borrow.Author.Tests.{eqb-true, eq-eqb, ne_eqb}
use Rattle.rules.specs.Below.{earliest}
use Rattle.rules.specs.Rows.{Row, none, place}
use Rattle.rules.specs.Steps.{upcoming, position, steps, visible}
use Rattle.rules.specs.Windows.{root_at}
use Rattle.rules.specs.Moves.{cleared}
use Rattle.rules.specs.Sound.{S6}
use Rattle.rules.specs.Words.{table_of, rows_of}
use Rattle.laws.proofs.Tests.{test}
use Rattle.laws.specs.Alone.{InOrder, cleared_all}
use Rattle.laws.proofs.Removal.{stays}
use Rattle.laws.proofs.Standing.{upto-start, rest-upcoming}
use Rattle.reads.specs.Within.{Within}
use Rattle.laws.proofs.Loops.{earliest-out}
use Rattle.sound.specs.Check.{Examined}
use Rattle.sound.specs.Survey.{alone?, stand_of}
use Rattle.sound.specs.declared.Stand.{Stand}
use Rattle.sound.proofs.Alone.{alone-rows}
use Rattle.sound.proofs.Checks.{examined-sound, examined-fits}
use Rattle.packs.specs.Packing.{Moved, Over}
use Rattle.packs.proofs.Packed.{Packed, packed-within, packed-sees}
use Rattle.packs.proofs.Gaps.{gaps-more}
use Rattle.navigates.specs.Packing.{joins, removal_end, Ends}
use Rattle.navigates.proofs.Judges.{cleared-stands}
use Rattle.navigates.proofs.Stays.{joins-is}

-- WHERE THE LOOP MAY END

module _ (rows : List Row) (s : Stand) (e : s ≡ stand_of rows) where
  pub ends-early : s.frames + s.position ≡ s.upcoming.0 → s.upcoming.0 ≡ removal_end rows
  unfolding removal_end
  ends-early = rw e (λ g. rw (eq-eqb _ _ g) refl)

  pub ends_last : (s.frames + s.position ≡ s.upcoming.0 → ⊥) → length rows ≡ removal_end rows
  unfolding removal_end
  ends_last = rw e (λ g. rw (ne_eqb _ _ g) refl)

-- From there on nothing stays.
pub end-ends : (rows : List Row) → S6 rows → InOrder rows → (e : ℕ) → e ≡ removal_end rows → Ends rows e
unfolding removal_end
end-ends rows s6 s7 e q =
    let start = earliest (upcoming rows) (length rows) in
    test (eqb (length rows - steps rows + position rows) start)
    (λ t.
    let z : e ≡ start = rw t at q in
    subst (Ends rows) (sym z) (record { after = omega arith; upto = upto-start rows s6 s7; rest = rest-upcoming rows s6 s7 (eqb-true _ _ t) }))
    (λ f.
    let z : e ≡ length rows = rw f at q in
    record { after = omega (arith, upto-start rows s6 s7); upto = omega arith; rest = λ k a b. absurd (omega arith) })

-- A TURN

-- Row i stays.
abbrev pub keep_in : List ℕ → ℕ → Bool
keep_in old = stays (upcoming (rows_of old)) (rows_of old)

module _ (old : List ℕ) (e : Examined old) (one : So (alone? (rows_of old))) (word : (table_of old).next_doc ≤ none) (i k : ℕ) (new : List ℕ) (p : Packed (keep_in old) old i k new) where
  -- What a turn may rely on.
  pub turn-within : i < length (rows_of old) → Within new i × (k ≤ i)
  turn-within = packed-within (keep_in old) old i k new p (examined-fits old e)

  -- The turn's test is whether the row stays.
  pub turn-done : i < length (rows_of old) → (start : ℕ) → start ≡ earliest (upcoming (rows_of old)) (length (rows_of old)) → start ≤ i →
      (b : Bool) (r : ℕ) (next : List ℕ) → b ≡ joins (rows_of new) k i → Moved b new i k r next → Packed (keep_in old) old (i + 1) r next
  turn-done l start first late b r next f m =
      let fits = examined-fits old e in
      let s = alone-rows old (examined-sound old e) one word in
      let o = earliest-out (upcoming (rows_of old)) (length (rows_of old)) in
      let t = joins-is (rows_of old) s (rows_of new) i k l (packed-sees (keep_in old) old i k new p fits l) _ (omega arith) (o.passes (omega arith)) in
      gaps-more (upcoming (rows_of old)) old i k new p s.tree fits l b r next (f ∙ t) m

-- What is closed where there is one window is what is closed of the document's.
pub gaps-window : (old : List ℕ) (d : ℕ) → Examined old → So (alone? (rows_of old)) → (table_of old).next_doc ≤ none → So (visible (rows_of old) d) → (k : ℕ) (new : List ℕ) →
    Over (cleared_all (rows_of old)) old k new → Over (cleared (root_at (rows_of old) (place (rows_of old) d)) (rows_of old)) old k new
gaps-window old d e one word sees k new = subst (λ rs. Over rs old k new) (sym (cleared-stands old d (examined-sound old e) one word sees))
