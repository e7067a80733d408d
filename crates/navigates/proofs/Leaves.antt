-- Leaving a visible document of one of several windows: what its row, its window and the search rely on. Assumes nothing.
use Prim.Native.Nat.{ℕ, ◌+◌, ◌≤◌, ◌<◌}
use mathlib.Core.Bool.{Bool, false, So, cond}
use mathlib.Core.List.{List}
use mathlib.Core.Path.{◌≡◌, refl, sym, ap, subst, ◌∙◌}
use native.Mathlib.Omega.{arith}
use lib.ListN.{length}
use borrow.Author.Tests.{eq-eqb}
use Rattle.rules.specs.Below.{some_below}
use Rattle.rules.specs.Rows.{Row, none, doc_at, is_shown, is_doc, place}
use Rattle.rules.specs.Steps.{is_step}
use Rattle.rules.specs.Windows.{root_at}
use Rattle.rules.specs.Moves.{upcoming_in, cleared}
use Rattle.rules.specs.Words.{table_of, rows_of}
use Rattle.rules.specs.Calls.{Call, full, NoneGiven}
use Rattle.laws.proofs.Tests.{some_in}
use Rattle.laws.proofs.Tree.{distinct, place_is}
use Rattle.laws.proofs.Climb.{visible-out, sees-out}
use Rattle.windows.proofs.Window.{WideRows, wide_rows}
use Rattle.reads.specs.Within.{Before, Within}
use Rattle.sound.specs.Check.{Examined, Settles, Judged}
use Rattle.std.specs.Prelude.{Result, Ok}
use Rattle.base.specs.declared.Refusal.{Refusal}
use Rattle.sound.proofs.Checks.{examined-sound, examined-fits}
use Rattle.packs.specs.Packing.{Over}
use Rattle.asks.specs.Answers.{sight_rungs}
use Rattle.navigates.specs.Answers.{room_rungs}
use Rattle.navigates.proofs.Judges.{sight-sees, room-settles}
use Rattle.navigates.proofs.Search.{none_before}

module _ (words : List ℕ) (d : ℕ) (e : Examined words) (h : NoneGiven (sight_rungs words d)) where
  abbrev rows : List Row
  rows = rows_of words

  -- The document's row is looked for.
  pub leave-place : (n : ℕ) → n ≡ length rows → Before words n × So (some_below n (is_doc rows d))
  leave-place n en =
      let v = sees-out rows d (sight-sees words d h) in
      (record { fits = examined-fits words e; upto = omega arith }, some_in (is_doc rows d) n (omega (arith, v.1)) (eq-eqb _ _ v.2))

  -- It is found.
  module _ (word : (table_of words).next_doc ≤ none) (n at : ℕ) (en : n ≡ length rows) (l : at < n) (q : doc_at rows at ≡ d) where
    wide : WideRows rows (table_of words).next_doc (table_of words).next_frame
    wide = wide_rows (examined-sound words e).table word

    below : at < length rows
    below = omega arith

    shown : So (is_shown rows at)
    shown =
        let v = sees-out rows d (sight-sees words d h) in
        subst (λ i. So (is_shown rows i)) (distinct wide.tree v.0 at v.1 below (v.2 ∙ sym q)) (visible-out rows v.0 v.3).0

    pub leave-within : Within words at
    leave-within = record { fits = examined-fits words e; below = below }

    module _ (root : ℕ) (er : root ≡ root_at rows at) where
      -- Its window.
      pub leave-root : root ≡ root_at rows (place rows d)
      leave-root = er ∙ ap (root_at rows) (sym (place_is rows wide.tree at d below q))

      -- The search for the first upcoming step.
      pub leave-search : (start : ℕ) → start ≡ cond (is_step rows at) (at + 1) 0 →
          Examined words × ((table_of words).next_doc ≤ none) × (start ≤ length rows) × (some_below start (upcoming_in root rows) ≡ false)
      leave-search start es =
          let v = none_before rows wide at below shown start es in
          (e, word, v.0, subst (λ r. some_below start (upcoming_in r rows) ≡ false) (sym er) v.1)

      -- What is judged of the room is judged of the call.
      pub leave-judged : (b : Bool) → b ≡ full words (cleared root rows) → (k : Result (Unit {0}) Refusal) → Settles (room_rungs b words) k → Judged (Call.Navigate words d) k
      leave-judged b f k = room-settles words d (Ok tt) tt h refl b (f ∙ ap (λ r. full words (cleared r rows)) leave-root) k

-- What is closed of the root frame's window is closed of the document's.
pub closed-window : (old : List ℕ) (d root k : ℕ) (new : List ℕ) → root ≡ root_at (rows_of old) (place (rows_of old) d) → Over (cleared root (rows_of old)) old k new →
    Over (cleared (root_at (rows_of old) (place (rows_of old) d)) (rows_of old)) old k new
closed-window old d root k new e = subst (λ r. Over (cleared r (rows_of old)) old k new) e
