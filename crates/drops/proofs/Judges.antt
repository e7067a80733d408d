-- When Drop is refused, and its outcome. Assumes nothing.
use Prim.Native.Nat.{ℕ, ◌-◌, ◌≤◌, ◌<◌}
use mathlib.Core.Bool.{true, So}
use mathlib.Core.List.{List, [], ◌∷◌}
use mathlib.Core.Logic.{inl, ⊎_elim}
use mathlib.Core.Path.{◌≡◌, refl, sym, ap, ◌∙◌}
use native.Mathlib.Omega.{arith}
use lib.ListN.{length}
use borrow.Author.Tests.{eq-eqb, ne_eqb}
use Rattle.base.specs.declared.Refusal.{Refusal}
use Rattle.base.specs.declared.Refusal.TheVariants.{Absent, Hidden, RootFrame}
use Rattle.base.specs.Numbers.{number_of, carried_by}
use Rattle.rules.specs.Below.{some_below}
use Rattle.rules.specs.Rows.{Row, none, doc_at, parent_at, is_doc, is_frame}
use Rattle.rules.specs.Steps.{hider_at, hider_of, visible}
use Rattle.rules.specs.Moves.{dropped}
use Rattle.rules.specs.Words.{table_of, rows_of, written}
use Rattle.rules.specs.Saved.{parent_of}
use Rattle.rules.specs.Calls.{Call, Answer, Rung, ◌when◌, ◌naming◌, hidden, hider, no_frame, root_frame, refusals, accepted, outcome, Given, NoneGiven}
use Rattle.laws.proofs.Calls.{outcome-accepted, outcome-refused}
use Rattle.laws.proofs.Tests.{some_in}
use Rattle.laws.proofs.Tree.{tree_of, distinct}
use Rattle.laws.proofs.Climb.{hider-row}
use Rattle.reads.specs.Within.{Before}
use Rattle.rows.specs.Readable.{readable_rows}
use Rattle.rows.proofs.Readable.{readable-rows}
use Rattle.sound.specs.Check.{check_of, Examined, Settles, Judged}
use Rattle.std.specs.Prelude.{Option, None, Some, Result, Ok, Err}
use Rattle.base.specs.declared.DocNo.{DocNo}
use Rattle.base.specs.declared.RowPlace.{RowPlace}
use Rattle.asks.specs.Answers.{hider_is}
use Rattle.sound.proofs.Checks.{check-given, settles-past, examined-past, examined-sound, examined-fits}
use Rattle.drops.specs.Frames.{first_place}
use Rattle.drops.proofs.Frames.{frame-lost, found, frame-within}

-- WHEN DROP IS REFUSED

module _ (words : List ℕ) (e : Examined words) (f : ℕ) where
  abbrev rows : List Row
  rows = rows_of words

  abbrev call : Call
  call = Call.Drop words f

  -- The end of Drop's table, from each of its lines on.
  abbrev sight : List Rung
  sight = 5 when hidden words (parent_of rows f) naming hider words (parent_of rows f) ∷ []

  abbrev root : List Rung
  root = 10 when root_frame words f ∷ sight

  abbrev frame : List Rung
  frame = 4 when no_frame words f ∷ root

  pub drop-absent : (r : Option RowPlace) → r ≡ first_place rows f → r ≡ None → Judged call (Err Absent)
  unfolding refusals Given
  drop-absent r is g = examined-past words e frame (Err Absent) (inl (rw (frame-lost rows f r is g) refl, refl, refl))

  module _ (first : RowPlace) (begins : first_place rows f ≡ Some first) (up : ℕ) (named : up ≡ parent_at rows first.0) where
    is-there : is_frame rows f ≡ true
    is-there = (found rows f first begins).0

    inside : first.0 < length rows
    inside = frame-within rows f first begins

    parent-named : parent_of rows f ≡ up
    unfolding parent_of
    parent-named = ap (parent_at rows) (found rows f first begins).1 ∙ sym named

    pub drop-root : up ≡ none → Judged call (Err RootFrame)
    unfolding refusals Given
    drop-root z =
        examined-past words e frame (Err RootFrame) (settles-past (4 when no_frame words f) root (rw is-there refl) (Err RootFrame) (inl (eq-eqb _ _ (parent-named ∙ z), refl, refl)))

    module _ (child : up ≡ none → ⊥) where
      -- Its parent is the document of an earlier row.
      pub parent-before : Before words first.0 × So (some_below first.0 (is_doc rows up))
      parent-before = (
        record { fits = examined-fits words e; upto = omega (arith, inside) },
        ⊎_elim (λ z. absurd (child (named ∙ z))) (λ r. some_in (is_doc rows up) first.0 r.1 (eq-eqb _ _ (r.2 ∙ sym named))) ((examined-sound words e).table.s4.placed first.0 inside),
      )

      module _ (word : (table_of words).next_doc ≤ none) (at : ℕ) (l : at < first.0) (d : doc_at rows at ≡ up) (h : Option DocNo) (hides : hider_is h ≡ hider_at (readable_rows words) at) where
        seen : hider_of rows (parent_of rows f) ≡ hider_is h
        seen =
            ap (hider_of rows) parent-named ∙ hider-row rows (distinct (tree_of (examined-sound words e).table word)) up {i = at} (omega (arith, inside)) d
            ∙ ap (λ r. hider_at r at) (sym (readable-rows words (examined-fits words e))) ∙ sym hides

        -- It is left to the last line.
        last_line : (k : Result (Unit {0}) Refusal) → Settles sight k → Judged call k
        unfolding refusals
        last_line k h = examined-past words e frame k (settles-past (4 when no_frame words f) root (rw is-there refl) k (settles-past (10 when root_frame words f) sight (ne_eqb _ _ (λ z. child (sym parent-named ∙ z))) k h))

        -- Who hides the parent decides.
        pub drop-hidden : (d : DocNo) → h ≡ Some d → Judged call (Err (Hidden d))
        unfolding Given visible
        drop-hidden d g = let w : hider_of rows (parent_of rows f) ≡ hider_is (Some d) = seen ∙ ap hider_is g in last_line (Err (Hidden d)) (inl (rw w refl, refl, rw w refl))

        pub drop-fine : h ≡ None → Judged call (Ok tt)
        unfolding NoneGiven visible
        drop-fine g = let w : hider_of rows (parent_of rows f) ≡ hider_is None = seen ∙ ap hider_is g in last_line (Ok tt) (rw w refl, tt)

-- THE OUTCOME

pub drop-refused : (words : List ℕ) (f : ℕ) (k : Result (Unit {0}) Refusal) (r : Refusal) → k ≡ check_of words → k ≡ Err r → outcome (Call.Drop words f) ≡ record { answer = Answer.refuses (number_of r) (carried_by r); lent = words ∷ [] }
unfolding refusals
drop-refused words f k r e g = outcome-refused (Call.Drop words f) (number_of r) (carried_by r) (check-given words _ k r e g)

pub drop-given : (words : List ℕ) (f : ℕ) → NoneGiven (refusals (Call.Drop words f)) → (m : ℕ) (left : List ℕ) → m ≡ length (rows_of words) - length (dropped (table_of words) f).rows → left ≡ written words (dropped (table_of words) f) →
    outcome (Call.Drop words f) ≡ record { answer = Answer.gives (m ∷ []); lent = left ∷ [] }
unfolding accepted
drop-given words f h m left a b = outcome-accepted (Call.Drop words f) h ∙ rw (a, b) refl
