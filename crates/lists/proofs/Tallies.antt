-- A window's hidden rows, counted one after the other. Assumes nothing.
use Prim.Native.Nat.{ℕ, ◌+◌, ◌≤◌, max}
use mathlib.Core.Bool.{Bool, true, false, not, So}
use mathlib.Core.List.{List, [], ◌∷◌}
use mathlib.Core.Path.{◌≡◌, refl, sym, ap, subst, ◌∙◌}
use native.Mathlib.Numerals.{add-one}
use native.Mathlib.Omega.{arith}
use mir.Val.{bool_byte}
use lib.ListN.{length}
use Rattle.rules.specs.Below.{count, latest}
use Rattle.base.specs.declared.FrameNo.{FrameNo}
use Rattle.rules.specs.Rows.{Row, none, frame_at, is_shown}
use Rattle.rules.specs.Steps.{is_step}
use Rattle.rules.specs.Windows.{in_window, is_root}
use Rattle.rules.specs.Words.{table_of, rows_of}
use Rattle.rules.specs.Calls.{Call, Answer, refusals, accepted, ladder, outcome}
use Rattle.laws.proofs.Tests.{and_both, count_no}
use Rattle.laws.proofs.Loops.{count-more, count-within, latest-yes, latest-no}
use Rattle.laws.proofs.Concealed.{shown_step}
use Rattle.windows.proofs.Window.{wide_rows}
use Rattle.windows.proofs.Counted.{hidden_in, shown_step_in, counted-steps, counted-position}
use Rattle.reads.specs.Under.{Under}
use Rattle.reads.proofs.Scans.{under_more}
use Rattle.members.specs.Members.{Kin, Recalls, Sided, nothing}
use Rattle.members.specs.declared.Known.{Known}
use Rattle.members.specs.declared.Member.{Member}
use Rattle.members.proofs.Members.{nothing-recalled}
use Rattle.sound.specs.Check.{Examined}
use Rattle.sound.proofs.Checks.{examined-sound}
use Rattle.extracts.proofs.Windowed.{some}
use Rattle.lists.specs.Tallies.{Tallies}
use Rattle.lists.specs.declared.Tally.{Tally}

module _ (r : ℕ) (rows : List Row) where
  pub tally-none : Kin rows → (known : Known) → known ≡ nothing → Tallies r rows 0 (record { hidden = 0; taken = 0; high = record { 0 = 0 }; known = known })
  unfolding count latest
  tally-none kin known e = record { hidden-are = refl; taken-are = refl; few = omega arith; under = λ k l. absurd (omega arith); recalls = subst (Recalls r rows) (sym e) (nothing-recalled rows kin r) }

  module _ (i : ℕ) (t : Tally) (w : Tallies r rows i t) (m : Member) (told : Sided r rows i m) (high : FrameNo) (g : high.0 ≡ max t.high.0 (frame_at rows i)) where
    bound : Under (frame_at rows) (i + 1) high.0
    bound = under_more (frame_at rows) i t.high.0 high.0 w.under g

    -- A row of another window.
    pub tally-other : m.inside ≡ false → Tallies r rows (i + 1) (record { hidden = t.hidden; taken = t.taken; high = high; known = m.known })
    tally-other f =
        let out : in_window r rows i ≡ false = sym told.inside_is ∙ f in
        record {
          hidden-are = rw (add-one i) (w.hidden-are ∙ sym (count_no (hidden_in r rows) i (rw out refl)));
          taken-are = rw (add-one i) (w.taken-are ∙ sym (ap (count (hidden_in r rows)) (latest-no (shown_step_in r rows) i (rw out refl))));
          few = omega (arith, w.few);
          under = bound;
          recalls = told.recalls;
        }

    module _ (in-it : m.inside ≡ true) (b : Bool) (b-is : b ≡ shown_step rows i) where
      here : So (in_window r rows i)
      here = sym told.inside_is ∙ in-it

      -- A shown step of the window: the rows hidden so far are taken.
      pub tally-step : b ≡ true → Tallies r rows (i + 1) (record { hidden = t.hidden; taken = t.hidden; high = high; known = m.known })
      tally-step y =
          let s : So (shown_step_in r rows i) = rw here (sym b-is ∙ y) in
          let h : hidden_in r rows i ≡ false = rw here (ap not (and_both (is_shown rows i) (is_step rows i) (sym b-is ∙ y)).0) in
          record {
            hidden-are = rw (add-one i) (w.hidden-are ∙ sym (count_no (hidden_in r rows) i h));
            taken-are = rw (add-one i) (w.hidden-are ∙ sym (ap (count (hidden_in r rows)) (latest-yes (shown_step_in r rows) i s)));
            few = omega (arith, w.few);
            under = bound;
            recalls = told.recalls;
          }

      -- Another row of it: it counts where it is hidden.
      pub tally-row : b ≡ false → (v : Bool) → v ≡ is_shown rows i → Tallies r rows (i + 1) (record { hidden = t.hidden + bool_byte (not v); taken = t.taken; high = high; known = m.known })
      tally-row n v e =
          record {
            hidden-are = count-more (hidden_in r rows) i t.hidden (not v) w.hidden-are (rw here (ap not e));
            taken-are = rw (add-one i) (w.taken-are ∙ sym (ap (count (hidden_in r rows)) (latest-no (shown_step_in r rows) i (rw here (sym b-is ∙ n)))));
            few = count-within i t.hidden (not v) w.few;
            under = bound;
            recalls = told.recalls;
          }

-- What is counted of all rows is the answer.
module _ (words : List ℕ) (e : Examined words) (word : (table_of words).next_doc ≤ none) (r : ℕ) (b : Bool) (is : b ≡ is_root (rows_of words) r) (yes : So b) (t : Tally)
    (w : Tallies r (rows_of words) (length (rows_of words)) t) where
  pub tally-answers : outcome (Call.Position words r) ≡ record { answer = Answer.gives (t.taken ∷ t.hidden ∷ (t.hidden + 1) ∷ []); lent = [] }
  unfolding outcome refusals accepted ladder
  tally-answers =
      let wide = wide_rows (examined-sound words e).table word in
      let root : So (is_root (rows_of words) r) = sym is ∙ yes in
      rw (e.long, e.passes, root, w.hidden-are ∙ counted-steps (rows_of words) wide r, w.taken-are ∙ counted-position (rows_of words) wide r (some words e word r root)) refl
