-- What a shift's route tells, by the ways that it goes. Assumes nothing.
use Prim.Native.Nat.{ℕ, ◌*◌, ◌/◌, ◌≤◌}
use mathlib.Core.Bool.{true, false, So, cond}
use mathlib.Core.List.{List, [], ◌∷◌}
use mathlib.Core.Path.{◌≡◌, refl, sym, ap, subst, ◌∙◌}
use native.Mathlib.Omega.{arith}
use lib.IntN.{ℤ}
use lib.ListN.{length, get_or, replicate, length-replicate}
use Rattle.base.specs.declared.FrameNo.{FrameNo}
use Rattle.base.specs.declared.Refusal.{Refusal}
use Rattle.std.specs.Prelude.{Result, Ok, Err}
use Rattle.rules.specs.Rows.{Row, Table, none}
use Rattle.rules.specs.Windows.{window_rows, window_of, is_root}
use Rattle.rules.specs.Moves.{walked, traversed}
use Rattle.rules.specs.Words.{put, table_of, rows_of, written}
use Rattle.rules.specs.Calls.{Call, beyond, window_in, outcome}
use Rattle.laws.proofs.Tests.{test, clash}
use Rattle.laws.proofs.Reflect.{sound-is}
use Rattle.laws.proofs.Tree.{OneRoot}
use Rattle.laws.proofs.Travel.{walked-length}
use Rattle.laws.proofs.Words.{written-written}
use Rattle.reads.specs.Within.{Before}
use Rattle.windows.proofs.Window.{window-one-root}
use Rattle.windows.proofs.Flagged.{traversed-here}
use Rattle.windows.proofs.Answers.{fit_wide, Twins, Trip, twins-trip}
use Rattle.windows.proofs.Only.{only-traversed}
use Rattle.windows.proofs.After.{table-after, fit-left}
use Rattle.sound.specs.Check.{Examined}
use Rattle.sound.proofs.Checks.{examined-fits}
use Rattle.extracts.specs.Windows.{PutBack}
use Rattle.extracts.proofs.Taken.{zeros}
use Rattle.extracts.proofs.Windowed.{own-table, own-examined, own_root, own-twins}
use Rattle.extracts.proofs.Among.{stayed-among, traverse-among}
use Rattle.traverses.specs.declared.Trip.{Trip as Way}
use Rattle.traverses.specs.Answers.{traversed_is, trip_text, Arrived, Shifts}
use Rattle.traverses.proofs.Among.{out-back}
use Rattle.traverses.proofs.Ways.{went-way, stayed-way}
use Rattle.changes.specs.declared.Route.{Route}
use Rattle.changes.specs.Changes.{Routed, Routes}

-- What a shift says where it was refused, and where it went.
pub routes-stayed : (words words' : List ℕ) (r : ℕ) (δ : ℤ) (room : ℕ) (k : Result Route Refusal) → Routes words r δ room k words' → (why : Refusal) → k ≡ Err why → Routes words r δ room (Err why) words'
routes-stayed words words' r δ room k h why e = subst (λ k. Routes words r δ room k words') e h

pub routes-went : (words words' : List ℕ) (r : ℕ) (δ : ℤ) (room : ℕ) (k : Result Route Refusal) → Routes words r δ room k words' → (route : Route) → k ≡ Ok route → Routed words r δ room route words'
routes-went words words' r δ room k h route e = subst (λ k. Routes words r δ room k words') e h

-- A record of one window.
pub routes-alone : (words words' : List ℕ) (δ : ℤ) (room : ℕ) (s : Result Way Refusal) (root : FrameNo) → So (is_root (rows_of words) root.0) → Shifts words δ room s words' → (t : Way) → s ≡ Ok t →
    Routed words root.0 δ room (record { trip = t; root = root; among = false }) words'
routes-alone words words' δ room s root top h t e =
    record {
      outcome-is = λ lent l. went-way words words' root.0 top δ room s h t e lent _ l refl;
      fitting = record { arrived = h.arrived t e; examined = λ a. absurd (clash a refl) };
    }

-- A WINDOW AMONG OTHERS

module _ (words : List ℕ) (e : Examined words) (word : (table_of words).next_doc ≤ none) (root : FrameNo) (top : So (is_root (rows_of words) root.0))
    (own : List ℕ) (is : own ≡ written zeros (window_in words root.0)) (δ : ℤ) (room : ℕ) (s : Result Way Refusal) (new : List ℕ) (h : Shifts own δ room s new) where
  abbrev r : ℕ
  r = root.0

  abbrev window : List Row
  window = window_rows r (rows_of words)

  twins : Twins r words own
  twins = own-twins words e word r top own is

  table_is : table_of own ≡ window_in words r
  table_is = own-table words e word r top own is

  -- It was refused, whatever is lent.
  pub routes-kept : (why : Refusal) → s ≡ Err why → Routes words r δ room (Err why) words
  routes-kept why q lent l = stayed-among words e word r top own is δ lent _ _ _ _ (stayed-way own new r (own_root words e word r top own is) δ room s h why q lent l)

  -- IT WENT

  module _ (t : Way) (q : s ≡ Ok t) where
    -- The outcome, for what has this room.
    told : (lent : List ℕ) → length lent / 4 ≡ room → outcome (Call.Traverse own r δ lent) ≡ record { answer = traversed_is (Ok t.count); lent = new ∷ put lent 0 (trip_text new t) ∷ [] }
    told lent l = went-way own new r (own_root words e word r top own is) δ room s h t q lent _ l refl

    -- Words that have it.
    abbrev some-room : List ℕ
    some-room = replicate (4 * room) 0

    enough : length some-room / 4 ≡ room
    enough = omega (arith, length-replicate {A = ℕ} (4 * room) 0)

    -- Its flags can be put back.
    pub back-ready : Before words 0 × Before new 0
    back-ready = out-back words e word r top own is δ some-room _ new _ (told some-room enough)

    module _ (left : List ℕ) (back : PutBack words new left) where
      among : (lent : List ℕ) → length lent / 4 ≡ room → outcome (Call.Traverse words r δ lent) ≡ record { answer = traversed_is (Ok t.count); lent = left ∷ put lent 0 (trip_text new t) ∷ [] }
      among lent l = traverse-among words e word r top own is δ lent _ new _ left (told lent l) back

      trip : Trip r words own twins δ some-room
      trip = twins-trip r words own twins δ some-room

      new_is : new ≡ cond trip.goes (written own (traversed (table_of own) r δ)) own
      new_is = ap (λ l. get_or l 0 []) (ap (λ o. o.lent) (sym (told some-room enough)) ∙ trip.there)

      left_is : left ≡ cond trip.goes (written words (traversed (table_of words) r δ)) words
      left_is = ap (λ l. get_or l 0 []) (ap (λ o. o.lent) (sym (among some-room enough)) ∙ trip.here)

      -- The window, walked through.
      abbrev walked_table : List Row → Table
      walked_table rows = record { rows = walked δ rows; next_doc = (table_of words).next_doc; next_frame = (table_of words).next_frame }

      few : length window ≤ 512
      few = omega (arith, ap (λ t. length t.rows) table_is, examined-fits own (own-examined words e word r top own is))

      module _ (y : So trip.goes) where
        own-walked : traversed (table_of own) r δ ≡ walked_table window
        own-walked =
            let rows_are = ap (λ t. t.rows) table_is in
            only-traversed (table_of own) (fit_wide twins.other) (subst OneRoot (sym rows_are) (window-one-root (rows_of words) (fit_wide twins.one).tree r)) r (own_root words e word r top own is) δ (subst (λ t. beyond t.rows δ ≡ false) (sym table_is) (trip.inside y))
            ∙ ap (λ t. record { rows = walked δ t.rows; next_doc = t.next_doc; next_frame = t.next_frame }) table_is

        new-walked : new ≡ written zeros (walked_table window)
        new-walked =
            let c = length-replicate {A = ℕ} 2051 0 in
            new_is ∙ rw y refl ∙ ap (written own) own-walked ∙ ap (λ w. written w (walked_table window)) is
            ∙ written-written zeros (window_in words r) (omega arith) (omega (arith, few)) (walked_table window) (omega (arith, few, walked-length δ window))

        left-walked : window_in left r ≡ walked_table window
        unfolding traversed
        left-walked =
            ap (λ w. window_of (table_of w) r) (left_is ∙ rw y refl) ∙ ap (λ t. window_of t r) (table-after words twins.one r δ)
            ∙ ap (λ l. record { rows = l; next_doc = (table_of words).next_doc; next_frame = (table_of words).next_frame }) (traversed-here (table_of words) (fit_wide twins.one) r δ (trip.inside y))

      -- Taken out again, the window is its own record.
      read_left : written zeros (window_in left r) ≡ new
      read_left =
          test trip.goes
          (λ y. ap (written zeros) (left-walked y) ∙ sym (new-walked y))
          (λ o. ap (λ w. written zeros (window_in w r)) (left_is ∙ rw o refl) ∙ sym is ∙ sym (new_is ∙ rw o refl))

      left-examined : Examined left
      left-examined =
          let f = fit-left words twins.one r top δ some-room _ left _ (among some-room enough) in
          record { long = f.long; passes = (sound-is left).1 f.sound }

      pub routes-among : Routed words r δ room (record { trip = t; root = root; among = true }) left
      routes-among =
          record {
            outcome-is = λ lent l. among lent l ∙ ap (λ w. record { answer = traversed_is (Ok t.count); lent = left ∷ put lent 0 (trip_text w t) ∷ [] }) (sym read_left);
            fitting = record { arrived = subst (λ w. Arrived w room t) (sym read_left) (h.arrived t q); examined = λ a. left-examined };
          }
