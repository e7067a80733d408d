-- Scroll places (document 02, L5): what was set is what is asked. That no other call has the store, and that the calls which have it leave the record, is in the
-- form of `Call` and `lent_to`: a store is handed to these three alone, and the record is lent to none of them.
use Rattle.std.specs.Prelude.{ℕ, ◌*◌, ◌^◌, ◌<◌, false, List, [], ◌∷◌, ◌++◌, map, ◌≡◌, Float, length}
use Rattle.std.proofs.Math.Bool.{So}
use Rattle.std.specs.Float.{binary64}
use Rattle.std.specs.Float.Ieee.{of_bits}
use Rattle.rules.specs.Rows.{none, in_record}
use Rattle.rules.specs.Words.{rows_of}
use Rattle.rules.specs.Places.{Place, Doubles, finite_place, place_words, entries}
use Rattle.rules.specs.Calls.{Call, Outcome, ◌leaving◌, outcome}
use Rattle.rules.specs.Runs.{Move, run}
use Rattle.demands.specs.Record.{Words32, Accepted}
use Rattle.demands.specs.Standing.{left}

-- The point whose coordinates have these bits.
abbrev pub point : ℕ → ℕ → Place
point x y = Place.at (of_bits binary64 x) (of_bits binary64 y)

-- A zoom of 1, by its bits.
abbrev pub one : Float
one = of_bits binary64 4607182418800017408

-- The store after a setting.
abbrev pub store_after : List ℕ → List ℕ → ℕ → Place → List ℕ
store_after words places d place = left (Call.SetPlace words places d place)

-- Both questions about document d answer alike on two stores.
pub record Alike (words some other : List ℕ) (d : ℕ) : Type 0 where
  pub asked : outcome (Call.AskPlace words some d) ≡ outcome (Call.AskPlace words other d)
  pub zoomed : (zoom : Float) → outcome (Call.AskAtZoom words some d zoom) ≡ outcome (Call.AskAtZoom words other d zoom)

-- An outcome with these words behind each lent run.
abbrev pub behind : List ℕ → Outcome → Outcome
behind rest o = record { answer = o.answer; lent = map (λ run. run ++ rest) o.lent }

pub record Scrolls : Type 0 where
  -- "After a traversal it asks for a document's place and gets the same": after any moves, the document being in the record then.
  pub set-ask : (words places : List ℕ) (d : ℕ) (place : Place) → Words32 words → Doubles place → Accepted (Call.SetPlace words places d place) →
      (moves : List Move) → So (in_record (rows_of (run words moves)) d) →
      outcome (Call.AskPlace (run words moves) (store_after words places d place) d) ≡ place_words place leaving []
  -- "the same bits back, negative zero included"
  pub same_bits : (x y : ℕ) → x < 2 ^ 64 → y < 2 ^ 64 → So (finite_place (point x y)) → place_words (point x y) ≡ 1 ∷ x ∷ y ∷ []
  -- "The other entries [..] stay": the place of each other document that is in the record, then and after any moves.
  pub set-others : (words places : List ℕ) (d : ℕ) (place : Place) → Words32 words → Doubles place → Accepted (Call.SetPlace words places d place) →
      (e : ℕ) → (e ≡ d → ⊥) → So (in_record (rows_of words) e) → (later : List ℕ) → Alike later (store_after words places d place) places e
  -- "frees the entries of documents gone from the record": such an entry is read as no document's, whatever record comes; for its document the store is as an empty one.
  pub freed-unread : (words places : List ℕ) (d : ℕ) (place : Place) → Words32 words → Doubles place → Accepted (Call.SetPlace words places d place) →
      (e : ℕ) → (e ≡ none → ⊥) → in_record (rows_of words) e ≡ false → (later : List ℕ) → Alike later (store_after words places d place) [] e
  -- "each coordinate times the zoom": at zoom 1 the point is the point.
  pub zoom-one : (words places : List ℕ) (d : ℕ) → (d ≡ none → ⊥) → outcome (Call.AskAtZoom words places d one) ≡ outcome (Call.AskPlace words places d)
  -- Words past the last whole entry are neither read nor written: each call is the one on the whole entries, with the rest behind them.
  pub rest-spared : (words whole rest : List ℕ) (d : ℕ) → length whole ≡ 4 * entries whole → length rest < 4 →
      ((place : Place) → outcome (Call.SetPlace words (whole ++ rest) d place) ≡ behind rest (outcome (Call.SetPlace words whole d place)))
      × Alike words (whole ++ rest) whole d
