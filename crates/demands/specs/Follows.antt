-- Demand 2: "Navigating and traversing give the record that the fully patched model of source document 001 gives, with the readings that
-- document 01 settles. [..] Saving and loading undo each other, and loading accepts only bytes that saving writes."
use Rattle.std.specs.Prelude.{ℕ, ◌≤◌, ◌<◌, List, [], ◌↔◌, Bool, ◌≡◌, ℤ, ◌+ℤ◌, length}
use Rattle.std.proofs.Math.Bool.{So}
use Rattle.rules.specs.Rows.{Row, doc_at, frame_at, parent_at, is_shown, is_frame}
use Rattle.rules.specs.Steps.{upcoming, visible}
use Rattle.rules.specs.Windows.{is_root}
use Rattle.rules.specs.Words.{table_of, rows_of}
use Rattle.rules.specs.Sound.{Sound}
use Rattle.rules.specs.Calls.{Answer, outcome}
use Rattle.rules.specs.Runs.{Move, on, after}
use Rattle.demands.specs.Record.{Words32, Accepted}
use Rattle.demands.specs.Windows.{rows_in, InWindow}
use Rattle.demands.specs.Saving.{UndoEachOther, TakesOld}
use Rattle.demands.specs.Model.{History, IsHistory, Root, FA, JointFuture, deleting, navigating, Same, Traverses, WellFormed}

-- n places with their documents, frames, parents and marks, as a history: "Row order is chronological order." "A frame is the source's session,
-- shown its active."
abbrev pub of_places : ℕ → (ℕ → ℕ) → (ℕ → ℕ) → (ℕ → ℕ) → (ℕ → Bool) → History
of_places n doc frame parent shown =
    record {
      D = λ d. (i : ℕ) × (i < n) × (doc i ≡ d);
      A = λ d. (i : ℕ) × (i < n) × (doc i ≡ d) × So (shown i);
      child = λ d e. ((i : ℕ) × (i < n) × (doc i ≡ d)) × ((j : ℕ) × (j < n) × (doc j ≡ e) × (parent j ≡ d));
      le = λ d e. (i : ℕ) × (j : ℕ) × (i ≤ j) × (j < n) × (doc i ≡ d) × (doc j ≡ e);
      sim = λ d e. (i : ℕ) × (j : ℕ) × (i < n) × (j < n) × (doc i ≡ d) × (doc j ≡ e) × (frame i ≡ frame j);
    }

-- The history of rows, and of window r of a record: 001's history has one root (document 02, L10: "a window is a root frame with all beneath it").
abbrev pub of_rows : List Row → History
of_rows rows = of_places (length rows) (doc_at rows) (frame_at rows) (parent_at rows) (is_shown rows)

abbrev pub history_of : List ℕ → ℕ → History
history_of words r = of_rows (rows_in r words)

-- d is a document of frame f.
abbrev pub OfFrame : List Row → ℕ → ℕ → Type 0
OfFrame rows f d = (i : ℕ) × (i < length rows) × (doc_at rows i ≡ d) × (frame_at rows i ≡ f)

pub record FollowsModel (words : List ℕ) (r : ℕ) : Type 1 where
  -- A window of a sound record is a navigation history (001, definition 1), and "well formed" (001, definition 5; document 01, S7).
  pub is-history : IsHistory (history_of words r)
  pub well-formed : WellFormed (history_of words r)
  -- "d₀ is the unique active root document" (001, below definition 1)
  pub one-root : (d : ℕ) × Root (history_of words r) d × (history_of words r).A d × ((e : ℕ) → Root (history_of words r) e → (history_of words r).A e → e ≡ d)
  -- "A document is visible (fully active) [..]"
  pub visible-is : (d : ℕ) → (InWindow words r d × So (visible (rows_of words) d)) ↔ FA (history_of words r) d
  -- "The upcoming steps are the joint session future of patch 2."
  pub upcoming-is : (d : ℕ) → ((i : ℕ) × (i < length (rows_in r words)) × (doc_at (rows_in r words) i ≡ d) × So (upcoming (rows_in r words) i)) ↔ JointFuture (history_of words r) d
  -- An accepted Navigate from d of the window is "navigating from d to d' in H, where d ∈ FA" and d' ∉ D is the next document number.
  pub navigate : (d : ℕ) → InWindow words r d → Accepted (on words (Move.navigates d)) →
      FA (history_of words r) d × ((history_of words r).D (table_of words).next_doc → ⊥)
      × Same (navigating (history_of words r) d (table_of words).next_doc) (history_of (after words (Move.navigates d)) r)
  -- An accepted Traverse of the window by δ: "H traverses the history by δ to H'", and to no other history.
  pub traverse : (δ : ℤ) (room : List ℕ) → Accepted (on words (Move.goes r δ room)) →
      (K : History) → Traverses δ (history_of words r) K ↔ Same (history_of (after words (Move.goes r δ room)) r) K
  -- An accepted Drop of the window's frame f, "all its rows and all beneath them go", is "deleting" its documents (001, definition 2); "the document that holds the
  -- frame must be visible" (document 02, L1).
  pub drop : (f : ℕ) → So (is_frame (rows_in r words) f) → Accepted (on words (Move.drops f)) →
      ((p : ℕ) × FA (history_of words r) p × ((d : ℕ) → OfFrame (rows_in r words) f d → (history_of words r).child p d))
      × Same (deleting (history_of words r) (OfFrame (rows_in r words) f)) (history_of (after words (Move.drops f)) r)
  -- "Theorem 1: [..] if H traverses the history by δ to H' and H' traverses the history by δ' to H'' then H traverses the history by δ + δ' to H''."
  pub theorem-1 : (δ δ' : ℤ) (K L : History) → Traverses δ (history_of words r) K → Traverses δ' K L → Traverses (δ +ℤ δ') (history_of words r) L
  -- What is refused by 4, 5 or 6 has no result in the model.
  pub absent : (d : ℕ) → (outcome (on words (Move.navigates d))).answer ≡ Answer.refuses 4 [] → (history_of words r).D d → ⊥
  pub hidden : (d : ℕ) (vs : List ℕ) → (outcome (on words (Move.navigates d))).answer ≡ Answer.refuses 5 vs → FA (history_of words r) d → ⊥
  pub beyond : (δ : ℤ) (room : List ℕ) → (outcome (on words (Move.goes r δ room))).answer ≡ Answer.refuses 6 [] →
      (K : History) → Traverses δ (history_of words r) K → ⊥

-- The demand between these two, "Opening, which that model lacks, and every answer are as document 01 defines them", is `outcome` of `rules`, which
-- each call promises.
pub record Demand2 : Type 1 where
  -- Every window of every sound record of 32-bit words: "Navigating and traversing give the record that the fully patched model [..] gives".
  pub model : (words : List ℕ) (r : ℕ) → Words32 words → Sound words → So (is_root (rows_of words) r) → FollowsModel words r
  -- "Saving and loading undo each other, and loading accepts only bytes that saving writes."
  pub saving : UndoEachOther
  -- "The old form has its own loading call, which accepts exactly what it accepted."
  pub old : TakesOld
