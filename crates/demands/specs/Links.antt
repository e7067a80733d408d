-- Document 02, L6: "How far the climb goes".
use Rattle.std.specs.Prelude.{ℕ, suc, ◌+◌, ◌*◌, ◌/◌, ◌≤◌, ◌<◌, List, [], ◌∷◌, ◌↔◌, false, ◌≡◌, length, get_or}
use Rattle.std.proofs.Math.Bool.{So}
use Rattle.rules.specs.Rows.{Row, none, doc_at, parent_at, is_shown, in_record, place}
use Rattle.rules.specs.Steps.{climb_of, visible}
use Rattle.rules.specs.Windows.{is_root}
use Rattle.rules.specs.Words.{rows_of}
use Rattle.rules.specs.Asks.{outline_of}
use Rattle.rules.specs.Calls.{Call, Answer, window_in, outcome}
use Rattle.demands.specs.Record.{Words32}
use Rattle.demands.specs.Windows.{InWindow}

-- "the number of parent links followed: from the document upwards, none if it isn't shown itself, and no link above the first hidden one": that from document d
-- is 0 when d isn't shown, or is and has no parent; when d is shown and has a parent it is one more than that from its parent.
pub data Followed (rows : List Row) : ℕ → ℕ → Type 0 where
  itself : {d : ℕ} (i : ℕ) → i < length rows → doc_at rows i ≡ d → is_shown rows i ≡ false → Followed rows d 0
  top : {d : ℕ} (i : ℕ) → i < length rows → doc_at rows i ≡ d → So (is_shown rows i) → parent_at rows i ≡ none → Followed rows d 0
  above : {d n : ℕ} (i : ℕ) → i < length rows → doc_at rows i ≡ d → So (is_shown rows i) → (parent_at rows i ≡ none → ⊥) →
      Followed rows (parent_at rows i) n → Followed rows d (suc n)

-- Depth n and document d are a pair of these values.
abbrev pub PairIn : List ℕ → ℕ → ℕ → Type 0
PairIn values n d = (k : ℕ) × (k < length values / 2) × (get_or values (2 * k) 0 ≡ n) × (get_or values (2 * k + 1) 0 ≡ d)

-- Of a sound record.
pub record LinksRightly (words : List ℕ) : Type 0 where
  -- "Let the answer carry the number of parent links followed": the visible question's last value.
  pub links-asked : (d n : ℕ) → So (in_record (rows_of words) d) →
      ((yes h : ℕ) × ((outcome (Call.Visible words d)).answer ≡ Answer.gives (yes ∷ h ∷ n ∷ []))) ↔ Followed (rows_of words) d n
  -- "The number equals the links in the definition of that climb"
  pub links-are : (d n : ℕ) → So (in_record (rows_of words) d) → ((climb_of (rows_of words) d).links ≡ n) ↔ Followed (rows_of words) d n
  -- "and is never more than the document's row place, counted from 0."
  pub links-bounded : (d : ℕ) → So (in_record (rows_of words) d) → (climb_of (rows_of words) d).links ≤ place (rows_of words) d
  -- Of a visible document it is the depth: the pairs of a window's outline are its visible documents, each with its links.
  pub links-depth : Words32 words → (r : ℕ) → So (is_root (rows_of words) r) → (d n : ℕ) →
      PairIn (outline_of (window_in words r)) n d ↔ (InWindow words r d × So (visible (rows_of words) d) × ((climb_of (rows_of words) d).links ≡ n))
