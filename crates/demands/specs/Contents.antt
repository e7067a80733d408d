-- Document 02, L8: "The window list shows hundreds of saved windows and wants to know for each whether Back and Forward would work, without reading the bodies."
use Rattle.std.specs.Prelude.{ℕ, ◌+◌, ◌*◌, ◌<◌, List, [], ◌∷◌, ◌≡◌, length, get_or}
use Rattle.rules.specs.Below.{sum}
use Rattle.rules.specs.Steps.{position, steps}
use Rattle.rules.specs.Words.{table_of, rows_of}
use Rattle.rules.specs.Saved.{number_at}
use Rattle.rules.specs.OldSaved.{S5alone}
use Rattle.rules.specs.Calls.{Call, Answer, ◌leaving◌, outcome}
use Rattle.demands.specs.Record.{Bytes, Accepted}
use Rattle.demands.specs.Windows.{rows_in}
use Rattle.demands.specs.Standing.{left}

-- Position and steps of a record: "Contents answers are sums over all windows" (L10).
abbrev pub of_all : List ℕ → List ℕ
of_all words = sum (λ r. position (rows_in r words)) (table_of words).next_frame ∷ sum (λ r. steps (rows_in r words)) (table_of words).next_frame ∷ []

-- Position answers p and s of window r, with a length.
abbrev pub StandsSo : List ℕ → ℕ → ℕ → ℕ → Type 0
StandsSo words r p s = (l : ℕ) × ((outcome (Call.Position words r)).answer ≡ Answer.gives (p ∷ s ∷ l ∷ []))

-- "On bytes that loading accepts, old or new form, the answer equals the position and steps of the loaded record"; where that is one window, what Position answers of it. Bytes of
-- the old form always tell one window.
pub record ContentsLoaded : Type 0 where
  pub new : (words bytes : List ℕ) → Bytes bytes → Accepted (Call.Load words bytes) → outcome (Call.Contents bytes) ≡ (of_all (left (Call.Load words bytes)) leaving [])
  pub old : (words bytes : List ℕ) → Bytes bytes → Accepted (Call.LoadOld words bytes) → outcome (Call.ContentsOld bytes) ≡ (of_all (left (Call.LoadOld words bytes)) leaving [])
  pub new-one : (words bytes : List ℕ) → Bytes bytes → Accepted (Call.Load words bytes) → S5alone (rows_of (left (Call.Load words bytes))) →
      (r p s : ℕ) → StandsSo (left (Call.Load words bytes)) r p s → outcome (Call.Contents bytes) ≡ (p ∷ s ∷ [] leaving [])
  pub old-one : (words bytes : List ℕ) → Bytes bytes → Accepted (Call.LoadOld words bytes) →
      (r p s : ℕ) → StandsSo (left (Call.LoadOld words bytes)) r p s → outcome (Call.ContentsOld bytes) ≡ (p ∷ s ∷ [] leaving [])

-- Two runs of bytes of one length with the same contents.
pub record SameContents (a b : List ℕ) : Type 0 where
  pub long : length a ≡ length b
  pub same : (k : ℕ) → k < 12 + 16 * number_at a 0 → get_or a k 0 ≡ get_or b k 0

-- "and no byte after the contents has any effect but through the total length", in either form.
abbrev pub ContentsBlind : Type 0
ContentsBlind = (a b : List ℕ) → SameContents a b → (outcome (Call.Contents a) ≡ outcome (Call.Contents b)) × (outcome (Call.ContentsOld a) ≡ outcome (Call.ContentsOld b))
