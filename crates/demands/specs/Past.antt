-- "Capacity C is (words - 3) / 4 rounded down, at most 512; words past 3 + 4C are neither read nor written."
use Rattle.std.specs.Prelude.{ℕ, ◌+◌, ◌*◌, List, [], ◌∷◌, ◌≡◌, length, take, drop}
use Rattle.rules.specs.Words.{capacity}
use Rattle.rules.specs.Calls.{Call, Outcome, outcome}
use Rattle.demands.specs.Standing.{left}

-- The words of a run up to 3 + 4C, and those past it.
abbrev pub near : List ℕ → List ℕ
near words = take (3 + 4 * capacity words) words

abbrev pub past : List ℕ → List ℕ
past words = drop (3 + 4 * capacity words) words

-- How a call is handed its record: not at all, to read, or to write in, as the first of the lent runs. The call is `on words`, and `on` of
-- other words is the same call on another record.
pub data Handed : Call → Type 0 where
  without : {c : Call} → Handed c
  to_read : (on : List ℕ → Call) (words : List ℕ) → Handed (on words)
  to_write : (on : List ℕ → Call) (words : List ℕ) → Handed (on words)

abbrev pub handed : (c : Call) → Handed c
handed (Call.Fresh words) = Handed.to_write (λ w. Call.Fresh w) words
handed (Call.Open words parent) = Handed.to_write (λ w. Call.Open w parent) words
handed (Call.Navigate words from) = Handed.to_write (λ w. Call.Navigate w from) words
handed (Call.Traverse words root δ room) = Handed.to_write (λ w. Call.Traverse w root δ room) words
handed (Call.Drop words frame) = Handed.to_write (λ w. Call.Drop w frame) words
handed (Call.Replace words d) = Handed.to_write (λ w. Call.Replace w d) words
handed (Call.Tab words) = Handed.to_write (λ w. Call.Tab w) words
handed (Call.Position words root) = Handed.to_read (λ w. Call.Position w root) words
handed (Call.Visible words d) = Handed.to_read (λ w. Call.Visible w d) words
handed (Call.Lists words root takens upcomings) = Handed.to_read (λ w. Call.Lists w root takens upcomings) words
handed (Call.Stretch takens upcomings δ) = Handed.without
handed (Call.StretchCount takens upcomings δ) = Handed.without
handed (Call.Outline words root room) = Handed.to_read (λ w. Call.Outline w root room) words
handed (Call.Save words room) = Handed.to_read (λ w. Call.Save w room) words
handed (Call.Load words bytes) = Handed.to_write (λ w. Call.Load w bytes) words
handed (Call.LoadOld words bytes) = Handed.to_write (λ w. Call.LoadOld w bytes) words
handed (Call.Contents bytes) = Handed.without
handed (Call.ContentsOld bytes) = Handed.without
handed (Call.SetPlace words places d place) = Handed.to_read (λ w. Call.SetPlace w places d place) words
handed (Call.AskPlace words places d) = Handed.to_read (λ w. Call.AskPlace w places d) words
handed (Call.AskAtZoom words places d zoom) = Handed.to_read (λ w. Call.AskAtZoom w places d zoom) words

-- The outcome of a call that writes, but for the words of the record past 3 + 4C.
abbrev pub near_first : List (List ℕ) → List (List ℕ)
near_first [] = []
near_first (words ∷ runs) = near words ∷ runs

abbrev pub but_past : Outcome → Outcome
but_past o = record { answer = o.answer; lent = near_first o.lent }

-- A run keeps its length and its words past 3 + 4C.
pub record Kept (old new : List ℕ) : Type 0 where
  pub long : length new ≡ length old
  pub words : past new ≡ past old

-- What the record holds past 3 + 4C makes no difference to a call that writes, and stays.
pub record Spares (on : List ℕ → Call) (words : List ℕ) : Type 0 where
  -- "neither read"
  pub unread : (other : List ℕ) → near words ≡ near other → but_past (outcome (on words)) ≡ but_past (outcome (on other))
  -- "nor written"
  pub unwritten : Kept words (left (on words))

-- "words past 3 + 4C are neither read nor written": of a call on any words, sound or not.
abbrev pub Spared : {c : Call} → Handed c → Type 0
Spared Handed.without = Unit {0}
Spared (Handed.to_read on words) = (other : List ℕ) → near words ≡ near other → outcome (on words) ≡ outcome (on other)
Spared (Handed.to_write on words) = Spares on words

abbrev pub PastSpared : Type 0
PastSpared = (c : Call) → Spared (handed c)
