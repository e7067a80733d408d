-- What every demand speaks of: a record's words, and a call that is accepted.
use Rattle.std.specs.Prelude.{ℕ, ◌≤◌, List, ◌≡◌, get_or}
use Rattle.rules.specs.Rows.{none}
use Rattle.rules.specs.Calls.{Call, Answer, outcome}

-- "A lent run of 32-bit words." 4294967295 is the largest.
abbrev pub Words32 : List ℕ → Type 0
Words32 words = (k : ℕ) → get_or words k 0 ≤ none

-- Saved bytes are bytes.
abbrev pub Bytes : List ℕ → Type 0
Bytes bytes = (k : ℕ) → get_or bytes k 0 ≤ 255

-- "A refusal returns its number alone", or with what hides a document: a call is accepted when it gives values instead.
abbrev pub Accepted : Call → Type 0
Accepted c = (values : List ℕ) × ((outcome c).answer ≡ Answer.gives values)
