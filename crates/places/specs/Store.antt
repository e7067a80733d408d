-- What the test of the store knows of the entries that it has passed.
use Rattle.std.specs.Prelude.{ℕ, ◌≤◌, ◌<◌, List, ◌≡◌}
use Rattle.rules.specs.Rows.{none}
use Rattle.rules.specs.Places.{document_in}

-- Of the first i entries, none that is not free is of a document above `high`.
abbrev pub Reaches : List ℕ → ℕ → ℕ → Type 0
Reaches places i high = (k : ℕ) → k < i → (document_in places k ≡ none → ⊥) → document_in places k ≤ high
