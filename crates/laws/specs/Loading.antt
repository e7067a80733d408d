-- What the two loading calls have in common, and the two that read the contents. Definitions.
use Rattle.std.specs.Prelude.{Bool, not, cond, List, [], ◌∷◌, ◌≡◌, ℕ, ◌+◌, ◌*◌, ◌≤◌, ◌<◌, ltb, length}
use Rattle.rules.specs.Rows.{Table}
use Rattle.rules.specs.Words.{capacity, written}
use Rattle.rules.specs.Saved.{number_at, documents_in, shown_in, entries_in}
use Rattle.rules.specs.Contents.{position_in, steps_in, not_contents}
use Rattle.rules.specs.Calls.{Call, Answer, Rung, Outcome, lent_to, short, ◌when◌, refusals, ◌leaving◌, accepted, ladder}

-- The rungs of a loading call whose bytes are taken or not and tell this table; what it does if it is not refused; and its outcome.
abbrev pub rungs : List ℕ → Bool → Table → List Rung
rungs words taken t = 1 when short words ∷ 3 when not taken ∷ 7 when ltb (capacity words) (length t.rows) ∷ []

abbrev pub fills : List ℕ → Table → Outcome
fills words t = length t.rows ∷ [] leaving written words t ∷ []

unfoldable pub loading : List ℕ → Bool → Table → Outcome
loading words taken t = ladder (rungs words taken t) (words ∷ []) (fills words t)

-- c is such a call.
pub record IsLoad (c : Call) (words : List ℕ) (taken : Bool) (t : Table) : Type 0 where
  pub lends : lent_to c ≡ words ∷ []
  pub refuses : refusals c ≡ rungs words taken t
  pub accepts : accepted c ≡ fills words t

-- What the contents of bytes are answered to be, where entries have so many bytes.
unfoldable pub reading : ℕ → List ℕ → Outcome
reading width bytes =
    cond (not_contents width bytes) (record { answer = Answer.refuses 3 []; lent = [] }) (position_in bytes ∷ steps_in bytes ∷ [] leaving [])

-- They are the contents of a saved form, as far as that is asked.
pub record Fits (width : ℕ) (bytes : List ℕ) : Type 0 where
  pub framed : 1 ≤ number_at bytes 0
  pub room : 12 + 16 * number_at bytes 0 ≤ length bytes
  pub shown : (j : ℕ) → j < number_at bytes 0 → shown_in bytes j < documents_in bytes j
  pub few : entries_in bytes ≤ 512
  pub long : length bytes ≡ 12 + 16 * number_at bytes 0 + width * entries_in bytes
