-- The paper's number and values for each case of an answer.
use Rattle.std.specs.Prelude.{ℕ, ◌/◌, ◌%◌, ◌<◌, true, false, cond, List, [], ◌∷◌, Option, None, Some, Result, Ok, Err, ◌≡◌, ltb}
use Rattle.base.specs.declared.Refusal.TheVariants.{Absent}
use Rattle.base.specs.declared.DocNo.{DocNo}
use Rattle.base.specs.declared.Refusal.{Refusal}
use Rattle.base.specs.Answers.{answered}
use Rattle.rules.specs.Rows.{Row, none, in_record}
use Rattle.rules.specs.Steps.{Hider as Hides, Climb, climb_of, hider_of}
use Rattle.rules.specs.Calls.{Answer, Rung, ◌when◌, ◌naming◌, short, unsound, absent, hidden, hider}
use Rattle.asks.specs.declared.Sight.{Sight}

-- 1 and nobody where it is visible, else 0 and who hides it; and the links.
abbrev pub sight_told : Option DocNo → ℕ → List ℕ
sight_told None links = 1 ∷ none ∷ links ∷ []
sight_told (Some d) links = 0 ∷ d.0 ∷ links ∷ []

abbrev pub sight_is : Result Sight Refusal → Answer
sight_is = answered (λ s. sight_told s.hider s.links)

-- Who hides, in the words of the rules, and in those of the code.
abbrev pub hider_is : Option DocNo → Hides
hider_is None = Hides.nobody
hider_is (Some d) = Hides.document d.0

abbrev pub hider_doc : Hides → Option DocNo
hider_doc Hides.nobody = None
hider_doc (Hides.document d) = Some (record { 0 = d })

-- Who is meant by a number: a document, where it fits a word.
abbrev pub hider_by : ℕ → Hides
hider_by code = cond (ltb code 4294967296) (Hides.document code) Hides.nobody

-- The number that means this one.
abbrev pub Means : Hides → ℕ → Type 0
Means Hides.nobody code = code ≡ 4294967296
Means (Hides.document d) code = (code ≡ d) × (code < 4294967296)

-- The number that means a climb: its links, each 8589934592, and who it ends with.
pub record Coded (c : Climb) (code : ℕ) : Type 0 where
  pub far : code / 8589934592 ≡ c.links
  pub who : Means c.hider (code % 8589934592)

-- Whether document d is among these rows, who hides it, and how far the climb goes.
unfoldable pub sight_of : List Row → ℕ → Result Sight Refusal
sight_of rows d = cond (in_record rows d) (Ok (record { hider = hider_doc (hider_of rows d); links = (climb_of rows d).links })) (Err Absent)

-- What each case of it says.
abbrev pub SightIs : List Row → ℕ → Result Sight Refusal → Type 0
SightIs rows d (Ok s) = (in_record rows d ≡ true) × (hider_of rows d ≡ hider_is s.hider) × ((climb_of rows d).links ≡ s.links)
SightIs rows d (Err r) = (in_record rows d ≡ false) × (r ≡ Absent)

-- The tables of Open, Navigate and Replace up to what is seen of the document.
abbrev pub sight_rungs : List ℕ → ℕ → List Rung
sight_rungs words d = 1 when short words ∷ 2 when unsound words ∷ 4 when absent words d ∷ 5 when hidden words d naming hider words d ∷ []

abbrev pub stretch_is : Result ℕ Refusal → Answer
stretch_is = answered (λ n. n ∷ [])
