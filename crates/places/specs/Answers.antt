-- The paper's number and values for each case of an answer.
use Rattle.std.specs.Prelude.{ℕ, ◌<◌, cond, List, [], Result, Ok, Err, ◌≡◌, Float}
use Rattle.base.specs.Numbers.{number_of, carried_by}
use Rattle.base.specs.Answers.{answered}
use Rattle.base.specs.declared.Refusal.{Refusal}
use Rattle.rules.specs.Words.{rows_of}
use Rattle.rules.specs.Places.{Place, scaled, place_words, entries, freed, spot}
use Rattle.rules.specs.Calls.{Call, Answer, over_zoomed, refusals, Given, NoneGiven}
use Rattle.points.specs.Points.{place_given}
use Rattle.points.specs.declared.Place.{Place as Given-as-Place}

-- The kind and the bits of the point, or the refusal's number.
abbrev pub placed_is : Result Given-as-Place Refusal → Answer
placed_is = answered (λ p. place_words (place_given p))

abbrev pub setting_is : Result (Unit {0}) Refusal → Answer
setting_is = answered (λ _. [])

-- What a judge of a setting says: which entry it goes to, none of its refusals being given, or the refusal that is.
abbrev pub Goes : List ℕ → List ℕ → ℕ → Given-as-Place → Result ℕ Refusal → Type 0
Goes words places d place (Ok i) =
    NoneGiven (refusals (Call.SetPlace words places d (place_given place))) × (i ≡ spot (freed (rows_of words) places) d) × (i < entries places)
Goes words places d place (Err r) = Given (number_of r) (carried_by r) (refusals (Call.SetPlace words places d (place_given place)))

-- A place at a zoom, or refusal 11.
unfoldable pub zoomed_is : Float → Place → Answer
zoomed_is zoom place = cond (over_zoomed zoom place) (Answer.refuses 11 []) (Answer.gives (place_words (scaled zoom place)))
