-- What Traverse answers, in the rules' terms, and what it leaves. Definitions.
use Rattle.std.specs.Prelude.{ℕ, ◌*◌, ◌/◌, ◌≤◌, List, [], ◌∷◌, Result, Ok, Err, ◌≡◌, ℤ, pos, ◌+ℤ◌, length}
use Rattle.std.proofs.Math.Bool.{So}
use Rattle.base.specs.declared.Refusal.{Refusal}
use Rattle.base.specs.Answers.{answered}
use Rattle.rules.specs.Windows.{is_root}
use Rattle.rules.specs.Words.{put, table_of, rows_of}
use Rattle.rules.specs.Calls.{Call, Answer, outcome}
use Rattle.traverses.specs.declared.Trip.{Trip}
use Rattle.traverses.specs.Places.{NextBetween}
use Rattle.traverses.specs.Texts.{places_text, Ready}

-- The number of change rows, or the refusal's number.
abbrev pub traversed_is : Result ℕ Refusal → Answer
traversed_is = answered (λ n. n ∷ [])

-- What is answered for a shift.
abbrev pub answer_of : Result Trip Refusal → Result ℕ Refusal
answer_of (Ok t) = Ok t.count
answer_of (Err r) = Err r

-- The words of a trip's change rows, read in the record that it left; those of a shift, none where it was refused.
abbrev pub trip_text : List ℕ → Trip → List ℕ
trip_text words t = places_text (table_of words) t.span.before.0 t.span.after.0

abbrev pub shift_text : List ℕ → Result Trip Refusal → List ℕ
shift_text words (Ok t) = trip_text words t
shift_text words (Err r) = []

-- In the record that a trip left, its change rows can be read, its first frame is the lowest of the rows between the places, and so many rows fit.
pub record Arrived (words : List ℕ) (room : ℕ) (t : Trip) : Type 0 where
  pub ready : Ready words t.span.before.0 t.span.after.0
  pub foremost : NextBetween (table_of words) 0 t.span.before.0 t.span.after.0 t.first.0
  pub sized : 4 * t.count ≡ length (trip_text words t)
  pub fits : t.count ≤ room

-- The record of one window has become words', and with its root frame and room lent for so many change rows the outcome is this: the answer, words', and the change rows.
pub record Shifts (words : List ℕ) (δ : ℤ) (room : ℕ) (s : Result Trip Refusal) (words' : List ℕ) : Type 0 where
  pub outcome-is : (r : ℕ) → So (is_root (rows_of words) r) → (lent : List ℕ) → length lent / 4 ≡ room →
      outcome (Call.Traverse words r δ lent) ≡ record { answer = traversed_is (answer_of s); lent = words' ∷ put lent 0 (shift_text words' s) ∷ [] }
  pub arrived : (t : Trip) → s ≡ Ok t → Arrived words' room t

-- The same for every amount from position p to position q.
abbrev pub Travels : List ℕ → ℕ → ℕ → ℕ → Result Trip Refusal → List ℕ → Type 0
Travels words room p q s words' = (δ : ℤ) → pos p +ℤ δ ≡ pos q → Shifts words δ room s words'
