-- A step's document in its list, and the lists while they are filled. Definitions.
use Rattle.std.specs.Prelude.{ℕ, ◌+◌, ◌-◌, ◌≤◌, ◌<◌, Bool, false, not, ◌&&◌, cond, List, reverse, ◌≡◌, ltb, length, set}
use Rattle.std.proofs.Math.Bool.{So}
use Rattle.rules.specs.Below.{count, gather}
use Rattle.rules.specs.Rows.{Row, doc_at}
use Rattle.rules.specs.Steps.{is_step, taken, upcoming, position}
use Rattle.rules.specs.Words.{put}
use Rattle.rules.specs.Asks.{taken_list, upcoming_list}

-- The m-th step, if it is one of the first `position`: the later, the nearer to the front.
abbrev pub taken_with : Bool → ℕ → ℕ → ℕ → List ℕ → List ℕ
taken_with step m position d list = cond (step && ltb m position) (set list (position - 1 - m) d) list

-- The m-th step, if it is none of the first `position`.
abbrev pub upcoming_with : Bool → ℕ → ℕ → ℕ → List ℕ → List ℕ
upcoming_with step m position d list = cond (step && not (ltb m position)) (set list (m - position) d) list

-- Every row from place b on is a step, and the row before it is none: there the last frame has begun.
pub record Begun (rows : List Row) (b : ℕ) : Type 0 where
  pub upto : b ≤ length rows
  pub steps : (k : ℕ) → b ≤ k → k < length rows → So (is_step rows k)
  pub just : (k : ℕ) → k + 1 ≡ b → is_step rows k ≡ false

-- Of the first i rows the taken steps stand before the place of the position, latest first.
abbrev pub TakensTo : List Row → ℕ → List ℕ → List ℕ → Type 0
TakensTo rows i old list = list ≡ put old (position rows - count (taken rows) i) (reverse (gather (taken rows) (doc_at rows) i))

-- With the rows from place i on, that list is whole.
abbrev pub TakensFrom : List Row → ℕ → List ℕ → List ℕ → Type 0
TakensFrom rows i before after = (old : List ℕ) → TakensTo rows i old before → after ≡ put old 0 (taken_list rows)

-- Of the first i rows the upcoming steps stand from the front on.
abbrev pub UpcomingsTo : List Row → ℕ → List ℕ → List ℕ → Type 0
UpcomingsTo rows i old list = list ≡ put old 0 (gather (upcoming rows) (doc_at rows) i)

-- With the rows from place i on, that list is whole.
abbrev pub UpcomingsFrom : List Row → ℕ → List ℕ → List ℕ → Type 0
UpcomingsFrom rows i before after = (old : List ℕ) → UpcomingsTo rows i old before → after ≡ put old 0 (upcoming_list rows)
