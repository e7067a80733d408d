-- What a writer promises. Definitions.
use Rattle.std.specs.Prelude.{ℕ, ◌+◌, List, ◌≡◌, length}
use Rattle.rules.specs.Words.{put}

-- `new` is `old` with these values from place `at` on, and `next` is the place after them.
pub record Wrote (old : List ℕ) (at : ℕ) (values new : List ℕ) (next : ℕ) : Type 0 where
  pub list : new ≡ put old at values
  pub past : next ≡ at + length values
