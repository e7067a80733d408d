-- A bound on frame numbers. Definitions.
use Rattle.std.specs.Prelude.{ℕ, ◌≤◌, ◌<◌}

-- No place before i has a frame number above high.
abbrev pub Under : (ℕ → ℕ) → ℕ → ℕ → Type 0
Under fr i high = (k : ℕ) → k < i → fr k ≤ high
