-- The position that a sum names, of so many steps. Definitions.
use Rattle.std.specs.Prelude.{ℕ, cond, ltb, ℤ, pos, negsuc, Option, Some, None}

-- "position + δ below 0 or above steps" is outside.
abbrev pub goal_of : ℕ → ℤ → Option ℕ
goal_of steps (pos q) = cond (ltb steps q) None (Some q)
goal_of steps (negsuc q) = None
