-- The lines of numbers that stand before the bodies. Definitions.
use Rattle.std.specs.Prelude.{ℕ, List, ◌++◌}
use Rattle.rules.specs.Saved.{number}

-- The numbers in front: how many frames, the next document and the next frame.
abbrev pub head : ℕ → ℕ → ℕ → List ℕ
head count next top = number count ++ (number next ++ number top)

-- A frame's line in the contents: its number, its parent, how many documents it has and which of them is shown.
abbrev pub line : ℕ → ℕ → ℕ → ℕ → List ℕ
line f parent docs place = number f ++ (number parent ++ (number docs ++ number place))
