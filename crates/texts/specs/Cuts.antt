-- Where a line ends, and what is kept of it. Definitions.
use Rattle.std.specs.Prelude.{ℕ, ◌+◌, min, max, Bool, false, true, cond, List, [], ◌∷◌, eqb, length, drop, ◌≡◌}
use Rattle.rules.specs.Rows.{flag}
use Rattle.rules.specs.Words.{put}
use Rattle.texts.specs.declared.Cut.{Cut}

-- The bytes before a text's first newline; whether there is one; the bytes after it.
unfoldable pub line_in : List ℕ → List ℕ
line_in [] = []
line_in (b ∷ text) = cond (eqb b 10) [] (b ∷ line_in text)

unfoldable pub ends? : List ℕ → Bool
ends? [] = false
ends? (b ∷ text) = cond (eqb b 10) true (ends? text)

unfoldable pub after_line : List ℕ → List ℕ
after_line [] = []
after_line (b ∷ text) = cond (eqb b 10) text (after_line text)

-- How many bytes of a line are kept, where there is room for so many, once n more have come.
abbrev pub grown : ℕ → ℕ → ℕ → ℕ
grown room kept n = max kept (min room (kept + n))

-- What reading a text s from place `from` on comes to, with room for so many bytes of a line.
abbrev pub cut_of : List ℕ → ℕ → ℕ → ℕ → Cut
cut_of s from room kept = record { at = from + length (line_in s) + flag (ends? s); kept = grown room kept (length (line_in s)); ended = ends? s }

-- A text was read from a place on, up to the end of its line or of the text: the line's bytes are stored behind those kept, where there is room.
pub record Cuts (text : List ℕ) (from : ℕ) (line : List ℕ) (kept : ℕ) (c : Cut) (line' : List ℕ) : Type 0 where
  pub cut-is : c ≡ cut_of (drop from text) from (length line) kept
  pub line-is : line' ≡ put line kept (line_in (drop from text))
