-- Calls one after the other on one record.
use Rattle.std.specs.Prelude.{ℕ, List, [], ◌∷◌, ℤ, get_or}
use Rattle.rules.specs.Calls.{Call, outcome}

-- A call on the record that is at hand; change rows are lent to a traversal, of the window with this root frame.
pub data Move : Type 0 where
  opens : (parent : ℕ) → Move
  navigates : (from : ℕ) → Move
  goes : (root : ℕ) (δ : ℤ) (room : List ℕ) → Move
  drops : (frame : ℕ) → Move
  replaces : (d : ℕ) → Move
  tabs : Move

abbrev pub on : List ℕ → Move → Call
on words (Move.opens parent) = Call.Open words parent
on words (Move.navigates from) = Call.Navigate words from
on words (Move.goes root δ room) = Call.Traverse words root δ room
on words (Move.drops frame) = Call.Drop words frame
on words (Move.replaces d) = Call.Replace words d
on words Move.tabs = Call.Tab words

-- The words after a move, and after many.
abbrev pub after : List ℕ → Move → List ℕ
after words m = get_or (outcome (on words m)).lent 0 []

unfoldable pub run : List ℕ → List Move → List ℕ
run words [] = words
run words (m ∷ moves) = run (after words m) moves
