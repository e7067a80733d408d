-- 001's fundamental property of traversal, said of the calls.
use Rattle.std.specs.Prelude.{ℕ, ◌≤◌, List, ◌≡◌, ℤ, ◌+ℤ◌, length}
use Rattle.rules.specs.Moves.{changes}
use Rattle.rules.specs.Calls.{window_in}
use Rattle.rules.specs.Runs.{Move, on, after}
use Rattle.demands.specs.Record.{Words32, Accepted}

-- "Definition 4: [..] H traverses the history by δ to H' and H' traverses the history by δ' to H'' implies H traverses the history by δ + δ'
-- to H''", of window r. `enough` is room for the change rows of the whole way.
abbrev pub Fundamental : Type 0
Fundamental =
    (words : List ℕ) (r : ℕ) (δ δ' : ℤ) (room room' enough : List ℕ) → Words32 words →
    Accepted (on words (Move.goes r δ room)) →
    Accepted (on (after words (Move.goes r δ room)) (Move.goes r δ' room')) →
    length (changes (window_in words r) (δ +ℤ δ')) ≤ length enough →
    Accepted (on words (Move.goes r (δ +ℤ δ') enough)) × (after words (Move.goes r (δ +ℤ δ') enough) ≡ after (after words (Move.goes r δ room)) (Move.goes r δ' room'))
