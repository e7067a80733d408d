-- A script's whole text: its lines, and what is printed for them (document 01, "Script program").
use Rattle.std.specs.Prelude.{ℕ, ◌+◌, ◌*◌, cond, List, [], ◌∷◌, ◌++◌, eqb, get_or, replicate}
use Rattle.rules.specs.Calls.{Call, outcome}
use Rattle.lines.specs.Reply.{answer_text}
use Rattle.turns.specs.Turns.{turned}

-- A line that is not ended; none where it has no byte.
abbrev pub unended : List ℕ → List (List ℕ)
unended [] = []
unended (b ∷ bytes) = (b ∷ bytes) ∷ []

-- "Lines [..] ended by a newline (the last may lack it)": the lines of a text, of whose first these bytes have been read already.
unfoldable pub lines_from : List ℕ → List ℕ → List (List ℕ)
lines_from begun [] = unended begun
lines_from begun (b ∷ text) =
    let ended = begun ∷ lines_from [] text in
    let on = lines_from (begun ++ b ∷ []) text in
    cond (eqb b 10) ended on

abbrev pub lines_of : List ℕ → List (List ℕ)
lines_of text = lines_from [] text

-- What is printed for lines, one after the other, by the record and the words for change rows that are at hand.
unfoldable pub answers : List ℕ → List ℕ → List (List ℕ) → List ℕ
answers words changes [] = []
answers words changes (line ∷ rest) =
    let t = turned words changes line in
    answer_text t.said ++ answers t.words t.changes rest

-- "Reads standard input and starts from Fresh": with room for so many rows, and for as many change rows.
unfoldable pub printed : ℕ → List ℕ → List ℕ
printed room text = answers (get_or (outcome (Call.Fresh (replicate (3 + 4 * room) 0))).lent 0 []) (replicate (4 * room) 0) (lines_of text)

-- "with C = 512"
abbrev pub script_text : List ℕ → List ℕ
script_text text = printed 512 text
