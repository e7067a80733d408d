-- A text read in parts: what a reader has printed and where it stands. Definitions.
use Rattle.std.specs.Prelude.{ℕ, ◌+◌, ◌*◌, ◌≤◌, ◌<◌, true, false, cond, List, [], ◌∷◌, ◌++◌, ◌⊎◌, Option, None, Some, ◌≡◌, eqb, length, take, drop}
use Rattle.laws.specs.Writes.{Wrote}
use Rattle.lines.specs.Reply.{answer_text}
use Rattle.turns.specs.Turns.{turned}
use Rattle.texts.specs.Texts.{unended}
use Rattle.texts.specs.declared.Cut.{Cut}
use Rattle.texts.specs.declared.Place.{Place}
use Rattle.texts.specs.declared.Fed.{Fed}

-- A reader in the middle of a text: the record, the words for change rows, and the bytes of the line that has begun.
pub record Reader : Type 0 where
  pub words : List ℕ
  pub changes : List ℕ
  pub begun : List ℕ

-- The reader with a byte more of its line, and at the end of its line.
abbrev pub longer : Reader → ℕ → Reader
longer s b = record { words = s.words; changes = s.changes; begun = s.begun ++ b ∷ [] }

abbrev pub onward : Reader → Reader
onward s =
    let t = turned s.words s.changes s.begun in
    record { words = t.words; changes = t.changes; begun = [] }

-- The reader after a text.
unfoldable pub read_by : Reader → List ℕ → Reader
read_by s [] = s
read_by s (b ∷ text) =
    let ended = read_by (onward s) text in
    let on = read_by (longer s b) text in
    cond (eqb b 10) ended on

-- What is printed for the lines of a text that end in it.
unfoldable pub printed_by : Reader → List ℕ → List ℕ
printed_by s [] = []
printed_by s (b ∷ text) =
    let ended = answer_text (turned s.words s.changes s.begun).said ++ printed_by (onward s) text in
    let on = printed_by (longer s b) text in
    cond (eqb b 10) ended on

-- Two lines that a script does not tell apart: the same, or both longer than "at most 64 bytes".
abbrev pub Alike : List ℕ → List ℕ → Type 0
Alike a b = (a ≡ b) ⊎ ((64 < length a) × (64 < length b))

-- Two readers that stand alike.
pub record Same (s r : Reader) : Type 0 where
  pub words_are : s.words ≡ r.words
  pub changes-are : s.changes ≡ r.changes
  pub begun-alike : Alike s.begun r.begun

-- The reader whose line is kept so far in a buffer.
abbrev pub reader : List ℕ → List ℕ → List ℕ → ℕ → Reader
reader words changes line kept = record { words = words; changes = changes; begun = take kept line }

-- A line was answered: its text stands in out from place `used` on, and the record and the change words are as the line leaves them.
pub record Answered (words changes line out : List ℕ) (used : ℕ) (words' changes' out' : List ℕ) (r : ℕ) : Type 0 where
  pub words_are : words' ≡ (turned words changes line).words
  pub changes-are : changes' ≡ (turned words changes line).changes
  pub text-is : Wrote out used (answer_text (turned words changes line).said) out' r
  pub short : r ≤ used + 67

-- A line that was read is answered where it has ended, and none is begun then; else nothing changes.
pub record Settled (c : Cut) (words changes line out : List ℕ) (used : ℕ) (words' changes' out' : List ℕ) (p : Place) : Type 0 where
  pub on : c.ended ≡ false → (words' ≡ words) × (changes' ≡ changes) × (out' ≡ out) × (p ≡ record { kept = c.kept; used = used })
  pub ended : c.ended ≡ true → Answered words changes (take c.kept line) out used words' changes' out' p.used × (p.kept ≡ 0)

-- The first bytes of a text were read by a reader that stood at `s` and stands at `r` then, and what they print stands in out, whose other bytes are kept.
pub record Reads (s : Reader) (text : List ℕ) (taken : ℕ) (r : Reader) (out : List ℕ) (used : ℕ) (out' : List ℕ) : Type 0 where
  pub within : taken ≤ length text
  pub stands : Same r (read_by s (take taken text))
  pub prints : take used out' ≡ printed_by s (take taken text)
  pub fits : used ≤ length out
  pub kept : drop used out' ≡ drop used out
  -- A byte that is read prints at most 67.
  pub bounded : used ≤ 67 * taken

-- A part of a text was fed: its first bytes were read, and all of them, unless out has no room for another answer. A line's buffer has at least 65 bytes.
pub record Feeds (text words changes line : List ℕ) (kept : ℕ) (out : List ℕ) (f : Fed) (words' changes' line' out' : List ℕ) : Type 0 where
  pub reads : Reads (reader words changes line kept) text f.taken (reader words' changes' line' f.kept) out f.used out'
  pub goes_on : 65 ≤ length line → (f.taken ≡ length text) ⊎ (length out < f.used + 67)

-- The last lines of a text, one or none, were answered.
abbrev pub LastAnswered : List (List ℕ) → List ℕ → List ℕ → List ℕ → List ℕ → List ℕ → List ℕ → ℕ → Type 0
LastAnswered [] words changes out words' changes' out' n = (words' ≡ words) × (changes' ≡ changes) × (out' ≡ out) × (n ≡ 0)
LastAnswered (line ∷ lines) words changes out words' changes' out' n = Answered words changes line out 0 words' changes' out' n

-- A text ended: the line that lacks its newline was answered, if there is one; nothing is changed where out is too short for an answer.
abbrev pub Finishes : List ℕ → List ℕ → List ℕ → ℕ → List ℕ → Option ℕ → List ℕ → List ℕ → List ℕ → Type 0
Finishes words changes line kept out (Some n) words' changes' out' = LastAnswered (unended (take kept line)) words changes out words' changes' out' n × (67 ≤ length out)
Finishes words changes line kept out None words' changes' out' = (words' ≡ words) × (changes' ≡ changes) × (out' ≡ out) × (length out < 67)

-- Parts of a text read one after the other: the text so far, what it printed, and where the reader stands then.
pub data Session (s : Reader) : List ℕ → List ℕ → Reader → Type 0 where
  begins : Session s [] [] s
  goes : {text out : List ℕ} {r : Reader} → Session s text out r → (part : List ℕ) (next : Reader) → Same next (read_by r part) → Session s (text ++ part) (out ++ printed_by r part) next
