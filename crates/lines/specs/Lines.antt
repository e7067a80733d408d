-- One line of a script, without its newline: "Lines `open P`, `nav D`, `go N` [..] at most 64 bytes"; "The script gains `drop F`" (document 02, L1),
-- "`replace D`" (L7), "`tab` [..] and `go N R` for root frame R, R being 0 when left out" (L10).
use Rattle.std.specs.Prelude.{ℕ, zero, suc, ◌+◌, ◌≤◌, ◌<◌, Bool, ◌&&◌, cond, List, [], ◌∷◌, ◌++◌, eqb, leb, ltb, ℤ, pos, negsuc, length, get_or, take, drop, Option, Some, None}
use Rattle.rules.specs.Below.{all_below, earliest}
use Rattle.lines.specs.Decimal.{numeral, decimal, signed}
use Rattle.lines.specs.declared.Command.{Command as Read}
use Rattle.lines.specs.declared.Command.TheVariants as Reads

-- What a line asks. `d` is a document, `r` a window's root frame, `δ` an amount, `f` a frame.
pub data Command : Type 0 where
  opens : (d : ℕ) → Command
  navs : (d : ℕ) → Command
  goes : (r : ℕ) (δ : ℤ) → Command
  drops : (f : ℕ) → Command
  replaces : (d : ℕ) → Command
  tabs : Command
  bad : Command

-- `open `
abbrev pub open_word : List ℕ
open_word = 111 ∷ 112 ∷ 101 ∷ 110 ∷ 32 ∷ []

-- `nav `
abbrev pub nav_word : List ℕ
nav_word = 110 ∷ 97 ∷ 118 ∷ 32 ∷ []

-- `go `
abbrev pub go_word : List ℕ
go_word = 103 ∷ 111 ∷ 32 ∷ []

-- `drop `
abbrev pub drop_word : List ℕ
drop_word = 100 ∷ 114 ∷ 111 ∷ 112 ∷ 32 ∷ []

-- `replace `
abbrev pub replace_word : List ℕ
replace_word = 114 ∷ 101 ∷ 112 ∷ 108 ∷ 97 ∷ 99 ∷ 101 ∷ 32 ∷ []

-- `tab`
abbrev pub tab_word : List ℕ
tab_word = 116 ∷ 97 ∷ 98 ∷ []

-- A line starts with a word.
unfoldable pub starts? : List ℕ → List ℕ → Bool
starts? word line = leb (length word) (length line) && all_below (length word) (λ i. eqb (get_or line i 0) (get_or word i 0))

-- A line is `tab`, with nothing after it.
unfoldable pub tab? : List ℕ → Bool
tab? line = eqb (length line) 3 && starts? tab_word line

-- A text starts with a minus.
abbrev pub minus? : List ℕ → Bool
minus? text = eqb (get_or text 0 0) 45

-- What a number asks after a word; where there is none, the line is another line.
abbrev pub numbered : (ℕ → Command) → Option ℕ → Command
numbered asks (Some n) = asks n
numbered asks None = Command.bad

-- Back by a number in window r: "never `-0`".
abbrev pub back_by : ℕ → ℕ → Command
back_by r zero = Command.bad
back_by r (suc n) = Command.goes r (negsuc n)

-- What a number asks after `open `, `nav `, `drop `, `replace `, `go ` and `go -`, the last two in window r.
abbrev pub opening : Option ℕ → Command
opening n = numbered Command.opens n

abbrev pub navigating : Option ℕ → Command
navigating n = numbered Command.navs n

abbrev pub dropping : Option ℕ → Command
dropping n = numbered Command.drops n

abbrev pub replacement : Option ℕ → Command
replacement n = numbered Command.replaces n

abbrev pub forth : ℕ → Option ℕ → Command
forth r n = numbered (λ k. Command.goes r (pos k)) n

abbrev pub back : ℕ → Option ℕ → Command
back r n = numbered (back_by r) n

-- The amount that a text asks to go by in window r: "minus only after `go` [..] N fits 32 bits signed".
unfoldable pub going_by : ℕ → List ℕ → Command
going_by r text = cond (minus? text) (back r (numeral 2147483648 (drop 1 text))) (forth r (numeral 2147483647 text))

-- The place of a text's first blank, its end where it has none.
abbrev pub blank? : List ℕ → ℕ → Bool
blank? text i = eqb (get_or text i 0) 32

abbrev pub blank_at : List ℕ → ℕ
blank_at text = earliest (blank? text) (length text)

-- The root frame that a text names after its first blank: "R being 0 when left out"; it fits 32 bits unsigned.
unfoldable pub root_named : List ℕ → Option ℕ
root_named text = cond (ltb (blank_at text) (length text)) (numeral 4294967295 (drop (blank_at text + 1) text)) (Some 0)

-- What a text asks after `go `.
unfoldable pub going : List ℕ → Command
going text = numbered (λ r. going_by r (take (blank_at text) text)) (root_named text)

-- What a line asks by a word of document 02. "Any other line prints `bad`."
unfoldable pub other_word : List ℕ → Command
other_word line =
    cond (starts? drop_word line) (dropping (numeral 4294967295 (drop 5 line)))
    (cond (starts? replace_word line) (replacement (numeral 4294967295 (drop 8 line)))
    (cond (tab? line) Command.tabs Command.bad))

-- What a line asks by its word: "P and D fit 32 bits unsigned".
unfoldable pub worded : List ℕ → Command
worded line =
    cond (starts? open_word line) (opening (numeral 4294967295 (drop 5 line)))
    (cond (starts? nav_word line) (navigating (numeral 4294967295 (drop 4 line)))
    (cond (starts? go_word line) (going (drop 3 line)) (other_word line)))

-- What a line asks: "at most 64 bytes".
unfoldable pub parse : List ℕ → Command
parse line = cond (ltb 64 (length line)) Command.bad (worded line)

-- The line that asks it, with its window's root frame; for bad the empty line.
unfoldable pub printed : Command → List ℕ
printed (Command.opens d) = open_word ++ decimal d
printed (Command.navs d) = nav_word ++ decimal d
printed (Command.goes r δ) = go_word ++ (signed δ ++ (32 ∷ decimal r))
printed (Command.drops f) = drop_word ++ decimal f
printed (Command.replaces d) = replace_word ++ decimal d
printed Command.tabs = tab_word
printed Command.bad = []

-- The line to go in window 0 that leaves its root frame out.
abbrev pub unnamed : ℤ → List ℕ
unnamed δ = go_word ++ signed δ

-- The numbers of a command fit: "N fits 32 bits signed", "P and D fit 32 bits unsigned", and so do the others.
abbrev pub Amount : ℤ → Type 0
Amount (pos n) = n ≤ 2147483647
Amount (negsuc n) = n < 2147483648

abbrev pub InRange : Command → Type 0
InRange (Command.opens d) = d ≤ 4294967295
InRange (Command.navs d) = d ≤ 4294967295
InRange (Command.goes r δ) = (r ≤ 4294967295) × Amount δ
InRange (Command.drops f) = f ≤ 4294967295
InRange (Command.replaces d) = d ≤ 4294967295
InRange Command.tabs = Unit {0}
InRange Command.bad = Unit {0}

-- What the code read, in these words; where it read nothing, the line is another line.
abbrev pub command_is : Option Read → Command
command_is (Some (Reads.Open d)) = Command.opens d.0
command_is (Some (Reads.Nav d)) = Command.navs d.0
command_is (Some (Reads.Go r δ)) = Command.goes r.0 δ
command_is (Some (Reads.Drop f)) = Command.drops f.0
command_is (Some (Reads.Replace d)) = Command.replaces d.0
command_is (Some Reads.Tab) = Command.tabs
command_is None = Command.bad
