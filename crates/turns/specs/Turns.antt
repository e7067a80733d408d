-- What one line of a script does: the call it asks, then Position. Its answer is in the words of document 01:
-- "Accepted: `ok`, then the new document number (open, nav) or the count of changed frames (go), then position/steps.
-- Refused: `no`, the refusal, position/steps." "`drop F`, with the count of rows removed as its value" (document 02, L1); what 5 carries comes before the position (L4);
-- "`replace D`, its value the new number" (L7); "`tab` (its value: document and root frame, one space between)" (L10).
use Rattle.std.specs.Prelude.{ℕ, List, [], Result, Ok, Err, ◌≡◌, get_or}
use Rattle.base.specs.declared.Refusal.{Refusal}
use Rattle.base.specs.Numbers.{number_of, carried_by}
use Rattle.rules.specs.Calls.{Call, Answer, Outcome, outcome}
use Rattle.lines.specs.Lines.{Command, parse}
use Rattle.lines.specs.Reply.{Said}
use Rattle.turns.specs.declared.Value.{Value}
use Rattle.turns.specs.declared.Value.TheVariants as Values

-- A number, where window 0 stands; where Position itself refuses, its refusal at 0/0.
abbrev pub ok_at : Answer → ℕ → Said
ok_at (Answer.gives at) v = Said.ok v (get_or at 0 0) (get_or at 1 0)
ok_at (Answer.refuses k carried) v = Said.denied k carried 0 0

-- A new window's document and root frame, where window 0 stands; where Position itself refuses, its refusal at 0/0.
abbrev pub tab_at : Answer → ℕ → ℕ → Said
tab_at (Answer.gives at) d f = Said.tabbed d f (get_or at 0 0) (get_or at 1 0)
tab_at (Answer.refuses k carried) d f = Said.denied k carried 0 0

-- A refusal with what it carries, where window 0 stands; where Position itself refuses, its refusal at 0/0.
abbrev pub denied_at : Answer → ℕ → List ℕ → Said
denied_at (Answer.gives at) k carried = Said.denied k carried (get_or at 0 0) (get_or at 1 0)
denied_at (Answer.refuses k' carried') k carried = Said.denied k' carried' 0 0

-- What is told of a call, as the code has it, in these words.
abbrev pub replied : Answer → Result Value Refusal → Said
replied at (Ok (Values.Number v)) = ok_at at v
replied at (Ok (Values.Window d f)) = tab_at at d.0 f.0
replied at (Err r) = denied_at at (number_of r) (carried_by r)

-- How the values that a call gives are told, by Position's answer.
abbrev pub Teller : Type 0
Teller = Answer → List ℕ → Said

-- "Accepted: `ok`, then the new document number (open, nav) or the count of changed frames (go)", or that of rows removed: the first value.
abbrev pub one_number : Teller
one_number at values = ok_at at (get_or values 0 0)

-- "`tab` (its value: document and root frame, one space between)": the first two.
abbrev pub two_numbers : Teller
two_numbers at values = tab_at at (get_or values 0 0) (get_or values 1 0)

-- A call's answer: what it gives is told so; "Refused: `no`, the refusal, position/steps."
abbrev pub told : Teller → Answer → Answer → Said
told tell at (Answer.gives values) = tell at values
told tell at (Answer.refuses k carried) = denied_at at k carried

-- "its position field is that of window 0" (document 02, L10).
abbrev pub standing : List ℕ → Answer
standing words = (outcome (Call.Position words 0)).answer

-- The answer printed, and the record and change words then.
pub record Turned : Type 0 where
  pub said : Said
  pub words : List ℕ
  pub changes : List ℕ

-- What an answer tells once the call has left these words.
abbrev pub telling : Teller → Answer → List ℕ → List ℕ → Turned
telling tell answer words changes = record { said = told tell (standing words) answer; words = words; changes = changes }

-- After a call that only the record is lent to.
abbrev pub moved : Teller → Outcome → List ℕ → Turned
moved tell o changes = telling tell o.answer (get_or o.lent 0 []) changes

-- A call that only the record is lent to says this and leaves these words, whatever the change words are.
abbrev pub Leaves : Teller → Outcome → Said → List ℕ → Type 0
Leaves tell o said words = (changes : List ℕ) → moved tell o changes ≡ record { said = said; words = words; changes = changes }

-- After a call that the record and the change words are lent to.
abbrev pub gone : Outcome → Turned
gone o = telling one_number o.answer (get_or o.lent 0 []) (get_or o.lent 1 [])

-- What a command does; a bad one does nothing.
abbrev pub obeyed : List ℕ → List ℕ → Command → Turned
obeyed words changes (Command.opens d) = moved one_number (outcome (Call.Open words d)) changes
obeyed words changes (Command.navs d) = moved one_number (outcome (Call.Navigate words d)) changes
obeyed words changes (Command.goes r δ) = gone (outcome (Call.Traverse words r δ changes))
obeyed words changes (Command.drops f) = moved one_number (outcome (Call.Drop words f)) changes
obeyed words changes (Command.replaces d) = moved one_number (outcome (Call.Replace words d)) changes
obeyed words changes Command.tabs = moved two_numbers (outcome (Call.Tab words)) changes
obeyed words changes Command.bad = record { said = Said.bad; words = words; changes = changes }

-- What a line does.
unfoldable pub turned : List ℕ → List ℕ → List ℕ → Turned
turned words changes line = obeyed words changes (parse line)
