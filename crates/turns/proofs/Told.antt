-- What a line does, by the ways that it goes. Assumes nothing.
use Prim.Native.Nat.{ℕ}
use mathlib.Core.List.{List, [], ◌∷◌}
use mathlib.Core.Path.{◌≡◌, sym, ap, ◌∙◌}
use lib.IntN.{ℤ}
use Rattle.std.specs.Prelude.{Option}
use Rattle.rules.specs.Calls.{Call, Answer, Outcome, outcome}
use Rattle.lines.specs.Lines.{Command, parse, command_is}
use Rattle.lines.specs.declared.Command.{Command as Read}
use Rattle.lines.specs.Reply.{Said}
use Rattle.turns.specs.Turns.{Turned, Teller, one_number, told, standing, telling, moved, Leaves, gone, obeyed, turned}

-- A call says what its answer tells.
tells : (tell : Teller) (a b : Answer) (words rows : List ℕ) (said : Said) → a ≡ b → said ≡ told tell (standing words) b → telling tell a words rows ≡ record { said = said; words = words; changes = rows }
tells tell a b words rows said g f = rw (g, f)

-- A call that only the record is lent to.
pub moved_by : (tell : Teller) (o : Outcome) (a b : Answer) (words : List ℕ) (said : Said) → o ≡ record { answer = a; lent = words ∷ [] } → a ≡ b → said ≡ told tell (standing words) b →
    Leaves tell o said words
moved_by tell o a b words said e g f rows = ap (λ x. moved tell x rows) e ∙ tells tell a b words rows said g f

-- A call that the change words are lent to as well.
pub gone-by : (o : Outcome) (a b : Answer) (words rows : List ℕ) (said : Said) → o ≡ record { answer = a; lent = words ∷ rows ∷ [] } → a ≡ b → said ≡ told one_number (standing words) b →
    gone o ≡ record { said = said; words = words; changes = rows }
gone-by o a b words rows said e g f = ap gone e ∙ tells one_number a b words rows said g f

-- A LINE

-- A line does what the command does that it is read as.
pub turned_by : (words rows line : List ℕ) (r : Option Read) (c : Command) (t : Turned) → command_is r ≡ parse line → command_is r ≡ c → obeyed words rows c ≡ t
    → turned words rows line ≡ t
unfolding turned
turned_by words rows line r c t e f g = ap (obeyed words rows) (sym e ∙ f) ∙ g

-- A line that goes does so by the amount that the traversal is handed.
pub turned-gone : (words rows line : List ℕ) (r : Option Read) (root : ℕ) (δ z : ℤ) (t : Turned) → command_is r ≡ parse line → command_is r ≡ Command.goes root δ → z ≡ δ
    → gone (outcome (Call.Traverse words root z rows)) ≡ t → turned words rows line ≡ t
turned-gone words rows line r root δ z t e f a g = turned_by words rows line r (Command.goes root δ) t e f (sym (ap (λ x. gone (outcome (Call.Traverse words root x rows))) a) ∙ g)
