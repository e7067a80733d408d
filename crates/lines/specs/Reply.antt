-- The line that answers: "Accepted: `ok`, then the new document number (open, nav) or the count of changed frames (go), then position/steps.
-- Refused: `no`, the refusal, position/steps. [..] Any other line prints `bad`." "the script prints `no 5 at D` before the position" (document 02, L4).
-- "`tab` (its value: document and root frame, one space between)" (L10).
use Rattle.std.specs.Prelude.{ℕ, List, [], ◌∷◌, ◌++◌}
use Rattle.base.specs.Numbers.{number_of, carried_by}
use Rattle.lines.specs.Decimal.{decimal}
use Rattle.lines.specs.declared.Reply.{Reply}
use Rattle.lines.specs.declared.Reply.TheVariants as Replies

-- What is printed: a number, a new window's document and root frame, or a refusal, with position and steps, or that the line is none of a script.
pub data Said : Type 0 where
  ok : (v p s : ℕ) → Said
  tabbed : (d f p s : ℕ) → Said
  denied : (k : ℕ) (carried : List ℕ) (p s : ℕ) → Said
  bad : Said

-- What the code answers, in these words.
abbrev pub reply_is : Reply → Said
reply_is (Replies.Ok v at) = Said.ok v at.position at.steps
reply_is (Replies.Tab d f at) = Said.tabbed d.0 f.0 at.position at.steps
reply_is (Replies.No r at) = Said.denied (number_of r) (carried_by r) at.position at.steps
reply_is Replies.Bad = Said.bad

-- A number, position/steps, and the newline; this after two letters.
unfoldable pub end_text : ℕ → ℕ → ℕ → List ℕ
end_text n position steps = (32 ∷ decimal n) ++ ((32 ∷ decimal position) ++ ((47 ∷ decimal steps) ++ (10 ∷ [])))

unfoldable pub status_text : ℕ → ℕ → ℕ → ℕ → ℕ → List ℕ
status_text a b n position steps = (a ∷ b ∷ []) ++ end_text n position steps

-- The bytes that tell a new window: `ok D F P/S`.
unfoldable pub tab_text : ℕ → ℕ → ℕ → ℕ → List ℕ
tab_text d f position steps = (111 ∷ 107 ∷ []) ++ ((32 ∷ decimal d) ++ end_text f position steps)

-- The bytes of a refusal: `no K P/S`; with a document that it carries, `no K at D P/S`.
unfoldable pub denied_text : ℕ → List ℕ → ℕ → ℕ → List ℕ
denied_text k [] position steps = status_text 110 111 k position steps
denied_text k (d ∷ carried) position steps = (110 ∷ 111 ∷ []) ++ ((32 ∷ decimal k) ++ ((32 ∷ []) ++ status_text 97 116 d position steps))

-- The bytes of an answer, with its newline: `ok V P/S`, `ok D F P/S`, `no K P/S`, `no K at D P/S`, `bad`.
unfoldable pub answer_text : Said → List ℕ
answer_text (Said.ok v p s) = status_text 111 107 v p s
answer_text (Said.tabbed d f p s) = tab_text d f p s
answer_text (Said.denied k carried p s) = denied_text k carried p s
answer_text Said.bad = 98 ∷ 97 ∷ 100 ∷ 10 ∷ []
