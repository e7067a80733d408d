-- Demand 3: what is noted of a window, what may follow, and what is then so. "Demand 3 holds per window, with any calls on others in between" (document 02, L10).
use Rattle.std.specs.Prelude.{ℕ, ◌≤◌, ◌<◌, List, [], ◌∷◌, ◌++◌, false, ◌≡◌, length}
use Rattle.std.proofs.Math.Bool.{So}
use Rattle.rules.specs.Rows.{doc_at, in_record, is_frame, flag}
use Rattle.rules.specs.Steps.{taken, position, steps, script_length, visible, climb_of}
use Rattle.rules.specs.Windows.{is_root}
use Rattle.rules.specs.Words.{rows_of}
use Rattle.rules.specs.Sound.{Sound}
use Rattle.rules.specs.OldSaved.{S5alone}
use Rattle.rules.specs.Calls.{Call, Answer, hider, outcome}
use Rattle.rules.specs.Runs.{Move, on, after, run}
use Rattle.demands.specs.Record.{Words32, Accepted}
use Rattle.demands.specs.Windows.{rows_in, InWindow}

-- "the position" of window r of a record
abbrev pub position_in : List ℕ → ℕ → ℕ
position_in words r = position (rows_in r words)

-- What is noted is what the calls answer: "Position answers position, steps, and length for scripts"; "the visible question should answer either that the
-- document is visible or the number of the nearest document, itself first and then upwards, that isn't shown" (document 02, L4): yes, or no and that number,
-- and then "the number of parent links followed" (L6).
pub record Noted (words : List ℕ) (r : ℕ) : Type 0 where
  pub position-asked : (outcome (Call.Position words r)).answer ≡ Answer.gives (position_in words r ∷ steps (rows_in r words) ∷ script_length (rows_in r words) ∷ [])
  pub visible-asked : (d : ℕ) → So (in_record (rows_of words) d) →
      (outcome (Call.Visible words d)).answer ≡ Answer.gives (flag (visible (rows_of words) d) ∷ hider words d ∷ (climb_of (rows_of words) d).links ∷ [])

-- Document d "is one of the noted position's taken steps".
abbrev pub TakenStep : List ℕ → ℕ → ℕ → Type 0
TakenStep words r d = (i : ℕ) × (i < length (rows_in r words)) × (doc_at (rows_in r words) i ≡ d) × So (taken (rows_in r words) i)

-- A move on these words removes the row of document d. A refused one removes none.
abbrev pub Removes : List ℕ → Move → ℕ → Type 0
Removes words m d = So (in_record (rows_of words) d) × (in_record (rows_of (after words m)) d ≡ false)

-- "no accepted navigation begun from a position lower than the noted one": of those in the window.
abbrev pub NoneBelow : List ℕ → ℕ → List Move → Type 0
NoneBelow words r moves =
    (before rest : List Move) (d : ℕ) → moves ≡ before ++ Move.navigates d ∷ rest → Accepted (on (run words before) (Move.navigates d)) → InWindow (run words before) r d →
    position_in words r ≤ position_in (run words before) r

-- "sequences in which no removed row is one of the noted position's taken steps"
abbrev pub TakenStay : List ℕ → ℕ → List Move → Type 0
TakenStay words r moves =
    (before rest : List Move) (f d : ℕ) → moves ≡ before ++ Move.drops f ∷ rest → Removes (run words before) (Move.drops f) d → TakenStep words r d → ⊥

-- "no document that existed at the note is replaced": of the window's.
abbrev pub NoneReplaced : List ℕ → ℕ → List Move → Type 0
NoneReplaced words r moves =
    (before rest : List Move) (d : ℕ) → moves ≡ before ++ Move.replaces d ∷ rest → Accepted (on (run words before) (Move.replaces d)) → InWindow words r d → ⊥

-- "any opens, navigations and traversals [..], refused ones among them", drops (document 02, L1), replacements (L7) and new windows (L10), with these premises on the noted window alone.
pub record MayFollow (words : List ℕ) (r : ℕ) (moves : List Move) : Type 0 where
  pub none_below : NoneBelow words r moves
  pub taken-stay : TakenStay words r moves
  pub none-replaced : NoneReplaced words r moves

-- "Each time the position is the noted one again, the visible documents that already existed at the note are exactly the noted ones": all of the window's, and as document
-- 02 has it, the "noted documents still in the record".
abbrev pub AllVisibleAgain : List ℕ → ℕ → List Move → Type 0
AllVisibleAgain words r moves =
    (before rest : List Move) → moves ≡ before ++ rest → position_in (run words before) r ≡ position_in words r →
    (d : ℕ) → InWindow words r d → visible (rows_of (run words before)) d ≡ visible (rows_of words) d

abbrev pub VisibleAgain : List ℕ → ℕ → List Move → Type 0
VisibleAgain words r moves =
    (before rest : List Move) → moves ≡ before ++ rest → position_in (run words before) r ≡ position_in words r →
    (d : ℕ) → InWindow words r d → So (in_record (rows_of (run words before)) d) → visible (rows_of (run words before)) d ≡ visible (rows_of words) d

-- A move on these words hands out document number d: "Open [..] Answer: both numbers." "Navigate [..] Answer: the new number." Replace: "its value the new number". Tab: "its value:
-- document and root frame".
abbrev pub HandsDocument : List ℕ → Move → ℕ → Type 0
HandsDocument words (Move.opens p) d = (f : ℕ) × ((outcome (on words (Move.opens p))).answer ≡ Answer.gives (d ∷ f ∷ []))
HandsDocument words (Move.navigates e) d = (outcome (on words (Move.navigates e))).answer ≡ Answer.gives (d ∷ [])
HandsDocument words (Move.goes root δ room) d = ⊥
HandsDocument words (Move.drops f) d = ⊥
HandsDocument words (Move.replaces e) d = (outcome (on words (Move.replaces e))).answer ≡ Answer.gives (d ∷ [])
HandsDocument words Move.tabs d = (f : ℕ) × ((outcome (on words Move.tabs)).answer ≡ Answer.gives (d ∷ f ∷ []))

-- A move on these words hands out frame number f.
abbrev pub HandsFrame : List ℕ → Move → ℕ → Type 0
HandsFrame words (Move.opens p) f = (d : ℕ) × ((outcome (on words (Move.opens p))).answer ≡ Answer.gives (d ∷ f ∷ []))
HandsFrame words (Move.navigates e) f = ⊥
HandsFrame words (Move.goes root δ room) f = ⊥
HandsFrame words (Move.drops g) f = ⊥
HandsFrame words (Move.replaces e) f = ⊥
HandsFrame words Move.tabs f = (d : ℕ) × ((outcome (on words Move.tabs)).answer ≡ Answer.gives (d ∷ f ∷ []))

-- "No [..] number handed out since was in the record at the note or was handed out earlier since"
abbrev pub New : (List ℕ → Move → ℕ → Type 0) → (ℕ → Type 0) → List ℕ → List Move → Type 0
New Hands Was words moves =
    (before rest : List Move) (m : Move) (k : ℕ) → moves ≡ before ++ m ∷ rest → Hands (run words before) m k →
    (Was k → ⊥) × ((earlier between : List Move) (e : Move) → before ≡ earlier ++ e ∷ between → Hands (run words earlier) e k → ⊥)

-- "Note the position and the visible documents of a sound record. Then let any opens, navigations and traversals follow [..]", of window r.
pub record Demand3 : Type 0 where
  pub visible-again : (words : List ℕ) (r : ℕ) (moves : List Move) → Words32 words → Sound words → So (is_root (rows_of words) r) → MayFollow words r moves → VisibleAgain words r moves
  -- "No document number handed out since was in the record at the note or was handed out earlier since", after any moves, on any windows,
  pub new-documents : (words : List ℕ) (moves : List Move) → Words32 words → Sound words → New HandsDocument (λ d. So (in_record (rows_of words) d)) words moves
  -- "the same holds among frame numbers"
  pub new-frames : (words : List ℕ) (moves : List Move) → Words32 words → Sound words → New HandsFrame (λ f. So (is_frame (rows_of words) f)) words moves

-- No such move is accepted: of those in the window.
abbrev pub NoDrops : List ℕ → ℕ → List Move → Type 0
NoDrops words r moves =
    (before rest : List Move) (f : ℕ) → moves ≡ before ++ Move.drops f ∷ rest → Accepted (on (run words before) (Move.drops f)) → So (is_frame (rows_in r (run words before)) f) → ⊥

abbrev pub NoReplacements : List ℕ → ℕ → List Move → Type 0
NoReplacements words r moves =
    (before rest : List Move) (d : ℕ) → moves ≡ before ++ Move.replaces d ∷ rest → Accepted (on (run words before) (Move.replaces d)) → InWindow (run words before) r d → ⊥

-- No window is opened.
abbrev pub NoTabs : List ℕ → List Move → Type 0
NoTabs words moves = (before rest : List Move) → moves ≡ before ++ Move.tabs ∷ rest → Accepted (on (run words before) Move.tabs) → ⊥

-- Where no drop in the window is accepted, it is said of all the window's documents that existed at the note, in the record still or not.
abbrev pub WithoutDrops : Type 0
WithoutDrops =
    (words : List ℕ) (r : ℕ) (moves : List Move) → Words32 words → Sound words → So (is_root (rows_of words) r) →
    NoneBelow words r moves → NoDrops words r moves → NoneReplaced words r moves → AllVisibleAgain words r moves

-- Where no replacement in the window is accepted, the premises are those that document 02's L1 left, and document 01's where no drop in it is accepted either.
pub record WithoutReplacements : Type 0 where
  pub with-drops : (words : List ℕ) (r : ℕ) (moves : List Move) → Words32 words → Sound words → So (is_root (rows_of words) r) →
      NoReplacements words r moves → NoneBelow words r moves → TakenStay words r moves → VisibleAgain words r moves
  pub without-drops : (words : List ℕ) (r : ℕ) (moves : List Move) → Words32 words → Sound words → So (is_root (rows_of words) r) →
      NoReplacements words r moves → NoneBelow words r moves → NoDrops words r moves → AllVisibleAgain words r moves

-- One window: all rows without a parent are one frame. Where no window is opened, it stays the only one, and the window's rows are the record's: the earlier statements are these.
pub record WithoutTabs : Type 0 where
  pub still_one : (words : List ℕ) (r : ℕ) (moves : List Move) → Words32 words → Sound words → So (is_root (rows_of words) r) → S5alone (rows_of words) → NoTabs words moves →
      (before rest : List Move) → moves ≡ before ++ rest → rows_in r (run words before) ≡ rows_of (run words before)
