-- "Each public call's promise determines answer and lent words for every input": a line a call. Definitions.
use Rattle.std.specs.Prelude.{ℕ, List, [], ◌∷◌, Option, Result, Ok, Err, ◌≡◌, ℤ, Float}
use Rattle.base.specs.declared.Refusal.{Refusal}
use Rattle.rules.specs.Asks.{stretched}
use Rattle.rules.specs.Places.{Place, Doubles}
use Rattle.rules.specs.Calls.{Call, Answer, outcome}
use Rattle.sound.specs.declared.Stand.{Stand}
use Rattle.sound.specs.Survey.{Located}
use Rattle.moves.specs.Answers.{fresh_is, opened_is}
use Rattle.navigates.specs.Answers.{navigated_is}
use Rattle.drops.specs.Answers.{dropped_is}
use Rattle.replaces.specs.Answers.{replaced_is}
use Rattle.traverses.specs.declared.Trip.{Trip}
use Rattle.traverses.specs.Answers.{traversed_is, answer_of, shift_text, Shifts}
use Rattle.changes.specs.declared.ChangeRow.{ChangeRow}
use Rattle.changes.specs.Changes.{plain}
use Rattle.lists.specs.Answers.{standing_is, listed_is}
use Rattle.asks.specs.Answers.{sight_is, stretch_is}
use Rattle.outlines.specs.Answers.{outlined_is}
use Rattle.saved.specs.Answers.{saving_is}
use Rattle.told.specs.Answers.{loading_is}
use Rattle.contents.specs.Answers.{told_is}
use Rattle.points.specs.Points.{place_given}
use Rattle.points.specs.declared.Place.{Place as Given}
use Rattle.places.specs.Answers.{placed_is, setting_is}
use Rattle.lines.specs.declared.Command.{Command}
use Rattle.lines.specs.declared.Reply.{Reply}
use Rattle.lines.specs.Lines.{parse as parse_of, command_is}
use Rattle.lines.specs.Reply.{reply_is}
use Rattle.turns.specs.Turns.{turned}
use Rattle.frame_history.specs.Face.{face, face_over, hiding_face}

-- "Any two outcomes that satisfy a promise are shown equal": P is the promise.
abbrev pub AtMostOne : (A : Type 0) → (A → Type 0) → Type 0
AtMostOne A P = (x y : A) → P x → P y → x ≡ y

-- At most one result of the code, with what the lent runs hold then, meets the promise that it is the outcome of a call: `is` gives the paper's number and values.
abbrev pub OneResult : {A : Type 0} → (A → Answer) → Call → Type 0
OneResult {A} is c = AtMostOne (A × List (List ℕ)) λ (r, runs). outcome c ≡ record { answer = is r; lent = runs }

-- The same of a place, whose coordinates are doubles, as the type of the code has them: the bits of a double tell the double.
abbrev pub OfDoubles : Result Given Refusal → Type 0
OfDoubles (Ok p) = Doubles (place_given p)
OfDoubles (Err r) = Unit {0}

abbrev pub OnePlace : Call → Type 0
OnePlace c = AtMostOne (Result Given Refusal × List (List ℕ)) λ (r, runs). OfDoubles r × (outcome c ≡ record { answer = placed_is r; lent = runs })

-- The promise of each public call, over all that it may be handed.
pub record Determined : Type 0 where
  pub fresh : (words : List ℕ) → OneResult fresh_is (Call.Fresh words)
  pub open-frame : (words : List ℕ) (parent : ℕ) → OneResult opened_is (Call.Open words parent)
  pub navigate : (words : List ℕ) (from : ℕ) → OneResult navigated_is (Call.Navigate words from)
  pub drop-frame : (words : List ℕ) (frame : ℕ) → OneResult dropped_is (Call.Drop words frame)
  pub replace : (words : List ℕ) (d : ℕ) → OneResult replaced_is (Call.Replace words d)
  pub open-window : (words : List ℕ) → OneResult opened_is (Call.Tab words)
  pub traverse : (words : List ℕ) (root : ℕ) (δ : ℤ) (room : List ℕ) → OneResult traversed_is (Call.Traverse words root δ room)
  pub position : (words : List ℕ) (root : ℕ) → OneResult standing_is (Call.Position words root)
  pub visible : (words : List ℕ) (d : ℕ) → OneResult sight_is (Call.Visible words d)
  pub lists : (words : List ℕ) (root : ℕ) (takens upcomings : List ℕ) → OneResult listed_is (Call.Lists words root takens upcomings)
  pub stretch-count : (takens upcomings : List ℕ) (δ : ℤ) → OneResult stretch_is (Call.StretchCount takens upcomings δ)
  pub outline : (words : List ℕ) (root : ℕ) (room : List ℕ) → OneResult outlined_is (Call.Outline words root room)
  pub save : (words room : List ℕ) → OneResult saving_is (Call.Save words room)
  pub load : (words bytes : List ℕ) → OneResult loading_is (Call.Load words bytes)
  pub load-old : (words bytes : List ℕ) → OneResult loading_is (Call.LoadOld words bytes)
  pub contents : (bytes : List ℕ) → OneResult told_is (Call.Contents bytes)
  pub contents-old : (bytes : List ℕ) → OneResult told_is (Call.ContentsOld bytes)
  pub set-place : (words places : List ℕ) (d : ℕ) (place : Place) → OneResult setting_is (Call.SetPlace words places d place)
  pub place : (words places : List ℕ) (d : ℕ) → OnePlace (Call.AskPlace words places d)
  pub place-at-zoom : (words places : List ℕ) (d : ℕ) (zoom : Float) → OnePlace (Call.AskAtZoom words places d zoom)
  -- The part that Stretch gives back.
  pub stretch : (takens upcomings : List ℕ) (δ : ℤ) → AtMostOne (List ℕ) λ part. part ≡ stretched takens upcomings δ
  -- Traverse with change rows as structs: the answer, the record and the rows.
  pub traverse-rows : (words : List ℕ) (root : ℕ) (δ : ℤ) (rows : List ChangeRow) →
      AtMostOne (Result ℕ Refusal × List ℕ × List ChangeRow) λ (r, words', rows').
      outcome (Call.Traverse words root δ (plain rows)) ≡ record { answer = traversed_is r; lent = words' ∷ plain rows' ∷ [] }
  -- The same but for the writing of change rows, in a record of one window: the answer, the record and the words of the change rows, whatever places they are
  -- read between.
  pub shift-sound : (words : List ℕ) (stand : Stand) (δ : ℤ) (room : ℕ) → Located words stand →
      AtMostOne (Result ℕ Refusal × List ℕ × List ℕ) λ (r, words', text).
      (s : Result Trip Refusal) × Shifts words δ room s words' × (answer_of s ≡ r) × (shift_text words' s ≡ text)
  -- A line of a script: the reply, the record and the change words; and what a line asks.
  pub turn : (words changes line : List ℕ) →
      AtMostOne (Reply × List ℕ × List ℕ) λ (r, words', changes'). turned words changes line ≡ record { said = reply_is r; words = words'; changes = changes' }
  pub parse : (line : List ℕ) → AtMostOne (Option Command) λ r. command_is r ≡ parse_of line
  -- Each call for C, whose out words held `olds`: the number returned, the out words and the lent runs; where fewer values than out words may be given; and with
  -- change rows as structs.
  pub host : (c : Call) (olds : List ℕ) →
      AtMostOne (ℕ × List ℕ × List (List ℕ)) λ (n, outs, runs). face (outcome c) olds ≡ record { number = n; outs = outs; lent = runs }
  pub host-place : (c : Call) (olds : List ℕ) →
      AtMostOne (ℕ × List ℕ × List (List ℕ)) λ (n, outs, runs). face_over (outcome c) olds ≡ record { number = n; outs = outs; lent = runs }
  -- And of those whose refusal 5 carries a document, the out word for it, which held `old`.
  pub host-hiding : (c : Call) (olds : List ℕ) (old : ℕ) →
      AtMostOne (ℕ × List ℕ × List (List ℕ) × ℕ) λ (n, outs, runs, new).
      hiding_face (outcome c) olds old ≡ record { seen = record { number = n; outs = outs; lent = runs }; hiding = new }
  pub host-rows : (words : List ℕ) (root : ℕ) (δ : ℤ) (rows : List ChangeRow) (olds : List ℕ) →
      AtMostOne (ℕ × List ℕ × List ℕ × List ChangeRow) λ (n, outs, words', rows').
      face (outcome (Call.Traverse words root δ (plain rows))) olds ≡ record { number = n; outs = outs; lent = words' ∷ plain rows' ∷ [] }
