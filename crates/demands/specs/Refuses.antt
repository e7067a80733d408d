-- Demand 1: "It refuses only by the nine refusals of document 01, exactly when that document says, and then each lent word and byte reads as
-- before." Document 02 adds to these.
use Rattle.std.specs.Prelude.{ℕ, ◌+◌, ◌*◌, ◌≤◌, ◌<◌, List, [], ◌∷◌, ◌↔◌, ◌⊎◌, Bool, false, ◌||◌, ◌≡◌, eqb, Float, ℤ, pos, negsuc, ◌+ℤ◌, nat_abs, length}
use Rattle.std.proofs.Math.Bool.{So}
use Rattle.std.specs.Float.{nan, inf}
use Rattle.rules.specs.Rows.{Row, none, doc_at, frame_at, parent_at, is_shown, place}
use Rattle.rules.specs.Steps.{position, steps, visible}
use Rattle.rules.specs.Windows.{root_at}
use Rattle.rules.specs.Moves.{cleared, changes}
use Rattle.rules.specs.Words.{capacity, table_of, rows_of}
use Rattle.rules.specs.Sound.{Sound}
use Rattle.rules.specs.Asks.{taken_list, upcoming_list, own_list, outline_of}
use Rattle.rules.specs.Saved.{saved, number_at, documents_in, shown_in, entries_in, loaded}
use Rattle.rules.specs.OldSaved.{old_saved, old_loaded, S2rising, S5alone}
use Rattle.rules.specs.Places.{Place, scaled, entries, document_in, kind_in, place_in, place_of}
use Rattle.rules.specs.Calls.{Call, Answer, lent_to, window_in, outcome}

-- "1: record under 7 words"
abbrev pub Short : List ℕ → Type 0
Short words = length words < 7

-- "2: record unsound"
abbrev pub Unsound : List ℕ → Type 0
Unsound words = Sound words → ⊥

-- "bytes that Save would write for some sound record of at most 512 rows": no sound record has more (S1).
abbrev pub SavedBySome : List ℕ → Type 0
SavedBySome bytes = (words : List ℕ) × Sound words × (saved (table_of words) ≡ bytes)

-- "3: saved bytes are not such bytes"
abbrev pub NotSaved : List ℕ → Type 0
NotSaved bytes = SavedBySome bytes → ⊥

-- "The old form has its own loading call, which accepts exactly what it accepted": what Save wrote then, for some record that was sound then, with documents
-- that rise by row and one root frame.
abbrev pub Rises : List ℕ → Type 0
Rises words = S2rising (rows_of words) (table_of words).next_doc

abbrev pub SavedThen : List ℕ → Type 0
SavedThen bytes = (words : List ℕ) × Sound words × Rises words × S5alone (rows_of words) × (old_saved (table_of words) ≡ bytes)

abbrev pub NotSavedThen : List ℕ → Type 0
NotSavedThen bytes = SavedThen bytes → ⊥

-- "3 when there is no frame, the contents don't fit, a shown place is not below its m, the documents exceed 512, or the length is not the form's" (document 02, L8): in
-- the form's bodies an entry has so many bytes.
abbrev pub NotContents : ℕ → List ℕ → Type 0
NotContents width bytes =
    (((number_at bytes 0 ≡ 0 ⊎ length bytes < 12 + 16 * number_at bytes 0) ⊎ ((j : ℕ) × (j < number_at bytes 0) × (shown_in bytes j < documents_in bytes j → ⊥)))
    ⊎ 512 < entries_in bytes) ⊎ (length bytes ≡ 12 + 16 * number_at bytes 0 + width * entries_in bytes → ⊥)

-- The document of row i is d.
abbrev pub StandsAt : List ℕ → ℕ → ℕ → Type 0
StandsAt words d i = (i < length (rows_of words)) × (doc_at (rows_of words) i ≡ d)

-- "4: document not in the record"
abbrev pub Absent : List ℕ → ℕ → Type 0
Absent words d = (i : ℕ) → StandsAt words d i → ⊥

-- "5: document there, not visible"
abbrev pub Hidden : List ℕ → ℕ → Type 0
Hidden words d = ((i : ℕ) × StandsAt words d i) × (visible (rows_of words) d ≡ false)

-- "the nearest document, itself first and then upwards, that isn't shown" (document 02, L4): h is that of document d when h is d and isn't shown, or when
-- d is shown and has a parent, and h is that of its parent.
pub data Nearest (rows : List Row) : ℕ → ℕ → Type 0 where
  itself : {d : ℕ} (i : ℕ) → i < length rows → doc_at rows i ≡ d → is_shown rows i ≡ false → Nearest rows d d
  above : {d h : ℕ} (i : ℕ) → i < length rows → doc_at rows i ≡ d → So (is_shown rows i) → (parent_at rows i ≡ none → ⊥) →
      Nearest rows (parent_at rows i) h → Nearest rows d h

-- "6: position + δ below 0 or above steps"
abbrev pub Outside : ℕ → ℤ → Type 0
Outside n (pos q) = n < q
Outside n (negsuc q) = Unit {0}

abbrev pub Beyond : List Row → ℤ → Type 0
Beyond rows δ = Outside (steps rows) (pos (position rows) +ℤ δ)

-- "Stretch: list shorter than the magnitude of δ"
abbrev pub TooFar : List ℕ → List ℕ → ℤ → Type 0
TooFar takens upcomings δ = length (own_list takens upcomings δ) < nat_abs δ

-- "7: no row left (Navigate: after removal; Load: n above C)"
abbrev pub Full : List ℕ → List Row → Type 0
Full words rows = capacity words ≤ length rows

-- "8: next document number, or for Open the next frame number, is 4294967295"
abbrev pub UsedUp : ℕ → Type 0
UsedUp next = next ≡ none

-- "9: a lent answer buffer is too short"
abbrev pub TooShort : List ℕ → List ℕ → Type 0
TooShort room values = length room < length values

-- Row i is of frame f.
abbrev pub RowOf : List ℕ → ℕ → ℕ → Type 0
RowOf words f i = (i < length (rows_of words)) × (frame_at (rows_of words) i ≡ f)

-- Drop: "4 for a frame not in the record"
abbrev pub NoFrame : List ℕ → ℕ → Type 0
NoFrame words f = (i : ℕ) → RowOf words f i → ⊥

-- "10 for the root frame": its rows are without a parent.
abbrev pub RootFrame : List ℕ → ℕ → Type 0
RootFrame words f = (i : ℕ) × RowOf words f i × (parent_at (rows_of words) i ≡ none)

-- "13 when no root frame has that number" (document 02, L10): no row of that frame is without a parent.
abbrev pub NoRoot : List ℕ → ℕ → Type 0
NoRoot words r = (i : ℕ) → RowOf words r i → parent_at (rows_of words) i ≡ none → ⊥

-- "5 when its parent isn't visible"
abbrev pub ParentHidden : List ℕ → ℕ → Type 0
ParentHidden words f = (i : ℕ) × RowOf words f i × (visible (rows_of words) (parent_at (rows_of words) i) ≡ false)

-- "NaN or infinite": a double, and a coordinate of a point.
abbrev pub Endless : Float → Type 0
Endless x = (x ≡ nan) ⊎ ((negative : Bool) × (x ≡ inf negative))

abbrev pub NotFinite : Place → Type 0
NotFinite Place.itself = ⊥
NotFinite (Place.at x y) = Endless x ⊎ Endless y

-- Entry i of a store is not free.
abbrev pub NotFree : List ℕ → ℕ → Type 0
NotFree places i = (i < entries places) × (document_in places i ≡ none → ⊥)

-- "15 [..] for a store whose entries not free hold a document twice, a kind above 1 or a point not finite"
abbrev pub Twice : List ℕ → Type 0
Twice places = (i : ℕ) × (j : ℕ) × (i < j) × NotFree places i × NotFree places j × (document_in places i ≡ document_in places j)

abbrev pub KindAbove : List ℕ → Type 0
KindAbove places = (i : ℕ) × NotFree places i × (1 < kind_in places i)

abbrev pub PointEndless : List ℕ → Type 0
PointEndless places = (i : ℕ) × NotFree places i × NotFinite (place_in places i)

abbrev pub BadPlaces : List ℕ → Type 0
BadPlaces places = Twice places ⊎ (KindAbove places ⊎ PointEndless places)

-- "12 when a new entry would find no room even after freeing": each entry is of another document that is in the record.
abbrev pub NoEntry : List ℕ → List ℕ → ℕ → Type 0
NoEntry words places d = (i : ℕ) → i < entries places → (document_in places i ≡ d → ⊥) × (document_in places i ≡ none → ⊥) × ((j : ℕ) × StandsAt words (document_in places i) j)

-- "(for removal, that of the parent's climb)" (document 02, L4)
abbrev pub ParentNearest : List ℕ → ℕ → ℕ → Type 0
ParentNearest words f h = (i : ℕ) × RowOf words f i × Nearest (rows_of words) (parent_at (rows_of words) i) h

-- These values are one number alone, such a one.
abbrev pub One : (ℕ → Type 0) → List ℕ → Type 0
One P vs = (h : ℕ) × (vs ≡ h ∷ []) × P h

-- A number, when it applies, and which values it carries then: none, or one.
pub record Line : Type 1 where
  pub number : ℕ
  pub condition : Type 0
  pub carries : List ℕ → Type 0

infix 70 ◌if◌
abbrev pub ◌if◌ : ℕ → Type 0 → Line
k if P = record { number = k; condition = P; carries = λ vs. vs ≡ [] }

infix 69 ◌carrying◌
abbrev pub ◌carrying◌ : Line → (ℕ → Type 0) → Line
l carrying P = record { number = l.number; condition = l.condition; carries = One P }

-- THE TABLE "Nine ways to say no" with what document 02 adds, read by call: each number that the call may give, in the order in which they are asked.
unfoldable pub lines : Call → List Line
lines (Call.Fresh words) = 1 if Short words ∷ []
lines (Call.Open words parent) =
    1 if Short words ∷ 2 if Unsound words ∷ 4 if Absent words parent ∷ 5 if Hidden words parent carrying Nearest (rows_of words) parent
    ∷ 7 if Full words (rows_of words) ∷ 8 if (UsedUp (table_of words).next_doc ⊎ UsedUp (table_of words).next_frame) ∷ []
lines (Call.Navigate words from) =
    1 if Short words ∷ 2 if Unsound words ∷ 4 if Absent words from ∷ 5 if Hidden words from carrying Nearest (rows_of words) from
    ∷ 7 if Full words (cleared (root_at (rows_of words) (place (rows_of words) from)) (rows_of words)) ∷ 8 if UsedUp (table_of words).next_doc ∷ []
lines (Call.Traverse words root δ room) =
    1 if Short words ∷ 2 if Unsound words ∷ 13 if NoRoot words root ∷ 6 if Beyond (window_in words root).rows δ ∷ 9 if TooShort room (changes (window_in words root) δ) ∷ []
lines (Call.Drop words frame) =
    1 if Short words ∷ 2 if Unsound words ∷ 4 if NoFrame words frame
    ∷ 10 if RootFrame words frame ∷ 5 if ParentHidden words frame carrying ParentNearest words frame ∷ []
lines (Call.Replace words d) =
    1 if Short words ∷ 2 if Unsound words ∷ 4 if Absent words d ∷ 5 if Hidden words d carrying Nearest (rows_of words) d
    ∷ 8 if UsedUp (table_of words).next_doc ∷ []
lines (Call.Tab words) =
    1 if Short words ∷ 2 if Unsound words ∷ 7 if Full words (rows_of words) ∷ 8 if (UsedUp (table_of words).next_doc ⊎ UsedUp (table_of words).next_frame) ∷ []
lines (Call.Position words root) = 1 if Short words ∷ 2 if Unsound words ∷ 13 if NoRoot words root ∷ []
lines (Call.Visible words d) = 1 if Short words ∷ 2 if Unsound words ∷ 4 if Absent words d ∷ []
lines (Call.Lists words root takens upcomings) =
    1 if Short words ∷ 2 if Unsound words ∷ 13 if NoRoot words root
    ∷ 9 if (TooShort takens (taken_list (window_in words root).rows) ⊎ TooShort upcomings (upcoming_list (window_in words root).rows)) ∷ []
lines (Call.Stretch takens upcomings δ) = []
lines (Call.StretchCount takens upcomings δ) = 6 if TooFar takens upcomings δ ∷ []
lines (Call.Outline words root room) =
    1 if Short words ∷ 2 if Unsound words ∷ 13 if NoRoot words root ∷ 9 if TooShort room (outline_of (window_in words root)) ∷ []
lines (Call.Save words room) = 1 if Short words ∷ 2 if Unsound words ∷ 9 if TooShort room (saved (table_of words)) ∷ []
lines (Call.Load words bytes) = 1 if Short words ∷ 3 if NotSaved bytes ∷ 7 if (capacity words < length (loaded bytes).rows) ∷ []
lines (Call.LoadOld words bytes) = 1 if Short words ∷ 3 if NotSavedThen bytes ∷ 7 if (capacity words < length (old_loaded bytes).rows) ∷ []
lines (Call.Contents bytes) = 3 if NotContents 8 bytes ∷ []
lines (Call.ContentsOld bytes) = 3 if NotContents 4 bytes ∷ []
lines (Call.SetPlace words places d place) =
    1 if Short words ∷ 2 if Unsound words ∷ 15 if BadPlaces places ∷ 4 if Absent words d ∷ 11 if NotFinite place ∷ 12 if NoEntry words places d ∷ []
lines (Call.AskPlace words places d) = 1 if Short words ∷ 2 if Unsound words ∷ 15 if BadPlaces places ∷ 4 if Absent words d ∷ []
lines (Call.AskAtZoom words places d zoom) =
    1 if Short words ∷ 2 if Unsound words ∷ 15 if BadPlaces places ∷ 4 if Absent words d
    ∷ 11 if (Endless zoom ⊎ NotFinite (scaled zoom (place_of places d))) ∷ []

-- The numbers that the table has.
abbrev pub numbers : List ℕ
numbers = 1 ∷ 2 ∷ 3 ∷ 4 ∷ 5 ∷ 6 ∷ 7 ∷ 8 ∷ 9 ∷ 10 ∷ 11 ∷ 12 ∷ 13 ∷ 15 ∷ []

-- k is one of these numbers.
abbrev pub among : ℕ → List ℕ → Bool
among k [] = false
among k (n ∷ rest) = eqb n k || among k rest

-- Number k with these values is the first of these lines that applies: its condition holds, and that of no line before it does.
unfoldable pub First : ℕ → List ℕ → List Line → Type 0
First k vs [] = ⊥
First k vs (l ∷ rest) = ((l.number ≡ k) × l.condition × l.carries vs) ⊎ ((l.condition → ⊥) × First k vs rest)

pub record RefusesRightly (c : Call) : Type 0 where
  -- "It refuses only by the nine refusals of document 01" and those of document 02
  pub only : (k : ℕ) (vs : List ℕ) → (outcome c).answer ≡ Answer.refuses k vs → So (among k numbers)
  -- "exactly when that document says": where several apply, the first line of the call's table is given, with what it carries.
  pub exactly : (k : ℕ) (vs : List ℕ) → ((outcome c).answer ≡ Answer.refuses k vs) ↔ First k vs (lines c)
  -- "and then each lent word and byte reads as before"
  pub kept : (k : ℕ) (vs : List ℕ) → (outcome c).answer ≡ Answer.refuses k vs → (outcome c).lent ≡ lent_to c

-- "Every call takes arbitrary table words, numbers and saved bytes [..]"
abbrev pub Demand1 : Type 0
Demand1 = (c : Call) → RefusesRightly c

-- Number k is among these lines and its condition holds.
unfoldable pub HoldsIn : ℕ → List Line → Type 0
HoldsIn k [] = ⊥
HoldsIn k (l ∷ rest) = ((l.number ≡ k) × l.condition) ⊎ HoldsIn k rest

-- Number k applies to a call.
abbrev pub Applies : ℕ → Call → Type 0
Applies k c = HoldsIn k (lines c)

-- The document that has the order of a call's lines: of calls that name a window, the second.
abbrev pub paper : Call → ℕ
paper (Call.Fresh words) = 1
paper (Call.Open words parent) = 1
paper (Call.Navigate words from) = 1
paper (Call.Traverse words root δ room) = 2
paper (Call.Drop words frame) = 2
paper (Call.Replace words d) = 2
paper (Call.Tab words) = 2
paper (Call.Position words root) = 2
paper (Call.Visible words d) = 1
paper (Call.Lists words root takens upcomings) = 2
paper (Call.Stretch takens upcomings δ) = 1
paper (Call.StretchCount takens upcomings δ) = 1
paper (Call.Outline words root room) = 2
paper (Call.Save words room) = 1
paper (Call.Load words bytes) = 1
paper (Call.LoadOld words bytes) = 1
paper (Call.Contents bytes) = 2
paper (Call.ContentsOld bytes) = 2
paper (Call.SetPlace words places d place) = 2
paper (Call.AskPlace words places d) = 2
paper (Call.AskAtZoom words places d zoom) = 2

-- "Where several apply, the smallest number is given": of every call of document 01 the first line that applies is the one with the smallest number.
abbrev pub SmallestFirst : Type 0
SmallestFirst =
    (c : Call) → paper c ≡ 1 →
    (k : ℕ) → ((vs : List ℕ) × First k vs (lines c)) ↔ (Applies k c × ((j : ℕ) → j < k → Applies j c → ⊥))
