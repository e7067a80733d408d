-- The calls: what is lent to each, when each is refused, and what it answers and leaves otherwise.
use Rattle.std.specs.Prelude.{ℕ, ◌-◌, ◌/◌, Bool, true, false, not, ◌&&◌, ◌||◌, cond, List, [], ◌∷◌, ◌⊎◌, ◌≡◌, eqb, leb, ltb, Float, ℤ, pos, negsuc, ◌+ℤ◌, nat_abs, length}
use Rattle.std.proofs.Math.Bool.{So}
use Rattle.rules.specs.Rows.{Row, Table, none, in_record, place, is_frame, flag}
use Rattle.rules.specs.Steps.{position, steps, script_length, visible, climb_of, hider_of, hider_number}
use Rattle.rules.specs.Windows.{root_at, window_of, is_root}
use Rattle.rules.specs.Moves.{fresh_table, opened, tabbed, cleared, navigated, traversed, dropped, replaced, changes}
use Rattle.rules.specs.Words.{put, capacity, table_of, rows_of, written}
use Rattle.rules.specs.Sound.{sound?}
use Rattle.rules.specs.Asks.{taken_list, upcoming_list, too_far, stretched, outline_of}
use Rattle.rules.specs.Saved.{parent_of, saved, loaded, from_save?}
use Rattle.rules.specs.OldSaved.{old_loaded, from_old_save?}
use Rattle.rules.specs.Contents.{position_in, steps_in, not_contents}
use Rattle.rules.specs.Places.{Place, finite, finite_place, scaled, place_words, fine?, place_of, freed, no_room, placed}

-- A call with all that it is handed: `words` is the record, `room` a lent answer buffer, `parent`, `from` and `d` documents, `frame` a frame, `root` a window's
-- root frame, `places` a store of scroll places.
pub data Call : Type 0 where
  Fresh : (words : List ℕ) → Call
  Open : (words : List ℕ) (parent : ℕ) → Call
  Navigate : (words : List ℕ) (from : ℕ) → Call
  Traverse : (words : List ℕ) (root : ℕ) (δ : ℤ) (room : List ℕ) → Call
  Drop : (words : List ℕ) (frame : ℕ) → Call
  Replace : (words : List ℕ) (d : ℕ) → Call
  Tab : (words : List ℕ) → Call
  Position : (words : List ℕ) (root : ℕ) → Call
  Visible : (words : List ℕ) (d : ℕ) → Call
  Lists : (words : List ℕ) (root : ℕ) (takens upcomings : List ℕ) → Call
  Stretch : (takens upcomings : List ℕ) (δ : ℤ) → Call
  StretchCount : (takens upcomings : List ℕ) (δ : ℤ) → Call
  Outline : (words : List ℕ) (root : ℕ) (room : List ℕ) → Call
  Save : (words : List ℕ) (room : List ℕ) → Call
  Load : (words : List ℕ) (bytes : List ℕ) → Call
  LoadOld : (words : List ℕ) (bytes : List ℕ) → Call
  Contents : (bytes : List ℕ) → Call
  ContentsOld : (bytes : List ℕ) → Call
  SetPlace : (words places : List ℕ) (d : ℕ) (place : Place) → Call
  AskPlace : (words places : List ℕ) (d : ℕ) → Call
  AskAtZoom : (words places : List ℕ) (d : ℕ) (zoom : Float) → Call

-- An answer is a refusal's number with what it carries, or the values that document 01 names, in its order; yes is 1 and no is 0.
pub data Answer : Type 0 where
  refuses : (number : ℕ) (carried : List ℕ) → Answer
  gives : List ℕ → Answer

-- What a call answers, and what the runs hold then that were lent to it to write in.
pub record Outcome : Type 0 where
  pub answer : Answer
  pub lent : List (List ℕ)

-- The runs that are lent to write in.
abbrev pub lent_to : Call → List (List ℕ)
lent_to (Call.Fresh words) = words ∷ []
lent_to (Call.Open words parent) = words ∷ []
lent_to (Call.Navigate words from) = words ∷ []
lent_to (Call.Traverse words root δ room) = words ∷ room ∷ []
lent_to (Call.Drop words frame) = words ∷ []
lent_to (Call.Replace words d) = words ∷ []
lent_to (Call.Tab words) = words ∷ []
lent_to (Call.Position words root) = []
lent_to (Call.Visible words d) = []
lent_to (Call.Lists words root takens upcomings) = takens ∷ upcomings ∷ []
lent_to (Call.Stretch takens upcomings δ) = []
lent_to (Call.StretchCount takens upcomings δ) = []
lent_to (Call.Outline words root room) = room ∷ []
lent_to (Call.Save words room) = room ∷ []
lent_to (Call.Load words bytes) = words ∷ []
lent_to (Call.LoadOld words bytes) = words ∷ []
lent_to (Call.Contents bytes) = []
lent_to (Call.ContentsOld bytes) = []
lent_to (Call.SetPlace words places d place) = places ∷ []
lent_to (Call.AskPlace words places d) = []
lent_to (Call.AskAtZoom words places d zoom) = []

-- THE TABLE "Nine ways to say no", with what document 02 adds.

-- "record under 7 words"; "record unsound"
abbrev pub short : List ℕ → Bool
short words = ltb (length words) 7

abbrev pub unsound : List ℕ → Bool
unsound words = not (sound? words)

-- "document not in the record"; "document there, not visible"
abbrev pub absent : List ℕ → ℕ → Bool
absent words d = not (in_record (rows_of words) d)

abbrev pub hidden : List ℕ → ℕ → Bool
hidden words d = not (visible (rows_of words) d)

-- "Refusal 5 of opening, navigating and removal carries that number too (for removal, that of the parent's climb)" (document 02, L4)
abbrev pub hider : List ℕ → ℕ → ℕ
hider words d = hider_number (hider_of (rows_of words) d)

-- "position + δ below 0 or above steps"
abbrev pub outside : ℕ → ℤ → Bool
outside n (pos q) = ltb n q
outside n (negsuc q) = true

abbrev pub beyond : List Row → ℤ → Bool
beyond rows δ = outside (steps rows) (pos (position rows) +ℤ δ)

-- "no row left": for so many rows
abbrev pub full : List ℕ → List Row → Bool
full words rows = leb (capacity words) (length rows)

-- "next document number, or for Open the next frame number, is 4294967295"
abbrev pub used_up : ℕ → Bool
used_up next = eqb next none

-- "a lent answer buffer is too short": for these values
abbrev pub too_short : List ℕ → List ℕ → Bool
too_short room values = ltb (length room) (length values)

-- "Refusals: 4 for a frame not in the record, 5 when its parent isn't visible, 10 for the root frame", which has no parent (document 02, L1)
abbrev pub no_frame : List ℕ → ℕ → Bool
no_frame words f = not (is_frame (rows_of words) f)

abbrev pub root_frame : List ℕ → ℕ → Bool
root_frame words f = eqb (parent_of (rows_of words) f) none

-- "13 when no root frame has that number, after 2" (document 02, L10): a frame beneath one is none.
abbrev pub no_root : List ℕ → ℕ → Bool
no_root words root = not (is_root (rows_of words) root)

-- The rows of a window of the record, and the window as a table.
abbrev pub window_in : List ℕ → ℕ → Table
window_in words root = window_of (table_of words) root

-- "15, right after 2, for a store whose entries not free hold a document twice, a kind above 1 or a point not finite" (document 02, L5)
abbrev pub bad_places : List ℕ → Bool
bad_places places = not (fine? places)

-- "11 for a given coordinate, zoom or product that is NaN or infinite, then 12 when a new entry would find no room even after freeing"
abbrev pub not_finite : Place → Bool
not_finite place = not (finite_place place)

abbrev pub over_zoomed : Float → Place → Bool
over_zoomed zoom place = not (finite zoom && finite_place (scaled zoom place))

abbrev pub no_entry : List ℕ → List ℕ → ℕ → Bool
no_entry words places d = no_room (freed (rows_of words) places) d

-- A number, when it is given, unless a line before it applies, and what it carries then: nothing but for 5.
pub record Rung : Type 0 where
  pub number : ℕ
  pub holds : Bool
  pub carries : List ℕ

infix 70 ◌when◌
abbrev pub ◌when◌ : ℕ → Bool → Rung
k when b = record { number = k; holds = b; carries = [] }

infix 69 ◌naming◌
abbrev pub ◌naming◌ : Rung → ℕ → Rung
r naming d = record { number = r.number; holds = r.holds; carries = d ∷ [] }

-- The lines of each call in the order in which they are asked: that of their numbers but for "10 comes after 4 and before 5", "15, right after 2" and "13 [..] after 2".
unfoldable pub refusals : Call → List Rung
refusals (Call.Fresh words) = 1 when short words ∷ []
refusals (Call.Open words parent) =
    1 when short words ∷ 2 when unsound words ∷ 4 when absent words parent ∷ 5 when hidden words parent naming hider words parent
    ∷ 7 when full words (rows_of words) ∷ 8 when (used_up (table_of words).next_doc || used_up (table_of words).next_frame) ∷ []
refusals (Call.Navigate words from) =
    1 when short words ∷ 2 when unsound words ∷ 4 when absent words from ∷ 5 when hidden words from naming hider words from
    ∷ 7 when full words (cleared (root_at (rows_of words) (place (rows_of words) from)) (rows_of words)) ∷ 8 when used_up (table_of words).next_doc ∷ []
refusals (Call.Traverse words root δ room) =
    let cramped = too_short room (changes (window_in words root) δ) in
    1 when short words ∷ 2 when unsound words ∷ 13 when no_root words root ∷ 6 when beyond (window_in words root).rows δ ∷ 9 when cramped ∷ []
refusals (Call.Drop words frame) =
    1 when short words ∷ 2 when unsound words ∷ 4 when no_frame words frame ∷ 10 when root_frame words frame
    ∷ 5 when hidden words (parent_of (rows_of words) frame) naming hider words (parent_of (rows_of words) frame) ∷ []
refusals (Call.Replace words d) =
    1 when short words ∷ 2 when unsound words ∷ 4 when absent words d ∷ 5 when hidden words d naming hider words d
    ∷ 8 when used_up (table_of words).next_doc ∷ []
refusals (Call.Tab words) =
    1 when short words ∷ 2 when unsound words ∷ 7 when full words (rows_of words) ∷ 8 when (used_up (table_of words).next_doc || used_up (table_of words).next_frame) ∷ []
refusals (Call.Position words root) = 1 when short words ∷ 2 when unsound words ∷ 13 when no_root words root ∷ []
refusals (Call.Visible words d) = 1 when short words ∷ 2 when unsound words ∷ 4 when absent words d ∷ []
refusals (Call.Lists words root takens upcomings) =
    1 when short words ∷ 2 when unsound words ∷ 13 when no_root words root
    ∷ 9 when (too_short takens (taken_list (window_in words root).rows) || too_short upcomings (upcoming_list (window_in words root).rows)) ∷ []
refusals (Call.Stretch takens upcomings δ) = []
refusals (Call.StretchCount takens upcomings δ) = 6 when too_far takens upcomings δ ∷ []
refusals (Call.Outline words root room) =
    1 when short words ∷ 2 when unsound words ∷ 13 when no_root words root ∷ 9 when too_short room (outline_of (window_in words root)) ∷ []
refusals (Call.Save words room) = 1 when short words ∷ 2 when unsound words ∷ 9 when too_short room (saved (table_of words)) ∷ []
refusals (Call.Load words bytes) = 1 when short words ∷ 3 when not (from_save? bytes) ∷ 7 when ltb (capacity words) (length (loaded bytes).rows) ∷ []
refusals (Call.LoadOld words bytes) = 1 when short words ∷ 3 when not (from_old_save? bytes) ∷ 7 when ltb (capacity words) (length (old_loaded bytes).rows) ∷ []
refusals (Call.Contents bytes) = 3 when not_contents 8 bytes ∷ []
refusals (Call.ContentsOld bytes) = 3 when not_contents 4 bytes ∷ []
refusals (Call.SetPlace words places d place) =
    1 when short words ∷ 2 when unsound words ∷ 15 when bad_places places ∷ 4 when absent words d ∷ 11 when not_finite place ∷ 12 when no_entry words places d ∷ []
refusals (Call.AskPlace words places d) = 1 when short words ∷ 2 when unsound words ∷ 15 when bad_places places ∷ 4 when absent words d ∷ []
refusals (Call.AskAtZoom words places d zoom) =
    1 when short words ∷ 2 when unsound words ∷ 15 when bad_places places ∷ 4 when absent words d ∷ 11 when over_zoomed zoom (place_of places d) ∷ []

-- What a call answers and leaves that is not refused. A run keeps what stands past the values written into it. Drop: "the count of rows removed as its value";
-- Replace: "its value the new number". A place: its kind, and the bits of a point.
infix 20 ◌leaving◌
abbrev pub ◌leaving◌ : List ℕ → List (List ℕ) → Outcome
values leaving runs = record { answer = Answer.gives values; lent = runs }

unfoldable pub accepted : Call → Outcome
accepted (Call.Fresh words) = [] leaving written words fresh_table ∷ []
accepted (Call.Open words parent) =
    (table_of words).next_doc ∷ (table_of words).next_frame ∷ [] leaving written words (opened (table_of words) parent) ∷ []
accepted (Call.Navigate words from) = (table_of words).next_doc ∷ [] leaving written words (navigated (table_of words) from) ∷ []
accepted (Call.Traverse words root δ room) =
    length (changes (window_in words root) δ) / 4 ∷ [] leaving written words (traversed (table_of words) root δ) ∷ put room 0 (changes (window_in words root) δ) ∷ []
accepted (Call.Drop words frame) =
    (length (rows_of words) - length (dropped (table_of words) frame).rows) ∷ [] leaving written words (dropped (table_of words) frame) ∷ []
accepted (Call.Replace words d) = (table_of words).next_doc ∷ [] leaving written words (replaced (table_of words) d) ∷ []
accepted (Call.Tab words) = (table_of words).next_doc ∷ (table_of words).next_frame ∷ [] leaving written words (tabbed (table_of words)) ∷ []
accepted (Call.Position words root) =
    let rows = (window_in words root).rows in position rows ∷ steps rows ∷ script_length rows ∷ [] leaving []
accepted (Call.Visible words d) = flag (visible (rows_of words) d) ∷ hider words d ∷ (climb_of (rows_of words) d).links ∷ [] leaving []
accepted (Call.Lists words root takens upcomings) =
    let rows = (window_in words root).rows in
    length (taken_list rows) ∷ length (upcoming_list rows) ∷ [] leaving put takens 0 (taken_list rows) ∷ put upcomings 0 (upcoming_list rows) ∷ []
accepted (Call.Stretch takens upcomings δ) = stretched takens upcomings δ leaving []
accepted (Call.StretchCount takens upcomings δ) = nat_abs δ ∷ [] leaving []
accepted (Call.Outline words root room) =
    length (outline_of (window_in words root)) / 2 ∷ [] leaving put room 0 (outline_of (window_in words root)) ∷ []
accepted (Call.Save words room) = length (saved (table_of words)) ∷ [] leaving put room 0 (saved (table_of words)) ∷ []
accepted (Call.Load words bytes) = length (loaded bytes).rows ∷ [] leaving written words (loaded bytes) ∷ []
accepted (Call.LoadOld words bytes) = length (old_loaded bytes).rows ∷ [] leaving written words (old_loaded bytes) ∷ []
accepted (Call.Contents bytes) = position_in bytes ∷ steps_in bytes ∷ [] leaving []
accepted (Call.ContentsOld bytes) = position_in bytes ∷ steps_in bytes ∷ [] leaving []
accepted (Call.SetPlace words places d place) = [] leaving placed (freed (rows_of words) places) d place ∷ []
accepted (Call.AskPlace words places d) = place_words (place_of places d) leaving []
accepted (Call.AskAtZoom words places d zoom) = place_words (scaled zoom (place_of places d)) leaving []

-- Where several apply, the first line of the call's table is given, in the calls of document 01 "the smallest number". "A refusal returns its number
-- alone", but for what 5 carries, "and changes no lent word or byte."
unfoldable pub ladder : List Rung → List (List ℕ) → Outcome → Outcome
ladder [] lent done = done
ladder (r ∷ rungs) lent done =
    let rest = ladder rungs lent done in
    cond r.holds (record { answer = Answer.refuses r.number r.carries; lent = lent }) rest

unfoldable pub outcome : Call → Outcome
outcome c = ladder (refusals c) (lent_to c) (accepted c)

-- Number k is given and carries these values: its rung holds and no rung before it does.
unfoldable pub Given : ℕ → List ℕ → List Rung → Type 0
Given k carried [] = ⊥
Given k carried (r ∷ rungs) = (So r.holds × (r.number ≡ k) × (r.carries ≡ carried)) ⊎ ((r.holds ≡ false) × Given k carried rungs)

-- No rung holds.
unfoldable pub NoneGiven : List Rung → Type 0
NoneGiven [] = Unit {0}
NoneGiven (r ∷ rungs) = (r.holds ≡ false) × NoneGiven rungs
