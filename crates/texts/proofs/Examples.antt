-- Document 01's example of a script, whole, and small texts, by computation. Assumes nothing.
use Prim.Native.Nat.{ℕ}
use mathlib.Core.List.{List, [], ◌∷◌, ◌++◌, map, flat_map}
use mathlib.Core.Path.{◌≡◌, refl}
use lib.ListN.{replicate}
use Rattle.rules.specs.Below.{some_below, all_below, count, earliest, latest, tab, gather}
use Rattle.rules.specs.Rows.{in_record, place, is_frame, with_flags, climb}
use Rattle.rules.specs.Steps.{step, reach, position, steps, climb_of, hider_of, visible}
use Rattle.rules.specs.Windows.{root_at, window_rows, is_root}
use Rattle.rules.specs.Moves.{opened, tabbed, gone, without, hide, navigated, show, forward, back_target, row_before, back, walked, reflagged, traversed, shown_doc, change_row, changes}
use Rattle.rules.specs.Words.{put, table_of, words_of, written}
use Rattle.rules.specs.Sound.{sound_table?, sound?}
use Rattle.rules.specs.Calls.{refusals, accepted, ladder, outcome}
use Rattle.lines.specs.Decimal.{decimal_by, decimal, decimal?, spelled, up_to, numeral}
use Rattle.lines.specs.Lines.{starts?, tab?, going_by, root_named, going, other_word, worded, parse}
use Rattle.lines.specs.Reply.{end_text, status_text, tab_text, denied_text, answer_text}
use Rattle.turns.specs.Turns.{turned}
use Rattle.texts.specs.Texts.{lines_from, answers, printed}

-- A text and what is printed for it.
pub record Script : Type 0 where
  pub text : List ℕ
  pub expected : List ℕ

abbrev newline : List ℕ
newline = 10 ∷ []

-- `open 0`, `nav D`, `go D`, `go -D`, each with its newline; D is a digit.
abbrev open_line : List ℕ
open_line = 111 ∷ 112 ∷ 101 ∷ 110 ∷ 32 ∷ 48 ∷ 10 ∷ []

abbrev nav_line : ℕ → List ℕ
nav_line d = 110 ∷ 97 ∷ 118 ∷ 32 ∷ d ∷ 10 ∷ []

abbrev go_line : ℕ → List ℕ
go_line d = 103 ∷ 111 ∷ 32 ∷ d ∷ 10 ∷ []

abbrev back_line : ℕ → List ℕ
back_line d = 103 ∷ 111 ∷ 32 ∷ 45 ∷ d ∷ 10 ∷ []

-- `tab`, `go D R`, `go -D R`, each with its newline; D and R are digits.
abbrev tab_line : List ℕ
tab_line = 116 ∷ 97 ∷ 98 ∷ 10 ∷ []

abbrev go_in_line : ℕ → ℕ → List ℕ
go_in_line d r = 103 ∷ 111 ∷ 32 ∷ d ∷ 32 ∷ r ∷ 10 ∷ []

abbrev back_in_line : ℕ → ℕ → List ℕ
back_in_line d r = 103 ∷ 111 ∷ 32 ∷ 45 ∷ d ∷ 32 ∷ r ∷ 10 ∷ []

-- `ok V P/S`, `ok D F P/S`, `no K P/S`, `no 13 P/S`, `no 5 at D P/S`, `bad`, each with its newline; V, D, F, K, P and S are digits.
abbrev ok_line : ℕ → ℕ → ℕ → List ℕ
ok_line v p s = 111 ∷ 107 ∷ 32 ∷ v ∷ 32 ∷ p ∷ 47 ∷ s ∷ 10 ∷ []

abbrev tabbed_line : ℕ → ℕ → ℕ → ℕ → List ℕ
tabbed_line d f p s = 111 ∷ 107 ∷ 32 ∷ d ∷ 32 ∷ f ∷ 32 ∷ p ∷ 47 ∷ s ∷ 10 ∷ []

abbrev no_line : ℕ → ℕ → ℕ → List ℕ
no_line k p s = 110 ∷ 111 ∷ 32 ∷ k ∷ 32 ∷ p ∷ 47 ∷ s ∷ 10 ∷ []

abbrev no_window_line : ℕ → ℕ → List ℕ
no_window_line p s = 110 ∷ 111 ∷ 32 ∷ 49 ∷ 51 ∷ 32 ∷ p ∷ 47 ∷ s ∷ 10 ∷ []

abbrev hidden_line : ℕ → ℕ → ℕ → List ℕ
hidden_line d p s = 110 ∷ 111 ∷ 32 ∷ 53 ∷ 32 ∷ 97 ∷ 116 ∷ 32 ∷ d ∷ 32 ∷ p ∷ 47 ∷ s ∷ 10 ∷ []

abbrev bad_line : List ℕ
bad_line = 98 ∷ 97 ∷ 100 ∷ 10 ∷ []

abbrev pub scripts : List Script
scripts =
    -- "Input: `open 0`, `open 0`, `nav 1`, `nav 2`, `go -2`, `go 1`, `nav 3`, `nav 4`, `go -3`. Output, whole: [..]"
    record {
      text = open_line ++ open_line ++ nav_line 49 ++ nav_line 50 ++ back_line 50 ++ go_line 49 ++ nav_line 51 ++ nav_line 52 ++ back_line 51;
      expected = ok_line 49 48 48 ++ ok_line 50 48 48 ++ ok_line 51 49 49 ++ ok_line 52 50 50 ++ ok_line 50 48 50 ++ ok_line 49 49 50 ++ ok_line 53 50 50 ++ no_line 52 50 50 ++ no_line 54 50 50;
    }
    -- "the script prints `no 5 at D` before the position": document 1 lies in 0, which gave way to 2, so that 0 hides both.
    ∷ record {
      text = open_line ++ nav_line 48 ++ nav_line 49 ++ nav_line 48;
      expected = ok_line 49 48 48 ++ ok_line 50 49 49 ++ hidden_line 48 49 49 ++ hidden_line 48 49 49;
    }
    -- "`tab` (its value: document and root frame, one space between), and `go N R` for root frame R, R being 0 when left out; its position field is that of window 0":
    -- steps of two windows in turn. `go -1 1` is Back in the second, `go -1` and `go 1 0` are of window 0; no frame is 2, and frame 1 is no root frame of the next script.
    ∷ record {
      text = tab_line ++ nav_line 48 ++ nav_line 49 ++ back_in_line 49 49 ++ go_in_line 49 50 ++ back_line 49 ++ go_in_line 49 49 ++ back_in_line 49 48 ++ go_in_line 49 48;
      expected = tabbed_line 49 49 48 48 ++ ok_line 50 49 49 ++ ok_line 51 49 49 ++ ok_line 49 49 49 ++ no_window_line 49 49 ++ ok_line 49 48 49 ++ ok_line 49 48 49 ++ no_line 54 48 49 ++ ok_line 49 49 49;
    }
    ∷ record { text = open_line ++ back_in_line 49 49; expected = ok_line 49 48 48 ++ no_window_line 48 48 }
    -- An empty text has no line; a newline ends an empty one, which is bad.
    ∷ record { text = []; expected = [] }
    ∷ record { text = newline ++ newline; expected = bad_line ++ bad_line }
    -- "the last may lack it": `go 0` without its newline is answered, after the line before it.
    ∷ record { text = open_line ++ 103 ∷ 111 ∷ 32 ∷ 48 ∷ []; expected = ok_line 49 48 48 ++ ok_line 48 48 48 }
    -- "at most 64 bytes without it": `open 0` with bytes behind it is bad, be they 59 zeros, which is one byte too many, or a zero byte.
    ∷ record { text = 111 ∷ 112 ∷ 101 ∷ 110 ∷ 32 ∷ (replicate 60 48 ++ newline); expected = bad_line }
    ∷ record { text = 111 ∷ 112 ∷ 101 ∷ 110 ∷ 32 ∷ 48 ∷ 0 ∷ 10 ∷ []; expected = bad_line }
    ∷ []

-- Each text prints what is expected of it, with room for eight rows.
pub scripts-hold : map (λ s. printed 8 s.text) scripts ≡ map (λ s. s.expected) scripts
unfolding some_below all_below count earliest latest tab gather in_record place is_frame with_flags climb root_at window_rows is_root step reach position steps climb_of hider_of visible
    opened tabbed gone without hide navigated show forward back_target row_before back walked reflagged traversed shown_doc change_row changes
    put table_of words_of written sound_table? sound? refusals accepted ladder outcome flat_map
    decimal_by decimal decimal? spelled up_to numeral starts? tab? going_by root_named going other_word worded parse end_text status_text tab_text denied_text answer_text turned lines_from answers printed
scripts-hold = refl
