-- Document 01, "Examples": P1 to P12 and the small ones, and those of document 02, each as a row of a table, and one statement over each table, by computation.
-- The case `hidden_future` is 001's counterexample 2; counterexample 5 stands in `demands`, at `own-future-not-enough`. Assumes nothing.
use Prim.Native.Nat.{ℕ, ◌+◌, ◌-◌, ◌*◌, ◌≤◌}
use native.Mathlib.Nat.{zero-add}
use native.Mathlib.Omega.{arith}
use mathlib.Core.Bool.{Bool, false}
use mathlib.Core.List.{List, [], ◌∷◌, ◌++◌, map, flat_map}
use mathlib.Core.Path.{◌≡◌, refl, ap}
use lib.Dec.{eqb}
use lib.Count.{count_trailing_zeros}
use lib.Ieee.{Float, nan, binary64, span, size, odd, units, round, mul, of_fields, to_bits, of_bits}
use lib.Ieee.{climb as climbs}
use lib.IntN.{pos, neg_ℤ}
use lib.ListN.{length, get_or, drop, replicate}
use lib.Seq.{sets-eq}
use Rattle.rules.specs.Below.{some_below, all_below, count, earliest, latest, sum, tab, gather}
use Rattle.rules.specs.Rows.{none, doc_at, is_shown, in_record, place, is_frame, flag, with_flags, climb}
use Rattle.rules.specs.Steps.{step, reach, position, steps, climb_of, hider_of, visible}
use Rattle.rules.specs.Windows.{root_at, window_rows, is_root}
use Rattle.rules.specs.Moves.{opened, tabbed, gone, without, hide, navigated, renamed, replaced, show, forward, back_target, row_before, back, walked, reflagged, traversed, shown_doc, change_row, changes}
use Rattle.rules.specs.Words.{put, table_of, rows_of, words_of, written}
use Rattle.rules.specs.Sound.{sound_table?, sound?}
use Rattle.rules.specs.Asks.{taken_list, upcoming_list, stretched, outline_frame, outline_of}
use Rattle.rules.specs.Saved.{number, docs_of, shown_place, parent_of, contents, saved_with, body, told_row, told_rows, row_for, loaded, from_save?}
use Rattle.rules.specs.OldSaved.{old_body, old_loaded, old_table?, from_old_save?}
use Rattle.rules.specs.Contents.{position_in, steps_in, not_contents}
use Rattle.rules.specs.Places.{Place, finite, entry_of, fine?, place_of, freed_to, spot, placed}
use Rattle.rules.specs.Calls.{Call, Answer, Outcome, refusals, accepted, ladder, outcome}
use Rattle.rules.specs.Runs.{Move, on, after, run}

-- The words of a row; of a record of c rows' room with these rows and next numbers; of one after Fresh.
abbrev row : ℕ → ℕ → ℕ → ℕ → List ℕ
row d f p s = d ∷ f ∷ p ∷ s ∷ []

abbrev holding : ℕ → List (List ℕ) → ℕ → ℕ → List ℕ
holding c rows d f = length rows ∷ d ∷ f ∷ (flat_map (λ r. r) rows ++ replicate (4 * (c - length rows)) 0)

abbrev fresh : ℕ → List ℕ
fresh c = get_or (outcome (Call.Fresh (replicate (3 + 4 * c) 0))).lent 0 []

-- What a case looks at: the answers on the way, then of the record the answer of Position for window 0, its documents, those shown, those that Visible says
-- yes to, and the change rows that the last call wrote.
pub record Seen : Type 0 where
  pub answers : List Answer
  pub stands : Answer
  pub documents : List ℕ
  pub shown : List ℕ
  pub sees : List ℕ
  pub changed : List ℕ

-- A case begins at a record, makes some moves, and is expected to be seen so.
pub record Case : Type 0 where
  pub start : List ℕ
  pub moves : List Move
  pub expected : Seen

abbrev answers_of : List ℕ → List Move → List Answer
answers_of words [] = []
answers_of words (m ∷ moves) = (outcome (on words m)).answer ∷ answers_of (after words m) moves

abbrev changed_by : List ℕ → List Move → List ℕ
changed_by words [] = []
changed_by words (m ∷ []) = get_or (outcome (on words m)).lent 1 []
changed_by words (m ∷ n ∷ moves) = changed_by (after words m) (n ∷ moves)

abbrev yes? : Answer → Bool
yes? (Answer.refuses k carried) = false
yes? (Answer.gives []) = false
yes? (Answer.gives (v ∷ vs)) = eqb v 1

abbrev pub seen : Case → Seen
seen c =
    let words = run c.start c.moves in
    let rows = rows_of words in
    record {
      answers = answers_of c.start c.moves;
      stands = (outcome (Call.Position words 0)).answer;
      documents = tab (length rows) (doc_at rows);
      shown = gather (is_shown rows) (doc_at rows) (length rows);
      sees = gather (λ i. yes? (outcome (Call.Visible words (doc_at rows i))).answer) (doc_at rows) (length rows);
      changed = changed_by c.start c.moves;
    }

-- "Record X (001, definition 1's example)"
abbrev X : List ℕ
X = holding 8 (row 0 0 none 1 ∷ row 1 1 0 1 ∷ row 2 2 1 0 ∷ row 3 3 0 1 ∷ row 4 2 1 1 ∷ row 5 1 0 0 ∷ []) 6 4

-- Room for one change row, filled with nines.
abbrev room : List ℕ
room = 9 ∷ 9 ∷ 9 ∷ 9 ∷ []

abbrev forward_by : ℕ → Move
forward_by k = Move.goes 0 (pos k) room

abbrev back_by : ℕ → Move
back_by k = Move.goes 0 (neg_ℤ (pos k)) room

abbrev no : ℕ → Answer
no k = Answer.refuses k []

-- "Refusal 5 [..] carries that number too"
abbrev no5 : ℕ → Answer
no5 d = Answer.refuses 5 (d ∷ [])

abbrev ok : ℕ → Answer
ok v = Answer.gives (v ∷ [])

abbrev at : ℕ → ℕ → Answer
at p s = Answer.gives (p ∷ s ∷ (s + 1) ∷ [])

-- X as it stands, after these answers and with these change rows.
abbrev as_x : List Answer → List ℕ → Seen
as_x answers changed =
    record {
      answers = answers;
      stands = at 1 2;
      documents = 0 ∷ 1 ∷ 2 ∷ 3 ∷ 4 ∷ 5 ∷ [];
      shown = 0 ∷ 1 ∷ 3 ∷ 4 ∷ [];
      sees = 0 ∷ 1 ∷ 3 ∷ 4 ∷ [];
      changed = changed;
    }

-- P9: "Documents 0 to 4, frames {0}, {1,3}, {2,4} numbered 0 to 2, parents none,0,0,0,0, shown 0,1,4, next 5 and 3, C = 8".
abbrev nine : List ℕ
nine = holding 8 (row 0 0 none 1 ∷ row 1 1 0 1 ∷ row 2 2 0 0 ∷ row 3 1 0 0 ∷ row 4 2 0 1 ∷ []) 5 3

-- Frame 2 lies in document 1, which is not shown, and has step 4 upcoming.
abbrev under_hidden : List ℕ
under_hidden = holding 8 (row 0 0 none 1 ∷ row 1 1 0 0 ∷ row 2 2 1 1 ∷ row 3 1 0 1 ∷ row 4 2 1 0 ∷ []) 5 3

-- Documents 1, 3, 6 in frame 1, of which a is shown, and 2, 4, 5 in frame 2, of which b is: the steps are 3, 4, 5, 6.
abbrev crossing : ℕ → ℕ → List ℕ
crossing a b =
    let one : ℕ → List ℕ = λ d. row d 1 0 (flag (eqb d a)) in
    let two : ℕ → List ℕ = λ d. row d 2 0 (flag (eqb d b)) in
    holding 7 (row 0 0 none 1 ∷ one 1 ∷ two 2 ∷ one 3 ∷ two 4 ∷ two 5 ∷ one 6 ∷ []) 7 3

-- "P1. X: sound, position 1 of 2, visible 0,1,3,4."
abbrev p1 : Case
p1 = record { start = X; moves = []; expected = as_x [] [] }

-- "P2. X by -1: 2 shown instead of 4; one change row (2, 4, 2, 1)."
abbrev p2 : Case
p2 =
    record {
      start = X;
      moves = back_by 1 ∷ [];
      expected = record {
        answers = ok 1 ∷ [];
        stands = at 0 2;
        documents = 0 ∷ 1 ∷ 2 ∷ 3 ∷ 4 ∷ 5 ∷ [];
        shown = 0 ∷ 1 ∷ 2 ∷ 3 ∷ [];
        sees = 0 ∷ 1 ∷ 2 ∷ 3 ∷ [];
        changed = 2 ∷ 4 ∷ 2 ∷ 1 ∷ [];
      };
    }

-- "P3. X by +1: row (1, 1, 5, 1); 4 is shown, not visible."
abbrev p3 : Case
p3 =
    record {
      start = X;
      moves = forward_by 1 ∷ [];
      expected = record {
        answers = ok 1 ∷ [];
        stands = at 2 2;
        documents = 0 ∷ 1 ∷ 2 ∷ 3 ∷ 4 ∷ 5 ∷ [];
        shown = 0 ∷ 3 ∷ 4 ∷ 5 ∷ [];
        sees = 0 ∷ 3 ∷ 5 ∷ [];
        changed = 1 ∷ 1 ∷ 5 ∷ 1 ∷ [];
      };
    }

-- "P4. X by +2, and by -2: refused 6."
abbrev p4 : Case
p4 = record { start = X; moves = forward_by 2 ∷ back_by 2 ∷ []; expected = as_x (no 6 ∷ no 6 ∷ []) room }

-- "P5. X by -2147483648: refused 6."
abbrev p5 : Case
p5 = record { start = X; moves = back_by 2147483648 ∷ []; expected = as_x (no 6 ∷ []) room }

-- "P6. Navigate X from 1: 5 goes, 6 comes, position 2 of 2, visible 0,3,6."
abbrev p6 : Case
p6 =
    record {
      start = X;
      moves = Move.navigates 1 ∷ [];
      expected = record {
        answers = ok 6 ∷ [];
        stands = at 2 2;
        documents = 0 ∷ 1 ∷ 2 ∷ 3 ∷ 4 ∷ 6 ∷ [];
        shown = 0 ∷ 3 ∷ 4 ∷ 6 ∷ [];
        sees = 0 ∷ 3 ∷ 6 ∷ [];
        changed = [];
      };
    }

-- "P7. P6 by -1: visible 0,1,3,4."
abbrev p7 : Case
p7 =
    record {
      start = X;
      moves = Move.navigates 1 ∷ back_by 1 ∷ [];
      expected = record {
        answers = ok 6 ∷ ok 1 ∷ [];
        stands = at 1 2;
        documents = 0 ∷ 1 ∷ 2 ∷ 3 ∷ 4 ∷ 6 ∷ [];
        shown = 0 ∷ 1 ∷ 3 ∷ 4 ∷ [];
        sees = 0 ∷ 1 ∷ 3 ∷ 4 ∷ [];
        changed = 1 ∷ 6 ∷ 1 ∷ 1 ∷ [];
      };
    }

-- "P8. Navigate X from 2: refused 5; from 9: refused 4."
abbrev p8 : Case
p8 = record { start = X; moves = Move.navigates 2 ∷ Move.navigates 9 ∷ []; expected = as_x (no5 2 ∷ no 4 ∷ []) [] }

-- "P9. [..] refused 2 (S7)."
abbrev p9 : Case
p9 =
    record {
      start = nine;
      moves = [];
      expected = record {
        answers = [];
        stands = no 2;
        documents = 0 ∷ 1 ∷ 2 ∷ 3 ∷ 4 ∷ [];
        shown = 0 ∷ 1 ∷ 4 ∷ [];
        sees = [];
        changed = [];
      };
    }

-- "P10. C = 8; fresh, open 0, navigate 0, open 2, by -1: visible 0,1. Document 3 is the latest shown but has no row before it."
abbrev p10 : Case
p10 =
    record {
      start = fresh 8;
      moves = Move.opens 0 ∷ Move.navigates 0 ∷ Move.opens 2 ∷ back_by 1 ∷ [];
      expected = record {
        answers = Answer.gives (1 ∷ 1 ∷ []) ∷ ok 2 ∷ Answer.gives (3 ∷ 2 ∷ []) ∷ ok 1 ∷ [];
        stands = at 0 1;
        documents = 0 ∷ 1 ∷ 2 ∷ 3 ∷ [];
        shown = 0 ∷ 1 ∷ 3 ∷ [];
        sees = 0 ∷ 1 ∷ [];
        changed = 0 ∷ 2 ∷ 0 ∷ 1 ∷ [];
      };
    }

-- "P11. P10, navigate 1: 2 and 3 go, the new one is 4."
abbrev p11 : Case
p11 =
    record {
      start = run p10.start p10.moves;
      moves = Move.navigates 1 ∷ [];
      expected = record {
        answers = ok 4 ∷ [];
        stands = at 1 1;
        documents = 0 ∷ 1 ∷ 4 ∷ [];
        shown = 0 ∷ 4 ∷ [];
        sees = 0 ∷ 4 ∷ [];
        changed = [];
      };
    }

-- "P11 shows a shown document deleted; the visible set does return."
abbrev p11b : Case
p11b =
    record {
      start = run p10.start p10.moves;
      moves = Move.navigates 1 ∷ back_by 1 ∷ [];
      expected = record {
        answers = ok 4 ∷ ok 1 ∷ [];
        stands = at 0 1;
        documents = 0 ∷ 1 ∷ 4 ∷ [];
        shown = 0 ∷ 1 ∷ [];
        sees = 0 ∷ 1 ∷ [];
        changed = 1 ∷ 4 ∷ 1 ∷ 1 ∷ [];
      };
    }

-- "P12. C = 3; fresh, open 0, navigate 1, navigate 2: the last refused 7."
abbrev p12 : Case
p12 =
    record {
      start = fresh 3;
      moves = Move.opens 0 ∷ Move.navigates 1 ∷ Move.navigates 2 ∷ [];
      expected = record {
        answers = Answer.gives (1 ∷ 1 ∷ []) ∷ ok 2 ∷ no 7 ∷ [];
        stands = at 1 1;
        documents = 0 ∷ 1 ∷ 2 ∷ [];
        shown = 0 ∷ 2 ∷ [];
        sees = 0 ∷ 2 ∷ [];
        changed = [];
      };
    }

-- "Instead by -1, navigate 1: accepted, number 3."
abbrev p12b : Case
p12b =
    record {
      start = fresh 3;
      moves = Move.opens 0 ∷ Move.navigates 1 ∷ back_by 1 ∷ Move.navigates 1 ∷ [];
      expected = record {
        answers = Answer.gives (1 ∷ 1 ∷ []) ∷ ok 2 ∷ ok 1 ∷ ok 3 ∷ [];
        stands = at 1 1;
        documents = 0 ∷ 1 ∷ 3 ∷ [];
        shown = 0 ∷ 3 ∷ [];
        sees = 0 ∷ 3 ∷ [];
        changed = [];
      };
    }

-- An upcoming step of a frame that is not visible counts (001, counterexample 2).
abbrev hidden_future : Case
hidden_future =
    record {
      start = under_hidden;
      moves = forward_by 1 ∷ [];
      expected = record {
        answers = ok 1 ∷ [];
        stands = at 2 2;
        documents = 0 ∷ 1 ∷ 2 ∷ 3 ∷ 4 ∷ [];
        shown = 0 ∷ 3 ∷ 4 ∷ [];
        sees = 0 ∷ 3 ∷ [];
        changed = 2 ∷ 2 ∷ 4 ∷ 0 ∷ [];
      };
    }

abbrev pub table : List Case
table = p1 ∷ p2 ∷ p3 ∷ p4 ∷ p5 ∷ p6 ∷ p7 ∷ p8 ∷ p9 ∷ p10 ∷ p11 ∷ p11b ∷ p12 ∷ p12b ∷ hidden_future ∷ []

pub examples-hold : map seen table ≡ map (λ c. c.expected) table
unfolding some_below all_below count earliest latest tab gather in_record place is_frame with_flags climb root_at window_rows is_root step reach position steps climb_of hider_of visible
    opened gone without hide navigated show forward back_target row_before back walked reflagged traversed shown_doc change_row changes
    put table_of words_of written sound_table? sound? refusals accepted ladder outcome run flat_map
examples-hold = refl

-- DROP (document 02, L1)

-- A case whose last call is no traversal.
abbrev case : List ℕ → List Move → List Answer → Answer → List ℕ → List ℕ → List ℕ → Case
case start moves answers stands documents shown sees =
    record {
      start = start;
      moves = moves;
      expected = record { answers = answers; stands = stands; documents = documents; shown = shown; sees = sees; changed = [] };
    }

abbrev pub drops : List Case
drops =
    -- X without frame 1: with 1 and 5 go 2 and 4, which are beneath 1; position 0 of 0, visible 0,3.
    case X (Move.drops 1 ∷ []) (ok 4 ∷ []) (at 0 0) (0 ∷ 3 ∷ []) (0 ∷ 3 ∷ []) (0 ∷ 3 ∷ [])
    -- X without frame 2: 2 and 4 go, and the position falls to 0; 5 is upcoming still.
    ∷ case X (Move.drops 2 ∷ []) (ok 2 ∷ []) (at 0 1) (0 ∷ 1 ∷ 3 ∷ 5 ∷ []) (0 ∷ 1 ∷ 3 ∷ []) (0 ∷ 1 ∷ 3 ∷ [])
    -- The root frame, and frames that are in no row, though 4 is a document: X stays.
    ∷ record { start = X; moves = Move.drops 0 ∷ Move.drops 9 ∷ Move.drops 4 ∷ []; expected = as_x (no 10 ∷ no 4 ∷ no 4 ∷ []) [] }
    -- X by +1: 5 is shown in frame 1, so the parent of frame 2, document 1, is hidden.
    ∷ case X (forward_by 1 ∷ Move.drops 2 ∷ []) (ok 1 ∷ no5 1 ∷ []) (at 2 2) (0 ∷ 1 ∷ 2 ∷ 3 ∷ 4 ∷ 5 ∷ []) (0 ∷ 3 ∷ 4 ∷ 5 ∷ []) (0 ∷ 3 ∷ 5 ∷ [])
    -- X by +1 without frame 1: hidden rows go too, and the position falls by steps 5 and 4, though 4 is not visible.
    ∷ case X (forward_by 1 ∷ Move.drops 1 ∷ []) (ok 1 ∷ ok 4 ∷ []) (at 0 0) (0 ∷ 3 ∷ []) (0 ∷ 3 ∷ []) (0 ∷ 3 ∷ [])
    -- X by -1 without frame 2: its step is upcoming, so the position stays.
    ∷ case X (back_by 1 ∷ Move.drops 2 ∷ []) (ok 1 ∷ ok 2 ∷ []) (at 0 1) (0 ∷ 1 ∷ 3 ∷ 5 ∷ []) (0 ∷ 1 ∷ 3 ∷ []) (0 ∷ 1 ∷ 3 ∷ [])
    -- Steps 3 and 4 are taken, 5 and 6 upcoming. With frame 1 go 3 and 6: position 1 of 2.
    ∷ case (crossing 3 4) (Move.drops 1 ∷ []) (ok 3 ∷ []) (at 1 2) (0 ∷ 2 ∷ 4 ∷ 5 ∷ []) (0 ∷ 4 ∷ []) (0 ∷ 4 ∷ [])
    -- Open, drop, open: neither number comes back.
    ∷ case (fresh 8) (Move.opens 0 ∷ Move.drops 1 ∷ Move.opens 0 ∷ [])
    (Answer.gives (1 ∷ 1 ∷ []) ∷ ok 1 ∷ Answer.gives (2 ∷ 2 ∷ []) ∷ []) (at 0 0) (0 ∷ 2 ∷ []) (0 ∷ 2 ∷ []) (0 ∷ 2 ∷ [])
    -- A drop on a full table makes room for an open.
    ∷ case (fresh 2) (Move.opens 0 ∷ Move.opens 0 ∷ Move.drops 1 ∷ Move.opens 0 ∷ [])
    (Answer.gives (1 ∷ 1 ∷ []) ∷ no 7 ∷ ok 1 ∷ Answer.gives (2 ∷ 2 ∷ []) ∷ []) (at 0 0) (0 ∷ 2 ∷ []) (0 ∷ 2 ∷ []) (0 ∷ 2 ∷ [])
    -- Document 2 gave way to 0. The parent of frame 3, document 3 beneath 2, is shown and not visible; that of frame 2 is document 2.
    ∷ case (fresh 8) (Move.opens 0 ∷ Move.navigates 0 ∷ Move.opens 2 ∷ Move.opens 3 ∷ back_by 1 ∷ Move.drops 3 ∷ Move.drops 2 ∷ Move.drops 1 ∷ [])
    (Answer.gives (1 ∷ 1 ∷ []) ∷ ok 2 ∷ Answer.gives (3 ∷ 2 ∷ []) ∷ Answer.gives (4 ∷ 3 ∷ []) ∷ ok 1 ∷ no5 2 ∷ no5 2 ∷ ok 1 ∷ []) (at 0 1) (0 ∷ 2 ∷ 3 ∷ 4 ∷ []) (0 ∷ 3 ∷ 4 ∷ []) (0 ∷ [])
    ∷ []

pub drops-hold : map seen drops ≡ map (λ c. c.expected) drops
unfolding some_below all_below count earliest latest tab gather in_record place is_frame with_flags climb root_at window_rows is_root step reach position steps climb_of hider_of visible
    opened gone without hide navigated show forward back_target row_before back walked reflagged traversed shown_doc change_row changes parent_of
    put table_of words_of written sound_table? sound? refusals accepted ladder outcome run flat_map
drops-hold = refl

-- REPLACE (document 02, L7)

abbrev pub replaces : List Case
replaces =
    -- "A login page should vanish from Back": of a fresh window, and of one that came to it by a link. Neither Back nor Forward shows it again.
    record {
      start = fresh 8;
      moves = Move.replaces 0 ∷ back_by 1 ∷ [];
      expected = record { answers = ok 1 ∷ no 6 ∷ []; stands = at 0 0; documents = 1 ∷ []; shown = 1 ∷ []; sees = 1 ∷ []; changed = room };
    }
    ∷ record {
      start = fresh 8;
      moves = Move.navigates 0 ∷ Move.replaces 1 ∷ back_by 1 ∷ forward_by 1 ∷ [];
      expected = record {
        answers = ok 1 ∷ ok 2 ∷ ok 1 ∷ ok 1 ∷ [];
        stands = at 1 1;
        documents = 0 ∷ 2 ∷ [];
        shown = 2 ∷ [];
        sees = 2 ∷ [];
        changed = 0 ∷ 0 ∷ 2 ∷ 1 ∷ [];
      };
    }
    -- X, document 1: 2 and 4 beneath it go, and with 4 a taken step; 5, upcoming in its own frame, stays. Replaced twice: 6 goes in its turn, and so it is no more.
    ∷ case X (Move.replaces 1 ∷ []) (ok 6 ∷ []) (at 0 1) (0 ∷ 6 ∷ 3 ∷ 5 ∷ []) (0 ∷ 6 ∷ 3 ∷ []) (0 ∷ 6 ∷ 3 ∷ [])
    ∷ case X (Move.replaces 1 ∷ Move.replaces 6 ∷ Move.replaces 6 ∷ []) (ok 6 ∷ ok 7 ∷ no 4 ∷ []) (at 0 1) (0 ∷ 7 ∷ 3 ∷ 5 ∷ []) (0 ∷ 7 ∷ 3 ∷ []) (0 ∷ 7 ∷ 3 ∷ [])
    -- X, document 4, a taken step with nothing beneath it: the position stays.
    ∷ case X (Move.replaces 4 ∷ []) (ok 6 ∷ []) (at 1 2) (0 ∷ 1 ∷ 2 ∷ 3 ∷ 6 ∷ 5 ∷ []) (0 ∷ 1 ∷ 3 ∷ 6 ∷ []) (0 ∷ 1 ∷ 3 ∷ 6 ∷ [])
    -- X, the root: all else goes, by whatever number it lies there.
    ∷ case X (Move.replaces 0 ∷ []) (ok 6 ∷ []) (at 0 0) (6 ∷ []) (6 ∷ []) (6 ∷ [])
    -- X, documents that are in no row, though 3 is a frame, or not visible: X stays.
    ∷ record { start = X; moves = Move.replaces 9 ∷ Move.replaces 2 ∷ Move.replaces 5 ∷ []; expected = as_x (no 4 ∷ no5 2 ∷ no5 5 ∷ []) [] }
    -- Steps 3 and 4 are taken, 5 and 6 upcoming in two frames: both stay, and go on.
    ∷ case (crossing 3 4) (Move.replaces 3 ∷ []) (ok 7 ∷ []) (at 2 4) (0 ∷ 1 ∷ 2 ∷ 7 ∷ 4 ∷ 5 ∷ 6 ∷ []) (0 ∷ 7 ∷ 4 ∷ []) (0 ∷ 7 ∷ 4 ∷ [])
    ∷ case (crossing 3 4) (Move.replaces 3 ∷ forward_by 1 ∷ forward_by 1 ∷ Move.replaces 5 ∷ [])
    (ok 7 ∷ ok 1 ∷ ok 1 ∷ ok 8 ∷ []) (at 4 4) (0 ∷ 1 ∷ 2 ∷ 7 ∷ 4 ∷ 8 ∷ 6 ∷ []) (0 ∷ 8 ∷ 6 ∷ []) (0 ∷ 8 ∷ 6 ∷ [])
    -- The root frame went on to document 1 and back: 1 stays upcoming, though the root is replaced.
    ∷ case (fresh 8) (Move.navigates 0 ∷ back_by 1 ∷ Move.replaces 0 ∷ []) (ok 1 ∷ ok 1 ∷ ok 2 ∷ []) (at 0 1) (2 ∷ 1 ∷ []) (2 ∷ []) (2 ∷ [])
    -- No number comes back, and no row more is needed.
    ∷ case (fresh 2) (Move.opens 0 ∷ Move.replaces 1 ∷ Move.replaces 0 ∷ Move.opens 3 ∷ [])
    (Answer.gives (1 ∷ 1 ∷ []) ∷ ok 2 ∷ ok 3 ∷ Answer.gives (4 ∷ 2 ∷ []) ∷ []) (at 0 0) (3 ∷ 4 ∷ []) (3 ∷ 4 ∷ []) (3 ∷ 4 ∷ [])
    ∷ []

pub replaces-hold : map seen replaces ≡ map (λ c. c.expected) replaces
unfolding some_below all_below count earliest latest tab gather in_record place is_frame with_flags climb root_at window_rows is_root step reach position steps climb_of hider_of visible
    opened gone without hide navigated renamed replaced show forward back_target row_before back walked reflagged traversed shown_doc change_row changes
    put table_of words_of written sound_table? sound? refusals accepted ladder outcome run flat_map
replaces-hold = refl

-- TWO WINDOWS (document 02, L10)

-- Back in the window with this root frame.
abbrev back_in : ℕ → ℕ → Move
back_in r k = Move.goes r (neg_ℤ (pos k)) room

abbrev pub windows : List Case
windows =
    -- A pop-up card, with frame 1, beside the main window: steps in turn. Back in one leaves the other's documents as they are; the later step may be the one taken.
    record {
      start = fresh 8;
      moves = Move.tabs ∷ Move.navigates 0 ∷ Move.navigates 1 ∷ back_in 1 1 ∷ [];
      expected = record {
        answers = Answer.gives (1 ∷ 1 ∷ []) ∷ ok 2 ∷ ok 3 ∷ ok 1 ∷ [];
        stands = at 1 1;
        documents = 0 ∷ 1 ∷ 2 ∷ 3 ∷ [];
        shown = 1 ∷ 2 ∷ [];
        sees = 1 ∷ 2 ∷ [];
        changed = 1 ∷ 3 ∷ 1 ∷ 1 ∷ [];
      };
    }
    ∷ record {
      start = fresh 8;
      moves = Move.tabs ∷ Move.navigates 0 ∷ Move.navigates 1 ∷ back_in 0 1 ∷ [];
      expected = record {
        answers = Answer.gives (1 ∷ 1 ∷ []) ∷ ok 2 ∷ ok 3 ∷ ok 1 ∷ [];
        stands = at 0 1;
        documents = 0 ∷ 1 ∷ 2 ∷ 3 ∷ [];
        shown = 0 ∷ 3 ∷ [];
        sees = 0 ∷ 3 ∷ [];
        changed = 0 ∷ 2 ∷ 0 ∷ 1 ∷ [];
      };
    }
    -- A root frame that isn't one: a frame beneath, and a number of no frame. Neither window can be dropped.
    ∷ record { start = X; moves = back_in 1 1 ∷ back_in 9 1 ∷ []; expected = as_x (no 13 ∷ no 13 ∷ []) room }
    ∷ case (fresh 8) (Move.tabs ∷ Move.drops 1 ∷ Move.drops 0 ∷ []) (Answer.gives (1 ∷ 1 ∷ []) ∷ no 10 ∷ no 10 ∷ []) (at 0 0) (0 ∷ 1 ∷ []) (0 ∷ 1 ∷ []) (0 ∷ 1 ∷ [])
    -- Step 2 of the card is upcoming, and 3 lies in it. Navigating in the main window keeps both; navigating in the card clears both.
    ∷ case (fresh 8) (Move.tabs ∷ Move.navigates 1 ∷ Move.opens 2 ∷ back_in 1 1 ∷ Move.navigates 0 ∷ [])
    (Answer.gives (1 ∷ 1 ∷ []) ∷ ok 2 ∷ Answer.gives (3 ∷ 2 ∷ []) ∷ ok 1 ∷ ok 4 ∷ []) (at 1 1) (0 ∷ 1 ∷ 2 ∷ 3 ∷ 4 ∷ []) (1 ∷ 3 ∷ 4 ∷ []) (1 ∷ 4 ∷ [])
    ∷ case (fresh 8) (Move.tabs ∷ Move.navigates 1 ∷ Move.opens 2 ∷ back_in 1 1 ∷ Move.navigates 1 ∷ [])
    (Answer.gives (1 ∷ 1 ∷ []) ∷ ok 2 ∷ Answer.gives (3 ∷ 2 ∷ []) ∷ ok 1 ∷ ok 4 ∷ []) (at 0 0) (0 ∷ 1 ∷ 4 ∷ []) (0 ∷ 4 ∷ []) (0 ∷ 4 ∷ [])
    -- A full table whose only upcoming step is the card's: there is room for a step in the card alone.
    ∷ case (fresh 3) (Move.tabs ∷ Move.navigates 1 ∷ back_in 1 1 ∷ Move.navigates 0 ∷ Move.navigates 1 ∷ [])
    (Answer.gives (1 ∷ 1 ∷ []) ∷ ok 2 ∷ ok 1 ∷ no 7 ∷ ok 3 ∷ []) (at 0 0) (0 ∷ 1 ∷ 3 ∷ []) (0 ∷ 3 ∷ []) (0 ∷ 3 ∷ [])
    -- What is opened under the card's document is the card's; replacing and dropping there leave the main window.
    ∷ case (fresh 8) (Move.tabs ∷ Move.opens 1 ∷ Move.navigates 0 ∷ Move.replaces 1 ∷ Move.opens 4 ∷ Move.drops 3 ∷ [])
    (Answer.gives (1 ∷ 1 ∷ []) ∷ Answer.gives (2 ∷ 2 ∷ []) ∷ ok 3 ∷ ok 4 ∷ Answer.gives (5 ∷ 3 ∷ []) ∷ ok 1 ∷ []) (at 1 1) (0 ∷ 4 ∷ 3 ∷ []) (4 ∷ 3 ∷ []) (4 ∷ 3 ∷ [])
    ∷ []

pub windows-hold : map seen windows ≡ map (λ c. c.expected) windows
unfolding some_below all_below count earliest latest tab gather in_record place is_frame with_flags climb root_at window_rows is_root step reach position steps climb_of hider_of visible
    opened tabbed gone without hide navigated renamed replaced show forward back_target row_before back walked reflagged traversed shown_doc change_row changes parent_of
    put table_of words_of written sound_table? sound? refusals accepted ladder outcome run flat_map
windows-hold = refl

-- The small examples: a call and its whole outcome.
pub record Small : Type 0 where
  pub call : Call
  pub expected : Outcome

abbrev small : Call → Answer → List (List ℕ) → Small
small c a l = record { call = c; expected = record { answer = a; lent = l } }

abbrev fresh_contents : List ℕ
fresh_contents = 0 ∷ 0 ∷ 0 ∷ 1 ∷ 0 ∷ 0 ∷ 0 ∷ 1 ∷ 0 ∷ 0 ∷ 0 ∷ 1 ∷ 0 ∷ 0 ∷ 0 ∷ 0 ∷ 255 ∷ 255 ∷ 255 ∷ 255 ∷ 0 ∷ 0 ∷ 0 ∷ 1 ∷ 0 ∷ 0 ∷ 0 ∷ 0 ∷ []

abbrev fresh_bytes : List ℕ
fresh_bytes = fresh_contents ++ 0 ∷ 0 ∷ 0 ∷ 0 ∷ 0 ∷ 0 ∷ 0 ∷ 0 ∷ []

abbrev old_fresh_bytes : List ℕ
old_fresh_bytes = fresh_contents ++ 0 ∷ 0 ∷ 0 ∷ 0 ∷ []

-- X saved: the contents, 12 + 16 * 4 bytes, are those of both forms.
abbrev contents_of_x : List ℕ
contents_of_x =
    -- "frame count F, next document, next frame"
    0 ∷ 0 ∷ 0 ∷ 4 ∷ 0 ∷ 0 ∷ 0 ∷ 6 ∷ 0 ∷ 0 ∷ 0 ∷ 4
    -- "frame, parent, number of its documents m, and which of them is shown"
    ∷ 0 ∷ 0 ∷ 0 ∷ 0 ∷ 255 ∷ 255 ∷ 255 ∷ 255 ∷ 0 ∷ 0 ∷ 0 ∷ 1 ∷ 0 ∷ 0 ∷ 0 ∷ 0
    ∷ 0 ∷ 0 ∷ 0 ∷ 1 ∷ 0 ∷ 0 ∷ 0 ∷ 0 ∷ 0 ∷ 0 ∷ 0 ∷ 2 ∷ 0 ∷ 0 ∷ 0 ∷ 0
    ∷ 0 ∷ 0 ∷ 0 ∷ 2 ∷ 0 ∷ 0 ∷ 0 ∷ 1 ∷ 0 ∷ 0 ∷ 0 ∷ 2 ∷ 0 ∷ 0 ∷ 0 ∷ 1
    ∷ 0 ∷ 0 ∷ 0 ∷ 3 ∷ 0 ∷ 0 ∷ 0 ∷ 0 ∷ 0 ∷ 0 ∷ 0 ∷ 1 ∷ 0 ∷ 0 ∷ 0 ∷ 0 ∷ []

-- The entries of frames 0, 1, 2 and 3, "document number and row place", 8 * 6 bytes; in the old form the documents, 4 * 6.
abbrev bytes_of_x : List ℕ
bytes_of_x =
    contents_of_x
    ++ 0 ∷ 0 ∷ 0 ∷ 0 ∷ 0 ∷ 0 ∷ 0 ∷ 0
    ∷ 0 ∷ 0 ∷ 0 ∷ 1 ∷ 0 ∷ 0 ∷ 0 ∷ 1 ∷ 0 ∷ 0 ∷ 0 ∷ 5 ∷ 0 ∷ 0 ∷ 0 ∷ 5
    ∷ 0 ∷ 0 ∷ 0 ∷ 2 ∷ 0 ∷ 0 ∷ 0 ∷ 2 ∷ 0 ∷ 0 ∷ 0 ∷ 4 ∷ 0 ∷ 0 ∷ 0 ∷ 4
    ∷ 0 ∷ 0 ∷ 0 ∷ 3 ∷ 0 ∷ 0 ∷ 0 ∷ 3 ∷ []

abbrev old_bytes_of_x : List ℕ
old_bytes_of_x = contents_of_x ++ 0 ∷ 0 ∷ 0 ∷ 0 ∷ 0 ∷ 0 ∷ 0 ∷ 1 ∷ 0 ∷ 0 ∷ 0 ∷ 5 ∷ 0 ∷ 0 ∷ 0 ∷ 2 ∷ 0 ∷ 0 ∷ 0 ∷ 4 ∷ 0 ∷ 0 ∷ 0 ∷ 3 ∷ []

-- X with document 1 replaced by 6, and its bytes: 12 + 16 * 3 + 8 * 4.
abbrev renewed : List ℕ
renewed = holding 8 (row 0 0 none 1 ∷ row 6 1 0 1 ∷ row 3 3 0 1 ∷ row 5 1 0 0 ∷ []) 7 4

abbrev bytes_of_renewed : List ℕ
bytes_of_renewed =
    0 ∷ 0 ∷ 0 ∷ 3 ∷ 0 ∷ 0 ∷ 0 ∷ 7 ∷ 0 ∷ 0 ∷ 0 ∷ 4
    ∷ 0 ∷ 0 ∷ 0 ∷ 0 ∷ 255 ∷ 255 ∷ 255 ∷ 255 ∷ 0 ∷ 0 ∷ 0 ∷ 1 ∷ 0 ∷ 0 ∷ 0 ∷ 0
    ∷ 0 ∷ 0 ∷ 0 ∷ 1 ∷ 0 ∷ 0 ∷ 0 ∷ 0 ∷ 0 ∷ 0 ∷ 0 ∷ 2 ∷ 0 ∷ 0 ∷ 0 ∷ 0
    ∷ 0 ∷ 0 ∷ 0 ∷ 3 ∷ 0 ∷ 0 ∷ 0 ∷ 0 ∷ 0 ∷ 0 ∷ 0 ∷ 1 ∷ 0 ∷ 0 ∷ 0 ∷ 0
    -- documents 0; 6 and 5; 3, each with its row place
    ∷ 0 ∷ 0 ∷ 0 ∷ 0 ∷ 0 ∷ 0 ∷ 0 ∷ 0
    ∷ 0 ∷ 0 ∷ 0 ∷ 6 ∷ 0 ∷ 0 ∷ 0 ∷ 1 ∷ 0 ∷ 0 ∷ 0 ∷ 5 ∷ 0 ∷ 0 ∷ 0 ∷ 3
    ∷ 0 ∷ 0 ∷ 0 ∷ 3 ∷ 0 ∷ 0 ∷ 0 ∷ 2 ∷ []

-- Fresh with other next numbers.
abbrev next : ℕ → ℕ → List ℕ
next d f = holding 2 (row 0 0 none 1 ∷ []) d f

-- Documents 0, 2 and 1 in the root frame, and word 1; saved.
abbrev falling : ℕ → List ℕ
falling d = holding 3 (row 0 0 none 1 ∷ row 2 0 none 0 ∷ row 1 0 none 0 ∷ []) d 1

abbrev contents_of_falling : List ℕ
contents_of_falling = 0 ∷ 0 ∷ 0 ∷ 1 ∷ 0 ∷ 0 ∷ 0 ∷ 3 ∷ 0 ∷ 0 ∷ 0 ∷ 1 ∷ 0 ∷ 0 ∷ 0 ∷ 0 ∷ 255 ∷ 255 ∷ 255 ∷ 255 ∷ 0 ∷ 0 ∷ 0 ∷ 3 ∷ 0 ∷ 0 ∷ 0 ∷ 0 ∷ []

-- With these row places; in the old form there are none.
abbrev falling_at : ℕ → ℕ → ℕ → List ℕ
falling_at p q r = contents_of_falling ++ 0 ∷ 0 ∷ 0 ∷ 0 ∷ 0 ∷ 0 ∷ 0 ∷ p ∷ 0 ∷ 0 ∷ 0 ∷ 2 ∷ 0 ∷ 0 ∷ 0 ∷ q ∷ 0 ∷ 0 ∷ 0 ∷ 1 ∷ 0 ∷ 0 ∷ 0 ∷ r ∷ []

abbrev old_bytes_of_falling : List ℕ
old_bytes_of_falling = contents_of_falling ++ 0 ∷ 0 ∷ 0 ∷ 0 ∷ 0 ∷ 0 ∷ 0 ∷ 2 ∷ 0 ∷ 0 ∷ 0 ∷ 1 ∷ []

-- Document 0 gave way to document 1 in its frame: with this word 1, and with the one that the calls leave.
abbrev last : ℕ → List ℕ
last d = holding 2 (row 0 0 none 0 ∷ row 1 0 none 1 ∷ []) d 1

abbrev left : List ℕ
left = last 2

-- Frame 0 lies in the document of frame 1; the table is full, and all numbers are used.
abbrev swapped : List ℕ
swapped = holding 2 (row 0 1 none 1 ∷ row 1 0 0 1 ∷ []) none none

-- 1 and 3 of frame 1 lie in document 0, 2 in 1, 5 in 2. Of 0 and 4 the latter is shown, of 1 and 3 too: 2 and 5 are shown, and hidden by 1.
abbrev nested : List ℕ
nested = holding 6 (row 0 0 none 0 ∷ row 1 1 0 0 ∷ row 2 2 1 1 ∷ row 3 1 0 1 ∷ row 4 0 none 1 ∷ row 5 3 2 1 ∷ []) 6 4

-- Documents 0 and 2 of root frame 0, of which a is shown, 1 and 3 of root frame 1, of which b is, and 4 in document 1; saved.
abbrev pair : ℕ → ℕ → List ℕ
pair a b =
    let one : ℕ → List ℕ = λ d. row d 0 none (flag (eqb d a)) in
    let two : ℕ → List ℕ = λ d. row d 1 none (flag (eqb d b)) in
    holding 5 (one 0 ∷ two 1 ∷ one 2 ∷ two 3 ∷ row 4 2 1 1 ∷ []) 5 3

abbrev contents_of_pair : List ℕ
contents_of_pair =
    0 ∷ 0 ∷ 0 ∷ 3 ∷ 0 ∷ 0 ∷ 0 ∷ 5 ∷ 0 ∷ 0 ∷ 0 ∷ 3
    ∷ 0 ∷ 0 ∷ 0 ∷ 0 ∷ 255 ∷ 255 ∷ 255 ∷ 255 ∷ 0 ∷ 0 ∷ 0 ∷ 2 ∷ 0 ∷ 0 ∷ 0 ∷ 0
    ∷ 0 ∷ 0 ∷ 0 ∷ 1 ∷ 255 ∷ 255 ∷ 255 ∷ 255 ∷ 0 ∷ 0 ∷ 0 ∷ 2 ∷ 0 ∷ 0 ∷ 0 ∷ 1
    ∷ 0 ∷ 0 ∷ 0 ∷ 2 ∷ 0 ∷ 0 ∷ 0 ∷ 1 ∷ 0 ∷ 0 ∷ 0 ∷ 1 ∷ 0 ∷ 0 ∷ 0 ∷ 0 ∷ []

abbrev bytes_of_pair : List ℕ
bytes_of_pair =
    contents_of_pair
    ++ 0 ∷ 0 ∷ 0 ∷ 0 ∷ 0 ∷ 0 ∷ 0 ∷ 0 ∷ 0 ∷ 0 ∷ 0 ∷ 2 ∷ 0 ∷ 0 ∷ 0 ∷ 2
    ∷ 0 ∷ 0 ∷ 0 ∷ 1 ∷ 0 ∷ 0 ∷ 0 ∷ 1 ∷ 0 ∷ 0 ∷ 0 ∷ 3 ∷ 0 ∷ 0 ∷ 0 ∷ 3
    ∷ 0 ∷ 0 ∷ 0 ∷ 4 ∷ 0 ∷ 0 ∷ 0 ∷ 4 ∷ []

abbrev old_bytes_of_pair : List ℕ
old_bytes_of_pair = contents_of_pair ++ 0 ∷ 0 ∷ 0 ∷ 0 ∷ 0 ∷ 0 ∷ 0 ∷ 2 ∷ 0 ∷ 0 ∷ 0 ∷ 1 ∷ 0 ∷ 0 ∷ 0 ∷ 3 ∷ 0 ∷ 0 ∷ 0 ∷ 4 ∷ []

-- Visible says yes, and that nobody hides it; no, and who does; and how many links were followed.
abbrev sees_it : ℕ → Answer
sees_it links = Answer.gives (1 ∷ none ∷ links ∷ [])

abbrev hid : ℕ → ℕ → Answer
hid d links = Answer.gives (0 ∷ d ∷ links ∷ [])

-- A record that Position refuses as unsound.
abbrev unsound : List ℕ → Small
unsound words = small (Call.Position words 0) (no 2) []

abbrev pub smalls : List Small
smalls =
    -- "length 12 + 16F + 8n": a saved fresh record has 36 bytes, and had 32 in the old form. Neither loading call takes the other's bytes.
    small (Call.Save (fresh 8) (replicate 38 7)) (ok 36) ((fresh_bytes ++ 7 ∷ 7 ∷ []) ∷ [])
    ∷ small (Call.Save (fresh 8) (replicate 35 7)) (no 9) (replicate 35 7 ∷ [])
    ∷ small (Call.Load (replicate 9 7) fresh_bytes) (ok 1) ((1 ∷ 1 ∷ 1 ∷ 0 ∷ 0 ∷ none ∷ 1 ∷ 7 ∷ 7 ∷ []) ∷ [])
    ∷ small (Call.LoadOld (replicate 9 7) old_fresh_bytes) (ok 1) ((1 ∷ 1 ∷ 1 ∷ 0 ∷ 0 ∷ none ∷ 1 ∷ 7 ∷ 7 ∷ []) ∷ [])
    ∷ small (Call.Load (replicate 7 7) old_fresh_bytes) (no 3) (replicate 7 7 ∷ [])
    ∷ small (Call.LoadOld (replicate 7 7) fresh_bytes) (no 3) (replicate 7 7 ∷ [])
    -- "big-endian, four a number": 16909060 is 1, 2, 3, 4.
    ∷ small (Call.Save (next 16909060 1) (replicate 36 7)) (ok 36) ((0 ∷ 0 ∷ 0 ∷ 1 ∷ 1 ∷ 2 ∷ 3 ∷ 4 ∷ drop 8 fresh_bytes) ∷ [])
    -- "Record of 6 words: refused 1; 7 words: C = 1, Fresh accepted, then Open refused 7."
    ∷ small (Call.Fresh (replicate 6 7)) (no 1) (replicate 6 7 ∷ [])
    ∷ small (Call.Fresh (replicate 7 7)) (Answer.gives []) ((1 ∷ 1 ∷ 1 ∷ 0 ∷ 0 ∷ none ∷ 1 ∷ []) ∷ [])
    ∷ small (Call.Open (fresh 1) 0) (no 7) (fresh 1 ∷ [])
    -- "a fresh window has length 1 [..] Position and steps stay as they are": the length goes by neither the position nor the steps alone.
    ∷ small (Call.Position (fresh 1) 0) (Answer.gives (0 ∷ 0 ∷ 1 ∷ [])) []
    ∷ small (Call.Position X 0) (Answer.gives (1 ∷ 2 ∷ 3 ∷ [])) []
    -- "words past 3 + 4C are neither read nor written"
    ∷ small (Call.Position (fresh 1 ++ 7 ∷ []) 0) (at 0 0) []
    -- "Empty saved bytes: refused 3."
    ∷ small (Call.Load (replicate 7 7) []) (no 3) (replicate 7 7 ∷ [])
    ∷ small (Call.LoadOld (replicate 7 7) []) (no 3) (replicate 7 7 ∷ [])
    -- X again: its lists, its outline, its bytes and back; and back from the old form.
    ∷ small (Call.Lists X 0 (9 ∷ 9 ∷ []) (9 ∷ 9 ∷ [])) (Answer.gives (1 ∷ 1 ∷ [])) ((4 ∷ 9 ∷ []) ∷ (5 ∷ 9 ∷ []) ∷ [])
    ∷ small (Call.Outline X 0 (replicate 9 9)) (ok 4) ((0 ∷ 0 ∷ 1 ∷ 1 ∷ 2 ∷ 4 ∷ 1 ∷ 3 ∷ 9 ∷ []) ∷ [])
    ∷ small (Call.Save X (replicate 125 7)) (ok 124) ((bytes_of_x ++ 7 ∷ []) ∷ [])
    ∷ small (Call.Load (replicate 35 7) bytes_of_x) (ok 6) (X ∷ [])
    ∷ small (Call.LoadOld (replicate 35 7) old_bytes_of_x) (ok 6) (X ∷ [])
    -- "taken steps, latest first, and upcoming steps, earliest first; words past them keep their values"
    ∷ small (Call.Lists (crossing 3 4) 0 (replicate 3 9) (replicate 3 9)) (Answer.gives (2 ∷ 2 ∷ [])) ((4 ∷ 3 ∷ 9 ∷ []) ∷ (5 ∷ 6 ∷ 9 ∷ []) ∷ [])
    -- Change rows "by rising frame number", though frame 2 moves first, forward and back. "Further rows keep what they held."
    ∷ small (Call.Traverse (crossing 3 4) 0 (pos 2) (replicate 12 9)) (ok 2) (crossing 6 5 ∷ (1 ∷ 3 ∷ 6 ∷ 1 ∷ 2 ∷ 4 ∷ 5 ∷ 1 ∷ room) ∷ [])
    ∷ small (Call.Traverse (crossing 3 4) 0 (neg_ℤ (pos 2)) (replicate 12 9)) (ok 2) (crossing 1 2 ∷ (1 ∷ 3 ∷ 1 ∷ 1 ∷ 2 ∷ 4 ∷ 2 ∷ 1 ∷ room) ∷ [])
    -- One row "for each frame whose shown document differs between start and end": frame 2 takes two steps.
    ∷ small (Call.Traverse (crossing 1 2) 0 (pos 3) (replicate 8 9)) (ok 2) (crossing 3 5 ∷ (1 ∷ 1 ∷ 3 ∷ 1 ∷ 2 ∷ 2 ∷ 5 ∷ 1 ∷ []) ∷ [])
    -- "δ = 0 is accepted."
    ∷ small (Call.Traverse X 0 (pos 0) []) (ok 0) (X ∷ [] ∷ [])
    -- "the second for δ ≥ 0 and the first for δ < 0", "when it is 6, the part given back is empty"; and at the far end of δ's width.
    ∷ small (Call.Stretch (4 ∷ 2 ∷ []) (5 ∷ []) (neg_ℤ (pos 1))) (Answer.gives (4 ∷ [])) []
    ∷ small (Call.Stretch (4 ∷ 2 ∷ []) (5 ∷ []) (pos 2)) (Answer.gives []) []
    ∷ small (Call.StretchCount (4 ∷ 2 ∷ []) (5 ∷ []) (pos 1)) (ok 1) []
    ∷ small (Call.StretchCount (4 ∷ 2 ∷ []) (5 ∷ []) (neg_ℤ (pos 2147483648))) (no 6) []
    -- Drop. "all its rows and all beneath them go, gaps close in order, the rest keeps its flags", both next numbers stay, and rows no longer in use become
    -- zero words: of X frames 1, 2 and 3.
    ∷ small (Call.Drop X 1) (ok 4) (holding 8 (row 0 0 none 1 ∷ row 3 3 0 1 ∷ []) 6 4 ∷ [])
    ∷ small (Call.Drop X 2) (ok 2) (holding 8 (row 0 0 none 1 ∷ row 1 1 0 1 ∷ row 3 3 0 1 ∷ row 5 1 0 0 ∷ []) 6 4 ∷ [])
    ∷ small (Call.Drop X 3) (ok 1) (holding 8 (row 0 0 none 1 ∷ row 1 1 0 1 ∷ row 2 2 1 0 ∷ row 4 2 1 1 ∷ row 5 1 0 0 ∷ []) 6 4 ∷ [])
    -- "4 for a frame not in the record", though document 0 is not visible; "10 for the root frame", though no visible document holds it; "5 when its parent
    -- isn't visible": 10 comes after 4 and before 5.
    ∷ small (Call.Drop left 1) (no 4) (left ∷ [])
    ∷ small (Call.Drop left 0) (no 10) (left ∷ [])
    ∷ small (Call.Drop under_hidden 2) (no5 1) (under_hidden ∷ [])
    -- The root frame is the one without a parent, whatever its number. No next number and no row more is needed.
    ∷ small (Call.Drop swapped 1) (no 10) (swapped ∷ [])
    ∷ small (Call.Drop swapped 0) (ok 1) (holding 2 (row 0 1 none 1 ∷ []) none none ∷ [])
    -- 1 and 2 come before all three.
    ∷ small (Call.Drop (replicate 6 0) 0) (no 1) (replicate 6 0 ∷ [])
    ∷ small (Call.Drop nine 9) (no 2) (nine ∷ [])
    ∷ small (Call.Drop nine 0) (no 2) (nine ∷ [])
    ∷ small (Call.Drop (under_hidden ++ 7 ∷ 7 ∷ 7 ∷ 7 ∷ []) 2) (no 2) ((under_hidden ++ 7 ∷ 7 ∷ 7 ∷ 7 ∷ []) ∷ [])
    -- Replace. "everything beneath it goes, the row takes the next document number, stays shown", in its own row with its frame and parent; word 1 rises by one, and rows no
    -- longer in use become zero words.
    ∷ small (Call.Replace X 1) (ok 6) (renewed ∷ [])
    ∷ small (Call.Replace (next 1 none) 0) (ok 1) (holding 2 (row 1 0 none 1 ∷ []) 2 none ∷ [])
    -- "Refusals: 4, 5 and 8 as for navigation", in this order, and 1 and 2 before them. A full table is none.
    ∷ small (Call.Replace (next none 1) 9) (no 4) (next none 1 ∷ [])
    ∷ small (Call.Replace (last none) 0) (no5 0) (last none ∷ [])
    ∷ small (Call.Replace (last none) 1) (no 8) (last none ∷ [])
    ∷ small (Call.Replace (replicate 6 0) 0) (no 1) (replicate 6 0 ∷ [])
    ∷ small (Call.Replace nine 9) (no 2) (nine ∷ [])
    -- "each body entry becomes document number and row place, by rising row place": a record after Replace, saved and back. The old form has no such bytes.
    ∷ small (Call.Save renewed (replicate 92 7)) (ok 92) (bytes_of_renewed ∷ [])
    ∷ small (Call.Load (replicate 35 7) bytes_of_renewed) (ok 4) (renewed ∷ [])
    ∷ small (Call.LoadOld (replicate 35 7) bytes_of_renewed) (no 3) (replicate 35 7 ∷ [])
    -- "record unsound", by one rule alone. S1: no row; more rows than C, which is 1.
    ∷ unsound (0 ∷ 1 ∷ 1 ∷ 0 ∷ 0 ∷ 0 ∷ 0 ∷ [])
    ∷ unsound (2 ∷ 2 ∷ 1 ∷ 0 ∷ 0 ∷ none ∷ 1 ∷ 1 ∷ 0 ∷ none ∷ [])
    -- S2: "numbers are distinct", in rows that follow each other and in others; "and all below word 1", the last and one before it.
    ∷ unsound (holding 3 (row 0 0 none 1 ∷ row 1 0 none 0 ∷ row 1 0 none 0 ∷ []) 2 1)
    ∷ unsound (holding 3 (row 1 0 none 1 ∷ row 0 0 none 0 ∷ row 1 0 none 0 ∷ []) 2 1)
    ∷ unsound (next 0 1)
    ∷ unsound (falling 2)
    -- "no longer rising": document 2 before document 1 is sound. The old form has no row places, and its bytes are refused as ever.
    ∷ small (Call.Position (falling 3) 0) (at 0 2) []
    ∷ small (Call.Save (falling 3) (replicate 52 7)) (ok 52) (falling_at 0 1 2 ∷ [])
    ∷ small (Call.Load (replicate 15 7) (falling_at 0 1 2)) (ok 3) (falling 3 ∷ [])
    ∷ small (Call.LoadOld (replicate 15 7) old_bytes_of_falling) (no 3) (replicate 15 7 ∷ [])
    -- "by rising row place [..] the row places of all bodies being 0 to n - 1 once each": falling, twice, past the last.
    ∷ small (Call.Load (replicate 15 7) (falling_at 0 2 1)) (no 3) (replicate 15 7 ∷ [])
    ∷ small (Call.Load (replicate 15 7) (falling_at 0 1 1)) (no 3) (replicate 15 7 ∷ [])
    ∷ small (Call.Load (replicate 15 7) (falling_at 0 1 3)) (no 3) (replicate 15 7 ∷ [])
    -- S3: frame 1, and word 2 is 1.
    ∷ unsound (holding 2 (row 0 1 none 1 ∷ row 1 0 0 1 ∷ []) 2 1)
    -- S4: the parent is the document itself; the parent is in no row.
    ∷ unsound (holding 2 (row 0 0 none 1 ∷ row 1 1 1 1 ∷ []) 2 2)
    ∷ unsound (holding 2 (row 0 0 none 1 ∷ row 2 1 1 1 ∷ []) 3 2)
    -- S5: frame 1 under documents 0 and 1; under document 0 and under none.
    ∷ unsound (holding 3 (row 0 0 none 1 ∷ row 1 1 0 1 ∷ row 2 1 1 0 ∷ []) 3 2)
    ∷ unsound (holding 3 (row 0 0 none 1 ∷ row 1 1 0 1 ∷ row 2 1 none 0 ∷ []) 3 2)
    -- S6: a shown word of 2; two rows shown; none shown.
    ∷ unsound (holding 2 (row 0 0 none 1 ∷ row 1 0 none 2 ∷ []) 2 1)
    ∷ unsound (holding 2 (row 0 0 none 1 ∷ row 1 0 none 1 ∷ []) 2 1)
    ∷ unsound (holding 2 (row 0 0 none 0 ∷ []) 1 1)
    -- S7 is P9. S8: a word of a row that is not in use.
    ∷ unsound (fresh 1 ++ 0 ∷ 0 ∷ 0 ∷ 7 ∷ [])
    -- "document not in the record"; "document there, not visible"
    ∷ small (Call.Visible X 9) (no 4) []
    ∷ small (Call.Open X 9) (no 4) (X ∷ [])
    ∷ small (Call.Open X 2) (no5 2) (X ∷ [])
    -- "either that the document is visible or the number of the nearest document, itself first and then upwards, that isn't shown"
    ∷ small (Call.Visible X 2) (hid 2 0) []
    ∷ small (Call.Visible nested 0) (hid 0 0) []
    ∷ small (Call.Visible nested 1) (hid 1 0) []
    ∷ small (Call.Visible nested 2) (hid 1 1) []
    ∷ small (Call.Visible nested 3) (hid 0 1) []
    -- "the number of parent links followed: from the document upwards, none if it isn't shown itself, and no link above the first hidden one"
    ∷ small (Call.Visible nested 5) (hid 1 2) []
    ∷ small (Call.Visible nested 4) (sees_it 0) []
    ∷ small (Call.Visible X 0) (sees_it 0) []
    ∷ small (Call.Visible X 1) (sees_it 1) []
    ∷ small (Call.Visible X 4) (sees_it 2) []
    -- "Refusal 5 of opening, navigating and removal carries that number too (for removal, that of the parent's climb)": frame 3 lies in document 2.
    ∷ small (Call.Open nested 2) (no5 1) (nested ∷ [])
    ∷ small (Call.Navigate nested 3) (no5 0) (nested ∷ [])
    ∷ small (Call.Drop nested 3) (no5 1) (nested ∷ [])
    ∷ small (Call.Drop nested 1) (no5 0) (nested ∷ [])
    -- "no row left (Navigate: after removal; Load: n above C)"
    ∷ small (Call.Load (replicate 26 7) bytes_of_x) (no 7) (replicate 26 7 ∷ [])
    ∷ small (Call.LoadOld (replicate 26 7) old_bytes_of_x) (no 7) (replicate 26 7 ∷ [])
    -- "next document number, or for Open the next frame number, is 4294967295"
    ∷ small (Call.Open (next none 1) 0) (no 8) (next none 1 ∷ [])
    ∷ small (Call.Open (next 1 none) 0) (no 8) (next 1 none ∷ [])
    ∷ small (Call.Navigate (next none 1) 0) (no 8) (next none 1 ∷ [])
    ∷ small (Call.Navigate (next 1 none) 0) (ok 1) (holding 2 (row 0 0 none 0 ∷ row 1 0 none 1 ∷ []) 2 none ∷ [])
    -- "a lent answer buffer is too short"
    ∷ small (Call.Traverse (crossing 3 4) 0 (pos 2) (replicate 7 9)) (no 9) (crossing 3 4 ∷ replicate 7 9 ∷ [])
    ∷ small (Call.Lists (crossing 3 4) 0 (replicate 1 9) (replicate 2 9)) (no 9) (replicate 1 9 ∷ replicate 2 9 ∷ [])
    ∷ small (Call.Lists (crossing 3 4) 0 (replicate 2 9) (replicate 1 9)) (no 9) (replicate 2 9 ∷ replicate 1 9 ∷ [])
    ∷ small (Call.Outline X 0 (replicate 7 9)) (no 9) (replicate 7 9 ∷ [])
    ∷ []

pub smalls-hold : map (λ s. outcome s.call) smalls ≡ map (λ s. s.expected) smalls
unfolding some_below all_below count earliest latest sum tab gather in_record place is_frame with_flags climb root_at window_rows is_root step reach position steps climb_of hider_of visible
    opened tabbed gone without hide navigated renamed replaced show forward back_target row_before back walked reflagged traversed shown_doc change_row changes
    put table_of words_of written sound_table? sound? taken_list upcoming_list stretched outline_frame outline_of
    number docs_of shown_place parent_of contents saved_with body told_row told_rows row_for loaded from_save? old_body old_loaded old_table? from_old_save? refusals accepted ladder outcome flat_map
smalls-hold = refl

-- Two windows, by single calls (document 02, L10).
abbrev pub windowed : List Small
windowed =
    -- "Opening a window appends a root row with new numbers", and "gives 1, 2, 7 and 8": in this order.
    small (Call.Tab (next 1 1)) (Answer.gives (1 ∷ 1 ∷ [])) (holding 2 (row 0 0 none 1 ∷ row 1 1 none 1 ∷ []) 2 2 ∷ [])
    ∷ small (Call.Tab (replicate 6 0)) (no 1) (replicate 6 0 ∷ [])
    ∷ small (Call.Tab nine) (no 2) (nine ∷ [])
    ∷ small (Call.Tab swapped) (no 7) (swapped ∷ [])
    ∷ small (Call.Tab (next none 1)) (no 8) (next none 1 ∷ [])
    ∷ small (Call.Tab (next 1 none)) (no 8) (next 1 none ∷ [])
    -- "S7, position, steps [..] per window": step 2 of window 0 is upcoming, step 3 of window 1 taken. As one window it is unsound, as P9 is.
    ∷ small (Call.Position (pair 0 3) 0) (at 0 1) []
    ∷ small (Call.Position (pair 0 3) 1) (at 1 1) []
    ∷ small (Call.Lists (pair 0 3) 0 (9 ∷ []) (9 ∷ [])) (Answer.gives (0 ∷ 1 ∷ [])) ((9 ∷ []) ∷ (2 ∷ []) ∷ [])
    ∷ small (Call.Lists (pair 0 3) 1 (9 ∷ []) (9 ∷ [])) (Answer.gives (1 ∷ 0 ∷ [])) ((3 ∷ []) ∷ (9 ∷ []) ∷ [])
    ∷ small (Call.Outline (pair 0 1) 0 (replicate 4 9)) (ok 1) ((0 ∷ 0 ∷ 9 ∷ 9 ∷ []) ∷ [])
    ∷ small (Call.Outline (pair 0 1) 1 (replicate 4 9)) (ok 2) ((0 ∷ 1 ∷ 1 ∷ 4 ∷ []) ∷ [])
    ∷ small (Call.Traverse (pair 0 3) 1 (neg_ℤ (pos 1)) room) (ok 1) (pair 0 1 ∷ (1 ∷ 3 ∷ 1 ∷ 1 ∷ []) ∷ [])
    ∷ small (Call.Traverse (pair 0 3) 0 (pos 1) room) (ok 1) (pair 2 3 ∷ (0 ∷ 0 ∷ 2 ∷ 1 ∷ []) ∷ [])
    ∷ small (Call.Traverse (pair 0 3) 1 (pos 1) room) (no 6) (pair 0 3 ∷ room ∷ [])
    -- "The saved layout is unchanged; new-form loading follows the wider S5, old-form loading the narrow one."
    ∷ small (Call.Save (pair 0 3) (replicate 100 7)) (ok 100) (bytes_of_pair ∷ [])
    ∷ small (Call.Load (replicate 23 7) bytes_of_pair) (ok 5) (pair 0 3 ∷ [])
    ∷ small (Call.LoadOld (replicate 23 7) old_bytes_of_pair) (no 3) (replicate 23 7 ∷ [])
    -- "13 when no root frame has that number, after 2": before 6 and 9, of a frame beneath and of no frame.
    ∷ small (Call.Position X 1) (no 13) []
    ∷ small (Call.Position nine 9) (no 2) []
    ∷ small (Call.Position (replicate 6 0) 9) (no 1) []
    ∷ small (Call.Traverse nine 9 (pos 0) []) (no 2) (nine ∷ [] ∷ [])
    ∷ small (Call.Traverse X 9 (pos 5) []) (no 13) (X ∷ [] ∷ [])
    ∷ small (Call.Lists nine 9 [] []) (no 2) ([] ∷ [] ∷ [])
    ∷ small (Call.Lists X 9 [] []) (no 13) ([] ∷ [] ∷ [])
    ∷ small (Call.Outline nine 9 []) (no 2) ([] ∷ [])
    ∷ small (Call.Outline X 1 []) (no 13) ([] ∷ [])
    -- The root frame is the one without a parent, whatever its number.
    ∷ small (Call.Position swapped 1) (at 0 0) []
    ∷ small (Call.Position swapped 0) (no 13) []
    ∷ []

pub windowed-hold : map (λ s. outcome s.call) windowed ≡ map (λ s. s.expected) windowed
unfolding some_below all_below count earliest latest sum tab gather in_record place is_frame with_flags climb root_at window_rows is_root step reach position steps
    opened tabbed show forward back_target row_before back walked reflagged traversed shown_doc change_row changes visible hider_of climb_of
    put table_of words_of written sound_table? sound? taken_list upcoming_list outline_frame outline_of
    number docs_of shown_place parent_of contents saved_with body told_row told_rows row_for loaded from_save? old_body old_loaded old_table? from_old_save? refusals accepted ladder outcome flat_map
windowed-hold = refl

-- CONTENTS (document 02, L8)

-- Bytes with these contents, F told to be so many, and bodies of so many bytes. All numbers that Contents has no use for are sevens.
abbrev line : ℕ → ℕ → List ℕ
line m shown = replicate 8 7 ++ (number m ++ number shown)

abbrev telling : ℕ → List (List ℕ) → ℕ → List ℕ
telling frames lines rest = number frames ++ (replicate 8 7 ++ (flat_map (λ l. l) lines ++ replicate rest 7))

abbrev stands_at : ℕ → ℕ → Answer
stands_at p s = Answer.gives (p ∷ s ∷ [])

abbrev pub greyed : List Small
greyed =
    -- "On bytes that loading accepts, old or new form, the answer equals the position and steps of the loaded record": X, P1; Fresh; a document replaced.
    small (Call.Contents bytes_of_x) (stands_at 1 2) []
    ∷ small (Call.ContentsOld old_bytes_of_x) (stands_at 1 2) []
    ∷ small (Call.Contents fresh_bytes) (stands_at 0 0) []
    ∷ small (Call.ContentsOld old_fresh_bytes) (stands_at 0 0) []
    ∷ small (Call.Contents bytes_of_renewed) (stands_at 0 1) []
    -- "Contents answers are sums over all windows" (L10): 0 of 1 and 1 of 1.
    ∷ small (Call.Contents bytes_of_pair) (stands_at 1 2) []
    -- "position is the sum of the shown places, steps the sum of m - 1"
    ∷ small (Call.Contents (telling 3 (line 4 2 ∷ line 1 0 ∷ line 5 4 ∷ []) 80)) (stands_at 6 7) []
    -- "no byte after the contents has any effect": bodies that loading refuses.
    ∷ small (Call.Contents (falling_at 0 2 1)) (stands_at 0 2) []
    ∷ small (Call.ContentsOld old_bytes_of_pair) (stands_at 1 2) []
    -- "The caller names the form." "the length is not the form's": that of the other; one byte or one entry more or less.
    ∷ small (Call.Contents old_bytes_of_x) (no 3) []
    ∷ small (Call.ContentsOld bytes_of_x) (no 3) []
    ∷ small (Call.Contents (telling 1 (line 3 1 ∷ []) 24)) (stands_at 1 2) []
    ∷ small (Call.Contents (telling 1 (line 3 1 ∷ []) 25)) (no 3) []
    ∷ small (Call.Contents (telling 1 (line 3 1 ∷ []) 23)) (no 3) []
    ∷ small (Call.Contents (telling 1 (line 3 1 ∷ []) 32)) (no 3) []
    ∷ small (Call.ContentsOld (telling 1 (line 3 1 ∷ []) 12)) (stands_at 1 2) []
    ∷ small (Call.ContentsOld (telling 1 (line 3 1 ∷ []) 8)) (no 3) []
    -- "there is no frame"
    ∷ small (Call.Contents []) (no 3) []
    ∷ small (Call.ContentsOld []) (no 3) []
    ∷ small (Call.Contents (telling 0 [] 0)) (no 3) []
    ∷ small (Call.ContentsOld (telling 0 [] 0)) (no 3) []
    -- "the contents don't fit": a number alone; no line, of so many frames that 12 + 16F is 12 in 32 bits; as many as there can be.
    ∷ small (Call.Contents (number 1)) (no 3) []
    ∷ small (Call.Contents (telling 268435456 [] 0)) (no 3) []
    ∷ small (Call.ContentsOld (telling none [] 0)) (no 3) []
    -- "a shown place is not below its m": equal to it, above it, of the first frame or the last, and of one without documents.
    ∷ small (Call.Contents (telling 1 (line 1 1 ∷ []) 8)) (no 3) []
    ∷ small (Call.ContentsOld (telling 2 (line 2 1 ∷ line 2 3 ∷ []) 16)) (no 3) []
    ∷ small (Call.Contents (telling 2 (line 2 2 ∷ line 2 0 ∷ []) 32)) (no 3) []
    ∷ small (Call.Contents (telling 2 (line 0 0 ∷ line 1 0 ∷ []) 8)) (no 3) []
    -- "the documents exceed 512", also where they do by so much that they are 1 in 32 bits.
    ∷ small (Call.ContentsOld (telling 2 (line 500 499 ∷ line 12 0 ∷ []) 2048)) (stands_at 499 510) []
    ∷ small (Call.ContentsOld (telling 2 (line 500 499 ∷ line 13 0 ∷ []) 2052)) (no 3) []
    ∷ small (Call.Contents (telling 2 (line none 0 ∷ line 2 0 ∷ []) 8)) (no 3) []
    ∷ []

pub greyed-hold : map (λ s. outcome s.call) greyed ≡ map (λ s. s.expected) greyed
unfolding some_below sum number position_in steps_in not_contents refusals accepted ladder outcome flat_map
greyed-hold = refl

-- "at most 512; words past 3 + 4C are neither read nor written": of 2056 words Fresh keeps the last five. A row by itself, since to compute so
-- many stores one by one takes long.
abbrev pub roomy : Small
roomy = small (Call.Fresh (replicate 2056 7)) (Answer.gives []) ((1 ∷ 1 ∷ 1 ∷ 0 ∷ 0 ∷ none ∷ 1 ∷ (replicate 2044 0 ++ replicate 5 7)) ∷ [])

-- Values put into a run from its start, and then what stood past them.
put_first : (old values : List ℕ) → length values ≤ length old → put old 0 values ≡ values ++ drop (length values) old
unfolding put
put_first old values h = rw zero-add at (sets-eq values old 0 (rw zero-add h))

pub roomy-holds : outcome roomy.call ≡ roomy.expected
unfolding table_of words_of written refusals accepted ladder outcome flat_map
roomy-holds = ap (λ run. record { answer = Answer.gives []; lent = run ∷ [] }) (put_first _ _ (omega arith))

-- SCROLL PLACES (document 02, L5)

-- The words of an entry, and of a store.
abbrev entry : ℕ → ℕ → ℕ → ℕ → List ℕ
entry d kind x y = d ∷ kind ∷ x ∷ y ∷ []

abbrev store : List (List ℕ) → List ℕ
store es = flat_map (λ e. e) es

-- The bits of -0, 0.1, 1.5, 3, -2 and 1e308, of the infinity and of a NaN.
abbrev minus_zero : ℕ
minus_zero = 9223372036854775808

abbrev tenth : ℕ
tenth = 4591870180066957722

abbrev one_half : ℕ
one_half = 4609434218613702656

abbrev three : ℕ
three = 4613937818241073152

abbrev minus_two : ℕ
minus_two = 13835058055282163712

abbrev huge : ℕ
huge = 9214871658872686752

abbrev endless : ℕ
endless = 9218868437227405312

abbrev odds : ℕ
odds = 9221120237041093308

-- The double of some bits, and the point of two.
abbrev dbl : ℕ → Float
dbl bits = of_bits binary64 bits

abbrev point : ℕ → ℕ → Place
point x y = Place.at (dbl x) (dbl y)

abbrev set : ℕ → Place → List (List ℕ) → Answer → List (List ℕ) → Small
set d place before answer after = small (Call.SetPlace X (store before) d place) answer (store after ∷ [])

abbrev ask : ℕ → List (List ℕ) → Answer → Small
ask d es answer = small (Call.AskPlace X (store es) d) answer []

abbrev zoomed : ℕ → Float → List (List ℕ) → Answer → Small
zoomed d zoom es answer = small (Call.AskAtZoom X (store es) d zoom) answer []

-- All three calls, with a zoom and a coordinate that is not finite: refused by k on that record and store.
abbrev all_no : ℕ → List ℕ → List ℕ → ℕ → List Small
all_no k words places d =
    small (Call.SetPlace words places d (Place.at nan (dbl three))) (no k) (places ∷ [])
    ∷ small (Call.AskPlace words places d) (no k) []
    ∷ small (Call.AskAtZoom words places d nan) (no k) [] ∷ []

-- Every entry is fine, none is free, and document 9 is not in X.
abbrev held : List (List ℕ)
held = entry 4 1 tenth three ∷ entry 9 1 huge tenth ∷ []

abbrev twice : List (List ℕ)
twice = entry 9 0 0 0 ∷ entry 9 1 tenth three ∷ []

abbrev pub scrolls : List Small
scrolls =
    -- "for each document", visible or not; "the same bits [..], negative zero included"; "the first free one", whatever it held.
    set 2 (point minus_zero one_half) (entry none 2 5 6 ∷ entry none 0 7 8 ∷ []) (Answer.gives []) (entry 2 1 minus_zero one_half ∷ entry none 0 7 8 ∷ [])
    ∷ ask 2 (entry 2 1 minus_zero one_half ∷ []) (Answer.gives (1 ∷ minus_zero ∷ one_half ∷ []))
    -- An entry of its own, though a free one stands before it.
    ∷ set 4 (point one_half tenth) (entry none 0 5 6 ∷ entry 4 0 endless odds ∷ []) (Answer.gives []) (entry none 0 5 6 ∷ entry 4 1 one_half tenth ∷ [])
    -- "kind 0 keeps the entry's doubles", whatever bits they are; "the first free one, for either kind".
    ∷ set 4 Place.itself (entry 4 1 tenth three ∷ []) (Answer.gives []) (entry 4 0 tenth three ∷ [])
    ∷ set 1 Place.itself (entry 0 0 endless odds ∷ entry none 1 odds endless ∷ []) (Answer.gives []) (entry 0 0 endless odds ∷ entry 1 0 odds endless ∷ [])
    -- "frees the entries of documents gone from the record": 9 is gone, 5 is upcoming and stays. "Freeing changes only the document".
    ∷ set 4 (point three tenth) (entry 5 1 tenth three ∷ held) (Answer.gives []) (entry 5 1 tenth three ∷ entry 4 1 three tenth ∷ entry none 1 huge tenth ∷ [])
    ∷ set 1 Place.itself held (Answer.gives []) (entry 4 1 tenth three ∷ entry 1 0 huge tenth ∷ [])
    -- "by their number alone": 4294967300 is 4 in 32 bits, and another number.
    ∷ set 4 Place.itself (entry 4294967300 1 tenth three ∷ entry none 0 5 6 ∷ []) (Answer.gives []) (entry 4 0 tenth three ∷ entry none 0 5 6 ∷ [])
    -- Words past the last whole entry.
    ∷ set 4 Place.itself (entry none 1 tenth three ∷ (4 ∷ 2 ∷ endless ∷ []) ∷ []) (Answer.gives []) (entry 4 0 tenth three ∷ (4 ∷ 2 ∷ endless ∷ []) ∷ [])
    -- "A document without an entry reads as 'the page places itself'", kind 0 likewise.
    ∷ ask 4 [] (ok 0)
    ∷ ask 4 ((4 ∷ 1 ∷ tenth ∷ []) ∷ []) (ok 0)
    ∷ ask 1 held (ok 0)
    ∷ ask 4 (entry 4 0 tenth three ∷ []) (ok 0)
    ∷ ask 4 (entry none 1 one_half one_half ∷ held) (Answer.gives (1 ∷ tenth ∷ three ∷ []))
    -- "each coordinate times the zoom, rounded once": 0.1 times 3 is one unit above 0.3; signs multiply, and a zoom of 0 is one.
    ∷ zoomed 4 (dbl three) held (Answer.gives (1 ∷ 4599075939470750516 ∷ 4621256167635550208 ∷ []))
    ∷ zoomed 4 (dbl minus_two) (entry 4 1 minus_zero tenth ∷ []) (Answer.gives (1 ∷ 0 ∷ 13819745816549104026 ∷ []))
    ∷ zoomed 4 (dbl 0) (entry 4 1 huge minus_two ∷ []) (Answer.gives (1 ∷ 0 ∷ minus_zero ∷ []))
    ∷ zoomed 1 (dbl three) held (ok 0)
    -- "15 [..] for a store whose entries not free hold a document twice", in the record or not, "a kind above 1", 4294967297 being 1 in 32 bits, "or a point not finite".
    ∷ ask 4 twice (no 15)
    ∷ set 4 Place.itself (entry 9 1 huge tenth ∷ entry 4 0 0 0 ∷ entry 4 0 0 0 ∷ []) (no 15) (entry 9 1 huge tenth ∷ entry 4 0 0 0 ∷ entry 4 0 0 0 ∷ [])
    ∷ ask 4 (entry 9 2 0 0 ∷ []) (no 15)
    ∷ ask 4 (entry 4 4294967297 0 0 ∷ []) (no 15)
    ∷ ask 4 (entry 9 1 endless 0 ∷ []) (no 15)
    ∷ ask 4 (entry 4 1 0 odds ∷ []) (no 15)
    -- Of a free entry, and of the doubles of kind 0, anything may stand.
    ∷ ask 4 (entry none 2 endless odds ∷ entry none 1 odds 0 ∷ entry 4 0 odds endless ∷ []) (ok 0)
    -- "11 for a given coordinate, zoom or product that is NaN or infinite", the zoom also where the page places itself. The entry of 9 is not freed.
    ∷ set 1 (Place.at nan (dbl three)) held (no 11) held
    ∷ set 1 (point three endless) held (no 11) held
    ∷ zoomed 4 nan held (no 11)
    ∷ zoomed 1 (dbl endless) held (no 11)
    ∷ zoomed 0 (dbl three) (entry 0 1 huge tenth ∷ []) (no 11)
    ∷ zoomed 0 (dbl minus_two) (entry 0 1 tenth huge ∷ []) (no 11)
    -- "12 when a new entry would find no room even after freeing"; an entry of its own needs none.
    ∷ set 1 Place.itself (entry 4 1 tenth three ∷ entry 5 0 0 0 ∷ []) (no 12) (entry 4 1 tenth three ∷ entry 5 0 0 0 ∷ [])
    ∷ set 1 (point three tenth) ((none ∷ 0 ∷ 0 ∷ []) ∷ []) (no 12) ((none ∷ 0 ∷ 0 ∷ []) ∷ [])
    -- Refused in this order: 1, 2, 15, 4, 11, 12. A free entry is of no document that could be asked for.
    ∷ (all_no 1 (replicate 6 0) (store twice) 9 ++ all_no 2 nine (store twice) 9 ++ all_no 15 X (store twice) 9 ++ all_no 4 X (entry none 1 tenth three) none
    ++ set 1 (Place.at nan (dbl three)) [] (no 11) [] ∷ [])

pub scrolls-hold : map (λ s. outcome s.call) scrolls ≡ map (λ s. s.expected) scrolls
unfolding some_below all_below count earliest tab in_record climb root_at step reach put table_of sound_table? sound? finite entry_of fine? place_of freed_to spot placed
    refusals accepted ladder outcome flat_map count_trailing_zeros span climbs size odd units round mul of_fields of_bits to_bits
scrolls-hold = refl
