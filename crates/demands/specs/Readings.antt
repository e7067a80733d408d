-- "Readings that look right": claims that are false, and beside two of them the one that holds instead.
use Rattle.std.specs.Prelude.{ℕ, ◌≤◌, ◌<◌, List, [], ◌∷◌, ◌++◌, ◌⊎◌, Bool, ◌&&◌, ◌≡◌, pos, neg_ℤ, length}
use Rattle.std.proofs.Math.Bool.{So}
use Rattle.rules.specs.Below.{gather}
use Rattle.rules.specs.Rows.{Row, Table, none, doc_at, frame_at, parent_at, is_shown, in_frame, place}
use Rattle.rules.specs.Steps.{upcoming, position, visible}
use Rattle.rules.specs.Windows.{window_rows, is_root}
use Rattle.rules.specs.Moves.{without, hide, back}
use Rattle.rules.specs.Words.{rows_of}
use Rattle.rules.specs.Sound.{S7, SoundTable, Sound}
use Rattle.rules.specs.Runs.{Move, on, after}
use Rattle.demands.specs.Record.{Words32, Accepted}
use Rattle.demands.specs.Windows.{window_of_doc}
use Rattle.demands.specs.Model.{History, Future, FA, JointPast, NextBefore, traversing_to, Same}
use Rattle.demands.specs.Follows.{of_rows}
use Rattle.demands.specs.Note.{NoneBelow, TakenStay, NoneReplaced, MayFollow, AllVisibleAgain, VisibleAgain}

-- The shown set.
abbrev pub shown_set : List Row → List ℕ
shown_set rows = gather (is_shown rows) (doc_at rows) (length rows)

-- "Claiming that Navigate then -1 restores the shown set, as 000's conjecture 2 does": -1 in the window that was navigated in.
abbrev pub BackRestoresShown : Type 0
BackRestoresShown =
    (words : List ℕ) (d : ℕ) (room : List ℕ) → Words32 words → Sound words →
    Accepted (on words (Move.navigates d)) →
    Accepted (on (after words (Move.navigates d)) (Move.goes (window_of_doc words d) (neg_ℤ (pos 1)) room)) →
    shown_set (rows_of (after (after words (Move.navigates d)) (Move.goes (window_of_doc words d) (neg_ℤ (pos 1)) room))) ≡ shown_set (rows_of words)

-- "P11 shows a shown document deleted; the visible set does return." This one is true, and of all windows.
abbrev pub BackRestoresVisible : Type 0
BackRestoresVisible =
    (words : List ℕ) (d : ℕ) (room : List ℕ) → Words32 words → Sound words →
    Accepted (on words (Move.navigates d)) →
    Accepted (on (after words (Move.navigates d)) (Move.goes (window_of_doc words d) (neg_ℤ (pos 1)) room)) →
    (e : ℕ) → visible (rows_of (after (after words (Move.navigates d)) (Move.goes (window_of_doc words d) (neg_ℤ (pos 1)) room))) e ≡ visible (rows_of words) e

-- Navigate as 001's definition 2 has it, before patch 4: "deleting the session future of d, and then replacing d by d'".
abbrev pub unpatched : Table → ℕ → List Row
unpatched t d =
    let own : ℕ → Bool = λ i. upcoming t.rows i && in_frame t.rows (frame_at t.rows (place t.rows d)) i in
    hide d (without own t.rows)
    ++ record { doc = t.next_doc; frame = frame_at t.rows (place t.rows d); parent = parent_at t.rows (place t.rows d); shown = 1 } ∷ []

-- "Clearing only the navigated frame's future": that it keeps S7.
abbrev pub OwnFutureEnough : Type 0
OwnFutureEnough = (room : ℕ) (t : Table) (d : ℕ) → SoundTable room t → So (visible t.rows d) → S7 (unpatched t d)

-- "Counting only visible documents' futures", 001 before patch 2, "the joint session future is {e | ∃ d ∈ FA : d ≲ e}": that every upcoming step
-- is in it.
abbrev pub VisibleFuturesEnough : Type 0
VisibleFuturesEnough =
    (room : ℕ) (t : Table) (r i : ℕ) → SoundTable room t → i < length (window_rows r t.rows) → So (upcoming (window_rows r t.rows) i) →
    (d : ℕ) × FA (of_rows (window_rows r t.rows)) d × Future (of_rows (window_rows r t.rows)) d (doc_at (window_rows r t.rows) i)

-- That Back of a window, wherever a step is taken, is "H traverses the history by -1 to H'" in a reading of that. In the model's own, `Backward 1`, it is.
abbrev pub BackIs : (History → History → Type 0) → Type 0
BackIs reading =
    (room : ℕ) (t : Table) (r : ℕ) → SoundTable room t → t.next_doc ≤ none → 1 ≤ position (window_rows r t.rows) →
    reading (of_rows (window_rows r t.rows)) (of_rows (back (window_rows r t.rows)))

-- d is the d₁ of "d₁ > ⋯ > d_δ > ⋯".
abbrev pub Latest : History → (ℕ → Type 0) → ℕ → Type 0
Latest H P d = P d × ((e : ℕ) → P e → H.le e d)

-- "Going back to the latest document of the past, rather than from the latest shown one", 001 before patch 3.
abbrev pub ToLatestPast : History → History → Type 0
ToLatestPast H K = (d : ℕ) × Latest H (JointPast H) d × Same (traversing_to H d) K

-- Patch 3's list as 001 has it, "the joint session past and active documents", those that can't go back among them.
abbrev pub FromLatestOfAll : History → History → Type 0
FromLatestOfAll H K = (d' d : ℕ) × Latest H (λ e. JointPast H e ⊎ H.A e) d' × NextBefore H d' d × Same (traversing_to H d) K

-- To the first document of a session instead of the one next before.
abbrev pub ToFirst : History → History → Type 0
ToFirst H K = (d' d : ℕ) × Future H d d' × ((e : ℕ) → Future H e d' → H.le d e) × Same (traversing_to H d) K

-- Demand 3 after any drops: that the documents still in the record are visible as noted, though a step of the noted position is gone.
abbrev pub AnyDrop : Type 0
AnyDrop =
    (words : List ℕ) (r : ℕ) (moves : List Move) → Words32 words → Sound words → So (is_root (rows_of words) r) →
    NoneBelow words r moves → NoneReplaced words r moves → VisibleAgain words r moves

-- Demand 3 after any replacements: that the documents still in the record are visible as noted, though one that existed at the note was replaced.
abbrev pub AnyReplacement : Type 0
AnyReplacement =
    (words : List ℕ) (r : ℕ) (moves : List Move) → Words32 words → Sound words → So (is_root (rows_of words) r) →
    NoneBelow words r moves → TakenStay words r moves → VisibleAgain words r moves

-- Demand 3 of documents that went with a frame: that they are visible as noted.
abbrev pub GoneAsNoted : Type 0
GoneAsNoted =
    (words : List ℕ) (r : ℕ) (moves : List Move) → Words32 words → Sound words → So (is_root (rows_of words) r) → MayFollow words r moves → AllVisibleAgain words r moves
