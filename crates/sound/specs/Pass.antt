-- What the pass of the test has seen. Definitions.
use Rattle.std.specs.Prelude.{ℕ, ◌+◌, ◌≤◌, ◌<◌, Bool, true, false, not, ◌||◌, List, Option, None, Some, ◌≡◌, eqb, ltb, length}
use Rattle.std.proofs.Math.Bool.{So}
use Rattle.base.specs.declared.RowPlace.{RowPlace}
use Rattle.rules.specs.Below.{some_below, all_below, count, earliest, latest}
use Rattle.rules.specs.Rows.{Row, none, frame_at, parent_at, shown_at, is_shown, is_doc}
use Rattle.rules.specs.Moves.{row_before}
use Rattle.rules.specs.Steps.{is_step}
use Rattle.reads.specs.Under.{Under}
use Rattle.sound.specs.Quick.{comes, quiet, begins, linked}
use Rattle.sound.specs.declared.Pass.{Pass}

-- p tells of the rows before i.
pub record Passed (rows : List Row) (i : ℕ) (p : Pass) : Type 0 where
  pub late_is : p.late ≡ some_below i (comes rows)
  pub broken-is : p.broken ≡ some_below i (λ k. not (quiet rows k))
  pub shown-are : p.shown ≡ count (is_shown rows) i
  pub frames-are : p.frames ≡ count (λ k. not (is_step rows k)) i
  pub several-is : p.several ≡ ltb 1 (count (begins rows) i)
  pub some-root : 1 ≤ count (begins rows) i
  pub few-shown : p.shown ≤ i
  pub few-frames : p.frames ≤ i
  pub under : Under (frame_at rows) i p.high.0
  pub known_is : some_below i (is_doc rows p.known.0) ≡ true
  pub upcoming-is : p.late ≡ true → p.upcoming.0 ≡ earliest (comes rows) i
  pub begun-is : p.late ≡ true → p.begun ≡ count (λ k. not (is_step rows k)) (earliest (comes rows) i)
  pub last-is : p.last.0 ≡ latest (is_step rows) (earliest (comes rows) i)

-- So far all rows are linked, and the flag of row i is 0 or 1.
pub record Onward (rows : List Row) (i : ℕ) (p : Pass) : Type 0 where
  pub passed : Passed rows i p
  pub links : all_below i (linked rows) ≡ true
  pub bit : shown_at rows i ≤ 1

-- Where row i begins a frame: beneath `known`, which an earlier row holds, or it has no parent, and then there are several root frames and the document found last stays.
pub record Opens (rows : List Row) (i : ℕ) (several : Bool) (known : ℕ) (p : Pass) : Type 0 where
  pub several-is : several ≡ (p.several || eqb (parent_at rows i) none)
  pub known_is : some_below i (is_doc rows known) ≡ true

-- Row i is a step, and j is the row before it in its frame.
pub record StepAfter (rows : List Row) (i j : ℕ) : Type 0 where
  pub step : So (is_step rows i)
  pub prior : j ≡ row_before rows i
  pub lower : j < i

-- The test whose answer by definition is b fails, or it holds, and the pass tells of the rows before i.
abbrev pub TellsTo : List Row → ℕ → Bool → Option Pass → Type 0
TellsTo rows i b None = b ≡ false
TellsTo rows i b (Some p) = (b ≡ true) × Passed rows i p

-- The same of all rows.
abbrev pub Tells : List Row → Bool → Option Pass → Type 0
Tells rows = TellsTo rows (length rows)

-- The pass with a step more whose flag is s, once some are upcoming: the first at this place, and so many frames had begun before it.
abbrev pub late_of : ℕ → RowPlace → ℕ → Pass → Pass
late_of s upcoming begun p =
    record {
      late = true;
      broken = p.broken || not (eqb s 0);
      several = p.several;
      shown = p.shown + s;
      frames = p.frames;
      high = p.high;
      known = p.known;
      upcoming = upcoming;
      begun = begun;
      last = p.last;
    }
