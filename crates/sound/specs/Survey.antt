-- Refusals 1 and 2, or where the window stands, or that there are several. Definitions.
use Rattle.std.specs.Prelude.{ℕ, ◌-◌, Bool, cond, List, Result, ◌≡◌, eqb, length}
use Rattle.std.proofs.Math.Bool.{So}
use Rattle.base.specs.declared.Refusal.{Refusal}
use Rattle.rules.specs.Below.{count, earliest, latest}
use Rattle.rules.specs.Rows.{Row}
use Rattle.rules.specs.Steps.{taken, upcoming, position, steps}
use Rattle.rules.specs.Words.{rows_of}
use Rattle.sound.specs.Quick.{begins}
use Rattle.sound.specs.Check.{checked, Examined}
use Rattle.sound.specs.declared.Stand.{Stand}
use Rattle.sound.specs.declared.Windows.{Windows}
use Rattle.sound.specs.declared.Windows.TheVariants.{One, Several}

-- The frames, each of which has one row that is no step; the steps, the position, the earliest upcoming step and the latest taken one.
abbrev pub stand_of : List Row → Stand
stand_of rows =
    record {
      frames = length rows - steps rows;
      steps = steps rows;
      position = position rows;
      upcoming = record { 0 = earliest (upcoming rows) (length rows) };
      last = record { 0 = latest (taken rows) (length rows) };
    }

-- One row begins a window.
abbrev pub alone? : List Row → Bool
alone? rows = eqb (count (begins rows) (length rows)) 1

-- The one window, where it stands, or that there are several.
abbrev pub windows_of : List Row → Windows
windows_of rows = cond (alone? rows) (One (stand_of rows)) Several

abbrev pub survey_of : List ℕ → Result Windows Refusal
survey_of words = checked (windows_of (rows_of words)) words

-- The record is sound and has one window, which stands so.
pub record Located (words : List ℕ) (s : Stand) : Type 0 where
  pub examined : Examined words
  pub alone : So (alone? (rows_of words))
  pub stand-is : s ≡ stand_of (rows_of words)
