-- What an accepted Open, Navigate, Drop or Replace may rely on. Assumes nothing.
use Prim.Native.Nat.{ℕ, ◌≤◌, ◌<◌}
use mathlib.Core.List.{List}
use mathlib.Core.Logic.{◌≢◌}
use mathlib.Core.Bool.{Bool, true, false, ◌||◌, So}
use mathlib.Core.Path.{◌≡◌, refl}
use lib.ListN.{length}
use borrow.Author.Tests.{ltb-false, leb-false, eqb-false, not-false}
use Rattle.rules.specs.Rows.{none, in_record, place, is_frame}
use Rattle.rules.specs.Steps.{visible}
use Rattle.rules.specs.Windows.{root_at}
use Rattle.rules.specs.Moves.{cleared}
use Rattle.rules.specs.Words.{capacity, table_of, rows_of}
use Rattle.rules.specs.Sound.{Sound}
use Rattle.rules.specs.Saved.{parent_of}
use Rattle.rules.specs.Calls.{Call, refusals, NoneGiven}
use Rattle.laws.proofs.Tests.{clash}
use Rattle.laws.proofs.Reflect.{sound-is}

either : (a b : Bool) → (a || b) ≡ false → (a ≡ false) × (b ≡ false)
either true b e = absurd (clash refl e)
either false b e = (refl, e)

-- Under document p.
pub record Opens (words : List ℕ) (p : ℕ) : Type 0 where
  pub long : 7 ≤ length words
  pub sound : Sound words
  pub seen : So (visible (rows_of words) p)
  pub roomy : length (rows_of words) < capacity words
  pub doc : (table_of words).next_doc ≢ none
  pub frame : (table_of words).next_frame ≢ none

pub open-relies : (words : List ℕ) (p : ℕ) → NoneGiven (refusals (Call.Open words p)) → Opens words p
unfolding refusals NoneGiven
open-relies words p h =
    let f = either _ _ h.1.1.1.1.1.0 in
    record {
      long = ltb-false _ _ h.0;
      sound = (sound-is words).0 (not-false _ h.1.0);
      seen = not-false _ h.1.1.1.0;
      roomy = leb-false _ _ h.1.1.1.1.0;
      doc = eqb-false _ _ f.0;
      frame = eqb-false _ _ f.1;
    }

-- A window.
pub record Tabs (words : List ℕ) : Type 0 where
  pub long : 7 ≤ length words
  pub sound : Sound words
  pub roomy : length (rows_of words) < capacity words
  pub doc : (table_of words).next_doc ≢ none
  pub frame : (table_of words).next_frame ≢ none

pub tab-relies : (words : List ℕ) → NoneGiven (refusals (Call.Tab words)) → Tabs words
unfolding refusals NoneGiven
tab-relies words h =
    let f = either _ _ h.1.1.1.0 in
    record {
      long = ltb-false _ _ h.0;
      sound = (sound-is words).0 (not-false _ h.1.0);
      roomy = leb-false _ _ h.1.1.0;
      doc = eqb-false _ _ f.0;
      frame = eqb-false _ _ f.1;
    }

-- From document d.
pub record Navigates (words : List ℕ) (d : ℕ) : Type 0 where
  pub sound : Sound words
  pub seen : So (visible (rows_of words) d)
  pub roomy : length (cleared (root_at (rows_of words) (place (rows_of words) d)) (rows_of words)) < capacity words
  pub doc : (table_of words).next_doc ≢ none

pub navigate-relies : (words : List ℕ) (d : ℕ) → NoneGiven (refusals (Call.Navigate words d)) → Navigates words d
unfolding refusals NoneGiven
navigate-relies words d h =
    record {
      sound = (sound-is words).0 (not-false _ h.1.0);
      seen = not-false _ h.1.1.1.0;
      roomy = leb-false _ _ h.1.1.1.1.0;
      doc = eqb-false _ _ h.1.1.1.1.1.0;
    }

-- Of frame f.
pub record Drops (words : List ℕ) (f : ℕ) : Type 0 where
  pub long : 7 ≤ length words
  pub sound : Sound words
  pub there : So (is_frame (rows_of words) f)
  pub child : parent_of (rows_of words) f ≢ none
  pub seen : So (visible (rows_of words) (parent_of (rows_of words) f))

pub drop-relies : (words : List ℕ) (f : ℕ) → NoneGiven (refusals (Call.Drop words f)) → Drops words f
unfolding refusals NoneGiven
drop-relies words f h =
    record {
      long = ltb-false _ _ h.0;
      sound = (sound-is words).0 (not-false _ h.1.0);
      there = not-false _ h.1.1.0;
      child = eqb-false _ _ h.1.1.1.0;
      seen = not-false _ h.1.1.1.1.0;
    }

-- Of document d.
pub record Replaces (words : List ℕ) (d : ℕ) : Type 0 where
  pub long : 7 ≤ length words
  pub sound : Sound words
  pub there : So (in_record (rows_of words) d)
  pub seen : So (visible (rows_of words) d)
  pub doc : (table_of words).next_doc ≢ none

pub replace-relies : (words : List ℕ) (d : ℕ) → NoneGiven (refusals (Call.Replace words d)) → Replaces words d
unfolding refusals NoneGiven
replace-relies words d h =
    record {
      long = ltb-false _ _ h.0;
      sound = (sound-is words).0 (not-false _ h.1.0);
      there = not-false _ h.1.1.0;
      seen = not-false _ h.1.1.1.0;
      doc = eqb-false _ _ h.1.1.1.1.0;
    }
