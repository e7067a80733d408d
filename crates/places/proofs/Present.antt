-- Documents of a sound record. Assumes nothing.
use Prim.Native.Nat.{ℕ, ◌≤◌, ◌<◌}
use mathlib.Core.Bool.{false, So}
use mathlib.Core.List.{List}
use mathlib.Core.Path.{◌≡◌, sym, ap, ◌∙◌}
use native.Mathlib.Omega.{arith}
use lib.ListN.{length, get_or}
use mir.Syntax.{w32}
use mir.Val.{Fits}
use Rattle.base.specs.declared.RowPlace.{RowPlace}
use Rattle.rules.specs.Below.{some_below}
use Rattle.rules.specs.Rows.{none, is_doc, in_record}
use Rattle.rules.specs.Words.{table_of, rows_of}
use Rattle.rules.specs.Places.{fine?}
use Rattle.rules.specs.Calls.{Call, refusals, NoneGiven}
use Rattle.laws.proofs.Tests.{off}
use Rattle.laws.proofs.Stores.{document-below, none-absent}
use Rattle.laws.proofs.Words.{next-doc-in}
use Rattle.reads.specs.Found.{found_below}
use Rattle.std.specs.Prelude.{Option}
use Rattle.std.specs.Option.{is_some}
use Rattle.reads.proofs.Scans.{found-told}
use Rattle.rows.specs.Readable.{readable_rows}
use Rattle.rows.proofs.Readable.{readable-rows}
use Rattle.sound.specs.Check.{Examined}
use Rattle.sound.proofs.Checks.{examined-sound, examined-fits}
use Rattle.places.proofs.Judged.{told-examined, told-fine, told-there}

-- `word` is what a slice of 32-bit words tells of its second.
module _ (words : List ℕ) (e : Examined words) (word : Fits w32 (get_or words 1 0)) where
  numbered : (table_of words).next_doc ≤ none
  numbered = omega (arith, next-doc-in words)

  below : (d : ℕ) → So (in_record (rows_of words) d) → d < (table_of words).next_doc
  below = document-below (examined-sound words e).table numbered

  pub present-proper : (d : ℕ) → So (in_record (rows_of words) d) → d < none
  present-proper d s = omega (arith, below d s, numbered)

  -- "It is never a document": of 4294967295.
  pub none-lost : in_record (rows_of words) none ≡ false
  none-lost = none-absent (examined-sound words e).table numbered

  pub high-absent : (top d w : ℕ) → top ≡ (table_of words).next_doc → w ≡ top → w ≤ d → false ≡ in_record (rows_of words) d
  high-absent top d w t same l = sym (off (in_record (rows_of words) d) (λ s. omega (arith, below d s)))

module _ (words : List ℕ) (e : Examined words) (d : ℕ) (f : Option RowPlace) (scan : f ≡ found_below (is_doc (readable_rows words) d) (length (readable_rows words))) where
  there : some_below (length (readable_rows words)) (is_doc (readable_rows words) d) ≡ in_record (rows_of words) d
  unfolding in_record
  there = ap (λ rows. some_below (length rows) (is_doc rows d)) (readable-rows words (examined-fits words e))

  pub found-present : is_some f ≡ in_record (rows_of words) d
  found-present = found-told (is_doc (readable_rows words) d) (length (readable_rows words)) f scan ∙ there

-- A document that is asked for, if none of the refusals is given: the store passes, and the document has an entry's number.
pub asked-for : (words places : List ℕ) (d : ℕ) → Fits w32 (get_or words 1 0) → NoneGiven (refusals (Call.AskPlace words places d)) → So (fine? places) × (d < none)
asked-for words places d word h = (told-fine words places d h, present-proper words (told-examined words places d h) word d (told-there words places d h))
