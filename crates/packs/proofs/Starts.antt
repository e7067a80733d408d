-- How the loop of a removal begins: before the first row that passes. Assumes nothing.
use Prim.Native.Nat.{ℕ, ◌<◌}
use mathlib.Core.Bool.{Bool, So}
use mathlib.Core.List.{List}
use mathlib.Core.Logic.{inl, inr, ⊎_elim}
use mathlib.Core.Path.{refl}
use lib.Dec.{eqb}
use borrow.Author.Tests.{eqb-true}
use Rattle.rules.specs.Below.{some_below}
use Rattle.rules.specs.Rows.{Row, none, is_doc}
use Rattle.rules.specs.Words.{rows_of}
use Rattle.laws.proofs.Tests.{or_cases, some_out}
use Rattle.laws.proofs.Climb.{gone-self}
use Rattle.laws.proofs.Removal.{stays}
use Rattle.packs.specs.Packing.{doc_kept, Begins}
use Rattle.packs.specs.declared.Keeping.{Keeping}
use Rattle.packs.proofs.Packed.{packed-starts}
use Rattle.packs.proofs.Stays.{early-stays}
use Rattle.packs.proofs.Known.{StaysBefore, Turned}

module _ (q : ℕ → Bool) (old : List ℕ) (kept : Keeping) (begins : Begins q (rows_of old) kept) where
  abbrev rows : List Row
  rows = rows_of old

  early : (i : ℕ) → i < kept.rows → So (stays q rows i)
  early = early-stays q rows kept.rows begins.early

  held : StaysBefore q rows kept.rows kept.found.0
  unfolding doc_kept
  held =
      ⊎_elim (λ z. inl (eqb-true _ _ z)) (λ s. let o = some_out (is_doc rows kept.found.0) kept.rows s in inr (o.0, o.1, early o.0 o.1, eqb-true _ _ o.2))
      (or_cases (eqb kept.found.0 none) (some_below kept.rows (is_doc rows kept.found.0)) begins.found-is)

  pub turn-start : Turned q old kept.rows kept old
  turn-start =
      record {
        packed = packed-starts (stays q rows) old kept.rows begins.few early;
        found-is = held;
        missed-is = (begins.missed-some, λ i l e. rw (gone-self q rows i (begins.missed-goes i l e)) refl);
      }
