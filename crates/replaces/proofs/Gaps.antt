-- The removal of what is beneath a document: how it begins. Assumes nothing.
use Prim.Native.Nat.{ℕ, ◌+◌, ◌≤◌, ◌<◌}
use mathlib.Core.List.{List}
use mathlib.Core.Logic.{◌≢◌}
use mathlib.Core.Path.{◌≡◌, sym, ◌∙◌}
use native.Mathlib.Omega.{arith}
use lib.Dec.{eqb}
use lib.ListN.{length}
use borrow.Author.Tests.{eq-eqb, ne_eqb}
use Rattle.base.specs.declared.DocNo.{DocNo}
use Rattle.rules.specs.Rows.{Row, none, doc_at, parent_at, is_doc}
use Rattle.rules.specs.Moves.{is_child}
use Rattle.rules.specs.Words.{table_of, rows_of}
use Rattle.rules.specs.Sound.{Sound}
use Rattle.laws.proofs.Tests.{or_right, some_in}
use Rattle.laws.proofs.Tree.{TreeOf, tree_of, parent-earlier}
use Rattle.packs.specs.Packing.{doc_kept, Begins}

module _ (old : List ℕ) (sound : Sound old) (word : (table_of old).next_doc ≤ none) (unused : (table_of old).next_doc ≢ none) (p : ℕ) (inside : p < length (rows_of old)) (d m : DocNo)
    (there : doc_at (rows_of old) p ≡ d.0) (next : m.0 ≡ (table_of old).next_doc) where
  abbrev rows : List Row
  rows = rows_of old

  tree : TreeOf rows (table_of old).next_doc (table_of old).next_frame
  tree = tree_of sound.table word

  -- After the document's own row: no row up to it is beneath the document, which it holds, and no row holds the next number.
  pub gaps-begin : Begins (is_child rows d.0) rows (record { rows = p + 1; found = d; missed = m })
  unfolding doc_kept
  gaps-begin =
      record {
        few = omega (arith, inside);
        early = λ i l. ne_eqb (parent_at rows i) d.0 (λ e. let b = parent-earlier tree p i inside (omega (arith, inside)) (there ∙ sym e) in omega (arith, b));
        found-is = or_right (eqb d.0 none) (some_in (is_doc rows d.0) (p + 1) (omega arith) (eq-eqb _ _ there));
        missed-some = λ z. unused (sym next ∙ z);
        missed-goes = λ i l q. absurd (omega (arith, tree.below i l, q, next));
      }
