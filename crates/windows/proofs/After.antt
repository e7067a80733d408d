-- The record that a traversal of a window leaves. Assumes nothing.
use Prim.Native.Nat.{ℕ, ◌≤◌}
use mathlib.Core.Bool.{false, So, cond}
use mathlib.Core.List.{List, [], ◌∷◌}
use mathlib.Core.Path.{◌≡◌, refl, sym, ap, subst, ◌∙◌}
use native.Mathlib.Omega.{arith}
use lib.Dec.{ltb}
use lib.IntN.{ℤ}
use lib.ListN.{length, get_or}
use borrow.Author.Tests.{ltb-false}
use Rattle.rules.specs.Rows.{none}
use Rattle.rules.specs.Windows.{is_root}
use Rattle.rules.specs.Moves.{reflagged, traversed}
use Rattle.rules.specs.Words.{capacity, table_of, rows_of, written}
use Rattle.rules.specs.Sound.{SoundTable}
use Rattle.rules.specs.Calls.{Call, Answer, beyond, window_in, outcome}
use Rattle.laws.proofs.Tests.{test}
use Rattle.laws.proofs.Flags.{flags-length}
use Rattle.laws.proofs.Tree.{sound-of}
use Rattle.laws.proofs.Words.{length-written, table-written, written-sound}
use Rattle.windows.proofs.Flagged.{traversed-sound}
use Rattle.windows.proofs.Answers.{Fit, fit_wide, Trip, twins-trip}

module _ (words : List ℕ) (f : Fit words) (r : ℕ) (δ : ℤ) where
  -- As many rows.
  many : length (traversed (table_of words) r δ).rows ≡ length (rows_of words)
  unfolding traversed reflagged
  many = flags-length _ (rows_of words)

  -- Read back it is the table.
  pub table-after : table_of (written words (traversed (table_of words) r δ)) ≡ traversed (table_of words) r δ
  table-after = let l = ltb-false (length words) 7 f.long in table-written words (traversed (table_of words) r δ) (omega arith) (omega (arith, many, f.sound.table.s1.fits))

  module _ (h : beyond (window_in words r).rows δ ≡ false) where
    sound-after : SoundTable (capacity words) (traversed (table_of words) r δ)
    unfolding traversed
    sound-after =
        let s = traversed-sound (table_of words) (fit_wide f) r δ h in
        let a = f.sound.table.s1 in
        sound-of (record { some = omega (arith, many, a.some); fits = omega (arith, many, a.fits) }) s.tree s.s6 s.s7

    pub fit-after : Fit (written words (traversed (table_of words) r δ))
    unfolding traversed
    fit-after =
        let l = ltb-false (length words) 7 f.long in
        record {
          long = ap (λ n. ltb n 7) (length-written words (traversed (table_of words) r δ)) ∙ f.long;
          sound = written-sound words (traversed (table_of words) r δ) (omega arith) sound-after;
          word = subst (λ t. t.next_doc ≤ none) (sym table-after) f.word;
        }

-- Whatever a traversal of a window of such a record leaves is such a record.
pub fit-left : (words : List ℕ) → Fit words → (r : ℕ) → So (is_root (rows_of words) r) → (δ : ℤ) (lent : List ℕ) (a : Answer) (left held : List ℕ) →
    outcome (Call.Traverse words r δ lent) ≡ record { answer = a; lent = left ∷ held ∷ [] } → Fit left
fit-left words f r root δ lent a left held told =
    let t : Trip r words words (record { one = f; other = f; root = root; rows_are = refl }) δ lent = twins-trip r words words _ δ lent in
    let e : left ≡ cond t.goes (written words (traversed (table_of words) r δ)) words = ap (λ l. get_or l 0 []) (ap (λ o. o.lent) (sym told) ∙ t.here) in
    subst Fit (sym e) (test t.goes (λ y. rw y (fit-after words f r δ (t.inside y))) (λ o. rw o f))
