-- A window of several, taken out: it stands alone, and it can be put back after a traversal. Assumes nothing.
use Prim.Native.Nat.{ℕ, ◌≤◌}
use mathlib.Core.Bool.{So}
use mathlib.Core.List.{List, [], ◌∷◌}
use mathlib.Core.Path.{◌≡◌, sym, ap, ◌∙◌}
use native.Mathlib.Omega.{arith}
use lib.IntN.{ℤ}
use lib.ListN.{get_or, replicate}
use Rattle.rules.specs.Rows.{none}
use Rattle.rules.specs.Windows.{is_root}
use Rattle.rules.specs.Words.{table_of, rows_of, written}
use Rattle.rules.specs.Calls.{Call, Answer, window_in, outcome}
use Rattle.laws.proofs.Calls.{refused-keeps}
use Rattle.reads.specs.Within.{Before}
use Rattle.windows.proofs.After.{fit-left}
use Rattle.sound.specs.Check.{Examined}
use Rattle.sound.proofs.Checks.{examined-fits}
use Rattle.extracts.proofs.Windowed.{own_root, own-twins}
use Rattle.extracts.proofs.Among.{stayed-among}

module _ (words : List ℕ) (e : Examined words) (word : (table_of words).next_doc ≤ none) (r : ℕ) (root : So (is_root (rows_of words) r)) (own : List ℕ) (is : own ≡ written (replicate 2051 0) (window_in words r)) where
  pub out-back : (δ : ℤ) (lent : List ℕ) (a : Answer) (new held : List ℕ) → outcome (Call.Traverse own r δ lent) ≡ record { answer = a; lent = new ∷ held ∷ [] } → Before words 0 × Before new 0
  out-back δ lent a new held told =
      let f = fit-left own (own-twins words e word r root own is).other r (own_root words e word r root own is) δ lent a new held told in
      (record { fits = examined-fits words e; upto = omega arith }, record { fits = f.sound.table.s1.fits; upto = omega arith })

  -- Where its own record refuses, so does the record, and every word lent stays.
  pub stays-among : (δ : ℤ) (lent new held : List ℕ) (k : ℕ) (vs : List ℕ) → outcome (Call.Traverse own r δ lent) ≡ record { answer = Answer.refuses k vs; lent = new ∷ held ∷ [] } →
      outcome (Call.Traverse words r δ lent) ≡ record { answer = Answer.refuses k vs; lent = words ∷ held ∷ [] }
  stays-among δ lent new held k vs told =
      let same : lent ≡ held = ap (λ l. get_or l 1 []) (sym (refused-keeps (Call.Traverse own r δ lent) k vs (ap (λ o. o.answer) told)) ∙ ap (λ o. o.lent) told) in
      stayed-among words e word r root own is δ lent new held k vs told ∙ ap (λ z. record { answer = Answer.refuses k vs; lent = words ∷ z ∷ [] }) same
