-- What the rows lent hold at the end, row by row: the law that Traverse over rows is Traverse over words. Assumes nothing.
use Prim.Native.Nat.{ℕ, ◌+◌, ◌*◌, ◌/◌}
use mathlib.Core.List.{List, [], ◌∷◌, ◌++◌, flat_map}
use mathlib.Core.Path.{◌≡◌, refl, sym, ap, ◌∙◌}
use native.Mathlib.Omega.{arith}
use lib.Dec.{eqb, ltb}
use lib.IntN.{ℤ}
use lib.ListN.{length, get_or, drop}
use lib.Seq.{sets-eq}
use borrow.Author.Tests.{ltb-true, ltb-false, lt-ltb}
use Rattle.rules.specs.Rows.{Row, Table}
use Rattle.rules.specs.Moves.{walked, frames, shown_doc, change_row, changes}
use Rattle.rules.specs.Words.{put}
use Rattle.rules.specs.Calls.{Call, Answer, too_short, window_in, refusals, accepted, outcome, NoneGiven}
use Rattle.laws.proofs.Tests.{test, same_tests}
use Rattle.laws.proofs.Calls.{by-ladder, outcome-accepted, outcome-refused, refused-keeps}
use Rattle.std.specs.Prelude.{Result}
use Rattle.base.specs.declared.Refusal.{Refusal}
use Rattle.traverses.specs.Answers.{traversed_is}
use Rattle.changes.specs.declared.ChangeRow.{ChangeRow}
use Rattle.changes.specs.Changes.{plain, change_in, changes_of}
use Rattle.changes.proofs.Filling.{length-plain, plain-append, plain-drop, plain-same}

plain_flat : (g : ℕ → List ChangeRow) (h : ℕ → List ℕ) → ((f : ℕ) → plain (g f) ≡ h f) → (xs : List ℕ) → plain (flat_map g xs) ≡ flat_map h xs
unfolding plain flat_map
plain_flat g h e [] = refl
plain_flat g h e (x ∷ xs) = plain-append (g x) (flat_map g xs) ∙ ap (λ l. l ++ plain (flat_map g xs)) (e x) ∙ ap (λ l. h x ++ l) (plain_flat g h e xs)

plain-change : (before after : List Row) (f : ℕ) → plain (change_in before after f) ≡ change_row before after f
unfolding plain change_in change_row
plain-change before after f = test (eqb (shown_doc before f) (shown_doc after f)) (λ t. rw t refl) (λ t. rw t refl)

-- The change rows as structs are the change rows as words.
pub plain-changes : (t : Table) (δ : ℤ) → plain (changes_of t δ) ≡ changes t δ
unfolding changes_of changes
plain-changes t δ = plain_flat _ _ (plain-change t.rows (walked δ t.rows)) (frames t)

changes-length : (t : Table) (δ : ℤ) → length (changes t δ) ≡ 4 * length (changes_of t δ)
changes-length t δ = ap length (sym (plain-changes t δ)) ∙ length-plain (changes_of t δ)

-- Refusal 9: fewer rows are lent than there are changes.
pub rows_short : (t : Table) (δ : ℤ) (rows : List ChangeRow) → too_short (plain rows) (changes t δ) ≡ ltb (length rows) (length (changes_of t δ))
rows_short t δ rows =
    let a = length-plain rows in
    let b = changes-length t δ in
    same_tests
    (λ h. let l = ltb-true (length (plain rows)) (length (changes t δ)) h in lt-ltb (length rows) (length (changes_of t δ)) (omega arith))
    (λ h. let l = ltb-true (length rows) (length (changes_of t δ)) h in lt-ltb (length (plain rows)) (length (changes t δ)) (omega arith))

-- The runs of an outcome.
abbrev run : ℕ → List (List ℕ) → List ℕ
run k runs = get_or runs k []

-- Traverse with the rows lent as words, and with the rows: the same answer, the same record, and row for row the same change rows.
pub row-for-row : (words words₁ words₂ room : List ℕ) (r : ℕ) (δ : ℤ) (rows rows' : List ChangeRow) (r₁ r₂ : Result ℕ Refusal) →
    outcome (Call.Traverse words r δ (plain rows)) ≡ record { answer = traversed_is r₁; lent = words₁ ∷ room ∷ [] } →
    outcome (Call.Traverse words r δ (plain rows)) ≡ record { answer = traversed_is r₂; lent = words₂ ∷ plain rows' ∷ [] } → (traversed_is r₁ ≡ traversed_is r₂) × (words₁ ≡ words₂) × (room ≡ plain rows')
row-for-row words words₁ words₂ room r δ rows rows' r₁ r₂ e f =
    let s = sym e ∙ f in
    (ap (λ z. z.answer) s, ap (λ z. run 0 z.lent) s, ap (λ z. run 1 z.lent) s)

-- What the promise of `traverse` says.
module _ (words words' : List ℕ) (r : ℕ) (δ : ℤ) (rows rows' : List ChangeRow) (a : Answer)
    (e : outcome (Call.Traverse words r δ (plain rows)) ≡ record { answer = a; lent = words' ∷ plain rows' ∷ [] }) where
  abbrev asked : Call
  asked = Call.Traverse words r δ (plain rows)

  -- A refusal changes neither words nor rows.
  pub rows-kept : (k : ℕ) (vs : List ℕ) → a ≡ Answer.refuses k vs → (words' ≡ words) × (rows' ≡ rows)
  rows-kept k vs e' =
      let s : words' ∷ plain rows' ∷ [] ≡ words ∷ plain rows ∷ [] = ap (λ z. z.lent) (sym e) ∙ refused-keeps asked k vs (ap (λ z. z.answer) e ∙ e') in
      (ap (run 0) s, plain-same rows' rows (ap (run 1) s))

  -- The answer n counts the change rows; the first n rows are these, and further rows keep what they held.
  pub rows_written : (n : ℕ) → a ≡ Answer.gives (n ∷ []) → (n ≡ length (changes_of (window_in words r) δ)) × (rows' ≡ changes_of (window_in words r) δ ++ drop n rows)
  unfolding refusals NoneGiven accepted put
  rows_written n g =
      let t = window_in words r in
      let h : NoneGiven (refusals asked) = by-ladder (refusals asked) (λ h. h) (λ k vs x.
      let f : Answer.refuses k vs ≡ Answer.gives (n ∷ []) = ap (λ z. z.answer) (sym (outcome-refused asked k vs x) ∙ e) ∙ g in
      absurd (let z : ◌≡◌ {A = ℕ} 0 1 = cc in omega arith)) in
      let s = sym (outcome-accepted asked h) ∙ e in
      let l = ltb-false (length (plain rows)) (length (changes t δ)) h.1.1.1.1.0 in
      let c = changes-length t δ in
      let m : Answer.gives (length (changes t δ) / 4 ∷ []) ≡ Answer.gives (n ∷ []) = ap (λ z. z.answer) s ∙ g in
      let p : length (changes t δ) / 4 ≡ n = cc in
      let q : n ≡ length (changes_of t δ) = omega arith in
      let w : put (plain rows) 0 (changes t δ) ≡ plain rows' = ap (λ z. run 1 z.lent) s in
      let v : 0 + length (changes t δ) ≡ 4 * n = omega arith in (
        q,
        plain-same rows' _ (sym w ∙ sets-eq (changes t δ) (plain rows) 0 (omega arith) ∙ ap (λ k. changes t δ ++ drop k (plain rows)) v ∙ ap (λ k. changes t δ ++ k) (plain-drop n rows)
            ∙ ap (λ k. k ++ plain (drop n rows)) (sym (plain-changes t δ)) ∙ sym (plain-append (changes_of t δ) (drop n rows))),
      )
