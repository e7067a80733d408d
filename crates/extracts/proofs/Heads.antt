-- Root frames: what the tests of a row tell, and of a record of one window which frame is one. Assumes nothing.
use Prim.Native.Nat.{ℕ, ◌<◌}
use mathlib.Core.Bool.{and-eq-true_iff, false}
use mathlib.Core.List.{List}
use mathlib.Core.Logic.{⊎_elim}
use mathlib.Core.Path.{◌≡◌, ◌∙◌, refl}
use native.Mathlib.Nat.{not-suc-le-zero}
use native.Mathlib.Omega.{arith}
use lib.Dec.{eqb}
use lib.ListN.{length}
use borrow.Author.Tests.{eqb-true, eq-eqb}
use Rattle.rules.specs.Rows.{none, frame_at, parent_at}
use Rattle.rules.specs.Windows.{is_root}
use Rattle.rules.specs.Words.{rows_of}
use Rattle.laws.proofs.Tests.{same_tests, some_in, some_out}
use Rattle.laws.proofs.Loops.{earliest-in}
use Rattle.reads.specs.Within.{Within}
use Rattle.sound.specs.Check.{Examined}
use Rattle.sound.specs.Survey.{Located}
use Rattle.sound.specs.declared.Stand.{Stand}
use Rattle.sound.proofs.Checks.{examined-sound, examined-fits}
use Rattle.sound.proofs.Alone.{alone-root}
use Rattle.extracts.specs.Windows.{heads, other_root, FirstOther}

-- A row of an examined record may be read.
pub row-within : (words : List ℕ) → Examined words → (n i k : ℕ) → n ≡ length (rows_of words) → k < n → i ≡ k → Within words i
row-within words e n i k h l q = record { fits = examined-fits words e; below = omega arith }

-- The first row of a sound record has no parent.
pub first-top : (words : List ℕ) → Examined words → parent_at (rows_of words) 0 ≡ none
first-top words e =
    let t = (examined-sound words e).table in
    let some = t.s1.some in
    ⊎_elim (λ z. z) (λ r. absurd (let l = r.1 in omega arith)) (t.s4.placed 0 (omega arith))

-- Where that is of another frame, it is the first row of another root frame.
pub first-zero : (words : List ℕ) → Examined words → (r : ℕ) → eqb (frame_at (rows_of words) 0) r ≡ false → FirstOther (rows_of words) r 0
first-zero words e r f =
    let some = (examined-sound words e).table.s1.some in
    earliest-in (other_root r (rows_of words)) (length (rows_of words)) 0
    (record { within = omega arith; passes = λ l. rw (f, eq-eqb (parent_at (rows_of words) 0) none (first-top words e)) refl; none_before = λ m l. absurd (not-suc-le-zero l) })

-- In a record of one window its frame is the root frame.
pub only-root : (words : List ℕ) (s : Stand) → Located words s → (r : ℕ) → eqb (frame_at (rows_of words) 0) r ≡ is_root (rows_of words) r
unfolding is_root
only-root words s h r =
    let rows = rows_of words in
    let t = examined-sound words h.examined in
    let some = t.table.s1.some in
    let top = first-top words h.examined in
    same_tests
    (λ e. some_in (heads rows r) (length rows) {k = 0} (omega arith) (simp and-eq-true_iff (e, eq-eqb _ _ top)))
    (λ e.
    let k = some_out (heads rows r) (length rows) e in
    let v = simp and-eq-true_iff at k.2 in
    eq-eqb _ _ (alone-root words t h.alone 0 k.0 (omega arith) k.1 top (eqb-true _ _ v.1) ∙ eqb-true _ _ v.0))
