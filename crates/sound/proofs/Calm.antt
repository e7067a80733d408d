-- What the looks at the windows tell, in the code's shape. Assumes nothing.
use Prim.Native.Nat.{ℕ, suc, ◌+◌, ◌≤◌, ◌<◌}
use mathlib.Core.Bool.{Bool, true, false, not, ◌&&◌, So, and-eq-true_iff}
use mathlib.Core.List.{List}
use mathlib.Core.Path.{◌≡◌, refl, sym, subst, ◌∙◌}
use native.Mathlib.Numerals.{add-one}
use native.Mathlib.Omega.{arith}
use lib.Dec.{eqb, leb}
use lib.ListN.{length}
use borrow.Author.Tests.{eqb-true, eq-eqb, leb-true, le-leb, not-true}
use Rattle.rules.specs.Below.{some_below, all_below, earliest}
use Rattle.rules.specs.Rows.{Row, none, frame_at, is_shown}
use Rattle.rules.specs.Steps.{same, is_step}
use Rattle.rules.specs.Words.{table_of, rows_of}
use Rattle.rules.specs.Windows.{root_at, in_window}
use Rattle.base.specs.declared.RowPlace.{RowPlace}
use Rattle.laws.proofs.Tests.{test, clash, off, same_tests, by-lt, some_in, some_out, all_in, all-out}
use Rattle.laws.proofs.Loops.{all_more, all-fails, some_more, some-found, earliest-out}
use Rattle.laws.proofs.Concealed.{shown_step}
use Rattle.windows.proofs.Counted.{shown_step_in}
use Rattle.windows.proofs.Roots.{root-kin}
use Rattle.reads.specs.Under.{Under}
use Rattle.reads.specs.Found.{found_below}
use Rattle.std.specs.Prelude.{Option, None, Some}
use Rattle.reads.proofs.Scans.{first_found}
use Rattle.members.specs.Members.{Kin, Recalls, Sided}
use Rattle.members.specs.declared.Member.{Member}
use Rattle.sound.specs.Quick.{comes, comes_in, quiet, calm, firm?}
use Rattle.sound.specs.Pass.{Passed, StepAfter}
use Rattle.sound.specs.Looks.{step_from, clear, Sees, Looks}
use Rattle.sound.specs.declared.Pass.{Pass}
use Rattle.sound.specs.declared.Seen.{Seen}
use Rattle.sound.proofs.Passes.{step_after}
use Rattle.sound.proofs.Quick.{calm-is, comes_of, comes-whose, tree-kept}

module _ (rows : List Row) (i : ℕ) where
  -- The scan over a row's own frame finds the row before it, or that it is the first.
  module _ (r : Option RowPlace) (e : r ≡ found_below (same (frame_at rows) i) i) where
    pub own-after : (j : RowPlace) → r ≡ Some j → StepAfter rows i j.0
    own-after j h = step_after rows i r j e h

    pub own_first : r ≡ None → is_step rows i ≡ false
    own_first h = sym (first_found (frame_at rows) i r e h)

  -- A frame's first row does not come, and a step does after a shown row.
  pub comes-first : is_step rows i ≡ false → false ≡ comes rows i
  unfolding comes
  comes-first n = rw n refl

  pub comes-step : (j : ℕ) (v : Bool) → StepAfter rows i j → v ≡ is_shown rows j → v ≡ comes rows i
  unfolding comes
  comes-step j v w e = rw (w.step, ← w.prior) e

  -- What comes, in a window.
  module _ (v : Bool) (e : v ≡ comes rows i) (root : ℕ) where
    pub comes-not : v ≡ false → false ≡ comes_in root rows i
    unfolding comes_in
    comes-not f = rw (sym e ∙ f) refl

    pub comes-there : (g : ℕ) → v ≡ true → g ≡ root_at rows i → eqb g root ≡ comes_in root rows i
    unfolding comes_in
    comes-there g t h = rw (sym e ∙ t, h) refl

  -- A shown step: the flag is asked first; of a window, that is asked next.
  module _ (v : Bool) (e : v ≡ is_shown rows i) where
    pub step-hidden : v ≡ false → false ≡ shown_step rows i
    step-hidden f = rw (sym e ∙ f) refl

    pub step-told : v ≡ true → (b : Bool) → b ≡ is_step rows i → b ≡ shown_step rows i
    step-told t b h = rw (sym e ∙ t) h

    module _ (r : ℕ) where
      pub within-hidden : v ≡ false → false ≡ shown_step_in r rows i
      within-hidden f = test (in_window r rows i) (λ t. rw (t, sym e ∙ f) refl) (λ t. rw t refl)

      module _ (shown : v ≡ true) (w : Bool) (in_is : w ≡ in_window r rows i) where
        pub within-other : w ≡ false → false ≡ shown_step_in r rows i
        within-other f = rw (sym in_is ∙ f) refl

        pub within-told : w ≡ true → (b : Bool) → b ≡ is_step rows i → b ≡ shown_step_in r rows i
        within-told t b h = rw (sym in_is ∙ t, sym e ∙ shown) h

-- A bound on the frame numbers before a place, and on that there.
pub under_last : (fr : ℕ → ℕ) (i at h : ℕ) → at ≤ i → Under fr i h → fr at ≤ h → Under fr (at + 1) h
under_last fr i at h l u t k m = by-lt k at (λ b. u k (omega arith)) (λ b. let e : k ≡ at = omega arith in rw e t)

-- A SHOWN STEP FROM A PLACE ON

module _ (r : ℕ) (rows : List Row) (i : ℕ) where
  abbrev pub late : ℕ → Bool
  late k = leb i k && shown_step_in r rows k

  -- The walk, from row i on.
  pub late-start : some_below i late ≡ false
  late-start = off (some_below i late) (λ s. let k = some_out late i s in let u = simp and-eq-true_iff at k.2 in omega (arith, leb-true i k.0 u.0))

  module _ (j : ℕ) (from : i ≤ j) (b : Bool) (e : b ≡ shown_step_in r rows j) where
    late-here : b ≡ late j
    late-here = rw (le-leb i j from) e

    pub late-more : some_below j late ≡ false → b ≡ false → some_below (j + 1) late ≡ false
    late-more none f = some_more late j b none late-here f

    pub late-found : j < length rows → b ≡ true → true ≡ step_from r rows i
    unfolding step_from
    late-found l t = some-found late (length rows) j b l late-here t

  pub late-done : (j : ℕ) → length rows ≤ j → some_below j late ≡ false → false ≡ step_from r rows i
  unfolding step_from
  late-done j l none = sym (off (some_below (length rows) late) (λ s. let k = some_out late (length rows) s in clash (some_in late j (omega arith) k.2) none))

  from_in : (k : ℕ) → i ≤ k → k < length rows → So (shown_step_in r rows k) → So (step_from r rows i)
  unfolding step_from
  from_in k a l t = some_in late (length rows) l (rw (le-leb i k a) t)

  from_out : So (step_from r rows i) → (k : ℕ) × (i ≤ k) × (k < length rows) × So (shown_step_in r rows k)
  unfolding step_from
  from_out s = let k = some_out late (length rows) s in let u = simp and-eq-true_iff at k.2 in (k.0, leb-true i k.0 u.0, k.1, simp and-eq-true_iff u.1)

from-later : (r : ℕ) (rows : List Row) (i j : ℕ) → i ≤ j → step_from r rows i ≡ false → step_from r rows j ≡ false
from-later r rows i j a none =
    off (step_from r rows j) (λ s. let k = from_out r rows j s in clash (from_in r rows i k.0 (omega arith) k.2 k.3) none)

-- WHAT IS CLEAR

module _ (rows : List Row) where
  clear_in : (i : ℕ) → step_from (root_at rows i) rows i ≡ false → So (clear rows i)
  unfolding clear
  clear_in i none = rw none (test (comes rows i) (λ t. rw t refl) (λ t. rw t refl))

  -- Where all rows are clear, all are calm, and the other way round.
  pub clear-calm : all_below (length rows) (clear rows) ≡ all_below (length rows) (calm rows)
  unfolding clear
  clear-calm =
      let n = length rows in
      same_tests
      (λ h.
      all_in (calm rows) n (λ i l.
      (calm-is rows i).1 (λ s t k m c.
      let w = comes-whose rows (root_at rows i) k c in
      clash {b = comes rows k && step_from (root_at rows k) rows k} (simp and-eq-true_iff (w.0, from_in (root_at rows k) rows k i m l (simp and-eq-true_iff (eq-eqb _ _ (sym w.1), (t, s))))) (not-true _ (all-out (clear rows) n h k (omega arith))))))
      (λ h.
      all_in (clear rows) n (λ i l.
      rw (off (comes rows i && step_from (root_at rows i) rows i) (λ t.
      let u = simp and-eq-true_iff at t in
      let k = from_out (root_at rows i) rows i u.1 in
      let v = simp and-eq-true_iff at k.3 in
      (calm-is rows k.0).0 (all-out (calm rows) n h k.0 k.2) v.1.1 v.1.0 i k.1 (comes_of rows (root_at rows k.0) i u.0 (sym (eqb-true _ _ v.0))))) refl))

  -- Rows before the first that comes are clear.
  pub clear-before : (from : ℕ) → some_below from (comes rows) ≡ false → all_below from (clear rows) ≡ true
  unfolding clear
  clear-before from none = all_in (clear rows) from (λ i l. rw (off (comes rows i) (λ t. clash (some_in (comes rows) from l t) none)) refl)

  -- A LOOK AT A ROW

  -- At the window of one that comes.
  module _ (i g : ℕ) (c : So (comes rows i)) (ge : g ≡ root_at rows i) (b : Bool) (e : b ≡ step_from g rows i) where
    pub look-breaks : b ≡ true → Looks rows i None
    unfolding clear
    look-breaks t = rw (c, ← ge, sym e ∙ t) refl

    pub look-goes : (seen : Seen) → seen.root.0 ≡ g → Recalls (root_at rows i) rows seen.known → b ≡ false → Looks rows i (Some seen)
    look-goes seen se w f = (
      clear_in i (subst (λ x. step_from x rows i ≡ false) ge (sym e ∙ f)),
      record { recalls = subst (λ x. Recalls x rows seen.known) (sym (se ∙ ge)) w; none_from = rw se (from-later g rows i (suc i) (omega arith) (sym e ∙ f)) },
    )

  -- At a row of the window last looked at, or one that does not come.
  module _ (i : ℕ) (seen : Seen) (w : Sees rows i seen) (m : Member) (told : Sided seen.root.0 rows i m) where
    on : (next : Seen) → next ≡ record { root = seen.root; known = m.known } → Sees rows (suc i) next
    on next e = rw e (record { recalls = told.recalls; none_from = from-later seen.root.0 rows i (suc i) (omega arith) w.none_from })

    pub look-inside : (next : Seen) → next ≡ record { root = seen.root; known = m.known } → m.inside ≡ true → Looks rows i (Some next)
    look-inside next e t = (clear_in i (subst (λ x. step_from x rows i ≡ false) (sym (eqb-true _ _ (sym told.inside_is ∙ t))) w.none_from), on next e)

    pub look-past : (next : Seen) → next ≡ record { root = seen.root; known = m.known } → (b : Bool) → b ≡ comes rows i → b ≡ false → Looks rows i (Some next)
    unfolding clear
    look-past next e b c f = (rw (sym c ∙ f) refl, on next e)

  -- What the look found.
  module _ (i : ℕ) (r : Option Seen) (w : Looks rows i r) where
    pub look-broke : r ≡ None → i < length rows → false ≡ all_below (length rows) (calm rows)
    look-broke e l = all-fails (clear rows) (length rows) i false l (sym (subst (Looks rows i) e w)) refl ∙ clear-calm

    pub look-went : (seen : Seen) → r ≡ Some seen → all_below i (clear rows) ≡ true → (all_below (i + 1) (clear rows) ≡ true) × Sees rows (i + 1) seen
    look-went seen e h =
        let o : Looks rows i (Some seen) = subst (Looks rows i) e w in
        (all_more (clear rows) i true h (sym o.0) refl, rw (add-one i) o.1)

-- The rows that the test keeps are a tree: those beneath one document are of one window.
pub firm-kin : (words : List ℕ) → (table_of words).next_doc ≤ none → So (firm? words) → Kin (rows_of words)
unfolding firm?
firm-kin words w f = root-kin (rows_of words) (tree-kept (table_of words) w (simp and-eq-true_iff at f).1.1)

module _ (rows : List Row) (p : Pass) (w : Passed rows (length rows) p) (broken : p.broken ≡ true) where
  -- With a shown step after an upcoming one there is an upcoming one.
  some-comes : So (some_below (length rows) (comes rows))
  unfolding quiet
  some-comes =
      let o = some_out (λ k. not (quiet rows k)) (length rows) (sym w.broken-is ∙ broken) in
      test (is_step rows o.0 && is_shown rows o.0 && some_below (suc o.0) (comes rows))
      (λ t. let k = some_out (comes rows) (suc o.0) (simp and-eq-true_iff at t).1 in some_in (comes rows) (length rows) {k = k.0} (omega arith) k.2)
      (λ f. absurd (clash (rw f at o.2) refl))

  -- The pass kept the place of the first: it comes, and none before it.
  pub order-first : (p.upcoming.0 < length rows) × So (comes rows p.upcoming.0) × (some_below p.upcoming.0 (comes rows) ≡ false)
  order-first =
      let c = some_out (comes rows) (length rows) some-comes in
      let o = earliest-out (comes rows) (length rows) in
      let l : earliest (comes rows) (length rows) < length rows =
      by-lt (earliest (comes rows) (length rows)) (length rows) (λ m. m) (λ m. absurd (clash c.2 (o.none_before c.0 (omega arith)))) in
      rw (w.upcoming-is (w.late_is ∙ some-comes)) (
        l,
        o.passes l,
        off (some_below (earliest (comes rows) (length rows)) (comes rows)) (λ s.
            let k = some_out (comes rows) (earliest (comes rows) (length rows)) s in clash k.2 (o.none_before k.0 k.1)),
      )
