-- What the test answers, by the ways that it goes. Assumes nothing.
use Prim.Native.Nat.{ℕ, ◌≤◌, ◌<◌}
use mathlib.Core.Bool.{Bool, true, false, not, ◌&&◌, So, and-eq-true_iff}
use mathlib.Core.List.{List}
use mathlib.Core.Path.{◌≡◌, refl, sym, ap, subst, ◌∙◌}
use native.Mathlib.Omega.{arith}
use lib.ListN.{length}
use lib.Dec.{leb}
use borrow.Author.Tests.{leb-true, le-leb, lt-leb, not-true}
use Rattle.rules.specs.Below.{all_below}
use Rattle.rules.specs.Rows.{Row, none}
use Rattle.rules.specs.Words.{capacity, table_of, rows_of}
use Rattle.rules.specs.Sound.{s1?, s8?, sound?}
use Rattle.laws.proofs.Tests.{test, clash, off, and-true, some_in, some_out, all_in, all-out}
use Rattle.laws.proofs.Reflect.{sound-is}
use Rattle.sound.specs.Quick.{quiet, calm, kept?, quick?, firm?}
use Rattle.sound.specs.Pass.{Passed, TellsTo, Tells}
use Rattle.sound.specs.declared.Pass.{Pass}
use Rattle.std.specs.Prelude.{Option, None, Some}
use Rattle.sound.proofs.Quick.{quiet_calm, alone-quiet, quick-is}
use Rattle.sound.proofs.Checks.{one-root}

-- What was tested, by what the code found.
module _ (rows : List Row) (i : ℕ) (b : Bool) (r : Option Pass) (told : TellsTo rows i b r) where
  pub told-fails : r ≡ None → b ≡ false
  told-fails e = subst (TellsTo rows i b) e told

  pub told-holds : (p : Pass) → r ≡ Some p → (b ≡ true) × Passed rows i p
  told-holds p e = subst (TellsTo rows i b) e told

-- S7, BY WHAT THE PASS KNOWS

module _ (rows : List Row) (p : Pass) (w : Passed rows (length rows) p) where
  -- No shown step comes after an upcoming one: every row is calm.
  pub order-calm : p.broken ≡ false → true ≡ all_below (length rows) (calm rows)
  order-calm f =
      sym (all_in (calm rows) (length rows) (λ i l.
      quiet_calm rows i (test (quiet rows i) (λ t. t) (λ t. absurd (clash (some_in (λ k. not (quiet rows k)) (length rows) l (rw t refl)) (sym w.broken-is ∙ f))))))

  -- Some does, and there is one window.
  pub order-alone : (next_doc next_frame : ℕ) → next_doc ≤ none → So (kept? rows next_doc next_frame) → p.broken ≡ true → p.several ≡ false → false ≡ all_below (length rows) (calm rows)
  order-alone next_doc next_frame word k t e =
      sym (off (all_below (length rows) (calm rows)) (λ h.
      let o = some_out (λ k. not (quiet rows k)) (length rows) (sym w.broken-is ∙ t) in
      clash (alone-quiet (record { rows = rows; next_doc = next_doc; next_frame = next_frame }) word k (one-root rows p w e) o.0 o.1 (all-out (calm rows) (length rows) h o.0 o.1)) (not-true _ o.2)))

-- S1 TO S8, BY S1 TO S6 AND S8 AND BY S7

module _ (words : List ℕ) where
  -- What fails.
  pub firm-no-room : (c : ℕ) → c ≡ capacity words → c ≡ 0 → firm? words ≡ false
  unfolding firm?
  firm-no-room c e z =
      test (leb 1 (length (rows_of words)))
      (λ t. rw (lt-leb (length (rows_of words)) (capacity words) (omega (arith, leb-true 1 (length (rows_of words)) t)), t) refl)
      (λ f. rw f refl)

  pub firm-empty : (n : ℕ) → n ≡ length (rows_of words) → n ≡ 0 → firm? words ≡ false
  unfolding firm?
  firm-empty n e z = rw (lt-leb 1 (length (rows_of words)) (omega arith)) refl

  pub firm-over : (c n : ℕ) → c ≡ capacity words → n ≡ length (rows_of words) → c < n → firm? words ≡ false
  unfolding firm?
  firm-over c n e f l = rw (lt-leb (length (rows_of words)) (capacity words) (omega arith)) (test (leb 1 (length (rows_of words))) (λ t. rw t refl) (λ t. rw t refl))

  pub firm-stops : (z : Bool) → z ≡ s8? words → z ≡ false → firm? words ≡ false
  unfolding firm?
  firm-stops z e f = rw (sym e ∙ f) (test (s1? (capacity words) (rows_of words)) (λ t. rw t refl) (λ t. rw t refl))

  -- What is left is S2 to S6.
  pub firm-goes : (c n : ℕ) (z : Bool) (r : Option Pass) (top next : ℕ) → c ≡ capacity words → n ≡ length (rows_of words) → (n ≡ 0 → ⊥) → n ≤ c → z ≡ s8? words → z ≡ true → top ≡ (table_of words).next_frame → next ≡ (table_of words).next_doc →
      Tells (rows_of words) (kept? (rows_of words) next top) r → Tells (rows_of words) (firm? words) r
  unfolding firm?
  firm-goes c n z r top next ec en some fits e t te ne =
      let one : So (leb 1 (length (rows_of words))) = le-leb 1 (length (rows_of words)) (omega arith) in
      let room : So (leb (length (rows_of words)) (capacity words)) = le-leb (length (rows_of words)) (capacity words) (omega arith) in
      subst (λ x. Tells (rows_of words) x r) (rw (one, room, sym e ∙ t, te, ne) refl)

  -- What they say of the rows.
  pub firm-kept : So (firm? words) → So (kept? (rows_of words) (table_of words).next_doc (table_of words).next_frame)
  unfolding firm?
  firm-kept f = (simp and-eq-true_iff at f).1.1

  pub firm-fits : So (firm? words) → length (rows_of words) ≤ capacity words
  unfolding firm?
  firm-fits f = leb-true _ _ (simp and-eq-true_iff at f).0.1

  -- Where one of these fails the record is not sound, and else S7 tells.
  module _ (word : (table_of words).next_doc ≤ none) where
    sound-firm : sound? words ≡ (firm? words && all_below (length (rows_of words)) (calm (rows_of words)))
    unfolding sound? firm? quick?
    sound-firm =
        test (s1? (capacity words) (rows_of words))
        (λ t.
        sym (ap (λ b. b && s8? words) (quick-is (capacity words) (table_of words) t word))
        ∙ rw t (test (s8? words) (λ s. rw s (and-true _)) (λ s. rw s (test (quick? (rows_of words) (table_of words).next_doc (table_of words).next_frame) (λ q. rw q refl) (λ q. rw q refl)))))
        (λ f. off (sound? words) (λ s. clash (s1-told s) f) ∙ rw f refl)
      where
        s1-told : So (sound? words) → So (s1? (capacity words) (rows_of words))
        s1-told s = let t = ((sound-is words).0 s).table.s1 in simp and-eq-true_iff (le-leb 1 (length (rows_of words)) t.some, le-leb (length (rows_of words)) (capacity words) t.fits)

    pub sound-stops : firm? words ≡ false → sound? words ≡ false
    sound-stops f = sound-firm ∙ rw f refl

    pub sound-goes : (v : Bool) → So (firm? words) → v ≡ all_below (length (rows_of words)) (calm (rows_of words)) → v ≡ sound? words
    sound-goes v f e = e ∙ sym (sound-firm ∙ rw f refl)
