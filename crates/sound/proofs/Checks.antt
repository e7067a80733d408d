-- What the examination tells its callers: the first two rungs of their ladders. Assumes nothing.
use Prim.Native.Nat.{ℕ, ◌≤◌}
use Rattle.std.specs.Prelude.{Result, Ok, Err}
use mathlib.Core.Bool.{true, false, So}
use mathlib.Core.List.{List, ◌∷◌}
use mathlib.Core.Logic.{inl, inr}
use mathlib.Core.Path.{◌≡◌, refl, sym, ap, subst, ◌∙◌}
use native.Mathlib.Omega.{arith}
use lib.ListN.{length}
use borrow.Author.Tests.{ltb-false, eq-eqb, ne_eqb, ltb-true}
use Rattle.base.specs.declared.Refusal.{Refusal}
use Rattle.base.specs.declared.Refusal.TheVariants.{ShortRecord, Unsound}
use Rattle.base.specs.Numbers.{number_of, carried_by}
use Rattle.rules.specs.Below.{count}
use Rattle.rules.specs.Rows.{Row}
use Rattle.rules.specs.Words.{capacity, rows_of}
use Rattle.rules.specs.Sound.{Sound, sound?}
use Rattle.rules.specs.Calls.{Call, Answer, Rung, ◌when◌, short, unsound, lent_to, refusals, outcome, Given, NoneGiven}
use Rattle.laws.proofs.Calls.{outcome-refused}
use Rattle.laws.proofs.Tests.{test}
use Rattle.laws.proofs.Reflect.{sound-is}
use Rattle.sound.specs.Quick.{begins}
use Rattle.sound.specs.Pass.{Passed}
use Rattle.sound.specs.declared.Pass.{Pass}
use Rattle.sound.specs.Check.{checked, check_of, Examined, Settles, Judged}
use Rattle.sound.specs.Survey.{alone?, stand_of, windows_of, survey_of, Located}
use Rattle.sound.specs.declared.Stand.{Stand}
use Rattle.sound.specs.declared.Windows.{Windows}
use Rattle.sound.specs.declared.Windows.TheVariants.{One, Several}

-- Refusals 1 and 2, or what was found.
module _ {A : Type 0} (a : A) (words : List ℕ) where
  pub checked-short : short words ≡ true → Err ShortRecord ≡ checked a words
  unfolding checked
  checked-short t = rw t refl

  pub checked-unsound : short words ≡ false → sound? words ≡ false → Err Unsound ≡ checked a words
  unfolding checked
  checked-unsound o f = rw (o, f) refl

  pub checked-fine : short words ≡ false → sound? words ≡ true → Ok a ≡ checked a words
  unfolding checked
  checked-fine o t = rw (o, t) refl

  -- Refused: by the first two rungs, whatever follows.
  pub checked-given : (rest : List Rung) (k : Result A Refusal) (r : Refusal) → k ≡ checked a words → k ≡ Err r → Given (number_of r) (carried_by r) (1 when short words ∷ 2 when unsound words ∷ rest)
  unfolding Given checked
  checked-given rest k r e f =
      test (short words)
      (λ t. let g : ◌≡◌ {A = Result A Refusal} (Err ShortRecord) (Err r) = rw t at (sym e ∙ f) in let q : ShortRecord ≡ r = cc in inl (t, ap number_of q, ap carried_by q))
      (λ o. test (sound? words)
      (λ t. let g : ◌≡◌ {A = Result A Refusal} (Ok a) (Err r) = rw (o, t) at (sym e ∙ f) in let z : ◌≡◌ {A = ℕ} 0 1 = cc in absurd (omega arith))
      (λ t. let g : ◌≡◌ {A = Result A Refusal} (Err Unsound) (Err r) = rw (o, t) at (sym e ∙ f) in let q : Unsound ≡ r = cc in inr (o, inl (rw t refl, ap number_of q, ap carried_by q))))

  -- Not refused: the record is examined, and this was found.
  pub checked-passes : (k : Result A Refusal) (b : A) → k ≡ checked a words → k ≡ Ok b → Examined words × (a ≡ b)
  unfolding checked
  checked-passes k b e f =
      test (short words)
      (λ t. let g : ◌≡◌ {A = Result A Refusal} (Err ShortRecord) (Ok b) = rw t at (sym e ∙ f) in let z : ◌≡◌ {A = ℕ} 0 1 = cc in absurd (omega arith))
      (λ o. test (sound? words)
      (λ t. let g : ◌≡◌ {A = Result A Refusal} (Ok a) (Ok b) = rw (o, t) at (sym e ∙ f) in (record { long = o; passes = t }, cc))
      (λ t. let g : ◌≡◌ {A = Result A Refusal} (Err Unsound) (Ok b) = rw (o, t) at (sym e ∙ f) in let z : ◌≡◌ {A = ℕ} 0 1 = cc in absurd (omega arith)))

-- WHAT IS FOUND, BY WHAT THE PASS KNOWS

module _ (rows : List Row) (p : Pass) (w : Passed rows (length rows) p) where
  -- One row begins a window: there is one, and the answer is where it stands.
  pub one-root : p.several ≡ false → count (begins rows) (length rows) ≡ 1
  one-root f = omega (arith, w.some-root, ltb-false 1 (count (begins rows) (length rows)) (sym w.several-is ∙ f))

  pub alone-so : p.several ≡ false → So (alone? rows)
  alone-so f = eq-eqb _ _ (one-root f)

  pub found-one : p.several ≡ false → One (stand_of rows) ≡ windows_of rows
  found-one f = rw (alone-so f) refl

  -- Several do.
  pub found-several : p.several ≡ true → Several ≡ windows_of rows
  found-several t = rw (ne_eqb (count (begins rows) (length rows)) 1 (λ e. omega (arith, ltb-true 1 (count (begins rows) (length rows)) (sym w.several-is ∙ t)))) refl

module _ (words : List ℕ) where
  pub check-given : (rest : List Rung) (k : Result (Unit {0}) Refusal) (r : Refusal) → k ≡ check_of words → k ≡ Err r → Given (number_of r) (carried_by r) (1 when short words ∷ 2 when unsound words ∷ rest)
  check-given = checked-given tt words

  pub check-passes : (k : Result (Unit {0}) Refusal) (u : Unit {0}) → k ≡ check_of words → k ≡ Ok u → Examined words
  check-passes k u e f = (checked-passes tt words k u e f).0

  pub survey-given : (rest : List Rung) (k : Result Windows Refusal) (r : Refusal) → k ≡ survey_of words → k ≡ Err r → Given (number_of r) (carried_by r) (1 when short words ∷ 2 when unsound words ∷ rest)
  survey-given = checked-given (windows_of (rows_of words)) words

  -- Not refused: the record is examined; it has one window, and the answer is where that stands, or several.
  pub survey-stands : (k : Result Windows Refusal) (w : Windows) (s : Stand) → k ≡ survey_of words → k ≡ Ok w → w ≡ One s → Located words s
  survey-stands k w s e f g =
      let r = checked-passes (windows_of (rows_of words)) words k w e f in
      let h : windows_of (rows_of words) ≡ One s = r.1 ∙ g in
      test (alone? (rows_of words))
      (λ t. let q : One (stand_of (rows_of words)) ≡ One s = rw t at h in record { examined = r.0; alone = t; stand-is = cc })
      (λ t. let q : Several ≡ One s = rw t at h in absurd (let z : ◌≡◌ {A = ℕ} 0 1 = cc in omega arith))

  pub survey-several : (k : Result Windows Refusal) (w : Windows) → k ≡ survey_of words → k ≡ Ok w → Examined words
  survey-several k w e f = (checked-passes (windows_of (rows_of words)) words k w e f).0

-- What an examined record gives.
module _ (words : List ℕ) (e : Examined words) where
  pub examined-long : 7 ≤ length words
  examined-long = ltb-false _ _ e.long

  pub examined-sound : Sound words
  examined-sound = (sound-is words).0 e.passes

  pub examined-fits : length (rows_of words) ≤ capacity words
  examined-fits = examined-sound.table.s1.fits

-- A line that does not apply leaves it to the rest of the table.
pub settles-past : (r : Rung) (rest : List Rung) → r.holds ≡ false → (k : Result (Unit {0}) Refusal) → Settles rest k → Settles (r ∷ rest) k
unfolding Given NoneGiven
settles-past r rest f (Ok u) h = (f, h)
settles-past r rest f (Err x) h = inr (f, h)

-- Refusals 1 and 2 do not apply to an examined record.
pub examined-past : (words : List ℕ) → Examined words → (rest : List Rung) (k : Result (Unit {0}) Refusal) → Settles rest k → Settles (1 when short words ∷ 2 when unsound words ∷ rest) k
examined-past words e rest k h = settles-past _ _ e.long k (settles-past _ _ (rw e.passes refl) k h)

-- What a judge's word is worth.
module _ (c : Call) (k : Result (Unit {0}) Refusal) (j : Judged c k) where
  pub judged-fine : (u : Unit {0}) → k ≡ Ok u → NoneGiven (refusals c)
  judged-fine u e = subst (Judged c) e j

  pub judged-refused : (r : Refusal) → k ≡ Err r → outcome c ≡ record { answer = Answer.refuses (number_of r) (carried_by r); lent = lent_to c }
  judged-refused r e = outcome-refused c (number_of r) (carried_by r) (subst (Judged c) e j)
