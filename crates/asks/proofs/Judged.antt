-- Refusals 1, 2, 4 and 5 by what is seen of a document: the tables of Open and Navigate begin with them. Assumes nothing.
use Prim.Native.Nat.{ℕ}
use mathlib.Core.List.{List, [], ◌∷◌}
use mathlib.Core.Logic.{inl}
use mathlib.Core.Path.{◌≡◌, refl, sym, ap, subst, ◌∙◌}
use Rattle.std.specs.Prelude.{None, Some, Result, Ok, Err}
use Rattle.base.specs.declared.DocNo.{DocNo}
use Rattle.base.specs.declared.Refusal.{Refusal}
use Rattle.base.specs.declared.Refusal.TheVariants.{Hidden}
use Rattle.base.specs.Numbers.{number_of, carried_by}
use Rattle.rules.specs.Words.{rows_of}
use Rattle.rules.specs.Steps.{hider_of, visible}
use Rattle.rules.specs.Calls.{Rung, ◌when◌, ◌naming◌, short, unsound, absent, hidden, hider, Given, NoneGiven}
use Rattle.laws.proofs.Calls.{given-more, given-after, none_more}
use Rattle.rows.specs.Readable.{readable_rows}
use Rattle.sound.specs.Check.{Examined, Settles}
use Rattle.sound.proofs.Checks.{settles-past, examined-past, examined-fits}
use Rattle.asks.specs.Answers.{sight_of, sight_rungs, hider_is, SightIs}
use Rattle.asks.specs.declared.Sight.{Sight}
use Rattle.asks.proofs.Climbs.{seen-is}

module _ (words : List ℕ) (e : Examined words) (d : ℕ) (s : Result Sight Refusal) (is : s ≡ sight_of (readable_rows words) d) where
  abbrev lower : List Rung
  lower = 5 when hidden words d naming hider words d ∷ []

  abbrev middle : List Rung
  middle = 4 when absent words d ∷ lower

  tells : (t : Result Sight Refusal) → s ≡ t → SightIs (rows_of words) d t
  tells t f = subst (SightIs (rows_of words) d) f (seen-is words d (examined-fits words e) s is)

  pub not_there : (r : Refusal) → s ≡ Err r → Settles (sight_rungs words d) (Err r)
  unfolding Given
  not_there r f = let t = tells (Err r) f in examined-past words e middle (Err r) (inl (rw t.0 refl, sym (ap number_of t.1), sym (ap carried_by t.1)))

  module _ (t : Sight) (f : s ≡ Ok t) where
    pub not-shown : (h : DocNo) → t.hider ≡ Some h → Settles (sight_rungs words d) (Err (Hidden h))
    unfolding Given visible
    not-shown h g =
        let i = tells (Ok t) f in
        let w : hider_of (rows_of words) d ≡ hider_is (Some h) = i.1 ∙ ap hider_is g in
        examined-past words e middle (Err (Hidden h)) (settles-past (4 when absent words d) lower (rw i.0 refl) (Err (Hidden h)) (inl (rw w refl, refl, rw w refl)))

    pub shown-there : t.hider ≡ None → Settles (sight_rungs words d) (Ok tt)
    unfolding visible NoneGiven
    shown-there g =
        let i = tells (Ok t) f in
        let w : hider_of (rows_of words) d ≡ hider_is None = i.1 ∙ ap hider_is g in
        examined-past words e middle (Ok tt) (settles-past (4 when absent words d) lower (rw i.0 refl) (Ok tt) (settles-past (5 when hidden words d naming hider words d) [] (rw w refl) (Ok tt) tt))

-- Refused so: whatever the rest of the table.
module _ (words : List ℕ) (d : ℕ) (rest : List Rung) where
  abbrev table : List Rung
  table = 1 when short words ∷ 2 when unsound words ∷ 4 when absent words d ∷ 5 when hidden words d naming hider words d ∷ rest

  pub sight-refused : (k : Result (Unit {0}) Refusal) (r : Refusal) → Settles (sight_rungs words d) k → k ≡ Err r → Settles table (Err r)
  sight-refused k r j e = given-more (number_of r) (carried_by r) (sight_rungs words d) rest (subst (Settles (sight_rungs words d)) e j)

  -- Not refused: the rest of the table decides.
  pub sight-fine : (k : Result (Unit {0}) Refusal) (u : Unit {0}) → Settles (sight_rungs words d) k → k ≡ Ok u → (l : Result (Unit {0}) Refusal) → Settles rest l → Settles table l
  sight-fine k u j e (Ok v) g = none_more (sight_rungs words d) rest (subst (Settles (sight_rungs words d)) e j) g
  sight-fine k u j e (Err r) g = given-after (number_of r) (carried_by r) (sight_rungs words d) rest (subst (Settles (sight_rungs words d)) e j) g
