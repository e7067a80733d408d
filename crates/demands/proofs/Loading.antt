-- The two loading calls: when one is accepted, and what it leaves. Assumes nothing.
use Prim.Native.Nat.{ℕ, ◌≤◌}
use mathlib.Core.Bool.{Bool, not, So}
use mathlib.Core.List.{List, []}
use mathlib.Core.Path.{◌≡◌, sym, ap, subst, ◌∙◌}
use native.Mathlib.Omega.{arith}
use lib.ListN.{length, get_or}
use borrow.Author.Tests.{ltb-false, le-ltb, not-false}
use Rattle.rules.specs.Rows.{Table}
use Rattle.rules.specs.Words.{capacity, table_of, written}
use Rattle.rules.specs.Sound.{SoundTable, Sound}
use Rattle.rules.specs.Calls.{Call, outcome, NoneGiven}
use Rattle.laws.specs.Loading.{fills, IsLoad}
use Rattle.laws.proofs.Words.{table-written, written-sound}
use Rattle.laws.proofs.Calls.{outcome-accepted}
use Rattle.laws.proofs.Loads.{in-room}
use Rattle.demands.specs.Record.{Accepted}
use Rattle.demands.specs.Standing.{left}
use Rattle.demands.proofs.Accepted.{accepted-none}

-- It is accepted exactly for a run of 7 words, bytes that are taken, and room for the rows.
pub record Loads (words : List ℕ) (taken : Bool) (t : Table) : Type 0 where
  pub seven : 7 ≤ length words
  pub from : So taken
  pub fits : length t.rows ≤ capacity words

module _ {c : Call} {words : List ℕ} {taken : Bool} {t : Table} (is : IsLoad c words taken t) where
  pub load-out : Accepted c → Loads words taken t
  unfolding NoneGiven
  load-out a =
      let h = subst NoneGiven is.refuses (accepted-none c a) in
      record { seven = ltb-false _ _ h.0; from = not-false _ h.1.0; fits = ltb-false _ _ h.1.1.0 }

  pub load-in : Loads words taken t → outcome c ≡ fills words t
  unfolding NoneGiven
  load-in s =
      outcome-accepted c (subst NoneGiven (sym is.refuses) (le-ltb _ _ s.seven, (ap not s.from, (le-ltb _ _ s.fits, tt)))) ∙ is.accepts

  -- What it leaves.
  pub left_is : Accepted c → left c ≡ written words t
  left_is a = ap (λ o. get_or o.lent 0 []) (load-in (load-out a))

  -- That is the table, in a sound record, if the bytes that are taken tell a sound one.
  pub load-leaves : (So taken → SoundTable 512 t) → Accepted c → Sound (left c) × (table_of (left c) ≡ t)
  load-leaves sound a =
      let l = load-out a in
      let three : 3 ≤ length words = omega (arith, l.seven) in
      subst (λ w. Sound w × (table_of w ≡ t)) (sym (left_is a))
      (written-sound words t three (in-room _ (sound l.from) l.fits), table-written words t three l.fits)
