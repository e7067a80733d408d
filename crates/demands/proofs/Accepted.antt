-- When a call is accepted, what an accepted Traverse may rely on, and the table that a move leaves. Assumes nothing.
use Prim.Native.Nat.{ℕ, ◌≤◌}
use mathlib.Core.List.{List, []}
use mathlib.Core.Bool.{false, not, So}
use mathlib.Core.Path.{◌≡◌, refl, sym, ap, ◌∙◌}
use native.Mathlib.Omega.{arith}
use lib.IntN.{ℤ}
use lib.ListN.{length, get_or}
use borrow.Author.Tests.{ltb-false, le-ltb, not-false}
use Rattle.rules.specs.Rows.{Table}
use Rattle.rules.specs.Windows.{is_root}
use Rattle.rules.specs.Moves.{opened, tabbed, navigated, traversed, dropped, replaced, changes}
use Rattle.rules.specs.Words.{table_of, rows_of, written}
use Rattle.rules.specs.Sound.{Sound}
use Rattle.rules.specs.Calls.{Call, Answer, beyond, window_in, refusals, accepted, outcome, Given, NoneGiven}
use Rattle.rules.specs.Runs.{Move, on, after}
use Rattle.laws.proofs.Reflect.{sound-is}
use Rattle.laws.proofs.Calls.{by-ladder, accepted-gives, outcome-accepted, outcome-refused}
use Rattle.demands.specs.Record.{Accepted}

by_answer : (a : Answer) → ((k : ℕ) (vs : List ℕ) → a ≡ Answer.refuses k vs → ⊥) → (values : List ℕ) × (a ≡ Answer.gives values)
by_answer (Answer.refuses k vs) h = absurd (h k vs refl)
by_answer (Answer.gives values) h = (values, refl)

-- A call is accepted when no rung of its ladder holds.
pub accepted-none : (c : Call) → Accepted c → NoneGiven (refusals c)
accepted-none c a =
    by-ladder (refusals c) (λ h. h) (λ k vs g. absurd (apart k vs a.0 (ap (λ o. o.answer) (sym (outcome-refused c k vs g)) ∙ a.1)))
  where
    apart : (k : ℕ) (vs values : List ℕ) → Answer.refuses k vs ≡ Answer.gives values → ⊥
    apart k vs values e = let z : ◌≡◌ {A = ℕ} 0 1 = cc in omega arith

pub none-accepted : (c : Call) → NoneGiven (refusals c) → Accepted c
none-accepted c h = by_answer (outcome c).answer (λ k vs e. accepted-gives c k vs (ap (λ o. o.answer) (sym (outcome-accepted c h)) ∙ e))

-- What an accepted Traverse of window r may rely on.
pub record Goes (words : List ℕ) (r : ℕ) (δ : ℤ) (room : List ℕ) : Type 0 where
  pub long : 7 ≤ length words
  pub sound : Sound words
  pub root : So (is_root (rows_of words) r)
  pub inside : beyond (window_in words r).rows δ ≡ false
  pub lent : length (changes (window_in words r) δ) ≤ length room

module _ (words : List ℕ) (r : ℕ) (δ : ℤ) (room : List ℕ) where
  pub go-relies : NoneGiven (refusals (Call.Traverse words r δ room)) → Goes words r δ room
  unfolding refusals NoneGiven
  go-relies h =
      record {
        long = ltb-false _ _ h.0;
        sound = (sound-is words).0 (not-false _ h.1.0);
        root = not-false _ h.1.1.0;
        inside = h.1.1.1.0;
        lent = ltb-false _ _ h.1.1.1.1.0;
      }

  pub go-accepted : Goes words r δ room → NoneGiven (refusals (Call.Traverse words r δ room))
  unfolding refusals NoneGiven
  go-accepted g = (le-ltb _ _ g.long, (ap not ((sound-is words).1 g.sound), (ap not g.root, (g.inside, (le-ltb _ _ g.lent, tt)))))

-- The table that an accepted move leaves.
abbrev pub made : Table → Move → Table
made t (Move.opens p) = opened t p
made t (Move.navigates d) = navigated t d
made t (Move.goes r δ room) = traversed t r δ
made t (Move.drops f) = dropped t f
made t (Move.replaces d) = replaced t d
made t Move.tabs = tabbed t

pub accepted-after : (words : List ℕ) (m : Move) → NoneGiven (refusals (on words m)) → after words m ≡ written words (made (table_of words) m)
unfolding accepted
accepted-after words (Move.opens p) h = ap (λ o. get_or o.lent 0 []) (outcome-accepted _ h)
accepted-after words (Move.navigates d) h = ap (λ o. get_or o.lent 0 []) (outcome-accepted _ h)
accepted-after words (Move.goes r δ room) h = ap (λ o. get_or o.lent 0 []) (outcome-accepted _ h)
accepted-after words (Move.drops f) h = ap (λ o. get_or o.lent 0 []) (outcome-accepted _ h)
accepted-after words (Move.replaces d) h = ap (λ o. get_or o.lent 0 []) (outcome-accepted _ h)
accepted-after words Move.tabs h = ap (λ o. get_or o.lent 0 []) (outcome-accepted _ h)

pub refused-after : (words : List ℕ) (m : Move) (k : ℕ) (vs : List ℕ) → Given k vs (refusals (on words m)) → after words m ≡ words
refused-after words (Move.opens p) k vs g = ap (λ o. get_or o.lent 0 []) (outcome-refused _ k vs g)
refused-after words (Move.navigates d) k vs g = ap (λ o. get_or o.lent 0 []) (outcome-refused _ k vs g)
refused-after words (Move.goes r δ room) k vs g = ap (λ o. get_or o.lent 0 []) (outcome-refused _ k vs g)
refused-after words (Move.drops f) k vs g = ap (λ o. get_or o.lent 0 []) (outcome-refused _ k vs g)
refused-after words (Move.replaces d) k vs g = ap (λ o. get_or o.lent 0 []) (outcome-refused _ k vs g)
refused-after words Move.tabs k vs g = ap (λ o. get_or o.lent 0 []) (outcome-refused _ k vs g)

-- By whether a move is accepted.
pub by_move {ℓ} : {C : Type ℓ} (words : List ℕ) (m : Move) →
    (NoneGiven (refusals (on words m)) → after words m ≡ written words (made (table_of words) m) → C) → (after words m ≡ words → C) → C
by_move words m f g =
    by-ladder (refusals (on words m)) (λ h. f h (accepted-after words m h)) (λ k vs h. g (refused-after words m k vs h))
