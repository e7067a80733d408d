-- A window of several: what its own record answers is what it answers in the record. Assumes nothing.
use Prim.Native.Nat.{ℕ}
use mathlib.Core.Bool.{Bool, So}
use mathlib.Core.List.{List}
use mathlib.Core.Path.{◌≡◌, sym, ◌∙◌}
use mir.Val.{Fits}
use mir.Syntax.{w32}
use lib.ListN.{get_or}
use Rattle.rules.specs.Windows.{is_root}
use Rattle.rules.specs.Words.{rows_of, written}
use Rattle.rules.specs.Calls.{Call, Outcome, window_in, outcome}
use Rattle.windows.proofs.Answers.{Twins, twins-lists}
use Rattle.sound.specs.Check.{Examined}
use Rattle.sound.specs.Survey.{alone?, stand_of, Located}
use Rattle.sound.specs.declared.Stand.{Stand}
use Rattle.extracts.proofs.Taken.{zeros}
use Rattle.extracts.proofs.Windowed.{own-one, own-located, own-twins}
use Rattle.lists.proofs.Alone.{next_word}

module _ (words : List ℕ) (e : Examined words) (fits : Fits w32 (get_or words 1 0)) (r : ℕ) (b : Bool) (is : b ≡ is_root (rows_of words) r) (yes : So b) (own : List ℕ)
    (taken : own ≡ written zeros (window_in words r)) where
  rooted : So (is_root (rows_of words) r)
  rooted = sym is ∙ yes

  -- Its own record is sound and of one window, and stands as its rows tell.
  pub out_one : Examined own × So (alone? (rows_of own))
  out_one = own-one words e (next_word words fits) r rooted own taken

  pub out-located : (s : Stand) → s ≡ stand_of (rows_of own) → Located own s
  out-located = own-located words e (next_word words fits) r rooted own taken

  twins : Twins r words own
  twins = own-twins words e (next_word words fits) r rooted own taken

  -- What the one answers, the other does.
  pub lists-own : (takens upcomings : List ℕ) {o : Outcome} → outcome (Call.Lists own r takens upcomings) ≡ o → outcome (Call.Lists words r takens upcomings) ≡ o
  lists-own takens upcomings h = twins-lists r words own twins takens upcomings ∙ h
