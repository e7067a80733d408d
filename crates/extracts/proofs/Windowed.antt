-- A window taken out is a sound record of one window, and answers what the window answers. Assumes nothing.
use Prim.Native.Nat.{ℕ, ◌≤◌}
use mathlib.Core.Bool.{So, and-eq-true_iff}
use mathlib.Core.List.{List}
use mathlib.Core.Path.{◌≡◌, sym, ap, subst, ◌∙◌}
use native.Mathlib.Omega.{arith}
use lib.ListN.{length}
use borrow.Author.Tests.{eqb-true, eq-eqb}
use Rattle.rules.specs.Rows.{Row, Table, none}
use Rattle.rules.specs.Windows.{in_window, window_rows, is_root}
use Rattle.rules.specs.Words.{table_of, rows_of, written}
use Rattle.rules.specs.Sound.{SoundTable}
use Rattle.rules.specs.Calls.{window_in}
use Rattle.laws.proofs.Tests.{some_out, count_most}
use Rattle.laws.proofs.Tree.{sound-of}
use Rattle.windows.proofs.Window.{WideRows, wide_rows, window-length, window-place, window-sound, window-window, window-all, wide-S7}
use Rattle.windows.proofs.Roots.{root-top}
use Rattle.windows.proofs.Members.{root-own}
use Rattle.windows.proofs.Answers.{Twins}
use Rattle.sound.specs.Check.{Examined}
use Rattle.sound.specs.Survey.{alone?, stand_of, Located}
use Rattle.sound.specs.declared.Stand.{Stand}
use Rattle.sound.proofs.Quick.{one-begins}
use Rattle.sound.proofs.Checks.{examined-sound, examined-fits}
use Rattle.extracts.specs.Windows.{heads}
use Rattle.extracts.proofs.Taken.{zeros, copy-table, copy-examined}

module _ (words : List ℕ) (e : Examined words) (word : (table_of words).next_doc ≤ none) (r : ℕ) (root : So (is_root (rows_of words) r)) where
  abbrev rows : List Row
  rows = rows_of words

  abbrev window : Table
  window = window_in words r

  wide : WideRows rows (table_of words).next_doc (table_of words).next_frame
  wide = wide_rows (examined-sound words e).table word

  -- It has a row, and no more than the record.
  pub some : 1 ≤ length window.rows
  unfolding is_root
  some =
      let k = some_out (heads rows r) (length rows) root in
      let v = simp and-eq-true_iff at k.2 in
      omega (arith, window-place rows r k.0 k.1 (eq-eqb _ _ (root-top rows k.0 (eqb-true _ _ v.1) ∙ eqb-true _ _ v.0)))

  few : length window.rows ≤ 512
  few = omega (arith, examined-fits words e, window-length rows r, count_most (in_window r rows) (length rows))

  -- It is a sound table.
  pub window-table : SoundTable 512 window
  window-table = let s = window-sound rows wide r in sound-of (record { some = some; fits = few }) s.tree s.s6 (wide-S7 window.rows s.s7)

  -- All its rows are of the window, taken by themselves.
  window-again : window_rows r window.rows ≡ window.rows
  window-again = let s = window-sound rows wide r in window-all window.rows s.tree s.root r 0 some (window-window rows wide.tree r 0 some)

  module _ (own : List ℕ) (is : own ≡ written zeros window) where
    pub own-table : table_of own ≡ window
    own-table = ap table_of is ∙ copy-table window window-table few

    pub own-examined : Examined own
    own-examined = subst Examined (sym is) (copy-examined window window-table few)

    own-rows : rows_of own ≡ window.rows
    own-rows = ap (λ t. t.rows) own-table

    own_alone : So (alone? (rows_of own))
    own_alone =
        let s = window-sound rows wide r in
        subst (λ l. So (alone? l)) (sym own-rows) (eq-eqb _ _ (one-begins window.rows s.tree s.root some))

    pub own-one : Examined own × So (alone? (rows_of own))
    own-one = (own-examined, own_alone)

    pub own-located : (s : Stand) → s ≡ stand_of (rows_of own) → Located own s
    own-located s q = record { examined = own-examined; alone = own_alone; stand-is = q }

    pub own_root : So (is_root (rows_of own) r)
    own_root = subst (λ l. So (is_root l r)) (sym own-rows) (root-own rows wide.tree r ∙ root)

    -- Both have the same rows in the window.
    pub own-twins : Twins r words own
    own-twins =
        record {
          one = record { long = e.long; sound = examined-sound words e; word = word };
          other = record { long = own-examined.long; sound = examined-sound own own-examined; word = subst (λ t. t.next_doc ≤ none) (sym own-table) word };
          root = root;
          rows_are = sym (ap (window_rows r) own-rows ∙ window-again);
        }
