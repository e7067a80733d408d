-- Position and steps of a window, counted by its flags in the table. Assumes nothing.
use Prim.Native.Nat.{ℕ, ◌≤◌, ◌<◌}
use mathlib.Core.Bool.{Bool, not, ◌&&◌}
use mathlib.Core.List.{List}
use mathlib.Core.Path.{◌≡◌, sym, ap, ap₂, ◌∙◌}
use native.Mathlib.Omega.{arith}
use lib.ListN.{length}
use Rattle.rules.specs.Below.{count, latest}
use Rattle.rules.specs.Rows.{Row}
use Rattle.rules.specs.Steps.{position, steps}
use Rattle.rules.specs.Windows.{in_window, window_rows}
use Rattle.laws.proofs.Tests.{latest-most}
use Rattle.laws.proofs.Kept.{count_kept, latest-kept}
use Rattle.laws.proofs.Concealed.{hidden, shown_step, hidden-steps, hidden-last}
use Rattle.windows.proofs.Window.{WideRows, window-length, window-step, window-shown, window-sound}

-- A hidden row of the window; a shown step of it.
abbrev pub hidden_in : ℕ → List Row → ℕ → Bool
hidden_in r rows k = in_window r rows k && hidden rows k

abbrev pub shown_step_in : ℕ → List Row → ℕ → Bool
shown_step_in r rows k = in_window r rows k && shown_step rows k

module _ (rows : List Row) {a b : ℕ} (s : WideRows rows a b) (r : ℕ) where
  hidden-there : (n : ℕ) → n ≤ length rows → count (hidden (window_rows r rows)) (count (in_window r rows) n) ≡ count (hidden_in r rows) n
  hidden-there n l = count_kept (in_window r rows) (hidden rows) (hidden (window_rows r rows)) n (λ k m t. ap not (window-shown rows s.tree r k (omega arith) t))

  pub counted-steps : count (hidden_in r rows) (length rows) ≡ steps (window_rows r rows)
  counted-steps = sym (ap (count (hidden (window_rows r rows))) (window-length rows r) ∙ hidden-there (length rows) (omega arith)) ∙ hidden-steps (window_rows r rows) (window-sound rows s r).s6

  pub counted-position : 0 < length (window_rows r rows) → count (hidden_in r rows) (latest (shown_step_in r rows) (length rows)) ≡ position (window_rows r rows)
  counted-position some =
      let own = window_rows r rows in
      let w = window-sound rows s r in
      let last : latest (shown_step own) (length own) ≡ count (in_window r rows) (latest (shown_step_in r rows) (length rows)) =
      ap (latest (shown_step own)) (window-length rows r)
      ∙ latest-kept (in_window r rows) (shown_step rows) (shown_step own) (length rows) (λ k m t. ap₂ ◌&&◌ (window-shown rows s.tree r k m t) (window-step rows s.tree r k m t)) in
      sym (ap (count (hidden own)) last ∙ hidden-there (latest (shown_step_in r rows) (length rows)) (latest-most (shown_step_in r rows) (length rows))) ∙ hidden-last own w.s6 w.s7 some
