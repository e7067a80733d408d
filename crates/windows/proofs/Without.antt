-- Removal in a table: what is left of a window is what removal leaves of its rows. Assumes nothing.
use Prim.Native.Nat.{ℕ, suc, ◌<◌}
use mathlib.Core.Path.{◌≡◌, refl, sym, ap, ◌∙◌, subst}
use mathlib.Core.List.{List}
use mathlib.Core.Logic.{◌≢◌}
use mathlib.Core.Bool.{Bool, true, false, not, ◌&&◌, ◌||◌, So}
use native.Mathlib.Omega.{arith}
use lib.Dec.{eqb}
use lib.ListN.{length}
use borrow.Author.Tests.{eqb-true, ne_eqb}
use Rattle.rules.specs.Below.{count}
use Rattle.rules.specs.Rows.{Row, row_at, doc_at, parent_at}
use Rattle.rules.specs.Steps.{upcoming}
use Rattle.rules.specs.Moves.{gone, without, upcoming_in, cleared}
use Rattle.rules.specs.Sound.{S6}
use Rattle.rules.specs.Windows.{root_at, in_window, window_rows}
use Rattle.laws.specs.Alone.{InOrder, cleared_all}
use Rattle.laws.proofs.Tests.{clash, off, count-all}
use Rattle.laws.proofs.Kept.{kept, kept_row}
use Rattle.laws.proofs.Tree.{TreeOf, Alike, alike, tree-kept}
use Rattle.laws.proofs.Removal.{stays, stays_up, gone-later, cleared-removed}
use Rattle.windows.proofs.Along.{along}
use Rattle.windows.proofs.Roots.{root-along}
use Rattle.windows.proofs.Wholes.{gather-same, kept-kept, kept-all}
use Rattle.windows.proofs.Window.{WideRows, window-up, window-upcoming, window-sound}
use Rattle.windows.proofs.Parts.{one-window}

and-swap : (a b : Bool) → (a && b) ≡ (b && a)
and-swap true true = refl
and-swap true false = refl
and-swap false true = refl
and-swap false false = refl

-- The fields of a kept row.
kept-alike : (keep : ℕ → Bool) (rows : List Row) (k : ℕ) → k < length rows → So (keep k) → Alike (kept keep rows) (count keep k) rows k
kept-alike keep rows k l t = alike (kept_row keep rows k l t)

-- What goes of the kept rows is what goes of the table.
pub gone-along : (rows : List Row) {a b : ℕ} → TreeOf rows a b → (keep q r : ℕ → Bool) →
    ((j k : ℕ) → j < k → k < length rows → doc_at rows j ≡ parent_at rows k → So (keep k) → So (keep j)) →
    ((k : ℕ) → k < length rows → So (keep k) → r (count keep k) ≡ q k) →
    (k : ℕ) → k < length rows → So (keep k) → gone r (kept keep rows) (count keep k) ≡ gone q rows k
unfolding gone
gone-along rows tree keep q r up same =
    along false (λ k x. q k || x) (λ k x. r k || x) rows (kept keep rows) keep tree
    (λ k l t. (kept-alike keep rows k l t).d) (λ k l t. (kept-alike keep rows k l t).p) up (λ k l t x. ap (λ y. y || x) (same k l t))

-- Nothing passes, nothing goes.
pub without-none : (q : ℕ → Bool) (rows : List Row) → ((k : ℕ) → k < length rows → q k ≡ false) → without q rows ≡ rows
unfolding without
without-none q rows none =
    let all : (k : ℕ) → k < length rows → So (stays q rows k) =
    λ k l. rw (off (gone q rows k) (λ g. let v = gone-later q rows (suc k) k (omega arith) g in clash v.2 (none v.0 (omega arith)))) refl in
    kept-all (stays q rows) rows (λ k l. count-all _ k (λ j m. all j (omega arith))) (count-all _ (length rows) all)

-- A window with what is left of it; r tells of its rows what q tells of the table's.
module _ (rows : List Row) {a b : ℕ} (tree : TreeOf rows a b) (w : ℕ) (q r : ℕ → Bool)
    (same : (k : ℕ) → k < length rows → So (in_window w rows k) → r (count (in_window w rows) k) ≡ q k) where
  pub window-without : window_rows w (without q rows) ≡ without r (window_rows w rows)
  unfolding window_rows without
  window-without =
      kept-kept (stays q rows) (in_window w rows) (in_window w (kept (stays q rows) rows)) rows (λ k l t.
      ap (λ x. eqb x w) (root-along rows tree (kept (stays q rows) rows) (stays q rows) (kept-alike (stays q rows) rows) (stays_up q rows tree) k l t))
      ∙ gather-same _ _ (row_at rows) (row_at rows) (length rows) (λ k l. and-swap (stays q rows k) (in_window w rows k)) (λ k l. refl)
      ∙ sym (kept-kept (in_window w rows) (stays q rows) (stays r (kept (in_window w rows) rows)) rows (λ k l t.
      ap not (gone-along rows tree (in_window w rows) q r (window-up rows tree w) same k l t)))

-- A window in which nothing passes keeps its rows.
pub without-there : (rows : List Row) {a b : ℕ} → TreeOf rows a b → (w : ℕ) (q : ℕ → Bool) →
    ((k : ℕ) → k < length rows → So (in_window w rows k) → q k ≡ false) → window_rows w (without q rows) ≡ window_rows w rows
without-there rows tree w q none =
    window-without rows tree w q (λ k. false) (λ k l t. sym (none k l t)) ∙ without-none (λ k. false) (window_rows w rows) (λ k l. refl)

pub without-tree : (rows : List Row) {a b : ℕ} → TreeOf rows a b → (q : ℕ → Bool) → TreeOf (without q rows) a b
unfolding without
without-tree rows tree q = tree-kept (stays q rows) rows tree (stays_up q rows tree)

-- NAVIGATE'S REMOVAL
module _ (rows : List Row) {a b : ℕ} (s : WideRows rows a b) (r : ℕ) where
  pub cleared-here : window_rows r (cleared r rows) ≡ cleared_all (window_rows r rows)
  cleared-here =
      window-without rows s.tree r (upcoming_in r rows) (upcoming (window_rows r rows)) (λ k l t. rw t (window-upcoming rows s.tree r k l t))

  pub cleared-there : (v : ℕ) → v ≢ r → window_rows v (cleared r rows) ≡ window_rows v rows
  cleared-there v ne =
      without-there rows s.tree v (upcoming_in r rows) (λ k l t. rw (ne_eqb (root_at rows k) r (λ e. ne (sym (eqb-true _ _ t) ∙ e))) refl)

  pub cleared-sound : WideRows (cleared r rows) a b
  cleared-sound =
      let c = (cleared-removed (window_rows r rows) (window-sound rows s r)).sound in
      one-window rows (cleared r rows) r s (without-tree rows s.tree (upcoming_in r rows)) (subst S6 (sym cleared-here) c.s6) (subst InOrder (sym cleared-here) c.s7) cleared-there
