-- A record of one window stays one while no window is opened. Assumes nothing.
use Prim.Native.Nat.{ℕ, ◌<◌}
use mathlib.Core.Bool.{So}
use mathlib.Core.List.{List, [], ◌∷◌, ◌++◌, append_assoc}
use mathlib.Core.Path.{◌≡◌, refl, sym, ap, ◌∙◌, subst}
use lib.Dec.{eqb}
use lib.ListN.{length}
use borrow.Author.Tests.{eqb-true, eqb-false, eq-eqb}
use Rattle.rules.specs.Below.{count}
use Rattle.rules.specs.Rows.{Row}
use Rattle.rules.specs.Steps.{visible}
use Rattle.rules.specs.Windows.{root_at, in_window, is_root}
use Rattle.rules.specs.Words.{table_of, rows_of}
use Rattle.rules.specs.Sound.{Sound}
use Rattle.rules.specs.OldSaved.{S5alone}
use Rattle.rules.specs.Calls.{refusals, NoneGiven}
use Rattle.rules.specs.Runs.{Move, on, after, run}
use Rattle.laws.proofs.Tests.{test}
use Rattle.laws.proofs.Tree.{TreeOf, place_is}
use Rattle.laws.proofs.Climb.{sees-out}
use Rattle.laws.proofs.Accepted.{open-relies, navigate-relies, drop-relies, replace-relies}
use Rattle.windows.proofs.Roots.{root-one}
use Rattle.windows.proofs.Window.{window-every, window-place, window-came}
use Rattle.windows.proofs.Members.{first-row, root-held}
use Rattle.demands.specs.Record.{Words32}
use Rattle.demands.specs.Windows.{window_of_doc, window_on}
use Rattle.demands.specs.Note.{NoTabs, WithoutTabs}
use Rattle.demands.proofs.Accepted.{none-accepted, go-relies, by_move}
use Rattle.demands.proofs.Lasting.{wide_of}
use Rattle.demands.proofs.Standing.{sound-kept, words-kept}
use Rattle.demands.proofs.Windows.{leaves-others}

-- All rows are of window r.
abbrev AllIn : ℕ → List Row → Type 0
AllIn r rows = (k : ℕ) → k < length rows → root_at rows k ≡ r

-- With one root frame all rows are of its window.
all-alone : (rows : List Row) {a b : ℕ} → TreeOf rows a b → (r : ℕ) → So (is_root rows r) → S5alone rows → AllIn r rows
all-alone rows tree r h one k l = let i = root-held rows r h in root-one rows tree one.root k i.0 l i.1 ∙ i.2

module _ (words : List ℕ) (wide : Words32 words) (s : Sound words) (r : ℕ) (all : AllIn r (rows_of words)) where
  tree : TreeOf (rows_of words) (table_of words).next_doc (table_of words).next_frame
  tree = (wide_of words wide s).tree

  doc-on : (d : ℕ) → So (visible (rows_of words) d) → window_of_doc words d ≡ r
  doc-on d v = let o = sees-out (rows_of words) d v in ap (root_at (rows_of words)) (place_is (rows_of words) tree o.0 d o.1 o.2) ∙ all o.0 o.1

  -- An accepted move that opens no window is on this one.
  on-only : (m : Move) → (m ≡ Move.tabs → ⊥) → NoneGiven (refusals (on words m)) → window_on words m ≡ r
  on-only (Move.opens p) ne h = doc-on p (open-relies words p h).seen
  on-only (Move.navigates d) ne h = doc-on d (navigate-relies words d h).seen
  on-only (Move.goes root δ room) ne h = let i = root-held (rows_of words) root (go-relies words root δ room h).root in sym i.2 ∙ all i.0 i.1
  on-only (Move.drops f) ne h = all _ (first-row (rows_of words) f (drop-relies words f h).there).0
  on-only (Move.replaces d) ne h = doc-on d (replace-relies words d h).seen
  on-only Move.tabs ne h = absurd (ne refl)

  -- No row of another window comes.
  all_made : (m : Move) → window_on words m ≡ r → AllIn r (rows_of (after words m))
  all_made m q k l =
      let new = rows_of (after words m) in
      let v = root_at new k in
      test (eqb v r) (λ y. eqb-true _ _ y) (λ y.
      let ne = eqb-false v r y in
      let e = leaves-others words m wide s v (λ z. ne (z ∙ q)) in
      let there = subst (λ x. count (in_window v new) k < length x) e (window-place new v k l (eq-eqb (root_at new k) _ refl)) in
      let c = window-came (rows_of words) tree v (count (in_window v new) k) there in
      absurd (ne (sym (eqb-true _ _ c.2) ∙ all c.0 c.1)))

  all_after : (m : Move) → (m ≡ Move.tabs → NoneGiven (refusals (on words m)) → ⊥) → AllIn r (rows_of (after words m))
  all_after m none = by_move words m (λ h e. all_made m (on-only m (λ q. none q h) h)) (λ e. subst (λ w. AllIn r (rows_of w)) (sym e) all)

-- So after any moves that open none.
all-run : (r : ℕ) (moves : List Move) (words : List ℕ) → Words32 words → Sound words → AllIn r (rows_of words) → NoTabs words moves → AllIn r (rows_of (run words moves))
unfolding run
all-run r [] words wide s all none = all
all-run r (m ∷ moves) words wide s all none =
    let now = all_after words wide s r all m (λ e h. none [] moves (ap (λ x. x ∷ moves) e) (none-accepted _ (subst (λ x. NoneGiven (refusals (on words x))) e h))) in
    all-run r moves (after words m) (words-kept words wide s m) (sound-kept words wide s m) now (λ before rest e. none (m ∷ before) rest (ap (λ l. m ∷ l) e))

-- "Demand 3 holds per window": of one window and no other it is what it was.
pub without-tabs : WithoutTabs
without-tabs =
    record {
      still_one = λ words r moves wide s root one none before rest split.
          let all = all-alone (rows_of words) (wide_of words wide s).tree r root one in
          window-every (rows_of (run words before)) r (λ k l. eq-eqb _ _ (all-run r before words wide s all (λ b q e. none b (q ++ rest) (split ∙ ap (λ l. l ++ rest) e ∙ append_assoc b (Move.tabs ∷ q) rest)) k l));
    }
