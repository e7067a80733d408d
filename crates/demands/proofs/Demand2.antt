-- Demand 2: moves on a window of a sound record follow 001's fully patched model, and saving and loading undo each other. Assumes nothing.
use Prim.Native.Nat.{ℕ}
use mathlib.Core.Bool.{So}
use mathlib.Core.List.{List, []}
use mathlib.Core.Logic.{◌↔◌, ◌⊎◌, ⊎_elim}
use mathlib.Core.Path.{◌≡◌, sym, ap, ◌∙◌, subst}
use native.Mathlib.Omega.{arith}
use lib.IntN.{ℤ, pos, ◌+ℤ◌}
use Rattle.rules.specs.Rows.{Row, Table}
use Rattle.rules.specs.Steps.{position, steps, visible}
use Rattle.rules.specs.Windows.{window_rows, window_of, is_root}
use Rattle.rules.specs.Moves.{navigated}
use Rattle.rules.specs.Words.{table_of, rows_of}
use Rattle.rules.specs.Sound.{Sound}
use Rattle.rules.specs.Saved.{parent_of}
use Rattle.rules.specs.Calls.{Call, window_in, refusals, NoneGiven}
use Rattle.rules.specs.Runs.{Move, on, after}
use Rattle.laws.specs.Alone.{navigated_all}
use Rattle.laws.proofs.Tests.{clash}
use Rattle.laws.proofs.Tree.{parent-of}
use Rattle.laws.proofs.Climb.{sees-out}
use Rattle.laws.proofs.Reflect.{record_is}
use Rattle.laws.proofs.Removal.{SoundRows}
use Rattle.laws.proofs.Accepted.{navigate-relies, drop-relies}
use Rattle.windows.proofs.Window.{WideRows, window-sound}
use Rattle.windows.proofs.Navigated.{navigated-here}
use Rattle.windows.proofs.Flagged.{traversed-here}
use Rattle.windows.proofs.Dropped.{dropped-here}
use Rattle.windows.proofs.Members.{member, member-window, member-sees, parent-visible, root-some}
use Rattle.demands.specs.Record.{Words32, Accepted}
use Rattle.demands.specs.Windows.{rows_in, InWindow}
use Rattle.demands.specs.Refuses.{lines, HoldsIn, Applies, Absent, Hidden, Beyond}
use Rattle.demands.specs.Model.{History, deleting, navigating, Same, Traverses}
use Rattle.demands.specs.Follows.{of_rows, history_of, OfFrame, FollowsModel, Demand2}
use Rattle.demands.proofs.Accepted.{accepted-none, accepted-after, go-relies, made}
use Rattle.demands.proofs.Lasting.{wide_of, table-after}
use Rattle.demands.proofs.Demand1.{first_holds, demand1, outside-is}
use Rattle.demands.proofs.Saving.{undo-each-other, takes-old}
use Rattle.demands.proofs.Traverses.{traversed-inside, walk-model, theorem-1}
use Rattle.demands.proofs.Shape.{is-history, well-formed, one-root}
use Rattle.demands.proofs.Active.{visible-active}
use Rattle.demands.proofs.Deleted.{upcoming-future, without-frame}
use Rattle.demands.proofs.Navigates.{navigate-model}

-- A line with another number is passed over.
other : {m n : ℕ} {P R C : Type 0} → (m ≡ n → ⊥) → (R → C) → ((m ≡ n) × P) ⊎ R → C
other ne f h = ⊎_elim (λ x. absurd (ne x.0)) f h

this : {m n : ℕ} {P R C : Type 0} → (P → C) → (R → C) → ((m ≡ n) × P) ⊎ R → C
this g f h = ⊎_elim (λ x. g x.1) f h

nothing : {C : Type 0} → ⊥ → C
nothing h = absurd h

-- What refusals 4, 5 and 6 say.
module _ (words : List ℕ) where
  says-absent : (d : ℕ) → Applies 4 (Call.Navigate words d) → Absent words d
  unfolding lines HoldsIn
  says-absent d h =
      other (λ e. omega arith) (other (λ e. omega arith) (this (λ x. x) (other (λ e. omega arith) (other (λ e. omega arith) (other (λ e. omega arith) nothing))))) h

  says_hidden : (d : ℕ) → Applies 5 (Call.Navigate words d) → Hidden words d
  unfolding lines HoldsIn
  says_hidden d h =
      other (λ e. omega arith) (other (λ e. omega arith) (other (λ e. omega arith) (this (λ x. x) (other (λ e. omega arith) (other (λ e. omega arith) nothing))))) h

  says-beyond : (r : ℕ) (δ : ℤ) (room : List ℕ) → Applies 6 (Call.Traverse words r δ room) → Beyond (window_in words r).rows δ
  unfolding lines HoldsIn
  says-beyond r δ room h = other (λ e. omega arith) (other (λ e. omega arith) (other (λ e. omega arith) (this (λ x. x) (other (λ e. omega arith) nothing)))) h

module _ (words : List ℕ) (r : ℕ) (wide : Words32 words) (s : Sound words) where
  abbrev t : Table
  t = table_of words

  all : WideRows t.rows t.next_doc t.next_frame
  all = wide_of words wide s

  -- The window by itself.
  abbrev own : List Row
  own = window_rows r t.rows

  rows : SoundRows own t.next_doc t.next_frame
  rows = window-sound t.rows all r

  -- Its rows after an accepted move.
  rows-after : (m : Move) → NoneGiven (refusals (on words m)) → rows_in r (after words m) ≡ window_rows r (made t m).rows
  rows-after m n = ap (λ (u : Table). window_rows r u.rows) (table-after words wide s m n (accepted-after words m n))

  -- What is visible in the window: what is of it and visible in the table.
  sees : (d : ℕ) → So (visible own d) ↔ (InWindow words r d × So (visible t.rows d))
  sees = member-sees t.rows all.tree r

  navigated-model : (d : ℕ) → InWindow words r d → NoneGiven (refusals (on words (Move.navigates d))) →
      Same (navigating (history_of words r) d t.next_doc) (history_of (after words (Move.navigates d)) r)
  navigated-model d h n =
      let o = navigate-relies words d n in
      let here : window_rows r (navigated t d).rows ≡ (navigated_all (window_of t r) d).rows =
      subst (λ v. window_rows v (navigated t d).rows ≡ (navigated_all (window_of t v) d).rows) (member-window t.rows all.tree r d h) (navigated-here t all o.doc d o.seen) in
      subst (λ l. Same (navigating (history_of words r) d t.next_doc) (of_rows l)) (sym (rows-after (Move.navigates d) n ∙ here))
      (navigate-model (window_of t r) rows o.doc d ((sees d).1 (h, o.seen)))

  traversed-model : (δ : ℤ) (room : List ℕ) → Accepted (on words (Move.goes r δ room)) → (K : History) →
      Traverses δ (history_of words r) K ↔ Same (history_of (after words (Move.goes r δ room)) r) K
  traversed-model δ room a K =
      let n = accepted-none _ a in
      let o = go-relies words r δ room n in
      subst (λ l. Traverses δ (history_of words r) K ↔ Same (of_rows l) K) (sym (rows-after (Move.goes r δ room) n ∙ traversed-here t all r δ o.inside)) (walk-model own rows δ o.inside K)

  dropped-model : (f : ℕ) → NoneGiven (refusals (on words (Move.drops f))) → Same (deleting (history_of words r) (OfFrame own f)) (history_of (after words (Move.drops f)) r)
  dropped-model f n =
      subst (λ l. Same (deleting (history_of words r) (OfFrame own f)) (of_rows l)) (sym (rows-after (Move.drops f) n ∙ dropped-here t all f r)) (without-frame own rows f)

  follows-model : So (is_root (rows_of words) r) → FollowsModel words r
  follows-model root =
      record {
        is-history = is-history own rows;
        well-formed = well-formed own rows;
        one-root = one-root own rows (root-some t.rows all.tree r root);
        visible-is = λ d. (λ x. (visible-active own rows.tree d).0 ((sees d).1 x), λ x. (sees d).0 ((visible-active own rows.tree d).1 x));
        upcoming-is = upcoming-future own rows;
        navigate = λ d h a.
            let n = accepted-none _ a in (
              (visible-active own rows.tree d).0 ((sees d).1 (h, (navigate-relies words d n).seen)),
              λ x. omega (arith, rows.tree.below x.0 x.1, x.2),
              navigated-model d h n,
            );
        traverse = traversed-model;
        drop = λ f h a.
            let n = accepted-none _ a in
            let p = parent_of own f in
            let seen : So (visible own p) = parent-visible t.rows all.tree r f h ∙ (drop-relies words f n).seen in
            let v = sees-out own p seen in (
              (p, (visible-active own rows.tree p).0 seen, λ d x. ((v.0, v.1, v.2), (x.0, x.1, x.2, sym (parent-of own rows.tree.kin x.0 f x.1 x.3)))),
              dropped-model f n,
            );
        theorem-1 = theorem-1 own rows;
        absent = λ d e x.
            let m = member t.rows all.tree r d ((record_is own d).1 x) in
            says-absent words d (first_holds 4 [] _ (((demand1 _).exactly 4 []).0 e)) m.0 (m.1, m.2);
        hidden = λ d vs e x. clash ((sees d).0 ((visible-active own rows.tree d).1 x)).1 (says_hidden words d (first_holds 5 vs _ (((demand1 _).exactly 5 vs).0 e))).1;
        beyond = λ δ room e K x.
            clash ((outside-is (steps own) (pos (position own) +ℤ δ)).1 (says-beyond words r δ room (first_holds 6 [] _ (((demand1 _).exactly 6 []).0 e)))) (traversed-inside own rows δ K x);
      }

-- "Navigating and traversing give the record that the fully patched model of source document 001 gives [..] Saving and loading undo each other"
pub demand2 : Demand2
demand2 = record { model = λ words r wide s root. follows-model words r wide s root; saving = undo-each-other; old = takes-old }
