-- A document that was in a record is in its window still, if it is in the record. Assumes nothing.
use Prim.Native.Nat.{ℕ}
use mathlib.Core.Bool.{So}
use mathlib.Core.List.{List, [], ◌∷◌}
use mathlib.Core.Path.{◌≡◌, sym, ap, ◌∙◌, subst}
use native.Mathlib.Omega.{arith}
use lib.Dec.{eqb}
use borrow.Author.Tests.{eqb-true, eqb-false}
use Rattle.rules.specs.Rows.{Row, Table, none, doc_at, in_record}
use Rattle.rules.specs.Steps.{upcoming}
use Rattle.rules.specs.Windows.{window_rows, window_of}
use Rattle.rules.specs.Moves.{opened, without, hide, is_child, replaced}
use Rattle.rules.specs.Words.{table_of, rows_of}
use Rattle.rules.specs.Sound.{Sound}
use Rattle.rules.specs.Calls.{refusals, NoneGiven}
use Rattle.rules.specs.Runs.{Move, on, after, run}
use Rattle.laws.specs.Alone.{cleared_all, navigated_all}
use Rattle.laws.proofs.Tests.{test}
use Rattle.laws.proofs.Tree.{TreeOf}
use Rattle.laws.proofs.Travel.{walked_at}
use Rattle.laws.proofs.Reflect.{record_is}
use Rattle.laws.proofs.Accepted.{open-relies, tab-relies, navigate-relies, replace-relies}
use Rattle.windows.proofs.Window.{WideRows, window-tree, window-sound}
use Rattle.windows.proofs.Opened.{opened-here, tabbed-here}
use Rattle.windows.proofs.Navigated.{navigated-here}
use Rattle.windows.proofs.Flagged.{traversed-here}
use Rattle.windows.proofs.Dropped.{dropped-here}
use Rattle.windows.proofs.Replaced.{replaced-here}
use Rattle.windows.proofs.Members.{member-record, member-one, member-some}
use Rattle.demands.specs.Record.{Words32}
use Rattle.demands.specs.Windows.{rows_in, InWindow, window_on}
use Rattle.demands.proofs.Accepted.{go-relies, made, by_move}
use Rattle.demands.proofs.Lasting.{wide_of, table-after}
use Rattle.demands.proofs.Standing.{sound-kept, words-kept, run-kept}
use Rattle.demands.proofs.Windows.{leaves-others}
use Rattle.demands.proofs.From.{From, from-append, from-flags, from-without, from-renamed}
use Rattle.demands.proofs.Seen.{at-record}
use Rattle.demands.proofs.Numbers.{next-kept, document-below}

-- THE MOVES OF A RECORD OF ONE WINDOW

module _ (t : Table) {a b : ℕ} (tree : TreeOf t.rows a b) where
  from-open : (p : ℕ) → From t.next_doc t.rows (opened t p).rows
  unfolding opened
  from-open p = from-append t.next_doc t.rows _ (omega arith)

  from-navigate : (d : ℕ) → From t.next_doc t.rows (navigated_all t d).rows
  unfolding navigated_all hide
  from-navigate d e l h =
      let c = cleared_all t.rows in
      from-without t.next_doc (upcoming t.rows) t.rows tree e l
      (from-flags t.next_doc _ c e l (from-append t.next_doc (hide d c) _ (omega arith) e l h))

  from-replace : (d : ℕ) → From t.next_doc t.rows (replaced t d).rows
  unfolding replaced
  from-replace d e l h =
      let q = is_child t.rows d in
      from-without t.next_doc q t.rows tree e l (from-renamed t.next_doc d t.next_doc (without q t.rows) (omega arith) e l h)

-- THE MOVES OF A TABLE

module _ (words : List ℕ) (wide : Words32 words) (s : Sound words) where
  abbrev t : Table
  t = table_of words

  rows : WideRows t.rows t.next_doc t.next_frame
  rows = wide_of words wide s

  tree : (v : ℕ) → TreeOf (window_rows v t.rows) t.next_doc t.next_frame
  tree = window-tree t.rows rows.tree

  -- An accepted move, on its own window.
  from-here : (m : Move) → NoneGiven (refusals (on words m)) → From t.next_doc (rows_in (window_on words m) words) (window_rows (window_on words m) (made t m).rows)
  from-here (Move.opens p) h =
      let o = open-relies words p h in
      let v = window_on words (Move.opens p) in
      subst (From t.next_doc (rows_in v words)) (sym (opened-here t rows o.doc p o.seen)) (from-open (window_of t v) (tree v) p)
  from-here (Move.navigates d) h =
      let o = navigate-relies words d h in
      let v = window_on words (Move.navigates d) in
      subst (From t.next_doc (rows_in v words)) (sym (navigated-here t rows o.doc d o.seen)) (from-navigate (window_of t v) (tree v) d)
  from-here (Move.goes root δ room) h =
      let g = (go-relies words root δ room h).inside in
      let own = window-sound t.rows rows root in
      let w = walked_at (rows_in root words) own.s6 own.s7 δ g in
      subst (From t.next_doc (rows_in root words)) (sym (traversed-here t rows root δ g ∙ w.rows_are)) (λ d l k. sym (at-record w.to (rows_in root words) d) ∙ k)
  from-here (Move.drops f) h =
      let v = window_on words (Move.drops f) in
      subst (From t.next_doc (rows_in v words)) (sym (dropped-here t rows f v)) (from-without t.next_doc _ (rows_in v words) (tree v))
  from-here (Move.replaces d) h =
      let o = replace-relies words d h in
      let v = window_on words (Move.replaces d) in
      subst (From t.next_doc (rows_in v words)) (sym (replaced-here t rows o.doc d v)) (from-replace (window_of t v) (tree v) d)
  from-here Move.tabs h =
      λ d l there.
      let top : Row = record { doc = t.next_doc; frame = t.next_frame; parent = none; shown = 1 } in
      let o = (record_is (top ∷ []) d).0 (subst (λ x. So (in_record x d)) (tabbed-here t rows (tab-relies words h).doc) there) in
      let z : o.0 ≡ 0 = let k = o.1 in omega arith in
      let e : t.next_doc ≡ d = ap (doc_at (top ∷ [])) (sym z) ∙ o.2 in
      absurd (omega arith)

  -- A document that has a number from before the move was in the same window.
  from-after : (m : Move) (v : ℕ) → From t.next_doc (rows_in v words) (rows_in v (after words m))
  from-after m v =
      test (eqb (window_on words m) v)
      (λ y.
      by_move words m
      (λ h e.
      subst (λ (u : Table). From t.next_doc (rows_in v words) (window_rows v u.rows)) (sym (table-after words wide s m h e))
      (subst (λ w. From t.next_doc (rows_in w words) (window_rows w (made t m).rows)) (eqb-true _ _ y) (from-here m h)))
      (λ e. subst (λ w. From t.next_doc (rows_in v words) (rows_in v w)) (sym e) (λ d l h. h)))
      (λ y. subst (From t.next_doc (rows_in v words)) (sym (leaves-others words m wide s v (λ e. eqb-false _ _ y (sym e)))) (λ d l h. h))

-- So after any moves.
from-run : (moves : List Move) (words : List ℕ) → Words32 words → Sound words → (v : ℕ) → From (table_of words).next_doc (rows_in v words) (rows_in v (run words moves))
unfolding run
from-run [] words wide s v d l h = h
from-run (m ∷ moves) words wide s v d l h =
    let more = (next-kept words wide s m).0 in
    from-after words wide s m v d l (from-run moves (after words m) (words-kept words wide s m) (sound-kept words wide s m) v d (omega arith) h)

-- What is there still is in its window.
pub still-within : (moves : List Move) (words : List ℕ) → Words32 words → Sound words → (r d : ℕ) → InWindow words r d → So (in_record (rows_of (run words moves)) d) → InWindow (run words moves) r d
still-within moves words wide s r d here there =
    let k = run-kept moves words wide s in
    let now = wide_of (run words moves) k.0 k.1 in
    let was = wide_of words wide s in
    let v = member-some (rows_of (run words moves)) now.tree d there in
    let below = document-below words wide s d (member-record (rows_of words) was.tree r d here) in
    let h = from-run moves words wide s v.0 d below v.1 in
    subst (λ w. InWindow (run words moves) w d) (sym (member-one (rows_of words) was.tree d r v.0 here h)) v.1
