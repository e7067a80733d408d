-- 001, theorem 1, for the calls: by δ and then by δ' is by δ + δ'. Assumes nothing.
use Prim.Native.Nat.{ℕ, ◌≤◌, ◌<◌}
use mathlib.Core.List.{List}
use mathlib.Core.Bool.{Bool, false, cond}
use mathlib.Core.Path.{◌≡◌, refl, sym, ap, ap₂, ◌∙◌, subst}
use native.Mathlib.Omega.{arith}
use lib.Dec.{eqb}
use lib.IntN.{ℤ, pos, ◌+ℤ◌, +ℤ_assoc}
use lib.ListN.{length}
use borrow.Author.Tests.{le-ltb}
use Rattle.rules.specs.Below.{count}
use Rattle.rules.specs.Rows.{Row, Table, is_shown, with_flags}
use Rattle.rules.specs.Steps.{position, steps}
use Rattle.rules.specs.Windows.{in_window, window_rows}
use Rattle.rules.specs.Moves.{walked, reflagged, traversed}
use Rattle.rules.specs.Words.{table_of, written}
use Rattle.rules.specs.Sound.{S6}
use Rattle.rules.specs.Calls.{outside, beyond}
use Rattle.rules.specs.Runs.{Move, after}
use Rattle.laws.specs.Alone.{InOrder}
use Rattle.laws.proofs.Tests.{test, count_same}
use Rattle.laws.proofs.Flags.{flag-test, flags-length, flags-row, flags-eq, flags-flags}
use Rattle.laws.proofs.Tree.{TreeOf}
use Rattle.laws.proofs.Central.{flags_at, at_at, at-S6, at-S7}
use Rattle.laws.proofs.Travel.{walked_at, walked-position, walked-steps}
use Rattle.laws.proofs.Words.{written-written}
use Rattle.windows.proofs.Roots.{root-flags}
use Rattle.windows.proofs.Window.{window-sound}
use Rattle.windows.proofs.Flagged.{traversed-here}
use Rattle.demands.specs.Fundamental.{Fundamental}
use Rattle.demands.proofs.Accepted.{accepted-none, none-accepted, go-relies, go-accepted, accepted-after}
use Rattle.demands.proofs.Lasting.{wide_of, made-lasting, table-after}

-- On rows: both ways are inside, then so is the whole way, and it ends alike.
module _ (rows : List Row) (s6 : S6 rows) (s7 : InOrder rows) (δ δ' : ℤ) (h : outside (steps rows) (pos (position rows) +ℤ δ) ≡ false)
    (h' : outside (steps (walked δ rows)) (pos (position (walked δ rows)) +ℤ δ') ≡ false) where
  pub walked-walked : (outside (steps rows) (pos (position rows) +ℤ (δ +ℤ δ')) ≡ false) × (walked δ' (walked δ rows) ≡ walked (δ +ℤ δ') rows)
  walked-walked =
      let r = walked_at rows s6 s7 δ h in
      let r' = walked_at (walked δ rows) (subst S6 (sym r.rows_are) (at-S6 _ rows)) (subst InOrder (sym r.rows_are) (at-S7 _ rows)) δ' h' in
      let sum : pos (position rows) +ℤ (δ +ℤ δ') ≡ pos r'.to =
      sym (+ℤ_assoc (pos (position rows)) δ δ') ∙ ap (λ z. z +ℤ δ') (r.sum ∙ ap pos (sym (walked-position rows s6 s7 δ h))) ∙ r'.sum in
      let within : r'.to ≤ steps rows = subst (λ n. r'.to ≤ n) (walked-steps rows s6 s7 δ h) r'.within in
      let inside : outside (steps rows) (pos (position rows) +ℤ (δ +ℤ δ')) ≡ false = ap (outside (steps rows)) sum ∙ le-ltb _ _ within in
      let r'' = walked_at rows s6 s7 (δ +ℤ δ') inside in
      let landing : pos r'.to ≡ pos r''.to = sym sum ∙ r''.sum in
      let alike : r'.to ≡ r''.to = cc in (
        inside,
        r'.rows_are ∙ ap₂ flags_at alike r.rows_are ∙ at_at r.to r''.to rows ∙ sym r''.rows_are,
      )

-- Of two changes of a window's flags the later one counts.
flagged-twice : (rows : List Row) {a b : ℕ} → TreeOf rows a b → (r : ℕ) (new old : List Row) → reflagged r new (reflagged r old rows) ≡ reflagged r new rows
unfolding reflagged
flagged-twice rows tree r new old =
    let f : ℕ → Bool = λ i. cond (in_window r rows i) (is_shown old (count (in_window r rows) i)) (is_shown rows i) in
    let l : List Row = with_flags f rows in
    let same : (i : ℕ) → i < length rows → in_window r l i ≡ in_window r rows i = λ i m. ap (λ x. eqb x r) (root-flags rows tree f i m) in
    let marks : (i : ℕ) → i < length rows → is_shown l i ≡ f i = λ i m. ap (λ (x : Row). eqb x.shown 1) (flags-row f rows i m) ∙ flag-test (f i) in
    flags-eq _ (λ i. cond (in_window r rows i) (is_shown new (count (in_window r rows) i)) (is_shown rows i)) l (λ i n.
    let m : i < length rows = rw flags-length at n in
    test (in_window r rows i)
    (λ t. rw (same i m, t) (ap (is_shown new) (count_same _ _ i (λ k o. same k (omega arith)))))
    (λ u. rw (same i m, u) (marks i m ∙ rw u refl)))
    ∙ flags-flags _ f rows

-- "Definition 4 (Fundamental property)", of the calls.
pub traverse-traverse : Fundamental
unfolding traversed
traverse-traverse words r δ δ' room room' enough wide a a' lent =
    let t = table_of words in
    let own = window_rows r t.rows in
    let m = Move.goes r δ room in
    let next = after words m in
    let n = accepted-none _ a in
    let g = go-relies words r δ room n in
    let e : next ≡ written words (traversed t r δ) = accepted-after words m n in
    let e' : table_of next ≡ traversed t r δ = table-after words wide g.sound m n e in
    let n' = accepted-none _ a' in
    let s = wide_of words wide g.sound in
    let u = window-sound t.rows s r in
    let here : window_rows r (traversed t r δ).rows ≡ walked δ own = traversed-here t s r δ g.inside in
    let w = walked-walked own u.s6 u.s7 δ δ' g.inside
    (subst (λ l. beyond l δ' ≡ false) (ap (λ (t : Table). window_rows r t.rows) e' ∙ here) (go-relies next r δ' room' n').inside) in
    let twice : (traversed (traversed t r δ) r δ').rows ≡ (traversed t r (δ +ℤ δ')).rows =
    ap (λ l. reflagged r l (traversed t r δ).rows) (ap (walked δ') here ∙ w.1) ∙ flagged-twice t.rows s.tree r (walked (δ +ℤ δ') own) (walked δ own) in
    let k = Move.goes r (δ +ℤ δ') enough in
    let whole = go-accepted words r (δ +ℤ δ') enough (record { long = g.long; sound = g.sound; root = g.root; inside = w.0; lent = lent }) in
    let long = g.long in (
      none-accepted _ whole,
      accepted-after words k whole
          ∙ sym (written-written words (traversed t r δ) (omega arith) (made-lasting words wide g.sound m n).sound.s1.fits (traversed t r (δ +ℤ δ')) (made-lasting words wide g.sound k whole).sound.s1.fits)
          ∙ ap (λ l. written (written words (traversed t r δ)) (record { rows = l; next_doc = t.next_doc; next_frame = t.next_frame })) (sym twice)
          ∙ ap (λ u. written u (traversed (traversed t r δ) r δ')) (sym e)
          ∙ ap (λ u. written next (traversed u r δ')) (sym e')
          ∙ sym (accepted-after next (Move.goes r δ' room') n'),
    )
