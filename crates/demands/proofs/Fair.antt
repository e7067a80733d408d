-- No move changes who of window r is visible at its position p, of the documents below n that are in the record still, but a navigation in it from before p, a drop with which one of
-- its first p steps goes, and the replacement of such a document. Assumes nothing.
use Prim.Native.Nat.{ℕ, zero, suc, ◌≤◌, ◌<◌}
use mathlib.Core.Path.{◌≡◌, refl, sym, ap, ◌∙◌, subst}
use mathlib.Core.List.{List, [], ◌∷◌, ◌++◌}
use mathlib.Core.Logic.{◌≢◌, inl, inr}
use mathlib.Core.Bool.{Bool, So, false, not}
use native.Mathlib.Nat.{not-suc-le-zero}
use native.Mathlib.Omega.{arith}
use lib.Dec.{eqb}
use lib.IntN.{ℤ, pos, ◌+ℤ◌}
use lib.ListN.{length}
use borrow.Author.Tests.{eqb-true, eqb-false, eq-eqb}
use Rattle.rules.specs.Below.{count}
use Rattle.rules.specs.Rows.{Table, none, doc_at, in_record, in_frame, is_frame}
use Rattle.rules.specs.Steps.{is_step, upcoming, position, steps, visible}
use Rattle.rules.specs.Windows.{in_window, window_rows, window_of}
use Rattle.rules.specs.Moves.{opened, tabbed, gone, without, walked, traversed, dropped, is_child, replaced, navigated}
use Rattle.rules.specs.Words.{table_of}
use Rattle.rules.specs.Sound.{Sound}
use Rattle.rules.specs.Calls.{outside, refusals, NoneGiven}
use Rattle.rules.specs.Runs.{Move, on, after}
use Rattle.laws.specs.Alone.{cleared_all, navigated_all}
use Rattle.laws.proofs.Tests.{test, count-in}
use Rattle.laws.proofs.Kept.{kept, kept_row, kept-length}
use Rattle.laws.proofs.Tree.{TreeOf, proper}
use Rattle.laws.proofs.Reflect.{record_is}
use Rattle.laws.proofs.Climb.{gone-cases, seen-there}
use Rattle.laws.proofs.Removal.{SoundRows, stays, stays-in, stays_up, stays-whole}
use Rattle.laws.proofs.Travel.{walked_at}
use Rattle.laws.proofs.Navigate.{arrival, navigated-at}
use Rattle.laws.proofs.Drop.{stays_but, frame-together, dropped-out}
use Rattle.laws.proofs.Replace.{children-together, children-removed, bare}
use Rattle.laws.proofs.Accepted.{open-relies, navigate-relies, drop-relies, replace-relies}
use Rattle.windows.proofs.Window.{WideRows, window-up, window-frame, window-came, window-sound}
use Rattle.windows.proofs.Without.{gone-along}
use Rattle.windows.proofs.Added.{root-new-top, snoc-in}
use Rattle.windows.proofs.Opened.{opened-here}
use Rattle.windows.proofs.Navigated.{navigated-here}
use Rattle.windows.proofs.Flagged.{traversed-here}
use Rattle.windows.proofs.Dropped.{dropped-here}
use Rattle.windows.proofs.Replaced.{replaced-here}
use Rattle.windows.proofs.Members.{member-record, sees-here, frame_here}
use Rattle.demands.specs.Record.{Words32}
use Rattle.demands.specs.Windows.{rows_in, InWindow, window_on}
use Rattle.demands.specs.Note.{Removes}
use Rattle.demands.proofs.Accepted.{go-relies, made, by_move}
use Rattle.demands.proofs.Lasting.{wide_of, table-after}
use Rattle.demands.proofs.Windows.{leaves-others}
use Rattle.demands.proofs.Seen.{steps-stay, cleared-whole, cleared-there}
use Rattle.demands.proofs.Steady.{Early, Closed, Steady, steady-stay, steady_then, seen-in, steady-at, steady-append, steady_kept}
use Rattle.demands.proofs.Renamed.{steady-renamed}

-- THE MOVES OF A RECORD OF ONE WINDOW

module _ (Out : Type 0) (p n : ℕ) (t : Table) (s : SoundRows t.rows t.next_doc t.next_frame) (few : p ≤ steps t.rows) (closed : Closed n t.rows) where
  steady-open : n ≤ t.next_doc → (d : ℕ) → Steady Out p n t.rows (opened t d).rows
  unfolding opened
  steady-open next d = steady-append Out p n t.rows few closed _ next

  steady-navigate : n ≤ t.next_doc → t.next_doc ≢ none → (d : ℕ) → So (visible t.rows d) → p ≤ position t.rows → Steady Out p n t.rows (navigated_all t d).rows
  unfolding without
  steady-navigate next unused d sees fair =
      let x = arrival t s unused d sees in
      let c = cleared_all t.rows in
      let a : Steady Out p n t.rows c =
      steady_kept Out p n t.rows few closed (stays (upcoming t.rows) t.rows) s.tree (stays_up (upcoming t.rows) t.rows s.tree)
      (cleared-whole t.rows s p fair) (steps-stay t.rows s p fair) (λ e l v. inl (cleared-there t.rows s p fair e v)) in
      let b = steady-append Out p n c a.enough a.closed x next in
      subst (Steady Out p n t.rows) (sym (navigated-at t s unused d sees)) (steady_then a (steady_then b (steady-at Out p n (c ++ x ∷ []) b.enough b.closed _)))

  steady-go : (δ : ℤ) → outside (steps t.rows) (pos (position t.rows) +ℤ δ) ≡ false → Steady Out p n t.rows (walked δ t.rows)
  steady-go δ inside =
      let r = walked_at t.rows s.s6 s.s7 δ inside in
      subst (Steady Out p n t.rows) (sym r.rows_are) (steady-at Out p n t.rows few closed r.to)

  -- No early step goes.
  steady-drop : Out → (f : ℕ) → ((k : ℕ) → k < length t.rows → So (is_step t.rows k) → count (is_step t.rows) k < p → So (stays_but f t.rows k)) →
      Steady Out p n t.rows (dropped t f).rows
  unfolding without
  steady-drop out f early =
      steady_kept Out p n t.rows few closed (stays_but f t.rows) s.tree (stays_up (in_frame t.rows f) t.rows s.tree)
      (stays-whole (in_frame t.rows f) t.rows s.tree p (frame-together t.rows f p)) early (λ d l v. inr out)

  -- A document from n on, where the early steps are older: what is beneath it is from n on too.
  module _ (d : ℕ) (there : So (in_record t.rows d)) (late : n ≤ d) (old : (e : ℕ) → Early p t.rows e → e < n) where
    abbrev under : ℕ → Bool
    under = is_child t.rows d

    gone-new : (k i : ℕ) → i < k → i < length t.rows → So (gone under t.rows i) → n ≤ doc_at t.rows i
    gone-new zero i l m g = absurd (not-suc-le-zero l)
    gone-new (suc k) i l m g =
        gone-cases under t.rows i g
        (λ v.
        let e = eqb-true _ _ v in
        let o = (record_is t.rows d).0 there in
        closed i m (subst (λ x. n ≤ x) (sym e) late) (λ z. proper s.tree o.0 o.1 (o.2 ∙ sym e ∙ z)))
        (λ j x h e. closed i m (subst (λ y. n ≤ y) e (gone-new k j (omega arith) (omega arith) h)) (λ z. proper s.tree j (omega arith) (e ∙ z)))

    -- So what is older stays.
    older-stays : (i : ℕ) → i < length t.rows → doc_at t.rows i < n → So (stays under t.rows i)
    older-stays i l x = stays-in under t.rows i (λ g. let y = gone-new (suc i) i (omega arith) l g in omega arith)

    steady-bare : Steady Out p n t.rows (without under t.rows)
    unfolding without
    steady-bare =
        let keep = stays under t.rows in
        steady_kept Out p n t.rows few closed keep s.tree (stays_up under t.rows s.tree)
        (stays-whole under t.rows s.tree p (children-together t.rows s.tree d p))
        (λ k l m c. older-stays k l (old (doc_at t.rows k) (k, l, refl, m, c)))
        (λ e x v.
        let o = (record_is t.rows e).0 (seen-in Out p n t.rows few closed e v) in
        let h : So (keep o.0) = older-stays o.0 o.1 (subst (λ y. y < n) (sym o.2) x) in
        inl ((record_is (kept keep t.rows) e).1 (
          count keep o.0,
          omega (arith, kept-length keep t.rows, count-in keep (length t.rows) o.1 h),
          ap (λ r. r.doc) (kept_row keep t.rows o.0 o.1 h) ∙ o.2,
        )))

    steady-replace : n ≤ t.next_doc → t.next_doc ≢ none → Steady Out p n t.rows (replaced t d).rows
    unfolding replaced
    steady-replace next unused =
        let a = steady-bare in
        let w = s.tree.word in
        let left : t.next_doc < none = omega arith in
        steady_then a (steady-renamed Out p n (without under t.rows) a.enough a.closed d t.next_doc (children-removed t d s).sound.tree left (bare t d s.tree) late next (λ e h. old e (a.noted e h)))

-- THE MOVES OF A TABLE

-- The document of a window's row that goes with a frame is in the record no more.
goes-out : (t : Table) {a b : ℕ} → TreeOf t.rows a b → (r f i : ℕ) → i < length (window_rows r t.rows) → stays_but f (window_rows r t.rows) i ≡ false →
    in_record (dropped t f).rows (doc_at (window_rows r t.rows) i) ≡ false
unfolding window_rows
goes-out t tree r f i l goes =
    let rows = t.rows in
    let own = window_rows r rows in
    let k = window-came rows tree r i l in
    let e = gone-along rows tree (in_window r rows) (in_frame rows f) (in_frame own f) (window-up rows tree r) (window-frame rows r f) k.0 k.1 k.2 in
    ap (in_record (dropped t f).rows) k.4.d
    ∙ dropped-out t f tree k.0 k.1 (ap not (sym e) ∙ ap (stays_but f own) k.3 ∙ goes)

-- What is asked of a move, for it to be steady: of one on window r.
pub record Fair (Out : Type 0) (p n r : ℕ) (words : List ℕ) (m : Move) : Type 0 where
  pub above : (d : ℕ) → m ≡ Move.navigates d → NoneGiven (refusals (on words m)) → InWindow words r d → p ≤ position (rows_in r words)
  pub spared : (f d : ℕ) → m ≡ Move.drops f → Removes words m d → Early p (rows_in r words) d → ⊥
  pub out : (f : ℕ) → m ≡ Move.drops f → NoneGiven (refusals (on words m)) → So (is_frame (rows_in r words) f) → Out
  pub unknown : (d : ℕ) → m ≡ Move.replaces d → NoneGiven (refusals (on words m)) → InWindow words r d → n ≤ d

module _ (Out : Type 0) (p n r : ℕ) (words : List ℕ) (wide : Words32 words) (s : Sound words)
    (few : p ≤ steps (rows_in r words)) (closed : Closed n (rows_in r words)) (next : n ≤ (table_of words).next_doc) (old : (d : ℕ) → Early p (rows_in r words) d → d < n) where
  abbrev t : Table
  t = table_of words

  abbrev own : Table
  own = window_of t r

  rows : WideRows t.rows t.next_doc t.next_frame
  rows = wide_of words wide s

  alone : SoundRows own.rows t.next_doc t.next_frame
  alone = window-sound t.rows rows r

  -- A window opened has the new row alone.
  steady-tab : t.next_frame ≡ r → Steady Out p n own.rows (window_rows r (tabbed t).rows)
  unfolding tabbed opened
  steady-tab q =
      subst (Steady Out p n own.rows) (sym (snoc-in t.rows _ rows.tree r (eq-eqb _ _ (root-new-top t.rows _ rows.tree refl ∙ q))))
      (steady-append Out p n own.rows few closed _ next)

  -- An accepted move on the window does to its rows what it does to a record of one window.
  steady-here : (m : Move) → window_on words m ≡ r → Fair Out p n r words m → NoneGiven (refusals (on words m)) → table_of (after words m) ≡ made t m →
      Steady Out p n own.rows (window_rows r (made t m).rows)
  steady-here (Move.opens d) q fair h e =
      let o = open-relies words d h in
      let here = subst (λ w. window_rows w (opened t d).rows ≡ (opened (window_of t w) d).rows) q (opened-here t rows o.doc d o.seen) in
      subst (Steady Out p n own.rows) (sym here) (steady-open Out p n own alone few closed next d)
  steady-here (Move.navigates d) q fair h e =
      let o = navigate-relies words d h in
      let here = subst (λ w. window_rows w (navigated t d).rows ≡ (navigated_all (window_of t w) d).rows) q (navigated-here t rows o.doc d o.seen) in
      let v = sees-here t.rows rows.tree r d o.seen q in
      subst (Steady Out p n own.rows) (sym here) (steady-navigate Out p n own alone few closed next o.doc d v (fair.above d refl h (seen-there own.rows d v)))
  steady-here (Move.goes root δ room) q fair h e =
      let g = (go-relies words root δ room h).inside in
      let here = subst (λ w. window_rows w (traversed t root δ).rows ≡ walked δ (window_rows w t.rows)) q (traversed-here t rows root δ g) in
      let inside = subst (λ w. outside (steps (rows_in w words)) (pos (position (rows_in w words)) +ℤ δ) ≡ false) q g in
      subst (Steady Out p n own.rows) (sym here) (steady-go Out p n own alone few closed δ inside)
  steady-here (Move.drops f) q fair h e =
      let o = drop-relies words f h in
      subst (Steady Out p n own.rows) (sym (dropped-here t rows f r))
      (steady-drop Out p n own alone few closed (fair.out f refl h (frame_here t.rows rows.tree r f o.there q)) f (λ k l m c.
      test (stays_but f own.rows k) (λ y. y) (λ g.
      let d = doc_at own.rows k in
      absurd (fair.spared f d refl (
        member-record t.rows rows.tree r d ((record_is own.rows d).1 (k, l, refl)),
        ap (λ (u : Table). in_record u.rows d) e ∙ goes-out t rows.tree r f k l g,
      ) (k, l, refl, m, c)))))
  steady-here (Move.replaces d) q fair h e =
      let o = replace-relies words d h in
      let there = seen-there own.rows d (sees-here t.rows rows.tree r d o.seen q) in
      subst (Steady Out p n own.rows) (sym (replaced-here t rows o.doc d r))
      (steady-replace Out p n own alone few closed d there (fair.unknown d refl h there) old next o.doc)
  steady-here Move.tabs q fair h e = steady-tab q

  -- Any move, refused or not, on this window or another.
  pub steady-after : (m : Move) → Fair Out p n r words m → Steady Out p n (rows_in r words) (rows_in r (after words m))
  steady-after m fair =
      let stay = steady-stay Out p n (rows_in r words) few closed in
      test (eqb (window_on words m) r)
      (λ y.
      by_move words m
      (λ h e. let a = table-after words wide s m h e in subst (λ (u : Table). Steady Out p n own.rows (window_rows r u.rows)) (sym a) (steady-here m (eqb-true _ _ y) fair h a))
      (λ e. subst (λ w. Steady Out p n (rows_in r words) (rows_in r w)) (sym e) stay))
      (λ y. subst (Steady Out p n (rows_in r words)) (sym (leaves-others words m wide s r (λ e. eqb-false _ _ y (sym e)))) stay)
