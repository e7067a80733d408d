-- The numbers that are handed out: what only rises is new each time. Assumes nothing.
use Prim.Native.Nat.{ℕ, suc, ◌≤◌, ◌<◌}
use mathlib.Core.Path.{◌≡◌, refl, sym, ap, ◌∙◌, subst}
use mathlib.Core.List.{List, [], ◌∷◌, ◌++◌}
use mathlib.Core.Bool.{So}
use native.Mathlib.Omega.{arith}
use Rattle.rules.specs.Rows.{Table, in_record, is_frame}
use Rattle.rules.specs.Moves.{opened, tabbed, navigated, traversed, replaced}
use Rattle.rules.specs.Words.{table_of, rows_of}
use Rattle.rules.specs.Sound.{Sound}
use Rattle.rules.specs.Calls.{Call, Answer, accepted}
use Rattle.rules.specs.Runs.{Move, after, run}
use Rattle.laws.proofs.Reflect.{record_is, frame_is}
use Rattle.laws.proofs.Calls.{outcome-accepted}
use Rattle.demands.specs.Record.{Words32}
use Rattle.demands.specs.Note.{HandsDocument, HandsFrame, New}
use Rattle.demands.proofs.Accepted.{accepted-none, accepted-after, made, by_move}
use Rattle.demands.proofs.Lasting.{wide_of, table-after}
use Rattle.demands.proofs.Standing.{sound-kept, words-kept, run-kept}

pub run-append : (before moves : List Move) (words : List ℕ) → run words (before ++ moves) ≡ run (run words before) moves
unfolding run
run-append [] moves words = refl
run-append (m ∷ before) moves words = run-append before moves (after words m)

-- The next numbers after a move.
rises : (t : Table) (m : Move) → (t.next_doc ≤ (made t m).next_doc) × (t.next_frame ≤ (made t m).next_frame)
unfolding opened tabbed navigated traversed replaced
rises t (Move.opens p) = (omega arith, omega arith)
rises t (Move.navigates d) = (omega arith, omega arith)
rises t (Move.goes root δ room) = (omega arith, omega arith)
rises t (Move.drops f) = (omega arith, omega arith)
rises t (Move.replaces d) = (omega arith, omega arith)
rises t Move.tabs = (omega arith, omega arith)

-- What two equal answers give.
first : {a b : ℕ} {l m : List ℕ} → Answer.gives (a ∷ l) ≡ Answer.gives (b ∷ m) → a ≡ b
first e = cc

second : {a b c d : ℕ} {l m : List ℕ} → Answer.gives (a ∷ c ∷ l) ≡ Answer.gives (b ∷ d ∷ m) → c ≡ d
second e = cc

pub next-kept : (words : List ℕ) → Words32 words → Sound words → (m : Move) →
    ((table_of words).next_doc ≤ (table_of (after words m)).next_doc) × ((table_of words).next_frame ≤ (table_of (after words m)).next_frame)
next-kept words wide s m =
    by_move words m
    (λ h e. subst (λ (t : Table). ((table_of words).next_doc ≤ t.next_doc) × ((table_of words).next_frame ≤ t.next_frame)) (sym (table-after words wide s m h e)) (rises (table_of words) m))
    (λ e. subst (λ w. ((table_of words).next_doc ≤ (table_of w).next_doc) × ((table_of words).next_frame ≤ (table_of w).next_frame)) (sym e) (omega arith, omega arith))

module _ (next : Table → ℕ) (Hands : List ℕ → Move → ℕ → Type 0)
    (grows : (words : List ℕ) → Words32 words → Sound words → (m : Move) → next (table_of words) ≤ next (table_of (after words m)))
    (hands : (words : List ℕ) → Words32 words → Sound words → (m : Move) (k : ℕ) → Hands words m k →
    (next (table_of words) ≡ k) × (next (table_of (after words m)) ≡ suc (next (table_of words)))) where
  grows-run : (moves : List Move) (words : List ℕ) → Words32 words → Sound words → next (table_of words) ≤ next (table_of (run words moves))
  unfolding run
  grows-run [] words wide s = omega arith
  grows-run (m ∷ moves) words wide s =
      let a = grows words wide s m in
      let b = grows-run moves (after words m) (words-kept words wide s m) (sound-kept words wide s m) in
      omega arith

  pub all_new : (Was : ℕ → Type 0) (words : List ℕ) → Words32 words → Sound words → ((k : ℕ) → Was k → k < next (table_of words)) → (moves : List Move) → New Hands Was words moves
  unfolding run
  all_new Was words wide s was moves before rest m k e h =
      let b = run-kept before words wide s in
      let a = (hands (run words before) b.0 b.1 m k h).0 in (
        λ x. let y = was k x in let g = grows-run before words wide s in omega arith,
        λ earlier between f q j.
            let c = run-kept earlier words wide s in
            let y = hands (run words earlier) c.0 c.1 f k j in
            let g = grows-run between (after (run words earlier) f) (words-kept _ c.0 c.1 f) (sound-kept _ c.0 c.1 f) in
            let r : run words before ≡ run (after (run words earlier) f) between = ap (run words) q ∙ run-append earlier (f ∷ between) words in
            let n = ap (λ w. next (table_of w)) r in
            omega arith,
      )

module _ (words : List ℕ) (wide : Words32 words) (s : Sound words) where
  -- The answer of an accepted move, and the table after it.
  pub hands-document : (m : Move) (k : ℕ) → HandsDocument words m k → ((table_of words).next_doc ≡ k) × ((table_of (after words m)).next_doc ≡ suc (table_of words).next_doc)
  unfolding accepted opened tabbed navigated replaced
  hands-document (Move.opens p) k h =
      let n = accepted-none (Call.Open words p) (_, h.1) in
      let e = ap (λ o. o.answer) (sym (outcome-accepted (Call.Open words p) n)) ∙ h.1 in
      (first e, ap (λ (t : Table). t.next_doc) (table-after words wide s (Move.opens p) n (accepted-after words (Move.opens p) n)))
  hands-document (Move.navigates d) k h =
      let n = accepted-none (Call.Navigate words d) (_, h) in
      let e = ap (λ o. o.answer) (sym (outcome-accepted (Call.Navigate words d) n)) ∙ h in
      (first e, ap (λ (t : Table). t.next_doc) (table-after words wide s (Move.navigates d) n (accepted-after words (Move.navigates d) n)))
  hands-document (Move.goes root δ room) k h = absurd h
  hands-document (Move.drops f) k h = absurd h
  hands-document (Move.replaces d) k h =
      let n = accepted-none (Call.Replace words d) (_, h) in
      let e = ap (λ o. o.answer) (sym (outcome-accepted (Call.Replace words d) n)) ∙ h in
      (first e, ap (λ (t : Table). t.next_doc) (table-after words wide s (Move.replaces d) n (accepted-after words (Move.replaces d) n)))
  hands-document Move.tabs k h =
      let n = accepted-none (Call.Tab words) (_, h.1) in
      let e = ap (λ o. o.answer) (sym (outcome-accepted (Call.Tab words) n)) ∙ h.1 in
      (first e, ap (λ (t : Table). t.next_doc) (table-after words wide s Move.tabs n (accepted-after words Move.tabs n)))

  pub hands-frame : (m : Move) (k : ℕ) → HandsFrame words m k → ((table_of words).next_frame ≡ k) × ((table_of (after words m)).next_frame ≡ suc (table_of words).next_frame)
  unfolding accepted opened tabbed
  hands-frame (Move.opens p) k h =
      let n = accepted-none (Call.Open words p) (_, h.1) in
      let e = ap (λ o. o.answer) (sym (outcome-accepted (Call.Open words p) n)) ∙ h.1 in
      (second e, ap (λ (t : Table). t.next_frame) (table-after words wide s (Move.opens p) n (accepted-after words (Move.opens p) n)))
  hands-frame (Move.navigates d) k h = absurd h
  hands-frame (Move.goes root δ room) k h = absurd h
  hands-frame (Move.drops f) k h = absurd h
  hands-frame (Move.replaces d) k h = absurd h
  hands-frame Move.tabs k h =
      let n = accepted-none (Call.Tab words) (_, h.1) in
      let e = ap (λ o. o.answer) (sym (outcome-accepted (Call.Tab words) n)) ∙ h.1 in
      (second e, ap (λ (t : Table). t.next_frame) (table-after words wide s Move.tabs n (accepted-after words Move.tabs n)))

  pub document-below : (d : ℕ) → So (in_record (rows_of words) d) → d < (table_of words).next_doc
  document-below d h =
      let r = (record_is (rows_of words) d).0 h in
      subst (λ e. e < (table_of words).next_doc) r.2 ((wide_of words wide s).tree.below r.0 r.1)

  pub frame_below : (f : ℕ) → So (is_frame (rows_of words) f) → f < (table_of words).next_frame
  frame_below f h =
      let r = (frame_is (rows_of words) f).0 h in
      subst (λ e. e < (table_of words).next_frame) r.2 ((wide_of words wide s).tree.framed r.0 r.1)
