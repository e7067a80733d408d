-- Demand 3 holds, of every window. Assumes nothing.
use Prim.Native.Nat.{ℕ, ◌≤◌, ◌<◌}
use mathlib.Core.Path.{◌≡◌, sym, ap, ◌∙◌, subst}
use mathlib.Core.List.{List, [], ◌∷◌, ◌++◌, append_assoc}
use mathlib.Core.Logic.{⊎_elim}
use mathlib.Core.Bool.{So, not, and-eq-true_iff}
use native.Mathlib.Omega.{arith}
use lib.Dec.{eqb}
use lib.ListN.{length}
use borrow.Author.Tests.{eqb-true, eqb-false, le-ltb}
use Rattle.rules.specs.Rows.{frame_at, in_record, is_frame}
use Rattle.rules.specs.Steps.{position, steps, visible}
use Rattle.rules.specs.Windows.{is_root}
use Rattle.rules.specs.Words.{table_of, rows_of}
use Rattle.rules.specs.Sound.{Sound}
use Rattle.rules.specs.Calls.{Call, refusals, accepted, NoneGiven}
use Rattle.rules.specs.Runs.{Move, on, after, run}
use Rattle.laws.proofs.Tests.{test, clash, off, by-lt}
use Rattle.laws.proofs.Frames.{due_in}
use Rattle.laws.proofs.Central.{flags_at, reached-is, central, position-steps}
use Rattle.laws.proofs.Reflect.{record_is, sound-is}
use Rattle.laws.proofs.Calls.{outcome-accepted}
use Rattle.laws.proofs.Accepted.{drop-relies, replace-relies}
use Rattle.laws.proofs.Removal.{SoundRows}
use Rattle.laws.proofs.Climb.{seen-there}
use Rattle.windows.proofs.Window.{window-sound}
use Rattle.windows.proofs.Members.{member-record, member-visible, frame_here}
use Rattle.demands.specs.Record.{Words32, Accepted}
use Rattle.demands.specs.Windows.{rows_in, InWindow, window_on}
use Rattle.demands.specs.Note.{position_in, Noted, TakenStep, Removes, HandsDocument, HandsFrame, Demand3, WithoutDrops, WithoutReplacements}
use Rattle.demands.proofs.Accepted.{accepted-none, none-accepted, by_move}
use Rattle.demands.proofs.Lasting.{wide_of, long}
use Rattle.demands.proofs.Standing.{sound-kept, words-kept, run-kept}
use Rattle.demands.proofs.Concealing.{visible-asked}
use Rattle.demands.proofs.Windows.{leaves-others}
use Rattle.demands.proofs.Steady.{Early, Closed, closed-note, Steady, steady-stay, steady_then}
use Rattle.demands.proofs.Fair.{steady-after}
use Rattle.demands.proofs.Numbers.{next-kept, all_new, hands-document, hands-frame, document-below, frame_below}
use Rattle.demands.proofs.Still.{still-within}

-- VISIBLE AGAIN

-- What is asked of moves, in window r: no accepted navigation begins before position p, with no drop goes a document of `Taken`, a drop is accepted only where `Out` holds, and no
-- document below n that is in the window is replaced.
record FairRun (Out : Type 0) (p n r : ℕ) (Taken : ℕ → Type 0) (words : List ℕ) (moves : List Move) : Type 0 where
  above : (before rest : List Move) (d : ℕ) → moves ≡ before ++ Move.navigates d ∷ rest → Accepted (on (run words before) (Move.navigates d)) → InWindow (run words before) r d →
      p ≤ position_in (run words before) r
  spared : (before rest : List Move) (f d : ℕ) → moves ≡ before ++ Move.drops f ∷ rest → Removes (run words before) (Move.drops f) d → InWindow (run words before) r d → Taken d → ⊥
  out : (before rest : List Move) (f : ℕ) → moves ≡ before ++ Move.drops f ∷ rest → Accepted (on (run words before) (Move.drops f)) → So (is_frame (rows_in r (run words before)) f) → Out
  unknown : (before rest : List Move) (d : ℕ) → moves ≡ before ++ Move.replaces d ∷ rest → Accepted (on (run words before) (Move.replaces d)) → d < n → InWindow words r d → ⊥

module _ (Out : Type 0) (p n r : ℕ) (Taken : ℕ → Type 0) (old : (d : ℕ) → Taken d → d < n) where
  steady-run : (moves : List Move) (words : List ℕ) → Words32 words → Sound words → p ≤ steps (rows_in r words) → Closed n (rows_in r words) →
      n ≤ (table_of words).next_doc → ((d : ℕ) → Early p (rows_in r words) d → Taken d) → FairRun Out p n r Taken words moves → Steady Out p n (rows_in r words) (rows_in r (run words moves))
  unfolding run
  steady-run [] words wide s few closed next taken fair = steady-stay Out p n (rows_in r words) few closed
  steady-run (m ∷ moves) words wide s few closed next taken fair =
      let to : (k : Move) → m ≡ k → NoneGiven (refusals (on words m)) → Accepted (on words k) = λ k e h. none-accepted _ (subst (λ x. NoneGiven (refusals (on words x))) e h) in
      let a = steady-after Out p n r words wide s few closed next (λ d h. old d (taken d h)) m (record {
        above = λ d e h. fair.above [] moves d (ap (λ x. x ∷ moves) e) (to (Move.navigates d) e h);
        spared = λ f d e h early.
            fair.spared [] moves f d (ap (λ x. x ∷ moves) e) (subst (λ x. Removes words x d) e h) ((record_is (rows_in r words) d).1 (early.0, early.1, early.2)) (taken d early);
        out = λ f e h. fair.out [] moves f (ap (λ x. x ∷ moves) e) (to (Move.drops f) e h);
        unknown = λ d e h here. by-lt d n (λ l. absurd (fair.unknown [] moves d (ap (λ x. x ∷ moves) e) (to (Move.replaces d) e h) l here)) (λ l. l);
      }) in
      let more = (next-kept words wide s m).0 in
      steady_then a (steady-run moves (after words m) (words-kept words wide s m) (sound-kept words wide s m) a.enough a.closed (omega arith) (λ d h. taken d (a.noted d h)) (record {
        above = λ before rest d e. fair.above (m ∷ before) rest d (ap (λ l. m ∷ l) e);
        spared = λ before rest f d e. fair.spared (m ∷ before) rest f d (ap (λ l. m ∷ l) e);
        out = λ before rest f e. fair.out (m ∷ before) rest f (ap (λ l. m ∷ l) e);
        unknown = λ before rest d e h l there. fair.unknown (m ∷ before) rest d (ap (λ l. m ∷ l) e) h l (a.was d l there);
      }))

-- A window of a sound record.
module _ (words : List ℕ) (wide : Words32 words) (s : Sound words) (r : ℕ) where
  alone : SoundRows (rows_in r words) (table_of words).next_doc (table_of words).next_frame
  alone = window-sound (rows_of words) (wide_of words wide s) r

  -- It is what its position shows.
  stands : flags_at (position_in words r) (rows_in r words) ≡ rows_in r words
  stands = central (rows_in r words) alone.s6 alone.s7

  -- The first steps, as many as the position, are the taken ones.
  early-taken : (d : ℕ) → Early (position_in words r) (rows_in r words) d → TakenStep words r d
  early-taken d h =
      let rows = rows_in r words in
      (h.0, h.1, h.2, simp and-eq-true_iff (h.3, reached-is rows alone.s6 alone.s7 h.0 h.1 ∙ due_in (frame_at rows) (position rows) h.0 h.4))

  -- Its documents have numbers below the next.
  window-below : (d : ℕ) → InWindow words r d → d < (table_of words).next_doc
  window-below d h = document-below words wide s d (member-record (rows_of words) (wide_of words wide s).tree r d h)

  -- They are visible in the record as in the window.
  visible-there : (d : ℕ) → InWindow words r d → visible (rows_in r words) d ≡ visible (rows_of words) d
  visible-there = member-visible (rows_of words) (wide_of words wide s).tree r

-- "Position answers position [..]"
pub noted : (words : List ℕ) (r : ℕ) → Sound words → So (is_root (rows_of words) r) → Noted words r
unfolding refusals NoneGiven accepted
noted words r s root =
    record {
      position-asked = ap (λ o. o.answer) (outcome-accepted (Call.Position words r) (le-ltb (length words) 7 (long words s), (ap not ((sound-is words).1 s), (ap not root, tt))));
      visible-asked = visible-asked words s;
    }

-- What is asked of moves from a note on.
abbrev FairNote : Type 0 → List ℕ → ℕ → List Move → Type 0
FairNote Out words r moves = FairRun Out (position_in words r) (table_of words).next_doc r (TakenStep words r) words moves

module _ (Out : Type 0) (words : List ℕ) (r : ℕ) (moves : List Move) (wide : Words32 words) (s : Sound words) (fair : FairNote Out words r moves)
    (before rest : List Move) (split : moves ≡ before ++ rest) where
  -- From the note to the end of some of the moves.
  steady-before : Steady Out (position_in words r) (table_of words).next_doc (rows_in r words) (rows_in r (run words before))
  steady-before =
      let on : (b q : List Move) (m : Move) → before ≡ b ++ m ∷ q → moves ≡ b ++ m ∷ (q ++ rest) = λ b q m e. split ∙ ap (λ l. l ++ rest) e ∙ append_assoc b (m ∷ q) rest in
      steady-run Out (position_in words r) (table_of words).next_doc r (TakenStep words r) (λ d h. window-below words wide s r d ((record_is (rows_in r words) d).1 (h.0, h.1, h.2)))
      before words wide s (position-steps (rows_in r words)) (closed-note (rows_in r words) (alone words wide s r).tree) (omega arith) (early-taken words wide s r) (record {
        above = λ b q d e. fair.above b (q ++ rest) d (on b q (Move.navigates d) e);
        spared = λ b q f d e. fair.spared b (q ++ rest) f d (on b q (Move.drops f) e);
        out = λ b q f e. fair.out b (q ++ rest) f (on b q (Move.drops f) e);
        unknown = λ b q d e. fair.unknown b (q ++ rest) d (on b q (Move.replaces d) e);
      })

  again : position_in (run words before) r ≡ position_in words r → (d : ℕ) → InWindow words r d → So (in_record (rows_of (run words before)) d) →
      visible (rows_of (run words before)) d ≡ visible (rows_of words) d
  again back d there still =
      let now = run words before in
      let k = run-kept before words wide s in
      let here = still-within before words wide s r d there still in
      sym (visible-there now k.0 k.1 r d here)
      ∙ ap (λ l. visible l d) (sym (stands now k.0 k.1 r) ∙ ap (λ p. flags_at p (rows_in r now)) back)
      ∙ steady-before.seen d (window-below words wide s r d there) here
      ∙ ap (λ l. visible l d) (stands words wide s r)
      ∙ visible-there words wide s r d there

-- "Note the position and the visible documents of a sound record. Then let any opens, navigations and traversals follow [..]"
pub demand3 : Demand3
demand3 =
    record {
      visible-again = λ words r moves wide s root may.
          again Unit words r moves wide s (record {
            above = may.none_below;
            spared = λ b q f d e h here. may.taken-stay b q f d e h;
            out = λ b q f e a here. tt;
            unknown = λ b q d e a l. may.none-replaced b q d e a;
          });
      new-documents = λ words moves wide s. all_new (λ t. t.next_doc) HandsDocument (λ w a b m. (next-kept w a b m).0) hands-document _ words wide s (document-below words wide s) moves;
      new-frames = λ words moves wide s. all_new (λ t. t.next_frame) HandsFrame (λ w a b m. (next-kept w a b m).1) hands-frame _ words wide s (frame_below words wide s) moves;
    }

-- A drop that removes a row of the window is accepted, and is of a frame of the window.
module _ (words : List ℕ) (wide : Words32 words) (s : Sound words) (r f d : ℕ) (goes : Removes words (Move.drops f) d) where
  drop-accepted : Accepted (on words (Move.drops f))
  drop-accepted =
      by_move words (Move.drops f) (λ n e. none-accepted _ n) (λ e. absurd (clash goes.0 (ap (λ w. in_record (rows_of w) d) (sym e) ∙ goes.1)))

  drop-inside : InWindow words r d → So (is_frame (rows_in r words) f)
  drop-inside here =
      let m = Move.drops f in
      let now = wide_of words wide s in
      let then = wide_of (after words m) (words-kept words wide s m) (sound-kept words wide s m) in
      test (eqb (window_on words m) r)
      (λ y. frame_here (rows_of words) now.tree r f (drop-relies words f (accepted-none _ drop-accepted)).there (eqb-true _ _ y))
      (λ y.
      let stay = subst (λ l. So (in_record l d)) (sym (leaves-others words m wide s r (λ e. eqb-false _ _ y (sym e)))) here in
      absurd (clash (member-record (rows_of (after words m)) then.tree r d stay) goes.1))

-- Where no drop in the window is accepted, what was noted visible is in the record still, so that all of the window that existed at the note is visible as noted.
pub without-drops : WithoutDrops
without-drops words r moves wide s root below none spared before rest e back d there =
    let fair : FairNote ⊥ words r moves = record {
      above = below;
      spared = λ b q f d z h here t.
          let k = run-kept b words wide s in
          none b q f z (drop-accepted (run words b) k.0 k.1 r f d h) (drop-inside (run words b) k.0 k.1 r f d h here);
      out = none;
      unknown = λ b q d z a l. spared b q d z a;
    } in
    let now = run words before in
    let k = run-kept before words wide s in
    let steady = steady-before ⊥ words r moves wide s fair before rest e in
    test (in_record (rows_of now) d) (again ⊥ words r moves wide s fair before rest e back d there) (λ f.
    off (visible (rows_of now) d) (λ v. clash (seen-there (rows_of now) d v) f)
    ∙ sym (off (visible (rows_of words) d) (λ v.
    ⊎_elim (λ h. clash (member-record (rows_of now) (wide_of now k.0 k.1).tree r d h) f) (λ x. x)
    (steady.lost d (window-below words wide s r d there) (ap (λ l. visible l d) (stands words wide s r) ∙ visible-there words wide s r d there ∙ v)))))

-- As it was before Replace, and before Drop.
pub without-replacements : WithoutReplacements
without-replacements =
    record {
      with-drops = λ words r moves wide s root none below stay.
          demand3.visible-again words r moves wide s root (record { none_below = below; taken-stay = stay; none-replaced = λ b q d e a there. none b q d e a (still words wide s r b d a there) });
      without-drops = λ words r moves wide s root none below drops.
          without-drops words r moves wide s root below drops (λ b q d e a there. none b q d e a (still words wide s r b d a there));
    }
  where
    still : (words : List ℕ) → Words32 words → Sound words → (r : ℕ) (moves : List Move) (d : ℕ) → Accepted (on (run words moves) (Move.replaces d)) → InWindow words r d → InWindow (run words moves) r d
    still words wide s r moves d a there = still-within moves words wide s r d there (replace-relies (run words moves) d (accepted-none _ a)).there
