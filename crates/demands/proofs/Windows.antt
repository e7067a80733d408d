-- Calls on one window beside others (document 02, L10): they leave the others, and depend on no more of them than L10 says. Assumes nothing.
use Prim.Native.Nat.{ℕ, ◌-◌}
use mathlib.Core.Bool.{not, So}
use mathlib.Core.List.{List, [], ◌∷◌}
use mathlib.Core.Logic.{◌≢◌}
use mathlib.Core.Path.{◌≡◌, refl, sym, ap, ap₂, ◌∙◌, subst}
use native.Mathlib.Omega.{arith}
use lib.Dec.{eqb, leb}
use lib.ListN.{length}
use borrow.Author.Tests.{le-ltb}
use Rattle.rules.specs.Rows.{Row, Table, none, in_record, place, in_frame, is_frame}
use Rattle.rules.specs.Steps.{Climb, is_nobody, climb_of, hider_of, visible}
use Rattle.rules.specs.Windows.{root_at, window_rows, window_of}
use Rattle.rules.specs.Moves.{cleared, dropped, replaced}
use Rattle.rules.specs.Words.{table_of, rows_of}
use Rattle.rules.specs.Sound.{Sound, sound?}
use Rattle.rules.specs.Saved.{parent_of}
use Rattle.rules.specs.Calls.{Call, Answer, short, absent, full, no_frame, root_frame, refusals, accepted, outcome, Given, NoneGiven}
use Rattle.rules.specs.Runs.{Move, on, after}
use Rattle.laws.proofs.Reflect.{record_is}
use Rattle.laws.proofs.Tree.{place_is}
use Rattle.laws.proofs.Calls.{by-ladder, outcomes-same}
use Rattle.laws.proofs.Accepted.{open-relies, tab-relies, navigate-relies, drop-relies, replace-relies}
use Rattle.windows.proofs.Window.{WideRows, window-frame}
use Rattle.windows.proofs.Opened.{opened-there, tabbed-there}
use Rattle.windows.proofs.Navigated.{navigated-there}
use Rattle.windows.proofs.Flagged.{traversed-there}
use Rattle.windows.proofs.Dropped.{dropped-here, dropped-there}
use Rattle.windows.proofs.Replaced.{replaced-here, replaced-there}
use Rattle.windows.proofs.Members.{first-row, member-record, member-window, member-climb, member-visible, frame-record, frame-inside, frame-parent, parent-climb, removed-own}
use Rattle.windows.proofs.Answers.{Fit, same-short, same-sound, same-position, same_lists, same-outline, same_lines, same-traverse, same-walk}
use Rattle.windows.proofs.Alike.{opens-alike, navigates-alike}
use Rattle.windows.proofs.Sums.{windows-position, windows_steps}
use Rattle.demands.specs.Record.{Words32}
use Rattle.demands.specs.Windows.{rows_in, InWindow, window_on, LeavesOthers, SameWindow, OwnRowsOnly, SameNumbers, Alike, OwnRowsAndNumbers, AddUp, Windows}
use Rattle.demands.proofs.Accepted.{go-relies, made, accepted-after, refused-after, by_move}
use Rattle.demands.proofs.Lasting.{wide_of, long, table-after}

-- OTHER WINDOWS

module _ (words : List ℕ) (wide : Words32 words) (s : Sound words) where
  abbrev was : Table
  was = table_of words

  all : WideRows was.rows was.next_doc was.next_frame
  all = wide_of words wide s

  -- An accepted move makes a table with the other windows as they were.
  pub made-there : (m : Move) → NoneGiven (refusals (on words m)) → (v : ℕ) → v ≢ window_on words m → window_rows v (made was m).rows ≡ rows_in v words
  made-there (Move.opens p) h v ne = let o = open-relies words p h in opened-there was all o.doc p o.seen v ne
  made-there (Move.navigates d) h v ne = let o = navigate-relies words d h in navigated-there was all o.doc d o.seen v ne
  made-there (Move.goes r δ room) h v ne = traversed-there was all r δ (go-relies words r δ room h).inside v ne
  made-there (Move.drops f) h v ne = let i = first-row was.rows f (drop-relies words f h).there in dropped-there was all f _ i.0 i.1 v ne
  made-there (Move.replaces d) h v ne =
      let o = replace-relies words d h in
      let k = (record_is was.rows d).0 o.there in
      replaced-there was all o.doc d k.0 k.1 k.2 v (λ e. ne (e ∙ ap (root_at was.rows) (sym (place_is was.rows all.tree k.0 d k.1 k.2))))
  made-there Move.tabs h v ne = tabbed-there was all (tab-relies words h).doc v ne

-- "On sound records, a call on one window leaves the other's rows as they were and in their order."
pub leaves-others : LeavesOthers
leaves-others words m wide s v ne =
    by_move words m
    (λ h e. ap (λ (u : Table). window_rows v u.rows) (table-after words wide s m h e) ∙ made-there words wide s m h v ne)
    (λ e. ap (rows_in v) e)

-- THE SAME WINDOW

fits : (words : List ℕ) → Words32 words → Sound words → Fit words
unfolding table_of
fits words wide s = record { long = le-ltb _ _ (long words s); sound = s; word = wide 1 }

-- Answers of two calls with the same lines.
answers-same : (c c' : Call) → refusals c ≡ refusals c' → (NoneGiven (refusals c) → (accepted c).answer ≡ (accepted c').answer) → (outcome c).answer ≡ (outcome c').answer
answers-same c c' e = outcomes-same (λ o p. o.answer ≡ p.answer) c c' e (λ k vs. refl)

module _ (r : ℕ) (words others : List ℕ) (same : SameWindow r words others) where
  abbrev t : Table
  t = table_of words

  abbrev u : Table
  u = table_of others

  w : WideRows t.rows t.next_doc t.next_frame
  w = wide_of words same.wide same.sound

  w' : WideRows u.rows u.next_doc u.next_frame
  w' = wide_of others same.wide' same.sound'

  -- What the same rows answer is the same in both.
  both : {X : Type 0} (f : List Row → X) {x x' : X} → f (rows_in r words) ≡ x → f (rows_in r others) ≡ x' → x ≡ x'
  both f e e' = sym e ∙ ap f same.rows_are ∙ e'

  one : Fit words
  one = fits words same.wide same.sound

  other : Fit others
  other = fits others same.wide' same.sound'

  -- After a move with the same lines the window has the same rows, if the tables made have.
  alike-after : (m : Move) → refusals (on words m) ≡ refusals (on others m) →
      (NoneGiven (refusals (on words m)) → window_rows r (made t m).rows ≡ window_rows r (made u m).rows) → rows_in r (after words m) ≡ rows_in r (after others m)
  alike-after m e f =
      by-ladder (refusals (on words m))
      (λ h.
      let g = subst NoneGiven e h in
      ap (λ (x : Table). window_rows r x.rows) (table-after words same.wide same.sound m h (accepted-after words m h)) ∙ f h
      ∙ ap (λ (x : Table). window_rows r x.rows) (sym (table-after others same.wide' same.sound' m g (accepted-after others m g))))
      (λ k vs g. ap (rows_in r) (refused-after words m k vs g) ∙ same.rows_are ∙ ap (rows_in r) (sym (refused-after others m k vs (subst (Given k vs) e g))))

  -- OWN ROWS ONLY

  -- "Traversal, lists, outline and position of a window depend only on its own rows and the caller's numbers and buffers"
  own-only : OwnRowsOnly r words others
  own-only =
      let e = same.rows_are in
      record {
        positions = same-position r words others one other e;
        lists = same_lists r words others one other e;
        outlines = same-outline r words others one other e;
        answers = λ δ room. (same-traverse r words others one other e δ room).0;
        buffers = λ δ room. (same-traverse r words others one other e δ room).1;
        rows-after = λ δ room.
            alike-after (Move.goes r δ room) (same_lines r words others one other e δ room) (λ h. same-walk r words others one other e δ (go-relies words r δ room h).inside);
      }

  -- OWN ROWS AND NUMBERS

  module _ (nums : SameNumbers words others) where
    shorts : short words ≡ short others
    shorts = same-short r words others one other same.rows_are

    sounds : sound? words ≡ sound? others
    sounds = same-sound r words others one other same.rows_are

    windows-are : window_of t r ≡ window_of u r
    windows-are = rw (same.rows_are, nums.docs, nums.frames) refl

    unused : t.next_doc ≢ none → u.next_doc ≢ none
    unused h e = h (nums.docs ∙ e)

    -- Of a document of the window: it is there, and hidden by the same.
    module _ (d : ℕ) (h : InWindow words r d) where
      h' : InWindow others r d
      h' = subst (λ l. So (in_record l d)) same.rows_are h

      absents : absent words d ≡ absent others d
      absents = ap not (member-record t.rows w.tree r d h ∙ sym (member-record u.rows w'.tree r d h'))

      climbs : climb_of t.rows d ≡ climb_of u.rows d
      climbs = both (λ l. climb_of l d) (member-climb t.rows w.tree r d h) (member-climb u.rows w'.tree r d h')

      hiders : hider_of t.rows d ≡ hider_of u.rows d
      unfolding hider_of
      hiders = ap (λ (c : Climb). c.hider) climbs

      seens : visible t.rows d ≡ visible u.rows d
      unfolding visible
      seens = ap is_nobody hiders

      -- It is visible in its window too.
      sees : So (visible t.rows d) → So (visible (window_rows r t.rows) d)
      sees v = member-visible t.rows w.tree r d h ∙ v

      opens : length t.rows ≡ length u.rows → Alike r (Move.opens d) words others
      unfolding refusals accepted
      opens n =
          let fulls : full words t.rows ≡ full others u.rows = ap₂ leb nums.room n in
          let e : refusals (Call.Open words d) ≡ refusals (Call.Open others d) = rw (shorts, sounds, absents, seens, hiders, fulls, nums.docs, nums.frames) refl in
          record {
            answers = answers-same (Call.Open words d) (Call.Open others d) e (λ g. ap₂ (λ a b. Answer.gives (a ∷ b ∷ [])) nums.docs nums.frames);
            rows-after = alike-after (Move.opens d) e (λ g. let o = open-relies words d g in opens-alike t u w w' r windows-are o.doc d (sees o.seen));
          }

      navigates : length (cleared r t.rows) ≡ length (cleared r u.rows) → Alike r (Move.navigates d) words others
      unfolding refusals accepted
      navigates n =
          let a = member-window t.rows w.tree r d h in
          let b = member-window u.rows w'.tree r d h' in
          let fulls : full words (cleared (root_at t.rows (place t.rows d)) t.rows) ≡ full others (cleared (root_at u.rows (place u.rows d)) u.rows) =
          ap₂ leb nums.room (ap (λ v. length (cleared v t.rows)) a ∙ n ∙ ap (λ v. length (cleared v u.rows)) (sym b)) in
          let e : refusals (Call.Navigate words d) ≡ refusals (Call.Navigate others d) = rw (shorts, sounds, absents, seens, hiders, fulls, nums.docs) refl in
          record {
            answers = answers-same (Call.Navigate words d) (Call.Navigate others d) e (λ g. ap (λ a. Answer.gives (a ∷ [])) nums.docs);
            rows-after = alike-after (Move.navigates d) e (λ g. let o = navigate-relies words d g in navigates-alike t u w w' r windows-are o.doc d (sees o.seen));
          }

      replaces : Alike r (Move.replaces d) words others
      unfolding refusals accepted
      replaces =
          let e : refusals (Call.Replace words d) ≡ refusals (Call.Replace others d) = rw (shorts, sounds, absents, seens, hiders, nums.docs) refl in
          record {
            answers = answers-same (Call.Replace words d) (Call.Replace others d) e (λ g. ap (λ a. Answer.gives (a ∷ [])) nums.docs);
            rows-after = alike-after (Move.replaces d) e (λ g.
                let o = replace-relies words d g in
                replaced-here t w o.doc d r ∙ ap (λ (x : Table). (replaced x d).rows) windows-are ∙ sym (replaced-here u w' (unused o.doc) d r));
          }

    -- Of a frame of the window: the same holds it, and as many rows go with it.
    module _ (f : ℕ) (h : So (is_frame (rows_in r words) f)) where
      f' : So (is_frame (rows_in r others) f)
      f' = subst (λ l. So (is_frame l f)) same.rows_are h

      no_frames : no_frame words f ≡ no_frame others f
      no_frames = ap not (frame-record t.rows w.tree r f h ∙ sym (frame-record u.rows w'.tree r f f'))

      root-frames : root_frame words f ≡ root_frame others f
      root-frames = ap (λ p. eqb p none) (both (λ l. parent_of l f) (frame-parent t.rows w.tree r f h) (frame-parent u.rows w'.tree r f f'))

      holders : climb_of t.rows (parent_of t.rows f) ≡ climb_of u.rows (parent_of u.rows f)
      holders = both (λ l. climb_of l (parent_of l f)) (parent-climb t.rows w.tree r f h) (parent-climb u.rows w'.tree r f f')

      holders-hidden : hider_of t.rows (parent_of t.rows f) ≡ hider_of u.rows (parent_of u.rows f)
      unfolding hider_of
      holders-hidden = ap (λ (c : Climb). c.hider) holders

      holders-seen : visible t.rows (parent_of t.rows f) ≡ visible u.rows (parent_of u.rows f)
      unfolding visible
      holders-seen = ap is_nobody holders-hidden

      -- The table loses what the window does.
      lost-rows : (x : Table) (z : WideRows x.rows x.next_doc x.next_frame) → So (is_frame (window_rows r x.rows) f) →
          length (window_rows r x.rows) - length (dropped (window_of x r) f).rows ≡ length x.rows - length (dropped x f).rows
      lost-rows x z i =
          omega (
            arith,
            removed-own x.rows z.tree r (in_frame x.rows f) (in_frame (window_rows r x.rows) f) (frame-inside x.rows z.tree r f i)
                (window-frame x.rows r f),
          )

      drops : Alike r (Move.drops f) words others
      unfolding refusals accepted
      drops =
          let e : refusals (Call.Drop words f) ≡ refusals (Call.Drop others f) = rw (shorts, sounds, no_frames, root-frames, holders-seen, holders-hidden) refl in
          record {
            answers = answers-same (Call.Drop words f) (Call.Drop others f) e
                (λ g. ap (λ n. Answer.gives (n ∷ [])) (sym (lost-rows t w h) ∙ ap (λ (x : Table). length x.rows - length (dropped x f).rows) windows-are ∙ lost-rows u w' f'));
            rows-after = alike-after (Move.drops f) e (λ g. dropped-here t w f r ∙ ap (λ (x : Table). (dropped x f).rows) windows-are ∙ sym (dropped-here u w' f r));
          }

    -- "opening, navigation, removal and replacing may depend besides on the total of rows that remain, the capacity and the two next numbers"
    own-and-numbers : OwnRowsAndNumbers r words others
    own-and-numbers = record { opens = opens; navigates = navigates; drops = drops; replaces = replaces }

-- "Contents answers are sums over all windows."
add-up : (words : List ℕ) → Words32 words → Sound words → AddUp words
add-up words wide s =
    let w = wide_of words wide s in
    record { windows-position = windows-position (rows_of words) w.tree; windows_steps = windows_steps (rows_of words) w.tree }

-- WINDOWS BESIDE EACH OTHER
pub windows : Windows
windows = record { leaves-others = leaves-others; own-rows-only = own-only; own-rows-and-numbers = own-and-numbers; add-up = add-up }
