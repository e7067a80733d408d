-- Words past 3 + 4C are neither read nor written. Assumes nothing.
use Prim.Native.Nat.{ℕ, ◌+◌, ◌*◌, ◌≤◌, ◌<◌}
use mathlib.Core.List.{List, [], ◌∷◌}
use mathlib.Core.Bool.{Bool, So}
use mathlib.Core.Path.{◌≡◌, refl, sym, ap, ◌∙◌, subst₂}
use native.Mathlib.Omega.{arith}
use lib.ListN.{length, get_or, length-take}
use lib.Seq.{get_or-take, take_at, drop_at}
use borrow.Author.Tests.{ltb-true, ltb-false, leb-false, lt-ltb}
use Rattle.rules.specs.Below.{tab}
use Rattle.rules.specs.Rows.{Table, none, place}
use Rattle.rules.specs.Windows.{root_at}
use Rattle.rules.specs.Moves.{fresh_table, opened, tabbed, cleared, navigated, traversed, dropped, replaced}
use Rattle.rules.specs.Words.{capacity, row_in, table_of, rows_of, words_of, written}
use Rattle.rules.specs.Sound.{SoundTable, Sound, sound?}
use Rattle.rules.specs.Saved.{loaded, from_save?}
use Rattle.rules.specs.OldSaved.{old_loaded, from_old_save?}
use Rattle.rules.specs.Calls.{Call, Answer, Outcome, Rung, short, unsound, ◌when◌, refusals, ◌leaving◌, accepted, ladder, outcome, NoneGiven}
use Rattle.laws.proofs.Tests.{test, same_tests, count_most, tab-same}
use Rattle.laws.proofs.Reflect.{sound-is}
use Rattle.laws.proofs.Drop.{stays_but, dropped-length}
use Rattle.laws.proofs.Replace.{stays_over, replaced-length}
use Rattle.laws.proofs.Navigate.{opened-length, navigated-length, traversed-length}
use Rattle.laws.proofs.Words.{rows-length, length-words_of, length-written, capacity-written, written_is}
use Rattle.laws.proofs.Calls.{ladder-same}
use Rattle.demands.specs.Past.{near, past, but_past, Kept, Spares, PastSpared}
use Rattle.demands.proofs.Lasting.{long}
use Rattle.laws.specs.Loading.{rungs, fills}

-- TWO RUNS WITH THE SAME WORDS UP TO 3 + 4C

near-at : (words : List ℕ) (k : ℕ) → k < 3 + 4 * capacity words → get_or (near words) k 0 ≡ get_or words k 0
near-at words k l = search (get_or-take, arith)

short-there : (a b : List ℕ) → capacity a ≡ capacity b → So (short a) → So (short b)
short-there a b c t = omega (arith, ltb-true, lt-ltb)

module _ (a b : List ℕ) (h : near a ≡ near b) where
  -- How many they are tells C, and C whether the record is under 7 words.
  capacity-same : capacity a ≡ capacity b
  capacity-same = let e = simp length-take at (ap length h) in omega arith

  short-same : short a ≡ short b
  short-same = same_tests (short-there a b capacity-same) (short-there b a (sym capacity-same))

  word_same : (k : ℕ) → k < 3 + 4 * capacity a → get_or a k 0 ≡ get_or b k 0
  word_same k l = let c = capacity-same in sym (near-at a k l) ∙ ap (λ w. get_or w k 0) h ∙ near-at b k (omega arith)

  -- Rows that fit end before 3 + 4C, and S8 speaks of no word from there on.
  table_same : Sound a → table_of a ≡ table_of b
  unfolding table_of
  table_same s =
      let fits = s.table.s1.fits in
      let n = rows-length a in
      let row : (i : ℕ) → i < get_or a 0 0 → row_in a i ≡ row_in b i =
      λ i l. rw (word_same (3 + 4 * i) (omega arith), word_same (4 + 4 * i) (omega arith), word_same (5 + 4 * i) (omega arith), word_same (6 + 4 * i) (omega arith)) in
      let rows = tab-same (row_in a) (row_in b) (get_or a 0 0) row ∙ ap (λ n. tab n (row_in b)) (word_same 0 (omega arith)) in
      rw (rows, word_same 1 (omega arith), word_same 2 (omega arith))

  sound-there : Sound a → Sound b
  sound-there s =
      let c = capacity-same in
      let n = word_same 0 (omega arith) in
      record {
        table = subst₂ SoundTable c (table_same s) s.table;
        s8 = record { zeros = λ k l m. sym (word_same k (omega arith)) ∙ s.s8.zeros k (omega arith) (omega arith) };
      }

sound-same : (a b : List ℕ) → near a ≡ near b → sound? a ≡ sound? b
sound-same a b h =
    same_tests (λ t. (sound-is b).1 (sound-there a b h ((sound-is a).0 t))) (λ t. (sound-is a).1 (sound-there b a (sym h) ((sound-is b).0 t)))

-- TWO LADDERS

-- The rungs after refusals 1 and 2 are asked of a sound record only, and need be the same only there.
module _ (R : Outcome → Outcome → Type 0) {lent runs : List (List ℕ)} {done made : Outcome}
    (refused : (k : ℕ) (vs : List ℕ) → R (record { answer = Answer.refuses k vs; lent = lent }) (record { answer = Answer.refuses k vs; lent = runs })) where
  guarded : (a b : List ℕ) → near a ≡ near b → {more others : List Rung} →
      (Sound a → table_of a ≡ table_of b → capacity a ≡ capacity b → (more ≡ others) × (NoneGiven more → R done made)) →
      R (ladder (1 when short a ∷ 2 when unsound a ∷ more) lent done) (ladder (1 when short b ∷ 2 when unsound b ∷ others) runs made)
  unfolding ladder
  guarded a b h {more} rest =
      rw (short-same a b h, sound-same a b h)
      (test (short b) (λ t. rw t (refused 1 [])) (λ f.
      rw f (test (sound? b)
      (λ t.
      let s = (sound-is a).0 (sound-same a b h ∙ t) in
      let r = rest s (table_same a b h s) (capacity-same a b h) in
      rw (t, ← r.0) (ladder-same R refused more r.1))
      (λ o. rw o (refused 2 [])))))

-- WHAT A CALL WRITES

module _ (words : List ℕ) (t : Table) (long : 7 ≤ length words) (fits : length t.rows ≤ capacity words) where
  near-written : near (written words t) ≡ words_of (capacity words) t
  near-written =
      let n = length-words_of (capacity words) t fits in
      rw (capacity-written words t, written_is words t (omega arith) fits) (search take_at)

  past-written : past (written words t) ≡ past words
  past-written =
      let n = length-words_of (capacity words) t fits in
      rw (capacity-written words t, written_is words t (omega arith) fits) (search drop_at)

-- What a call that writes answers and leaves on record a, and what on another.
record Wrote (a : List ℕ) (o p : Outcome) : Type 0 where
  same : but_past o ≡ but_past p
  kept : Kept a (get_or o.lent 0 [])

module _ (a b : List ℕ) (h : near a ≡ near b) where
  wrote_nothing : (rest : List (List ℕ)) (k : ℕ) (vs : List ℕ) →
      Wrote a (record { answer = Answer.refuses k vs; lent = a ∷ rest }) (record { answer = Answer.refuses k vs; lent = b ∷ rest })
  wrote_nothing rest k vs = record { same = cc; kept = record { long = refl; words = refl } }

  wrote-table : (t : Table) (values : List ℕ) (rest : List (List ℕ)) → 7 ≤ length a → length t.rows ≤ capacity a →
      Wrote a (values leaving written a t ∷ rest) (values leaving written b t ∷ rest)
  wrote-table t values rest l f =
      let c = capacity-same a b h in
      let e : near (written a t) ≡ near (written b t) =
      near-written a t l f ∙ ap (λ c. words_of c t) c ∙ sym (near-written b t (omega arith) (omega arith)) in
      record { same = cc; kept = record { long = length-written a t; words = past-written a t l f } }

writes : (on : List ℕ → Call) (words : List ℕ) →
    ((other : List ℕ) → near words ≡ near other → Wrote words (outcome (on words)) (outcome (on other))) → Spares on words
writes on words f = record { unread = λ other h. (f other h).same; unwritten = (f words refl).kept }

-- A loading call.
loads-alike : (words : List ℕ) (taken : Bool) (t : Table) (other : List ℕ) → near words ≡ near other →
    Wrote words (ladder (rungs words taken t) (words ∷ []) (fills words t)) (ladder (rungs other taken t) (other ∷ []) (fills other t))
unfolding NoneGiven
loads-alike words taken t other h =
    let c = capacity-same words other h in
    rw (short-same words other h, c) (ladder-same (Wrote words) (wrote_nothing words other h []) _ (λ n.
    let l : 7 ≤ length other = ltb-false _ _ n.0 in
    let f : length t.rows ≤ capacity other = ltb-false _ _ n.1.1.0 in
    wrote-table words other h t _ [] (omega arith) (omega arith)))

-- "words past 3 + 4C are neither read nor written"
pub past-spared : PastSpared
unfolding outcome refusals accepted NoneGiven tabbed
past-spared (Call.Fresh words) =
    writes _ words (λ other h.
    rw (short-same words other h) (ladder-same (Wrote words) (wrote_nothing words other h []) _ (λ n.
    let l : 7 ≤ length other = ltb-false _ _ n.0 in
    let c = capacity-same words other h in
    wrote-table words other h fresh_table [] [] (omega arith) (omega arith))))
past-spared (Call.Open words parent) =
    writes _ words (λ other h.
    guarded (Wrote words) (wrote_nothing words other h []) words other h (λ s t c. (
      cc,
      λ n.
          let r : length (rows_of words) < capacity words = leb-false _ _ n.1.1.0 in
          rw (← t) (wrote-table words other h (opened (table_of words) parent) _ [] (long words s) (omega (arith, opened-length (table_of words) parent))),
    )))
past-spared (Call.Navigate words from) =
    writes _ words (λ other h.
    guarded (Wrote words) (wrote_nothing words other h []) words other h (λ s t c. (
      cc,
      λ n.
          let r : length (cleared (root_at (rows_of words) (place (rows_of words) from)) (rows_of words)) < capacity words = leb-false _ _ n.1.1.0 in
          rw (← t) (wrote-table words other h (navigated (table_of words) from) _ [] (long words s) (omega (arith, navigated-length (table_of words) from))),
    )))
past-spared (Call.Traverse words root δ room) =
    writes _ words (λ other h.
    guarded (Wrote words) (wrote_nothing words other h (room ∷ [])) words other h (λ s t c. (
      cc,
      λ n.
          let r = s.table.s1.fits in
          rw (← t) (wrote-table words other h (traversed (table_of words) root δ) _ _ (long words s) (omega (arith, traversed-length (table_of words) root δ))),
    )))
past-spared (Call.Drop words frame) =
    writes _ words (λ other h.
    guarded (Wrote words) (wrote_nothing words other h []) words other h (λ s t c. (
      cc,
      λ n.
          let r = s.table.s1.fits in
          let few = count_most (stays_but frame (rows_of words)) (length (rows_of words)) in
          rw (← ap (λ (u : Table). length u.rows) t, ← t) (wrote-table words other h (dropped (table_of words) frame) _ [] (long words s) (omega (arith, dropped-length (table_of words) frame))),
    )))
past-spared (Call.Replace words d) =
    writes _ words (λ other h.
    guarded (Wrote words) (wrote_nothing words other h []) words other h (λ s t c. (
      cc,
      λ n.
          let r = s.table.s1.fits in
          let few = count_most (stays_over d (rows_of words)) (length (rows_of words)) in
          rw (← t) (wrote-table words other h (replaced (table_of words) d) _ [] (long words s) (omega (arith, replaced-length (table_of words) d))),
    )))
past-spared (Call.Tab words) =
    writes _ words (λ other h.
    guarded (Wrote words) (wrote_nothing words other h []) words other h (λ s t c. (
      cc,
      λ n.
          let r : length (rows_of words) < capacity words = leb-false _ _ n.0 in
          rw (← t) (wrote-table words other h (tabbed (table_of words)) _ [] (long words s) (omega (arith, opened-length (table_of words) none))),
    )))
past-spared (Call.Position words root) = λ other h. guarded ◌≡◌ (λ k vs. refl) words other h (λ s t c. (cc, λ n. cc))
past-spared (Call.Visible words d) = λ other h. guarded ◌≡◌ (λ k vs. refl) words other h (λ s t c. (cc, λ n. cc))
past-spared (Call.Lists words root takens upcomings) = λ other h. guarded ◌≡◌ (λ k vs. refl) words other h (λ s t c. (cc, λ n. cc))
past-spared (Call.Stretch takens upcomings δ) = tt
past-spared (Call.StretchCount takens upcomings δ) = tt
past-spared (Call.Outline words root room) = λ other h. guarded ◌≡◌ (λ k vs. refl) words other h (λ s t c. (cc, λ n. cc))
past-spared (Call.Save words room) = λ other h. guarded ◌≡◌ (λ k vs. refl) words other h (λ s t c. (cc, λ n. cc))
past-spared (Call.Load words bytes) = writes _ words (loads-alike words (from_save? bytes) (loaded bytes))
past-spared (Call.LoadOld words bytes) = writes _ words (loads-alike words (from_old_save? bytes) (old_loaded bytes))
past-spared (Call.Contents bytes) = tt
past-spared (Call.ContentsOld bytes) = tt
past-spared (Call.SetPlace words places d place) = λ other h. guarded ◌≡◌ (λ k vs. refl) words other h (λ s t c. (cc, λ n. cc))
past-spared (Call.AskPlace words places d) = λ other h. guarded ◌≡◌ (λ k vs. refl) words other h (λ s t c. (cc, λ n. cc))
past-spared (Call.AskAtZoom words places d zoom) = λ other h. guarded ◌≡◌ (λ k vs. refl) words other h (λ s t c. (cc, λ n. cc))
