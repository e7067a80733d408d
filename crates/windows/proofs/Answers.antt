-- What a call that names a window answers is the same of two sound records with the same rows in that window. Assumes nothing.
use Prim.Native.Nat.{ℕ, ◌≤◌}
use mathlib.Core.Bool.{Bool, false, not, ◌&&◌, So, cond, and-eq-true_iff}
use mathlib.Core.List.{List, [], ◌∷◌}
use mathlib.Core.Path.{◌≡◌, refl, sym, ap, ap₂, ◌∙◌}
use lib.IntN.{ℤ}
use lib.ListN.{get_or}
use borrow.Author.Tests.{not-true}
use Rattle.rules.specs.Rows.{none}
use Rattle.rules.specs.Windows.{window_rows, is_root}
use Rattle.rules.specs.Moves.{changes, traversed}
use Rattle.rules.specs.Words.{table_of, rows_of, written}
use Rattle.rules.specs.Sound.{Sound, sound?}
use Rattle.rules.specs.Calls.{Call, Outcome, short, beyond, window_in, too_short, refusals, accepted, ladder, outcome}
use Rattle.laws.proofs.Tests.{test}
use Rattle.laws.proofs.Reflect.{sound-is}
use Rattle.laws.proofs.Calls.{outcomes-same}
use Rattle.windows.proofs.Members.{root-own}
use Rattle.windows.proofs.Window.{WideRows, wide_rows}
use Rattle.windows.proofs.Independent.{Same, own-rows-only}

-- A record that is long enough and sound, and whose next document is a word.
pub record Fit (words : List ℕ) : Type 0 where
  pub long : short words ≡ false
  pub sound : Sound words
  pub word : (table_of words).next_doc ≤ none

pub fit_wide : {words : List ℕ} → Fit words → WideRows (rows_of words) (table_of words).next_doc (table_of words).next_frame
fit_wide f = wide_rows f.sound.table f.word

-- TWO SUCH RECORDS WITH THE SAME ROWS IN WINDOW r, which may be none.
module _ (r : ℕ) (words others : List ℕ) (one : Fit words) (other : Fit others) (rows_are : window_rows r (rows_of words) ≡ window_rows r (rows_of others)) where
  same : Same (table_of words) (table_of others) r
  same = own-rows-only (table_of words) (table_of others) (fit_wide one) (fit_wide other) r rows_are

  -- The first lines of their tables are the same.
  pub same-short : short words ≡ short others
  same-short = one.long ∙ sym other.long

  pub same-sound : sound? words ≡ sound? others
  same-sound = (sound-is words).1 one.sound ∙ sym ((sound-is others).1 other.sound)

  pub same-root : is_root (rows_of words) r ≡ is_root (rows_of others) r
  same-root = sym (root-own (rows_of words) (fit_wide one).tree r) ∙ ap (λ l. is_root l r) rows_are ∙ root-own (rows_of others) (fit_wide other).tree r

  -- So is what they answer.
  pub same-position : outcome (Call.Position words r) ≡ outcome (Call.Position others r)
  unfolding refusals accepted
  same-position = outcomes-same ◌≡◌ (Call.Position words r) (Call.Position others r) (rw (same-short, same-sound, same-root) refl) (λ k vs. refl) (λ h. rw rows_are refl)

  pub same_lists : (takens upcomings : List ℕ) → outcome (Call.Lists words r takens upcomings) ≡ outcome (Call.Lists others r takens upcomings)
  unfolding refusals accepted
  same_lists takens upcomings =
      outcomes-same ◌≡◌ (Call.Lists words r takens upcomings) (Call.Lists others r takens upcomings) (rw (same-short, same-sound, same-root, rows_are) refl) (λ k vs. refl) (λ h. rw rows_are refl)

  pub same-outline : (room : List ℕ) → outcome (Call.Outline words r room) ≡ outcome (Call.Outline others r room)
  unfolding refusals accepted
  same-outline room =
      outcomes-same ◌≡◌ (Call.Outline words r room) (Call.Outline others r room) (rw (same-short, same-sound, same-root, same.outline) refl) (λ k vs. refl) (λ h. rw same.outline refl)

  -- A traversal leaves the same rows in the window.
  pub same-walk : (δ : ℤ) → beyond (window_in words r).rows δ ≡ false → window_rows r (traversed (table_of words) r δ).rows ≡ window_rows r (traversed (table_of others) r δ).rows
  same-walk = same.walks

  module _ (δ : ℤ) (room : List ℕ) where
    -- Of a traversal: its table, and what it answers and writes to its buffer.
    pub same_lines : refusals (Call.Traverse words r δ room) ≡ refusals (Call.Traverse others r δ room)
    unfolding refusals
    same_lines = rw (same-short, same-sound, same-root, same.steps-are, same.position-is, same.changed δ) refl

    pub same-traverse : ((outcome (Call.Traverse words r δ room)).answer ≡ (outcome (Call.Traverse others r δ room)).answer)
        × (get_or (outcome (Call.Traverse words r δ room)).lent 1 [] ≡ get_or (outcome (Call.Traverse others r δ room)).lent 1 [])
    unfolding accepted
    same-traverse =
        outcomes-same (λ o p. (o.answer ≡ p.answer) × (get_or o.lent 1 [] ≡ get_or p.lent 1 [])) (Call.Traverse words r δ room) (Call.Traverse others r δ room) same_lines (λ k vs. (refl, refl))
        (λ h. rw (same.changed δ) (refl, refl))

-- TWINS: two such records with the same window.
pub record Twins (r : ℕ) (words others : List ℕ) : Type 0 where
  pub one : Fit words
  pub other : Fit others
  pub root : So (is_root (rows_of words) r)
  pub rows_are : window_rows r (rows_of words) ≡ window_rows r (rows_of others)

-- A traversal of a window by δ with this room, by what is to be written; and whether the record moves.
module _ (r : ℕ) (words : List ℕ) (f : Fit words) (root : So (is_root (rows_of words) r)) where
  abbrev moves : ℤ → List ℕ → Bool
  moves δ room = not (beyond (window_in words r).rows δ) && not (too_short room (changes (window_in words r) δ))

  traverse-lent : (δ : ℤ) (room : List ℕ) →
      (outcome (Call.Traverse words r δ room)).lent
      ≡ (cond (moves δ room) (written words (traversed (table_of words) r δ)) words) ∷ get_or (outcome (Call.Traverse words r δ room)).lent 1 [] ∷ []
  unfolding outcome refusals ladder accepted
  traverse-lent δ room =
      let passes : So (sound? words) = (sound-is words).1 f.sound in
      rw (f.long, passes, root)
      (test (beyond (window_in words r).rows δ)
      (λ b. rw b refl)
      (λ b. rw b (test (too_short room (changes (window_in words r) δ)) (λ c. rw c refl) (λ c. rw c refl))))

module _ (r : ℕ) (words others : List ℕ) (t : Twins r words others) where
  pub twins-position : outcome (Call.Position words r) ≡ outcome (Call.Position others r)
  twins-position = same-position r words others t.one t.other t.rows_are

  pub twins-lists : (takens upcomings : List ℕ) → outcome (Call.Lists words r takens upcomings) ≡ outcome (Call.Lists others r takens upcomings)
  twins-lists = same_lists r words others t.one t.other t.rows_are

  pub twins-outline : (room : List ℕ) → outcome (Call.Outline words r room) ≡ outcome (Call.Outline others r room)
  twins-outline = same-outline r words others t.one t.other t.rows_are

  -- Of a traversal: it goes or stays in both, and what the buffer holds then.
  abbrev told : List ℕ → ℤ → List ℕ → Outcome
  told w δ room = outcome (Call.Traverse w r δ room)

  pub record Trip (δ : ℤ) (room : List ℕ) : Type 0 where
    pub goes : Bool
    pub held : List ℕ
    pub inside : So goes → beyond (window_in words r).rows δ ≡ false
    pub answers : (told words δ room).answer ≡ (told others δ room).answer
    pub here : (told words δ room).lent ≡ cond goes (written words (traversed (table_of words) r δ)) words ∷ held ∷ []
    pub there : (told others δ room).lent ≡ cond goes (written others (traversed (table_of others) r δ)) others ∷ held ∷ []

  pub twins-trip : (δ : ℤ) (room : List ℕ) → Trip δ room
  twins-trip δ room =
      let a = same-traverse r words others t.one t.other t.rows_are δ room in
      let root' : So (is_root (rows_of others) r) = sym (same-root r words others t.one t.other t.rows_are) ∙ t.root in
      let both : moves r others t.other root' δ room ≡ moves r words t.one t.root δ room =
      rw ((same r words others t.one t.other t.rows_are).changed δ, t.rows_are) refl in
      record {
        goes = moves r words t.one t.root δ room;
        held = get_or (told words δ room).lent 1 [];
        inside = λ g. not-true _ (simp and-eq-true_iff at g).0;
        answers = a.0;
        here = traverse-lent r words t.one t.root δ room;
        there = traverse-lent r others t.other root' δ room ∙ ap₂ (λ g h. cond g (written others (traversed (table_of others) r δ)) others ∷ h ∷ []) both (sym a.1);
      }
