-- Fresh, Open and Tab, by the ways that they go. Assumes nothing.
use Prim.Native.Nat.{ℕ, ◌+◌, ◌-◌, ◌*◌, ◌≤◌, ◌<◌}
use mathlib.Core.Bool.{false}
use mathlib.Core.List.{List, [], ◌∷◌, ◌++◌, flat_map}
use mathlib.Core.Logic.{inl, inr}
use mathlib.Core.Path.{◌≡◌, refl, sym, ap, ap₂, ◌∙◌}
use native.Mathlib.Numerals.{add-one}
use native.Mathlib.Omega.{arith}
use lib.ListN.{length, replicate}
use lib.Dec.{eqb}
use borrow.Author.Tests.{lt-ltb, le-ltb, le-leb, lt-leb, eq-eqb, ne_eqb}
use Rattle.rules.specs.Rows.{Row, none}
use Rattle.rules.specs.Moves.{fresh_table, opened, tabbed}
use Rattle.rules.specs.Words.{put, capacity, table_of, rows_of, words_of_row, words_of, written}
use Rattle.rules.specs.Calls.{Call, Answer, full, refusals, accepted, ladder, outcome, Given, NoneGiven}
use Rattle.laws.proofs.Writes.{put-put}
use Rattle.laws.proofs.Words.{written-table}
use Rattle.laws.proofs.Appended.{written-more}
use Rattle.laws.proofs.Calls.{outcome-accepted}
use Rattle.laws.proofs.Accepted.{Tabs}
use Rattle.base.specs.declared.DocNo.{DocNo}
use Rattle.base.specs.declared.FrameNo.{FrameNo}
use Rattle.base.specs.declared.Refusal.TheVariants.{Full, UsedUp}
use Rattle.sound.specs.Check.{Settles}
use Rattle.std.specs.Prelude.{Ok, Err}
use Rattle.moves.specs.Answers.{opened_is, room_rungs, Appended}
use Rattle.moves.specs.declared.Opened.{Opened}

-- FRESH

pub fresh-short : (words : List ℕ) → length words < 7 → outcome (Call.Fresh words) ≡ record { answer = Answer.refuses 1 []; lent = words ∷ [] }
unfolding outcome refusals accepted ladder
fresh-short words l = rw (lt-ltb _ _ l) refl

-- The head, the row and the zeros, one after the other.
fresh-words : (words a b new : List ℕ) (c : ℕ) → c ≡ capacity words → 1 ≤ c → a ≡ put words 0 (1 ∷ 1 ∷ 1 ∷ []) → b ≡ put a 3 (0 ∷ 0 ∷ none ∷ 1 ∷ []) →
    new ≡ put b 7 (replicate (3 + 4 * c - 7) 0) → new ≡ written words fresh_table
unfolding written words_of flat_map
fresh-words words a b new c e l p q r =
    let n : 3 + 4 * c - 7 ≡ 4 * (c - 1) = omega arith in
    r ∙ ap₂ (λ l z. put l 7 (replicate z 0)) (q ∙ ap (λ l. put l 3 (0 ∷ 0 ∷ none ∷ 1 ∷ [])) p ∙ put-put (1 ∷ 1 ∷ 1 ∷ []) (0 ∷ 0 ∷ none ∷ 1 ∷ []) words 0) n
    ∙ put-put (1 ∷ 1 ∷ 1 ∷ 0 ∷ 0 ∷ none ∷ 1 ∷ []) (replicate (4 * (c - 1)) 0) words 0 ∙ rw e refl

pub fresh-done : (words a b new : List ℕ) (c : ℕ) → 7 ≤ length words → c ≡ capacity words → a ≡ put words 0 (1 ∷ 1 ∷ 1 ∷ []) → b ≡ put a 3 (0 ∷ 0 ∷ none ∷ 1 ∷ []) →
    new ≡ put b 7 (replicate (3 + 4 * c - 7) 0) → outcome (Call.Fresh words) ≡ record { answer = Answer.gives []; lent = new ∷ [] }
unfolding outcome refusals accepted ladder
fresh-done words a b new c l e p q r = rw (le-ltb _ _ l, fresh-words words a b new c e (omega arith) p q r) refl

-- REFUSALS 7 AND 8

module _ (words : List ℕ) (c n : ℕ) (room : c ≡ capacity words) (used : n ≡ length (rows_of words)) where
  pub room-full : c ≤ n → Settles (room_rungs words) (Err Full)
  unfolding Given
  room-full l = inl (le-leb (capacity words) (length (rows_of words)) (omega arith), refl, refl)

  module _ (l : n < c) (d : ℕ) (next : d ≡ (table_of words).next_doc) where
    left : full words (rows_of words) ≡ false
    left = lt-leb (capacity words) (length (rows_of words)) (omega arith)

    pub no-document : d ≡ none → Settles (room_rungs words) (Err UsedUp)
    unfolding Given
    no-document z = inr (left, inl (rw (eq-eqb _ _ (sym next ∙ z)) refl, refl, refl))

    module _ (some : d ≡ none → ⊥) (f : ℕ) (following : f ≡ (table_of words).next_frame) where
      unused : eqb (table_of words).next_doc none ≡ false
      unused = ne_eqb _ _ (λ z. some (next ∙ z))

      pub no-frame : f ≡ none → Settles (room_rungs words) (Err UsedUp)
      unfolding Given
      no-frame z = inr (left, inl (rw (unused, eq-eqb _ _ (sym following ∙ z)) refl, refl, refl))

      pub room-left : (f ≡ none → ⊥) → Settles (room_rungs words) (Ok tt)
      unfolding NoneGiven
      room-left ne = (left, (rw (unused, ne_eqb _ _ (λ z. ne (following ∙ z))) refl, tt))

-- A FRAME APPENDED

module _ (words : List ℕ) (relies : Tabs words) (parent : ℕ) where
  -- The row and the head written are the words of the table with that frame.
  append-words : (mid new : List ℕ) (n d f : ℕ) → n ≡ length (rows_of words) → d ≡ (table_of words).next_doc → f ≡ (table_of words).next_frame →
      mid ≡ put words (3 + 4 * n) (d ∷ f ∷ parent ∷ 1 ∷ []) → new ≡ put mid 0 ((n + 1) ∷ (d + 1) ∷ (f + 1) ∷ []) → new ≡ written words (opened (table_of words) parent)
  unfolding opened
  append-words mid new n d f a b c p q =
      let t = table_of words in
      let r : Row = record { doc = t.next_doc; frame = t.next_frame; parent = parent; shown = 1 } in
      let w : put (put words (3 + 4 * length (rows_of words)) (words_of_row r)) 0 ((length (rows_of words) + 1) ∷ (t.next_doc + 1) ∷ (t.next_frame + 1) ∷ [])
      ≡ written words (record { rows = rows_of words ++ r ∷ []; next_doc = t.next_doc + 1; next_frame = t.next_frame + 1 }) =
      ap (λ l. put (put l (3 + 4 * length (rows_of words)) (words_of_row r)) 0 ((length (rows_of words) + 1) ∷ (t.next_doc + 1) ∷ (t.next_frame + 1) ∷ [])) (sym (written-table words relies.sound))
      ∙ written-more words t r (t.next_doc + 1) (t.next_frame + 1) relies.roomy in
      rw (q, p, a, b, c, w, add-one t.next_doc, add-one t.next_frame) refl

  pub append-done : (mid new : List ℕ) (n : ℕ) (d : DocNo) (f : FrameNo) → n ≡ length (rows_of words) → d.0 ≡ (table_of words).next_doc → f.0 ≡ (table_of words).next_frame →
      mid ≡ put words (3 + 4 * n) (d.0 ∷ f.0 ∷ parent ∷ 1 ∷ []) → new ≡ put mid 0 ((n + 1) ∷ (d.0 + 1) ∷ (f.0 + 1) ∷ []) → Appended words parent (record { document = d; frame = f }) new
  append-done mid new n d f a b c p q = record { numbers = rw (b, c) refl; words_are = append-words mid new n d.0 f.0 a b c p q }

-- THE OUTCOME

-- Where a frame may be opened, a window may.
pub open-tabs : (words : List ℕ) (parent : ℕ) → NoneGiven (refusals (Call.Open words parent)) → NoneGiven (refusals (Call.Tab words))
unfolding refusals NoneGiven
open-tabs words parent h = (h.0, (h.1.0, h.1.1.1.1))

pub open-given : (words : List ℕ) (parent : ℕ) → NoneGiven (refusals (Call.Open words parent)) → (r : Opened) (left : List ℕ) → Appended words parent r left →
    outcome (Call.Open words parent) ≡ record { answer = opened_is (Ok r); lent = left ∷ [] }
unfolding accepted
open-given words parent h r left a = outcome-accepted (Call.Open words parent) h ∙ rw (a.numbers, a.words_are) refl

pub tab-given : (words : List ℕ) → NoneGiven (refusals (Call.Tab words)) → (r : Opened) (left : List ℕ) → Appended words none r left →
    outcome (Call.Tab words) ≡ record { answer = opened_is (Ok r); lent = left ∷ [] }
unfolding accepted tabbed
tab-given words h r left a = outcome-accepted (Call.Tab words) h ∙ rw (a.numbers, a.words_are) refl
