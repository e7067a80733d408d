-- Words past the last whole entry of a store are neither read nor written. Assumes nothing.
use Prim.Native.Nat.{ℕ, zero, suc, ◌+◌, ◌*◌, ◌≤◌, ◌<◌}
use mathlib.Core.List.{List, [], ◌∷◌, ◌++◌}
use mathlib.Core.Path.{◌≡◌, refl, sym, ap, subst, ◌∙◌}
use native.Mathlib.Omega.{arith}
use lib.ListN.{length, get_or, set, length-append, length-set, get_or-append}
use lib.Seq.{set-append_left}
use borrow.Author.Tests.{lt-ltb, le-ltb, leb-false}
use Rattle.rules.specs.Below.{earliest}
use Rattle.rules.specs.Rows.{Row, none}
use Rattle.rules.specs.Words.{put, rows_of}
use Rattle.rules.specs.Places.{Place, place_words, entries, document_in, place_in, is_of, entry_of, place_of, fine_at, fine?, gone_in, free_at, freed_to, freed, spot, placed}
use Rattle.rules.specs.Calls.{Call, refusals, accepted, outcome, Given, NoneGiven}
use Rattle.laws.proofs.Tests.{test, by-lt, same_tests, some_same, all_in, all-out}
use Rattle.laws.proofs.Loops.{earliest-same}
use Rattle.laws.proofs.Calls.{by-ladder, outcome-accepted, outcome-refused}
use Rattle.laws.proofs.Stores.{freed-length}
use Rattle.demands.specs.Places.{behind}

-- A run put within the first words.
put-left : (vs l rest : List ℕ) (i : ℕ) → i + length vs ≤ length l → put (l ++ rest) i vs ≡ put l i vs ++ rest
unfolding put
put-left [] l rest i h = refl
put-left (v ∷ vs) l rest i h =
    ap (λ z. put z (suc i) vs) (set-append_left l rest i v (omega arith)) ∙ put-left vs (set l i v) rest (suc i) (omega (arith, length-set l i v))

module _ (whole rest : List ℕ) (even : length whole ≡ 4 * entries whole) (less : length rest < 4) where
  abbrev all : List ℕ
  all = whole ++ rest

  entries-same : entries all ≡ entries whole
  entries-same = omega (arith, length-append whole rest)

  word_same : (i c : ℕ) → i < entries whole → c < 4 → get_or all (4 * i + c) 0 ≡ get_or whole (4 * i + c) 0
  word_same i c l m = get_or-append whole rest 0 (4 * i + c) (omega arith)

  document-same : (i : ℕ) → i < entries whole → document_in all i ≡ document_in whole i
  document-same i l = get_or-append whole rest 0 (4 * i) (omega arith)

  of-same : (d i : ℕ) → i < entries whole → is_of all d i ≡ is_of whole d i
  of-same d i l = rw (document-same i l) refl

  entry-same : (d : ℕ) → entry_of all d ≡ entry_of whole d
  unfolding entry_of
  entry-same d = ap (earliest (is_of all d)) entries-same ∙ earliest-same _ _ (entries whole) (of-same d)

  place-in-same : (i : ℕ) → i < entries whole → place_in all i ≡ place_in whole i
  place-in-same i l = rw (word_same i 1 l (omega arith), word_same i 2 l (omega arith), word_same i 3 l (omega arith)) refl

  pub place_same : (d : ℕ) → place_of all d ≡ place_of whole d
  unfolding place_of
  place_same d =
      rw (entry-same d, entries-same) (by-lt (entry_of whole d) (entries whole)
      (λ l. rw (lt-ltb (entry_of whole d) (entries whole) l) (place-in-same (entry_of whole d) l))
      (λ m. rw (le-ltb (entry_of whole d) (entries whole) m) refl))

  fine-at-same : (i : ℕ) → i < entries whole → fine_at all i ≡ fine_at whole i
  fine-at-same i l =
      rw (
        document-same i l,
        word_same i 1 l (omega arith),
        word_same i 2 l (omega arith),
        word_same i 3 l (omega arith),
        some_same (is_of all (document_in whole i)) (is_of whole (document_in whole i)) i (λ k m. of-same (document_in whole i) k (omega arith)),
      ) refl

  pub fine-same : fine? all ≡ fine? whole
  unfolding fine?
  fine-same =
      rw entries-same (same_tests
      (λ h. all_in (fine_at whole) (entries whole) (λ i l. sym (fine-at-same i l) ∙ all-out (fine_at all) (entries whole) h i l))
      (λ h. all_in (fine_at all) (entries whole) (λ i l. fine-at-same i l ∙ all-out (fine_at whole) (entries whole) h i l)))

  spot-same : (d : ℕ) → spot all d ≡ spot whole d
  unfolding spot
  spot-same d = rw (entry-same d, entry-same none, entries-same) refl

  placed_same : (d : ℕ) (p : Place) → spot whole d < entries whole → placed all d p ≡ placed whole d p ++ rest
  unfolding placed
  placed_same d p l = ap (λ i. put all (4 * i) (d ∷ place_words p)) (spot-same d) ∙ put-left (d ∷ place_words p) whole rest (4 * spot whole d) (short p)
    where
      short : (p : Place) → 4 * spot whole d + length (d ∷ place_words p) ≤ length whole
      short Place.itself = omega arith
      short (Place.at x y) = omega arith

  free-same : (rows : List Row) (i : ℕ) → i < entries whole → free_at rows i all ≡ free_at rows i whole ++ rest
  free-same rows i l =
      rw (document-same i l) (test (gone_in rows whole i) (λ t. rw t (set-append_left whole rest (4 * i) none (omega arith))) (λ f. rw f refl))

-- Freeing, of the first k entries.
freed-same : (rows : List Row) (whole rest : List ℕ) → length whole ≡ 4 * entries whole → length rest < 4 → (k : ℕ) → k ≤ entries whole → freed_to rows k (whole ++ rest) ≡ freed_to rows k whole ++ rest
unfolding freed_to
freed-same rows whole rest even less zero l = refl
freed-same rows whole rest even less (suc k) l =
    let n = freed-length rows whole k in
    ap (free_at rows k) (freed-same rows whole rest even less k (omega arith)) ∙ free-same (freed_to rows k whole) rest (omega arith) less rows k (omega arith)

module _ (words whole rest : List ℕ) (even : length whole ≡ 4 * entries whole) (less : length rest < 4) (d : ℕ) (p : Place) where
  abbrev free : List ℕ
  free = freed (rows_of words) whole

  freed-all : freed (rows_of words) (whole ++ rest) ≡ free ++ rest
  freed-all = ap (λ n. freed_to (rows_of words) n (whole ++ rest)) (entries-same whole rest even less) ∙ freed-same (rows_of words) whole rest even less (entries whole) (omega arith)

  free-even : length free ≡ 4 * entries free
  free-even = let n = freed-length (rows_of words) whole (entries whole) in omega arith

  rungs-same : refusals (Call.SetPlace words (whole ++ rest) d p) ≡ refusals (Call.SetPlace words whole d p)
  unfolding refusals
  rungs-same = rw (fine-same whole rest even less, freed-all, spot-same free rest free-even less d, entries-same free rest free-even less) refl

  pub set-spared : outcome (Call.SetPlace words (whole ++ rest) d p) ≡ behind rest (outcome (Call.SetPlace words whole d p))
  unfolding refusals accepted NoneGiven
  set-spared =
      let c = Call.SetPlace words whole d p in
      let w = Call.SetPlace words (whole ++ rest) d p in
      by-ladder (refusals c)
      (λ h.
      let l : spot free d < entries free = leb-false _ _ h.1.1.1.1.1.0 in
      outcome-accepted w (subst NoneGiven (sym rungs-same) h) ∙ rw (freed-all, placed_same free rest free-even less d p l) refl ∙ sym (ap (behind rest) (outcome-accepted c h)))
      (λ k vs g. outcome-refused w k vs (subst (Given k vs) (sym rungs-same) g) ∙ sym (ap (behind rest) (outcome-refused c k vs g)))
