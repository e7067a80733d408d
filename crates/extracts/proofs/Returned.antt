-- The flags of a window's own record, put back one after the other. Assumes nothing.
use Prim.Native.Nat.{ℕ, suc, ◌+◌, ◌*◌, ◌≤◌, ◌<◌}
use mathlib.Core.Bool.{Bool, So, cond, and-eq-true_iff}
use mathlib.Core.List.{List, [], ◌∷◌}
use mathlib.Core.Logic.{◌≢◌}
use mathlib.Core.Path.{◌≡◌, refl, sym, ap, subst, ◌∙◌}
use native.Mathlib.Nat.{le_antisymm}
use native.Mathlib.Numerals.{add-one}
use native.Mathlib.Omega.{arith}
use lib.Dec.{eqb, ltb}
use lib.ListN.{length}
use borrow.Author.Tests.{eqb-true, eqb-false, eq-eqb, ltb-true, lt-ltb, le-ltb}
use Rattle.rules.specs.Below.{count}
use Rattle.rules.specs.Rows.{Row, doc_at, shown_at, is_shown, flag}
use Rattle.rules.specs.Windows.{in_window, window_rows}
use Rattle.rules.specs.Moves.{reflagged}
use Rattle.rules.specs.Words.{put, capacity, table_of, rows_of, written}
use Rattle.laws.proofs.Tests.{test, off, count_yes, count_no, by-lt, nth, clash}
use Rattle.laws.proofs.Tree.{TreeOf, tree_of, distinct}
use Rattle.laws.proofs.Flags.{flags-doc}
use Rattle.laws.proofs.Writes.{length-put, get-put-before}
use Rattle.laws.proofs.Words.{rows-length, shown-in}
use Rattle.laws.proofs.Reflagged.{Reflagged, reflagged-rows, reflagged-same, reflagged-put, reflagged-written}
use Rattle.windows.proofs.Window.{window-length, window-place, window-row}
use Rattle.sound.proofs.Checks.{examined-sound, examined-fits, examined-long}
use Rattle.extracts.specs.Windows.{meets, Gives, PutsBack, with_window}

-- A flag of 0 or 1 tells itself.
flag-back : (s : ℕ) → s ≤ 1 → s ≡ flag (eqb s 1)
flag-back s l = test (eqb s 1) (λ t. rw t (eqb-true s 1 t)) (λ f. let ne : s ≢ 1 = eqb-false s 1 f in rw f (omega arith))

-- What holds of every walk: as many words, as many rows, and the next row of `own` is no later than its end.
pub record Walking (old own : List ℕ) (k : ℕ) (new : List ℕ) : Type 0 where
  pub sized : length new ≡ length old
  pub many : length (rows_of new) ≡ length (rows_of old)
  pub upto : k ≤ length (rows_of own)

pub walk-starts : (old own : List ℕ) → Walking old own 0 old
walk-starts old own = record { sized = refl; many = refl; upto = omega arith }

-- A flag is none of the first words.
row-count-kept : (old : List ℕ) (i s : ℕ) → length (rows_of (put old (6 + 4 * i) (s ∷ []))) ≡ length (rows_of old)
row-count-kept old i s = rows-length (put old (6 + 4 * i) (s ∷ [])) ∙ get-put-before (s ∷ []) old (6 + 4 * i) 0 (omega arith) ∙ sym (rows-length old)

pub walk_more : (old own : List ℕ) (i k next : ℕ) (new left : List ℕ) → Walking old own k new → Gives new i own k next left → i < length (rows_of old) → Walking old own next left
walk_more old own i k next new left w g l =
    test (meets new i own k)
    (λ t.
    let q : left ≡ put new (6 + 4 * i) (shown_at (rows_of own) k ∷ []) = g.words_are ∙ rw t refl in
    let b = ltb-true k (length (rows_of own)) (simp and-eq-true_iff at t).0 in
    record {
      sized = ap length q ∙ length-put new (6 + 4 * i) _ ∙ w.sized;
      many = ap (λ x. length (rows_of x)) q ∙ row-count-kept new i _ ∙ w.many;
      upto = let z : next ≡ k + 1 = g.next-is ∙ rw t refl in omega arith;
    })
    (λ f.
    let q : left ≡ new = g.words_are ∙ rw f refl in
    let z : next ≡ k = g.next-is ∙ rw f refl in
    record { sized = ap length q ∙ w.sized; many = ap (λ x. length (rows_of x)) q ∙ w.many; upto = omega (arith, w.upto) })

-- ALL ROWS

module _ (old : List ℕ) (r : ℕ) (own : List ℕ) (h : PutsBack old r own) where
  abbrev rows : List Row
  rows = rows_of old

  abbrev keep : ℕ → Bool
  keep = in_window r rows

  tree : TreeOf rows (table_of old).next_doc (table_of old).next_frame
  tree = tree_of (examined-sound old h.examined).table h.word

  fits : length rows ≤ capacity old
  fits = examined-fits old h.examined

  -- The next row of `own` holds the document of a row exactly when that is the next of the window.
  met : (words : List ℕ) → ((i : ℕ) → doc_at (rows_of words) i ≡ doc_at rows i) → (i : ℕ) → i < length rows → meets words i own (count keep i) ≡ keep i
  met words same i l =
      test (keep i)
      (λ t.
      let p = window-place rows r i l t in
      let y = lt-ltb (count keep i) (length (rows_of own)) (omega (arith, h.many)) in
      let z = eq-eqb (doc_at (rows_of words) i) (doc_at (rows_of own) (count keep i)) (same i ∙ ap (λ x. x.doc) (sym (window-row rows r i l t)) ∙ sym (h.docs (count keep i) (omega (arith, h.many)))) in
      rw (y, z, t) refl)
      (λ f. off _ (λ m.
      let v = simp and-eq-true_iff at m in
      let b : count keep i < length (rows_of own) = ltb-true _ _ v.0 in
      let j = nth keep (length rows) (count keep i) (omega (arith, h.many, window-length rows r)) in
      let e : doc_at (rows_of own) (count keep i) ≡ doc_at rows j.0 =
      h.docs (count keep i) b ∙ ap (doc_at (window_rows r rows)) (sym j.3) ∙ ap (λ x. x.doc) (window-row rows r j.0 j.1 j.2) in
      let q = distinct tree i j.0 l j.1 (sym (same i) ∙ eqb-true _ _ v.1 ∙ e) in
      clash (subst (λ x. So (keep x)) (sym q) j.2) f) ∙ sym f)

  -- What row j is to have, and has before its turn.
  abbrev wanted : ℕ → Bool
  wanted j = cond (keep j) (is_shown (rows_of own) (count keep j)) (is_shown rows j)

  abbrev done : ℕ → ℕ → Bool
  done i j = cond (ltb j i) (wanted j) (is_shown rows j)

  -- The rows before i have their flags, and k of them are of the window.
  pub record Returning (i k : ℕ) (new : List ℕ) : Type 0 where
    pub places : k ≡ count keep i
    pub flags : Reflagged old new (done i)

  pub returning-starts : Returning 0 0 old
  unfolding count
  returning-starts =
      record {
        places = refl;
        flags = record {
          sized = refl;
          kept = λ k n. refl;
          flagged = λ i l. rw (le-ltb i 0 (omega arith)) (shown-in old i l ∙ flag-back (shown_at rows i) ((examined-sound old h.examined).table.s6.bit i l));
        };
      }

  pub returning-more : (i k next : ℕ) (new new' : List ℕ) → Returning i k new → i < length rows → Gives new i own k next new' → Returning (i + 1) next new'
  returning-more i k next new new' c l m =
      let same : (j : ℕ) → doc_at (rows_of new) j ≡ doc_at rows j = λ j. ap (λ x. doc_at x j) (reflagged-rows old new (done i) c.flags) ∙ ap (λ g. g j) (flags-doc (done i) rows) in
      let w : meets new i own k ≡ keep i = ap (meets new i own) c.places ∙ met new same i l in
      subst (λ x. Returning x next new') (sym (add-one i)) (test (keep i)
      (λ t.
      let x = w ∙ t in
      let u = window-place rows r i l t in
      let z : shown_at (rows_of own) k ≤ 1 = h.bits k (omega (arith, c.places, h.many)) in
      let q : new' ≡ put new (6 + 4 * i) (flag (is_shown (rows_of own) k) ∷ []) = m.words_are ∙ rw x (ap (λ s. put new (6 + 4 * i) (s ∷ [])) (flag-back (shown_at (rows_of own) k) z)) in
      record {
        places = m.next-is ∙ rw x (omega (arith, c.places, count_yes keep i t));
        flags =
            reflagged-same old new' _ (reflagged-put old new (done i) c.flags new' i (is_shown (rows_of own) k) fits l q) (done (suc i)) (λ j o.
            test (eqb j i)
            (λ y. let v = eqb-true j i y in rw (y, v, lt-ltb i (suc i) (omega arith), t) (ap (is_shown (rows_of own)) c.places))
            (λ y. let v : j ≢ i = eqb-false j i y in rw y (other j i v)));
      })
      (λ f.
      let x = w ∙ f in
      let q : new' ≡ new = m.words_are ∙ rw x refl in
      record {
        places = m.next-is ∙ rw x (c.places ∙ sym (count_no keep i f));
        flags = subst (λ v. Reflagged old v (done (suc i))) (sym q) (reflagged-same old new (done i) c.flags (done (suc i)) (λ j o.
            test (eqb j i)
            (λ y. let v = eqb-true j i y in rw (v, lt-ltb i (suc i) (omega arith), le-ltb i i (omega arith), f) refl)
            (λ y. let v : j ≢ i = eqb-false j i y in other j i v)));
      }))
    where
      other : (j i : ℕ) → j ≢ i → done i j ≡ done (suc i) j
      other j i v = by-lt j i (λ a. rw (lt-ltb j i a, lt-ltb j (suc i) (omega arith)) refl) (λ a. rw (le-ltb j i a, le-ltb j (suc i) (omega arith)) refl)

  pub returning-ends : (i k : ℕ) (new : List ℕ) → Returning i k new → i ≤ length rows → length rows ≤ i → new ≡ written old (with_window old r (rows_of own))
  unfolding reflagged
  returning-ends i k new c a b =
      let c' = subst (λ x. Returning x k new) (le_antisymm a b) c in
      reflagged-written old new wanted (reflagged-same old new (done (length rows)) c'.flags wanted (λ j l. rw (lt-ltb j (length rows) l) refl)) (examined-sound old h.examined) (examined-long old h.examined)
