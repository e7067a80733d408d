-- The store of scroll places: its test, a document's place in it, and what freeing and setting leave. Assumes nothing.
use Prim.Native.Nat.{ℕ, zero, suc, ◌+◌, ◌*◌, ◌/◌, ◌≤◌, ◌<◌}
use mathlib.Core.Bool.{false, not, So, cond}
use mathlib.Core.List.{List, ◌∷◌}
use mathlib.Core.Logic.{◌⊎◌, inl, inr, ⊎_elim}
use mathlib.Core.Path.{◌≡◌, refl, sym, ap, subst, ◌∙◌}
use native.Mathlib.Nat.{not-suc-le-zero}
use native.Mathlib.Omega.{arith}
use lib.Dec.{eqb, leb}
use lib.Ieee.{binary64}
use lib.Ieee.Bits.{of_bits-to_bits}
use lib.ListN.{length, get_or, length-set}
use lib.Seq.{get_or-set_same, get_or-set_other}
use borrow.Author.Tests.{not-true, eq-eqb, ne_eqb, eqb-true, eqb-false, lt-ltb, le-ltb}
use Rattle.rules.specs.Below.{some_below, earliest}
use Rattle.rules.specs.Rows.{Row, Table, none, in_record}
use Rattle.rules.specs.Words.{put}
use Rattle.rules.specs.Sound.{SoundTable}
use Rattle.rules.specs.Places.{Place, Doubles, finite_place, place_words, entries, document_in, kind_in, place_in, is_of, entry_of, place_of, sane, fine_at, fine?, gone_in, free_at, freed_to, freed, spot, placed}
use Rattle.laws.proofs.Tests.{test, clash, off, and_both, by-lt, by_order, some_in, some_out, all_in, all-out}
use Rattle.laws.proofs.Loops.{earliest-out, earliest-in}
use Rattle.laws.proofs.Reflect.{record_is}
use Rattle.laws.proofs.Tree.{tree_of}
use Rattle.laws.proofs.Writes.{length-put, get-put-in, get-put-past, get-put-before}

-- "It is never a document": of 4294967295.
pub document-below : {room : ℕ} {t : Table} → SoundTable room t → t.next_doc ≤ none → (d : ℕ) → So (in_record t.rows d) → d < t.next_doc
document-below {t = t} s w d h = let k = (record_is t.rows d).0 h in subst (λ z. z < t.next_doc) k.2 ((tree_of s w).below k.0 k.1)

pub none-absent : {room : ℕ} {t : Table} → SoundTable room t → t.next_doc ≤ none → in_record t.rows none ≡ false
none-absent {t = t} s w = off (in_record t.rows none) (λ h. let l = document-below s w none h in omega arith)

-- A STORE THAT PASSES

pub record Fine (places : List ℕ) : Type 0 where
  pub sound : (i : ℕ) → i < entries places → (document_in places i ≡ none → ⊥) → So (sane places i)
  pub once : (i j : ℕ) → i < entries places → j < entries places → (document_in places i ≡ none → ⊥) → document_in places i ≡ document_in places j → i ≡ j

module _ (places : List ℕ) where
  pub fine-out : So (fine? places) → Fine places
  unfolding fine?
  fine-out h =
      let told : (i : ℕ) → i < entries places → (document_in places i ≡ none → ⊥) → So (sane places i) × So (not (some_below i (is_of places (document_in places i)))) =
      λ i l n. and_both _ _ (rw (ne_eqb (document_in places i) none n) at (all-out (fine_at places) (entries places) h i l)) in
      let earlier : (i j : ℕ) → i < j → j < entries places → (document_in places j ≡ none → ⊥) → document_in places i ≡ document_in places j → ⊥ =
      λ i j k l n e. clash (some_in (is_of places (document_in places j)) j k (eq-eqb _ _ e)) (not-true _ (told j l n).1) in
      record {
        sound = λ i l n. (told i l n).0;
        once = λ i j l m n e. by_order i j (λ k. absurd (earlier i j k m (λ z. n (e ∙ z)) e)) (λ q. q) (λ k. absurd (earlier j i k l n (sym e)));
      }

  pub fine-in : Fine places → So (fine? places)
  unfolding fine?
  fine-in h =
      all_in (fine_at places) (entries places) (λ i l.
      test (is_of places none i)
      (λ t. rw t refl)
      (λ f.
      let n = eqb-false (document_in places i) none f in
      let alone : some_below i (is_of places (document_in places i)) ≡ false =
      off (some_below i (is_of places (document_in places i))) (λ s.
      let k = some_out (is_of places (document_in places i)) i s in
      let below = k.1 in
      let same = h.once i k.0 l (omega arith) n (sym (eqb-true _ _ k.2)) in
      omega arith) in
      rw (f, h.sound i l n, alone) refl))

  -- The place of a document that has an entry, in a store that passes; and of one that has none.
  pub entry_at : Fine places → (d i : ℕ) → (d ≡ none → ⊥) → i < entries places → document_in places i ≡ d → entry_of places d ≡ i
  unfolding entry_of
  entry_at h d i n l e =
      sym (earliest-in (is_of places d) (entries places) i (record {
        within = omega arith;
        passes = λ m. eq-eqb _ _ e;
        none_before = λ m k. ne_eqb _ _ (λ q. let z = h.once i m l (omega arith) (λ z. n (sym e ∙ z)) (e ∙ sym q) in omega arith);
      }))

  pub place_at : Fine places → (d i : ℕ) → (d ≡ none → ⊥) → i < entries places → document_in places i ≡ d → place_of places d ≡ place_in places i
  unfolding place_of
  place_at h d i n l e = let q = entry_at h d i n l e in rw (q, lt-ltb i (entries places) l) refl

  pub place_none : (d : ℕ) → ((i : ℕ) → i < entries places → document_in places i ≡ d → ⊥) → place_of places d ≡ Place.itself
  unfolding place_of entry_of
  place_none d h =
      let e = earliest-out (is_of places d) (entries places) in
      let past = by-lt (earliest (is_of places d) (entries places)) (entries places) (λ l. absurd (h _ l (eqb-true _ _ (e.passes l)))) (λ m. m) in
      rw (le-ltb (earliest (is_of places d) (entries places)) (entries places) past) refl

  -- A place that is told is finite.
  pub place-finite : Fine places → (d : ℕ) → (d ≡ none → ⊥) → So (finite_place (place_of places d))
  unfolding place_of entry_of
  place-finite h d n =
      let own = earliest-out (is_of places d) (entries places) in
      let i = earliest (is_of places d) (entries places) in
      by-lt i (entries places)
      (λ l. rw (lt-ltb i (entries places) l) (and_both (leb (kind_in places i) 1) (finite_place (place_in places i)) (h.sound i l (λ z. n (sym (eqb-true _ _ (own.passes l)) ∙ z)))).1)
      (λ m. rw (le-ltb i (entries places) m) refl)

-- FREEING

module _ (rows : List Row) where
  length-free : (i : ℕ) (places : List ℕ) → length (free_at rows i places) ≡ length places
  length-free i places = test (gone_in rows places i) (λ t. rw t (length-set places (4 * i) none)) (λ f. rw f refl)

  free_other : (k m : ℕ) (places : List ℕ) → (m ≡ 4 * k → ⊥) → get_or (free_at rows k places) m 0 ≡ get_or places m 0
  free_other k m places n = test (gone_in rows places k) (λ t. rw t (get_or-set_other places (4 * k) m none 0 n)) (λ f. rw f refl)

  free_own : (i : ℕ) (places : List ℕ) → i < entries places → document_in (free_at rows i places) i ≡ cond (gone_in rows places i) none (document_in places i)
  free_own i places l = test (gone_in rows places i) (λ t. rw t (get_or-set_same places (4 * i) none 0 (omega arith))) (λ f. rw f refl)

  module _ (places : List ℕ) where
    pub freed-length : (k : ℕ) → length (freed_to rows k places) ≡ length places
    unfolding freed_to
    freed-length zero = refl
    freed-length (suc k) = length-free k (freed_to rows k places) ∙ freed-length k

    -- A word that is no document of the first k entries stays.
    freed-word : (k m : ℕ) → ((j : ℕ) → j < k → m ≡ 4 * j → ⊥) → get_or (freed_to rows k places) m 0 ≡ get_or places m 0
    unfolding freed_to
    freed-word zero m h = refl
    freed-word (suc k) m h = free_other k m (freed_to rows k places) (h k (omega arith)) ∙ freed-word k m (λ j l. h j (omega arith))

    freed-to : (k i : ℕ) → i < k → i < entries places → document_in (freed_to rows k places) i ≡ cond (gone_in rows places i) none (document_in places i)
    unfolding freed_to
    freed-to zero i l m = absurd (not-suc-le-zero l)
    freed-to (suc k) i l m =
        by-lt i k
        (λ a. free_other k (4 * i) (freed_to rows k places) (λ e. omega arith) ∙ freed-to k i a m)
        (λ a.
        let q : i ≡ k = omega arith in
        let h = freed-word k (4 * k) (λ j b e. omega arith) in
        rw q (free_own k (freed_to rows k places) (omega (arith, freed-length k)) ∙ ap (λ d. cond (not (in_record rows d)) none d) h))

    pub freed-entries : entries (freed rows places) ≡ entries places
    freed-entries = ap (λ n. n / 4) (freed-length (entries places))

    -- "Freeing changes only the document": none for one that is gone.
    pub freed-document : (i : ℕ) → i < entries places → document_in (freed rows places) i ≡ cond (gone_in rows places i) none (document_in places i)
    freed-document i l = freed-to (entries places) i l l

    freed-rest : (i c : ℕ) → 1 ≤ c → c < 4 → get_or (freed rows places) (4 * i + c) 0 ≡ get_or places (4 * i + c) 0
    freed-rest i c a b = freed-word (entries places) (4 * i + c) (λ j l e. omega arith)

    freed-place : (i : ℕ) → place_in (freed rows places) i ≡ place_in places i
    freed-place i = rw (freed-rest i 1 (omega arith) (omega arith), freed-rest i 2 (omega arith) (omega arith), freed-rest i 3 (omega arith) (omega arith)) refl

    freed-sane : (i : ℕ) → sane (freed rows places) i ≡ sane places i
    freed-sane i = rw (freed-rest i 1 (omega arith) (omega arith), freed-rest i 2 (omega arith) (omega arith), freed-rest i 3 (omega arith) (omega arith)) refl

    module _ (lost : in_record rows none ≡ false) (i : ℕ) (l : i < entries places) where
      -- An entry is free then exactly where its document is gone, and of a document that is in the record where it was before.
      pub freed-free : is_of (freed rows places) none i ≡ gone_in rows places i
      freed-free =
          ap (λ d. eqb d none) (freed-document i l) ∙ test (in_record rows (document_in places i))
          (λ t. rw t (ne_eqb (document_in places i) none (λ e. clash (subst (λ d. So (in_record rows d)) e t) lost)))
          (λ f. rw f refl)

      pub freed-own : (d : ℕ) → So (in_record rows d) → is_of (freed rows places) d i ≡ is_of places d i
      freed-own d there =
          ap (λ z. eqb z d) (freed-document i l) ∙ test (in_record rows (document_in places i))
          (λ t. rw t refl)
          (λ f.
          rw f (ne_eqb none d (λ e. clash (subst (λ z. So (in_record rows z)) (sym e) there) lost)
          ∙ sym (ne_eqb (document_in places i) d (λ e. clash (subst (λ z. So (in_record rows z)) (sym e) there) f))))

      -- What is not free afterwards was not before, and is of a document in the record.
      freed-kept : (document_in (freed rows places) i ≡ none → ⊥) → (document_in (freed rows places) i ≡ document_in places i) × So (in_record rows (document_in places i))
      freed-kept n =
          test (in_record rows (document_in places i))
          (λ t. (freed-document i l ∙ rw t refl, t))
          (λ f. absurd (n (freed-document i l ∙ rw f refl)))

    freed-fine : in_record rows none ≡ false → Fine places → Fine (freed rows places)
    freed-fine lost h =
        let c = freed-entries in
        record {
          sound = λ i l n.
              let k = freed-kept lost i (omega arith) n in
              subst So (sym (freed-sane i)) (h.sound i (omega arith) (λ z. n (k.0 ∙ z)));
          once = λ i j l m n e.
              let a = freed-kept lost i (omega arith) n in
              let b = freed-kept lost j (omega arith) (λ z. n (e ∙ z)) in
              h.once i j (omega arith) (omega arith) (λ z. n (a.0 ∙ z)) (sym a.0 ∙ e ∙ b.0);
        }

-- WHERE A PLACE GOES

module _ (places : List ℕ) (d : ℕ) where
  -- To the document's own entry, or where it has none to a free one.
  spot_is : spot places d < entries places → (document_in places (spot places d) ≡ d) ⊎ ((document_in places (spot places d) ≡ none) × ((j : ℕ) → j < entries places → document_in places j ≡ d → ⊥))
  unfolding spot entry_of
  spot_is l =
      let own = earliest-out (is_of places d) (entries places) in
      by-lt (earliest (is_of places d) (entries places)) (entries places)
      (λ a. rw (lt-ltb (earliest (is_of places d) (entries places)) (entries places) a) (inl (eqb-true _ _ (own.passes a))))
      (λ a.
      let b = le-ltb (earliest (is_of places d) (entries places)) (entries places) a in
      let k : earliest (is_of places none) (entries places) < entries places = rw b at l in
      let absent : (j : ℕ) → j < entries places → document_in places j ≡ d → ⊥ = λ j m e. clash (eq-eqb _ _ e) (own.none_before j (omega arith)) in
      rw b (inr (eqb-true _ _ ((earliest-out (is_of places none) (entries places)).passes k), absent)))

  -- There is no room exactly where no entry is the document's or free.
  pub spot_past : entries places ≤ spot places d → (j : ℕ) → j < entries places → (document_in places j ≡ d → ⊥) × (document_in places j ≡ none → ⊥)
  unfolding spot entry_of
  spot_past l j m =
      let own = earliest-out (is_of places d) (entries places) in
      by-lt (earliest (is_of places d) (entries places)) (entries places)
      (λ a. let k = rw (lt-ltb (earliest (is_of places d) (entries places)) (entries places) a) at l in absurd (omega arith))
      (λ a.
      let k : entries places ≤ earliest (is_of places none) (entries places) = rw (le-ltb (earliest (is_of places d) (entries places)) (entries places) a) at l in
      let free = earliest-out (is_of places none) (entries places) in
      (λ e. clash (eq-eqb _ _ e) (own.none_before j (omega arith)), λ e. clash (eq-eqb _ _ e) (free.none_before j (omega arith))))

  pub past-spot : ((j : ℕ) → j < entries places → (document_in places j ≡ d → ⊥) × (document_in places j ≡ none → ⊥)) → entries places ≤ spot places d
  past-spot h = by-lt (spot places d) (entries places) (λ l. ⊎_elim (λ e. absurd ((h (spot places d) l).0 e)) (λ e. absurd ((h (spot places d) l).1 e.0)) (spot_is l)) (λ m. m)

-- The words of an entry.
module _ (d : ℕ) where
  short : (p : Place) → (2 ≤ length (d ∷ place_words p)) × (length (d ∷ place_words p) ≤ 4)
  short Place.itself = (omega arith, omega arith)
  short (Place.at x y) = (omega arith, omega arith)

module _ (places : List ℕ) (d i : ℕ) (p : Place) (room : i < entries places) where
  abbrev filled : List ℕ
  filled = put places (4 * i) (d ∷ place_words p)

  filled-other : (j c : ℕ) → (j ≡ i → ⊥) → c < 4 → get_or filled (4 * j + c) 0 ≡ get_or places (4 * j + c) 0
  filled-other j c n l =
      by_order j i
      (λ a. get-put-before (d ∷ place_words p) places (4 * i) (4 * j + c) (omega arith))
      (λ e. absurd (n e))
      (λ a. let s = (short d p).1 in get-put-past (d ∷ place_words p) places (4 * i) (4 * j + c) (omega arith))

  filled-own : (c : ℕ) → c < length (d ∷ place_words p) → get_or filled (4 * i + c) 0 ≡ get_or (d ∷ place_words p) c 0
  filled-own c l = let s = (short d p).1 in get-put-in places (d ∷ place_words p) (4 * i) c (omega arith) l

  filled-document : document_in filled i ≡ d
  filled-document = let e : 4 * i ≡ 4 * i + 0 = omega arith in let s = (short d p).0 in ap (λ m. get_or filled m 0) e ∙ filled-own 0 (omega arith)

  filled-away : (j : ℕ) → (j ≡ i → ⊥) → document_in filled j ≡ document_in places j
  filled-away j n = let e : 4 * j ≡ 4 * j + 0 = omega arith in ap (λ m. get_or filled m 0) e ∙ filled-other j 0 n (omega arith) ∙ ap (λ m. get_or places m 0) (sym e)

  filled-entries : entries filled ≡ entries places
  filled-entries = ap (λ n. n / 4) (length-put places (4 * i) (d ∷ place_words p))

  filled-sane : (j : ℕ) → (j ≡ i → ⊥) → sane filled j ≡ sane places j
  filled-sane j n = rw (filled-other j 1 n (omega arith), filled-other j 2 n (omega arith), filled-other j 3 n (omega arith)) refl

  filled-place : (j : ℕ) → (j ≡ i → ⊥) → place_in filled j ≡ place_in places j
  filled-place j n = rw (filled-other j 1 n (omega arith), filled-other j 2 n (omega arith), filled-other j 3 n (omega arith)) refl

own-place : (places : List ℕ) (d i : ℕ) (p : Place) (room : i < entries places) → Doubles p → (place_in (filled places d i p room) i ≡ p) × So (leb (kind_in (filled places d i p room) i) 1)
own-place places d i Place.itself room f = let k = filled-own places d i Place.itself room 1 (omega arith) in (rw k refl, rw k refl)
own-place places d i (Place.at x y) room f =
    let p = Place.at x y in
    let k = filled-own places d i p room 1 (omega arith) in
    (rw (k, filled-own places d i p room 2 (omega arith), filled-own places d i p room 3 (omega arith), of_bits-to_bits binary64 x f.0, of_bits-to_bits binary64 y f.1) refl, rw k refl)

-- SETTING, in a store that passes

module _ (rows : List Row) (lost : in_record rows none ≡ false) (places : List ℕ) (fine : Fine places) (d : ℕ) (there : So (in_record rows d)) (p : Place) where
  abbrev free : List ℕ
  free = freed rows places

  abbrev here : ℕ
  here = spot free d

  module _ (room : here < entries free) (whole : So (finite_place p)) (doubles : Doubles p) where
    abbrev after : List ℕ
    after = filled free d here p room

    left_is : placed free d p ≡ after
    unfolding placed
    left_is = refl

    proper : (e : ℕ) → So (in_record rows e) → e ≡ none → ⊥
    proper e h z = clash (subst (λ k. So (in_record rows k)) z h) lost

    fine-free : Fine free
    fine-free = freed-fine rows places lost fine

    count : entries after ≡ entries free
    count = filled-entries free d here p room

    -- Only the entry that it goes to is the document's then.
    only_here : (j : ℕ) → j < entries free → document_in after j ≡ d → j ≡ here
    only_here j l e =
        test (eqb j here) (λ t. eqb-true j here t) (λ f.
        let o = eqb-false j here f in
        let q : document_in free j ≡ d = sym (filled-away free d here p room j o) ∙ e in
        ⊎_elim
        (λ own. fine-free.once j here l room (λ z. proper d there (sym q ∙ z)) (q ∙ sym own))
        (λ new. absurd (new.1 j l q))
        (spot_is free d room))

    fine-after : Fine after
    fine-after =
        record {
          sound = λ i l n.
              test (eqb i here)
              (λ t.
              let q : i ≡ here = eqb-true i here t in
              let o = own-place free d here p room doubles in
              subst (λ k. So (sane after k)) (sym q) (rw (o.1, o.0) whole))
              (λ f.
              let o = eqb-false i here f in
              subst So (sym (filled-sane free d here p room i o)) (fine-free.sound i (omega (arith, count)) (λ z. n (filled-away free d here p room i o ∙ z))));
          once = λ i j l m n e.
              let own = filled-document free d here p room in
              test (eqb i here)
              (λ t. let q : i ≡ here = eqb-true i here t in q ∙ sym (only_here j (omega (arith, count)) (sym e ∙ ap (document_in after) q ∙ own)))
              (λ f. test (eqb j here)
              (λ t. let q : j ≡ here = eqb-true j here t in only_here i (omega (arith, count)) (e ∙ ap (document_in after) q ∙ own) ∙ sym q)
              (λ g.
              let a = filled-away free d here p room i (eqb-false i here f) in
              let b = filled-away free d here p room j (eqb-false j here g) in
              fine-free.once i j (omega (arith, count)) (omega (arith, count)) (λ z. n (a ∙ z)) (sym a ∙ e ∙ b)));
        }

    -- The store passes then, and the document's place is the one that was set.
    pub set-fine : So (fine? (placed free d p))
    set-fine = subst (λ l. So (fine? l)) (sym left_is) (fine-in after fine-after)

    pub set_own : place_of (placed free d p) d ≡ p
    set_own =
        ap (λ l. place_of l d) left_is ∙ place_at after fine-after d here (proper d there) (omega (arith, count)) (filled-document free d here p room) ∙ (own-place free d here p room doubles).0

    -- An entry of another document is one that it had, and its document is in the record.
    other-entry : (e : ℕ) → (e ≡ d → ⊥) → (e ≡ none → ⊥) → (j : ℕ) → j < entries places → document_in after j ≡ e → (document_in places j ≡ e) × So (in_record rows e)
    other-entry e o n j l q =
        let away : j ≡ here → ⊥ = λ z. o (sym q ∙ ap (document_in after) z ∙ filled-document free d here p room) in
        let a : document_in free j ≡ e = sym (filled-away free d here p room j away) ∙ q in
        let k = freed-kept rows places lost j l (λ z. n (sym a ∙ z)) in
        let b : document_in places j ≡ e = sym k.0 ∙ a in
        (b, subst (λ z. So (in_record rows z)) b k.1)

    -- The place of another document that is in the record stays.
    pub set_other : (e : ℕ) → (e ≡ d → ⊥) → So (in_record rows e) → place_of (placed free d p) e ≡ place_of places e
    set_other e o h =
        let n = proper e h in
        let c = freed-entries rows places in
        ap (λ l. place_of l e) left_is ∙ test (some_below (entries places) (is_of places e))
        (λ s.
        let k = some_out (is_of places e) (entries places) s in
        let j = k.0 in
        let l : j < entries places = k.1 in
        let b : document_in places j ≡ e = eqb-true _ _ k.2 in
        let a : document_in free j ≡ e = eqb-true _ _ (freed-own rows places lost j l e h ∙ k.2) in
        let away : j ≡ here → ⊥ = λ z. ⊎_elim
        (λ own. o (sym a ∙ ap (document_in free) z ∙ own))
        (λ new. n (sym a ∙ ap (document_in free) z ∙ new.0))
        (spot_is free d room) in
        place_at after fine-after e j n (omega (arith, count)) (filled-away free d here p room j away ∙ a)
        ∙ filled-place free d here p room j away ∙ freed-place rows places j ∙ sym (place_at places fine e j n l b))
        (λ f.
        place_none after e (λ j l q. let m : j < entries places = omega (arith, count) in clash (some_in (is_of places e) (entries places) m (eq-eqb _ _ (other-entry e o n j m q).0)) f)
        ∙ sym (place_none places e (λ j l q. clash (some_in (is_of places e) (entries places) l (eq-eqb _ _ q)) f)))

    -- A document that is gone has no entry then.
    pub set-gone : (e : ℕ) → (e ≡ none → ⊥) → in_record rows e ≡ false → place_of (placed free d p) e ≡ Place.itself
    set-gone e n f =
        let c = freed-entries rows places in
        let o : e ≡ d → ⊥ = λ z. clash (subst (λ k. So (in_record rows k)) (sym z) there) f in
        ap (λ l. place_of l e) left_is ∙ place_none after e (λ j l q. clash (other-entry e o n j (omega (arith, count)) q).1 f)
