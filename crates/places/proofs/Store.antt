-- The store of places: its test, and a document's place in it. Assumes nothing.
use Prim.Native.Nat.{ℕ, ◌+◌, ◌*◌, ◌≤◌, ◌<◌}
use mathlib.Core.Bool.{Bool, true, false, not, ◌&&◌, So}
use mathlib.Core.List.{List}
use mathlib.Core.Path.{◌≡◌, refl, sym, ap, subst, ◌∙◌}
use native.Mathlib.Omega.{arith}
use lib.Dec.{eqb, leb}
use lib.Ieee.{Float, binary64, of_bits}
use lib.ListN.{get_or}
use borrow.Author.Tests.{eq-eqb, ne_eqb, eqb-true, eqb-false, le-leb, lt-leb, lt-ltb, le-ltb}
use Rattle.rules.specs.Below.{some_below, all_below, earliest}
use Rattle.rules.specs.Rows.{Row, none, in_record}
use Rattle.rules.specs.Places.{finite, finite_place, entries, document_in, kind_in, place_in, is_of, entry_of, place_of, sane, fine_at, fine?, gone_in}
use Rattle.laws.proofs.Tests.{test, off, by-lt, and_both, some_out, all-out}
use Rattle.laws.proofs.Loops.{all-fails, all_done, earliest-out, earliest-past}
use Rattle.points.specs.Points.{place_given}
use Rattle.points.specs.declared.Place.{Place as Given}
use Rattle.points.specs.declared.Place.TheVariants.{Itself, At}
use Rattle.places.specs.Store.{Reaches}

module _ (places : List ℕ) (i : ℕ) where
  -- AN ENTRY'S DOCUMENT, as it is read
  document-is : (w : ℕ) → w ≡ get_or places (4 * i + 0) 0 → w ≡ document_in places i
  document-is w e = let z : 4 * i + 0 ≡ 4 * i = omega arith in e ∙ ap (λ k. get_or places k 0) z

  pub is-of : (w d : ℕ) → w ≡ get_or places (4 * i + 0) 0 → eqb w d ≡ is_of places d i
  is-of w d e = ap (λ z. eqb z d) (document-is w e)

  pub is-gone : (rows : List Row) (w : ℕ) → w ≡ get_or places (4 * i + 0) 0 → (b : Bool) → b ≡ in_record rows w → not b ≡ gone_in rows places i
  is-gone rows w e b f = ap not (f ∙ ap (in_record rows) (document-is w e))

  -- ITS KIND, and the bits of its point
  module _ (kind : ℕ) (read : kind ≡ kind_in places i) where
    module _ (k : kind ≡ 1) where
      point : kind_in places i ≡ 1
      point = sym read ∙ k

      module _ (x y : ℕ) (p : x ≡ get_or places (4 * i + 2) 0) (q : y ≡ get_or places (4 * i + 3) 0) where
        pub sane-point : (a b : Bool) → a ≡ finite (of_bits binary64 x) → b ≡ finite (of_bits binary64 y) → (a && b) ≡ sane places i
        sane-point a b e f = rw (point, e, f, p, q) refl

        pub point-is : (a b : Float) → a ≡ of_bits binary64 x → b ≡ of_bits binary64 y → place_given (At (record { x = a; y = b })) ≡ place_in places i
        point-is a b e f = rw (point, e, f, p, q) refl

      abbrev x-finite : Bool
      x-finite = finite (of_bits binary64 (get_or places (4 * i + 2) 0))

      abbrev y-finite : Bool
      y-finite = finite (of_bits binary64 (get_or places (4 * i + 3) 0))

      pub point-x : (x : ℕ) → x ≡ get_or places (4 * i + 2) 0 → finite_place (place_in places i) ≡ true → finite (of_bits binary64 x) ≡ true
      point-x x p h = rw p (and_both x-finite y-finite (rw point at h)).0

      pub point-y : (y : ℕ) → y ≡ get_or places (4 * i + 3) 0 → finite_place (place_in places i) ≡ true → finite (of_bits binary64 y) ≡ true
      point-y y q h = rw q (and_both x-finite y-finite (rw point at h)).1

    module _ (k : kind ≡ 1 → ⊥) where
      other : eqb (kind_in places i) 1 ≡ false
      other = ne_eqb (kind_in places i) 1 (λ z. k (read ∙ z))

      pub sane-other : eqb kind 0 ≡ sane places i
      sane-other =
          rw other (test (eqb kind 0)
          (λ t. t ∙ sym (ap (λ b. b && true) (le-leb (kind_in places i) 1 (let e = eqb-true kind 0 t in omega arith))))
          (λ f. f ∙ sym (ap (λ b. b && true) (lt-leb (kind_in places i) 1 (let e = eqb-false kind 0 f in omega arith)))))

      pub itself-is : place_given Itself ≡ place_in places i
      itself-is = rw other refl

  -- THE TEST
  module _ (w : ℕ) (read : w ≡ get_or places (4 * i + 0) 0) where
    pub fine-free : w ≡ none → true ≡ fine_at places i
    fine-free e = rw (eq-eqb (document_in places i) none (sym (document-is w read) ∙ e)) refl

    module _ (held : w ≡ none → ⊥) (b : Bool) (e : b ≡ sane places i) where
      kept : is_of places none i ≡ false
      kept = ne_eqb (document_in places i) none (λ z. held (document-is w read ∙ z))

      pub fine-not : b ≡ false → false ≡ fine_at places i
      fine-not f = rw (kept, sym e ∙ f) refl

      pub fine-above : (high : ℕ) → b ≡ true → Reaches places i high → high < w → true ≡ fine_at places i
      fine-above high t below l =
          let new : some_below i (is_of places (document_in places i)) ≡ false =
          off _ (λ s.
          let k = some_out (is_of places (document_in places i)) i s in
          let same : document_in places k.0 ≡ w = eqb-true _ _ k.2 ∙ sym (document-is w read) in
          let m = below k.0 k.1 (λ z. held (sym same ∙ z)) in
          omega arith) in
          rw (kept, sym e ∙ t, new) refl

      pub fine-first : (first : ℕ) → b ≡ true → first ≡ earliest (is_of places w) i → leb i first ≡ fine_at places i
      fine-first first t g = rw (kept, sym e ∙ t, g, document-is w read) (earliest-past (is_of places (document_in places i)) i)

-- HOW HIGH ITS DOCUMENTS REACH
module _ (places : List ℕ) where
  pub reaches-none : Reaches places 0 0
  reaches-none k l held = omega arith

  module _ (i high : ℕ) (below : Reaches places i high) (w : ℕ) (read : w ≡ get_or places (4 * i + 0) 0) where
    -- One entry more, where both that and the ones before keep below.
    more : (top : ℕ) → high ≤ top → ((w ≡ none → ⊥) → w ≤ top) → Reaches places (i + 1) top
    more top l here k m held =
        by-lt k i (λ a. let z = below k a held in omega arith) (λ a.
        let e : k ≡ i = omega arith in
        let same : document_in places k ≡ w = ap (document_in places) e ∙ sym (document-is places i w read) in
        let z = here (λ y. held (same ∙ y)) in
        omega arith)

    pub reaches-free : w ≡ none → Reaches places (i + 1) high
    reaches-free e = more high (omega arith) (λ held. absurd (held e))

    pub reaches-kept : w < high → Reaches places (i + 1) high
    reaches-kept l = more high (omega arith) (λ held. omega arith)

    pub reaches-on : high ≤ w → Reaches places (i + 1) w
    reaches-on l = more w l (λ held. omega arith)

module _ (places : List ℕ) (n i : ℕ) (count : n ≡ entries places) where
  pub fine-fails : (b : Bool) → i < n → b ≡ fine_at places i → b ≡ false → false ≡ fine? places
  unfolding fine?
  fine-fails b l e f = all-fails (fine_at places) (entries places) i b (omega arith) e f

  pub fine-done : i ≤ n → n ≤ i → all_below i (fine_at places) ≡ true → true ≡ fine? places
  unfolding fine?
  fine-done l m h = all_done (fine_at places) (entries places) i (omega arith) (omega arith) h

-- A DOCUMENT'S PLACE
module _ (places : List ℕ) (d w n i : ℕ) (same : w ≡ d) (count : n ≡ entries places) (scan : i ≡ earliest (is_of places w) n) where
  first : i ≡ earliest (is_of places d) n
  first = scan ∙ ap (λ z. earliest (is_of places z) n) same

  entry-is : i ≡ entry_of places d
  unfolding entry_of
  entry-is = first ∙ ap (earliest (is_of places d)) count

  pub own-finite : So (fine? places) → d < none → i < n → finite_place (place_in places i) ≡ true
  unfolding fine?
  own-finite f below l =
      let here : So (is_of places d i) = subst (λ k. So (is_of places d k)) (sym first) ((earliest-out (is_of places d) n).passes (omega (arith, first))) in
      let e : document_in places i ≡ d = eqb-true _ _ here in
      let g = all-out (fine_at places) (entries places) f i (omega arith) in
      let h = rw (ne_eqb (document_in places i) none (λ z. omega arith)) at g in
      (and_both (leb (kind_in places i) 1) (finite_place (place_in places i)) (and_both (sane places i) _ h).0).1

  pub place_found : (r : Given) → i < n → place_given r ≡ place_in places i → place_given r ≡ place_of places d
  unfolding place_of
  place_found r l e = rw (← entry-is, lt-ltb i (entries places) (omega arith)) e

  pub place-missing : n ≤ i → place_given Itself ≡ place_of places d
  unfolding place_of
  place-missing l = rw (← entry-is, le-ltb i (entries places) (omega arith)) refl
