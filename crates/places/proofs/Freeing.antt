-- The walks that free entries and find where a place goes. Assumes nothing.
use Prim.Native.Nat.{ℕ, ◌+◌, ◌*◌, ◌≤◌, ◌<◌}
use mathlib.Core.Bool.{Bool, true, false, So}
use mathlib.Core.List.{List}
use mathlib.Core.Path.{◌≡◌, refl, sym, ap, ◌∙◌}
use native.Mathlib.Numerals.{add-one}
use native.Mathlib.Omega.{arith}
use lib.ListN.{length, set}
use borrow.Author.Tests.{lt-ltb, le-ltb}
use Rattle.rules.specs.Below.{some_below, earliest}
use Rattle.rules.specs.Rows.{Row, none, in_record}
use Rattle.rules.specs.Places.{entries, is_of, entry_of, gone_in, free_at, freed_to, freed, spot}
use Rattle.laws.proofs.Loops.{first_found, first_done, earliest-same}
use Rattle.laws.proofs.Stores.{freed-length, freed-entries, freed-free, freed-own}

module _ (rows : List Row) where
  -- ONE ENTRY
  module _ (places : List ℕ) (i : ℕ) (b : Bool) (e : b ≡ gone_in rows places i) where
    pub free-gone : b ≡ true → set places (4 * i) none ≡ free_at rows i places
    free-gone t = rw (sym e ∙ t) refl

    pub free-kept : b ≡ false → places ≡ free_at rows i places
    free-kept f = rw (sym e ∙ f) refl

  module _ (places : List ℕ) where
    -- ALL OF THEM
    pub freed-start : places ≡ freed_to rows 0 places
    unfolding freed_to
    freed-start = refl

    pub freed-next : (i : ℕ) (old new : List ℕ) → old ≡ freed_to rows i places → new ≡ free_at rows i old → new ≡ freed_to rows (i + 1) places
    unfolding freed_to
    freed-next i old new e f = f ∙ rw (add-one i, e) refl

    pub freed-room : (i n : ℕ) (new : List ℕ) → n ≡ entries places → new ≡ freed_to rows i places → i < n → i < entries new
    freed-room i n new c e l = omega (arith, ap length e, freed-length rows places i)

    pub freed-done : (i n : ℕ) (new : List ℕ) → n ≡ entries places → i ≤ n → n ≤ i → new ≡ freed_to rows i places → new ≡ freed rows places
    freed-done i n new c l m e = e ∙ ap (λ k. freed_to rows k places) (omega arith)

    -- THE FIRST THAT IS GONE
    pub first-here : (i n : ℕ) (b : Bool) → n ≡ entries places → some_below i (gone_in rows places) ≡ false → i < n → b ≡ gone_in rows places i → b ≡ true → i ≡ earliest (gone_in rows places) (entries places)
    first-here i n b c none l e t = first_found (gone_in rows places) (entries places) i b none (omega arith) e t

    pub first-end : (i n : ℕ) → n ≡ entries places → i ≤ n → n ≤ i → some_below i (gone_in rows places) ≡ false → n ≡ earliest (gone_in rows places) (entries places)
    first-end i n c l m none = c ∙ first_done (gone_in rows places) (entries places) i (omega arith) (omega arith) none

    -- WHERE A PLACE GOES
    module _ (lost : in_record rows none ≡ false) (d w n own : ℕ) (there : So (in_record rows d)) (same : w ≡ d) (c : n ≡ entries places) (scan : own ≡ earliest (is_of places w) n) where
      own-entry : entry_of (freed rows places) d ≡ own
      unfolding entry_of
      own-entry =
          ap (earliest (is_of (freed rows places) d)) (freed-entries rows places ∙ sym c) ∙ earliest-same _ _ n (λ k l. freed-own rows places lost k (omega arith) d there)
          ∙ sym (scan ∙ ap (λ z. earliest (is_of places z) n) same)

      pub spot-own : own < n → own ≡ spot (freed rows places) d
      unfolding spot
      spot-own l = rw (own-entry, lt-ltb own (entries (freed rows places)) (omega (arith, freed-entries rows places))) refl

      pub spot-free : (f : ℕ) → n ≤ own → f ≡ earliest (gone_in rows places) (entries places) → f ≡ spot (freed rows places) d
      unfolding spot entry_of
      spot-free f l e =
          sym (rw (own-entry, le-ltb own (entries (freed rows places)) (omega (arith, freed-entries rows places)))
          (ap (earliest (is_of (freed rows places) none)) (freed-entries rows places) ∙ earliest-same _ _ (entries places) (λ k m. freed-free rows places lost k m) ∙ sym e))
