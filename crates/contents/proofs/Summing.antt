-- The contents summed up, frame after frame. Assumes nothing.
use Prim.Native.Nat.{ℕ, ◌+◌, ◌-◌, ◌*◌, ◌≤◌, ◌<◌}
use mathlib.Core.List.{List, [], ◌∷◌}
use mathlib.Core.Logic.{◌≢◌}
use mathlib.Core.Path.{◌≡◌, refl, sym, ap, ap₂, ◌∙◌}
use native.Mathlib.Omega.{arith}
use lib.ListN.{length}
use Rattle.rules.specs.Below.{sum}
use Rattle.rules.specs.Saved.{number_at, documents_in, shown_in, entries_in}
use Rattle.rules.specs.Contents.{position_in, steps_in, not_contents}
use Rattle.rules.specs.Calls.{Answer}
use Rattle.laws.specs.Loading.{reading, Fits}
use Rattle.laws.proofs.Tests.{test, by-lt}
use Rattle.laws.proofs.Pieces.{sum-within}
use Rattle.laws.proofs.Contents.{fits_out, fits_in, steps-are}
use Rattle.told.specs.declared.Entry.{Entry}
use Rattle.told.specs.Shapes.{TellsOf}
use Rattle.told.proofs.Sizing.{sum_more, sum-none}
use Rattle.contents.specs.declared.Sums.{Sums}
use Rattle.contents.specs.Sums.{Summed, Right}

module _ (bytes : List ℕ) where
  pub summed-none : Summed bytes 0 0 0
  summed-none = record { rows_are = sum-none _; back_is = sum-none _; shown = λ i l. absurd (omega arith); few = omega arith; most = omega arith }

  module _ (j rows back : ℕ) (h : Summed bytes j rows back) (e : Entry) (told : TellsOf bytes j e) where
    -- A shown place that is not below its m.
    pub not-shown : e.docs ≤ e.shown → (width : ℕ) → Fits width bytes → ⊥
    not-shown a width f = omega (arith, f.shown j told.below, told.docs-are, told.shown-is)

    -- More than 512 documents.
    pub not-few : 512 - rows < e.docs → (width : ℕ) → Fits width bytes → ⊥
    not-few a width f = omega (arith, f.few, sum-within (documents_in bytes) (number_at bytes 0) told.below, h.rows_are, told.docs-are)

    -- One frame more.
    pub summed-more : e.shown < e.docs → e.docs ≤ 512 - rows → Summed bytes (j + 1) (rows + e.docs) (back + e.shown)
    summed-more a b =
        let few = h.few in
        let most = h.most in
        record {
          rows_are = sum_more (documents_in bytes) j rows e.docs h.rows_are told.docs-are;
          back_is = sum_more (shown_in bytes) j back e.shown h.back_is told.shown-is;
          shown = λ i l. by-lt i j (h.shown i) (λ m. let q : i ≡ j = omega arith in rw q (omega (arith, told.docs-are, told.shown-is)));
          few = omega arith;
          most = omega arith;
        }

  -- THE ANSWER

  module _ (width : ℕ) where
    pub read-wrong : (Fits width bytes → ⊥) → reading width bytes ≡ record { answer = Answer.refuses 3 []; lent = [] }
    unfolding reading
    read-wrong h = test (not_contents width bytes) (λ t. rw t refl) (λ o. absurd (h (fits_out width bytes o)))

    module _ (s : Sums) (r : Right bytes s) where
      -- The documents are those of all frames.
      entries-are : s.rows ≡ entries_in bytes
      entries-are = r.all.rows_are ∙ ap (sum (documents_in bytes)) r.frames-are

      pub not-long : length bytes ≢ 12 + 16 * s.frames + width * s.rows → Fits width bytes → ⊥
      not-long h f = h (f.long ∙ ap₂ (λ n m. 12 + 16 * n + width * m) (sym r.frames-are) (sym entries-are))

      pub read_right : length bytes ≡ 12 + 16 * s.frames + width * s.rows → reading width bytes ≡ record { answer = Answer.gives (s.back ∷ (s.rows - s.frames) ∷ []); lent = [] }
      unfolding reading position_in
      read_right e =
          let fits : Fits width bytes = record {
            framed = omega (arith, r.some, r.frames-are);
            room = omega (arith, r.room, r.frames-are);
            shown = λ j l. r.all.shown j (omega (arith, r.frames-are));
            few = omega (arith, r.all.few, entries-are);
            long = e ∙ ap₂ (λ n m. 12 + 16 * n + width * m) r.frames-are entries-are;
          } in
          let back : sum (shown_in bytes) (number_at bytes 0) ≡ s.back = ap (sum (shown_in bytes)) (sym r.frames-are) ∙ sym r.all.back_is in
          let steps : steps_in bytes ≡ s.rows - s.frames = omega (arith, steps-are width bytes fits, r.frames-are, entries-are) in
          rw (fits_in width bytes fits, back, steps) refl
