-- The loop that closes the gaps, for any test of which rows stay. Assumes nothing.
use Prim.Native.Nat.{ℕ, ◌+◌, ◌*◌, ◌≤◌, ◌<◌}
use mathlib.Core.Bool.{Bool, false, So}
use mathlib.Core.List.{List}
use mathlib.Core.Path.{◌≡◌, sym, ap, subst, ◌∙◌}
use native.Mathlib.Numerals.{add-one}
use native.Mathlib.Omega.{arith}
use lib.ListN.{length}
use Rattle.rules.specs.Below.{count, gather}
use Rattle.rules.specs.Rows.{Row, no_row, row_at}
use Rattle.rules.specs.Words.{put, capacity, rows_of, words_of_row}
use Rattle.laws.proofs.Tests.{test, count-all, count-in, count_most, length-gather, gather-at, gather-flat}
use Rattle.laws.proofs.Kept.{kept}
use Rattle.laws.proofs.Tree.{Alike, alike}
use Rattle.reads.specs.Within.{Within}
use Rattle.packs.specs.Packing.{Moved, Over}
use Rattle.packs.proofs.Over.{over-length, over-more, over-fits, over-row, over-rest, over-same}

-- Of the rows before i those that stay, in order.
abbrev pub kept_to : (ℕ → Bool) → List ℕ → ℕ → List Row
kept_to keep old i = gather keep (row_at (rows_of old)) i

-- The rows before i are done: those that stay, k of them, stand first.
abbrev pub Packed : (ℕ → Bool) → List ℕ → ℕ → ℕ → List ℕ → Type 0
Packed keep old i k new = Over (kept_to keep old i) old k new

-- What the turn at row i sees, with k rows kept before it: row i as it was, and every row past those, and those at their new places.
pub record Sees (keep : ℕ → Bool) (rows new : List Row) (i k : ℕ) : Type 0 where
  pub count-is : k ≡ count keep i
  pub here : Alike new i rows i
  pub past : (j : ℕ) → k ≤ j → j < length rows → Alike new j rows j
  pub moved : (j : ℕ) → j < i → So (keep j) → Alike new (count keep j) rows j

module _ (keep : ℕ → Bool) (old : List ℕ) where
  -- Up to a place before which all stay nothing moves.
  pub packed-starts : (start : ℕ) → start ≤ length (rows_of old) → ((i : ℕ) → i < start → So (keep i)) → Packed keep old start start old
  packed-starts start upto early =
      over-same (kept_to keep old start) old start (sym (length-gather keep (row_at (rows_of old)) start ∙ count-all keep start early)) upto (λ j l.
      ap (row_at (kept_to keep old start)) (sym (count-all keep j (λ i b. early i (omega arith)))) ∙ gather-at keep (row_at (rows_of old)) start no_row l (early j l))

  -- From a place on from which none stays nothing is left to do.
  pub packed_ends : (i k : ℕ) (new : List ℕ) → Packed keep old i k new → i ≤ length (rows_of old) → ((j : ℕ) → i ≤ j → j < length (rows_of old) → keep j ≡ false) → Over (kept keep (rows_of old)) old k new
  packed_ends i k new p upto late = subst (λ rs. Over rs old k new) (sym (gather-flat keep (row_at (rows_of old)) (length (rows_of old)) upto late)) p

  module _ (i k : ℕ) (new : List ℕ) (p : Packed keep old i k new) where
    -- Place k is where the next row goes that stays.
    packed-count : k ≡ count keep i
    packed-count = p.count-is ∙ length-gather keep (row_at (rows_of old)) i

    packed-most : k ≤ i
    packed-most = omega (arith, packed-count, count_most keep i)

    module _ (fits : length (rows_of old) ≤ capacity old) (l : i < length (rows_of old)) where
      -- What a turn may rely on.
      pub packed-within : Within new i × (k ≤ i)
      packed-within = (record { fits = over-fits (kept_to keep old i) old k new p fits; below = omega (arith, over-length (kept_to keep old i) old k new p) }, packed-most)

      pub same_row : row_at (rows_of new) i ≡ row_at (rows_of old) i
      same_row = over-rest (kept_to keep old i) old k new p i packed-most l

      -- What it sees.
      pub packed-sees : Sees keep (rows_of old) (rows_of new) i k
      packed-sees =
          record {
            count-is = packed-count;
            here = alike same_row;
            past = λ j m b. alike (over-rest (kept_to keep old i) old k new p j m b);
            moved = λ j m t.
                alike (over-row (kept_to keep old i) old k new p fits (omega (arith, packed-most)) (count keep j) (omega (arith, packed-count, count-in keep i m t)) ∙ gather-at keep (row_at (rows_of old)) i no_row m t);
          }

      -- A turn whose test is whether the row stays.
      pub packed_more : (b : Bool) (r : ℕ) (next : List ℕ) → b ≡ keep i → Moved b new i k r next → Packed keep old (i + 1) r next
      unfolding gather
      packed_more b r next t m =
          subst (λ x. Packed keep old x r next) (sym (add-one i)) (test (keep i)
          (λ s.
          let a : r ≡ k + 1 = rw (t, s) at m.next-is in
          let w : next ≡ put new (3 + 4 * k) (words_of_row (row_at (rows_of new) i)) = rw (t, s) at m.words_are in
          rw (a, s) (over-more (kept_to keep old i) old k new p (row_at (rows_of old) i) next (w ∙ ap (λ x. put new (3 + 4 * k) (words_of_row x)) same_row)))
          (λ f.
          let a : r ≡ k = rw (t, f) at m.next-is in
          let w : next ≡ new = rw (t, f) at m.words_are in
          rw (a, w, f) p))
