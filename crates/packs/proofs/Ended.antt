-- Rows put over the first ones of a sound record, and the record ended after them: the words of their table. Assumes nothing.
use Prim.Native.Nat.{ℕ, ◌+◌, ◌-◌, ◌*◌, ◌≤◌, ◌<◌}
use mathlib.Core.List.{List, [], ◌∷◌, ◌++◌, flat_map, append_assoc}
use mathlib.Core.Path.{◌≡◌, sym, ap, ap₂, subst, ◌∙◌}
use native.Mathlib.Omega.{arith}
use lib.ListN.{length, replicate, length-append, length-replicate, get_or-replicate, replicate-append-replicate}
use Rattle.rules.specs.Rows.{Row}
use Rattle.rules.specs.Words.{put, capacity, rows_of, words_of_row, words_of, written}
use Rattle.rules.specs.Sound.{Sound}
use Rattle.laws.proofs.Words.{rows-length, length-words}
use Rattle.laws.proofs.Writes.{put-put, put-far, put_same, get-put-past}
use Rattle.packs.specs.Packing.{Over, ended}

-- Rows, what follows them, and then the head.
runs_on : (old ws zs : List ℕ) (a b c : ℕ) → put (put (put old 3 ws) (3 + length ws) zs) 0 (a ∷ b ∷ c ∷ []) ≡ put old 0 (a ∷ b ∷ c ∷ (ws ++ zs))
runs_on old ws zs a b c =
    ap (λ w. put w 0 (a ∷ b ∷ c ∷ [])) (put-put ws zs old 3) ∙ sym (put-far (a ∷ b ∷ c ∷ []) (ws ++ zs) old 0 3 (omega arith)) ∙ put-put (a ∷ b ∷ c ∷ []) (ws ++ zs) old 0

module _ (rs : List Row) (old : List ℕ) (sound : Sound old) (room : length rs ≤ capacity old) (next top : ℕ) where
  abbrev k : ℕ
  k = length rs

  abbrev n : ℕ
  n = length (rows_of old)

  abbrev ws : List ℕ
  ws = flat_map words_of_row rs

  -- The zeros that are written.
  abbrev zeros : List ℕ
  zeros = replicate (4 * (n - k)) 0

  -- How many more S8 promises.
  abbrev more : ℕ
  more = 4 * (capacity old - k) - 4 * (n - k)

  -- All that is written.
  abbrev start : List ℕ
  start = k ∷ next ∷ top ∷ (ws ++ zeros)

  start-length : length start ≡ 3 + (4 * k + 4 * (n - k))
  start-length = rw (length-append, length-words, length-replicate) (omega arith)

  -- Those that S8 promises are there already.
  zeros-there : put old 0 (start ++ replicate more 0) ≡ put old 0 start
  zeros-there =
      let l = start-length in
      let h = sound.table.s1.fits in
      sym (put-put start (replicate more 0) old 0) ∙ put_same (replicate more 0) (put old 0 start) (0 + length start) (λ j b.
      let m : j < more = subst (λ x. j < x) (length-replicate more 0) b in
      get_or-replicate more j 0 0 m ∙ sym (get-put-past start old 0 (0 + length start + j) (omega arith)
      ∙ sound.s8.zeros (0 + length start + j) (omega (arith, rows-length old)) (omega arith)))

  -- Both together are the words of the table.
  table-words : words_of (capacity old) (record { rows = rs; next_doc = next; next_frame = top }) ≡ start ++ replicate more 0
  unfolding words_of
  table-words =
      let h = sound.table.s1.fits in
      let e : 4 * (capacity old - k) ≡ 4 * (n - k) + more = omega arith in
      rw (append_assoc, replicate-append-replicate, ← e)

  ended-there : ended (put old 3 ws) k n next top ≡ written old (record { rows = rs; next_doc = next; next_frame = top })
  unfolding ended written
  ended-there =
      let e : 3 + 4 * k ≡ 3 + length ws = omega (arith, length-words rs) in
      ap (λ j. put (put (put old 3 ws) j zeros) 0 (k ∷ next ∷ top ∷ [])) e ∙ runs_on old ws zeros k next top ∙ sym zeros-there ∙ ap (put old 0) (sym table-words)

-- Rows that there is room for, put over the first of the n rows of a sound record and ended there, are written with these next numbers.
pub ended_is : (rs : List Row) (old : List ℕ) (k : ℕ) (new : List ℕ) → Over rs old k new → Sound old → k ≤ capacity old → (n next top : ℕ) → n ≡ length (rows_of old) →
    ended new k n next top ≡ written old (record { rows = rs; next_doc = next; next_frame = top })
ended_is rs old k new o sound room n next top e =
    ap₂ (λ w k. ended w k n next top) o.words_are o.count-is ∙ ap (λ n. ended (put old 3 (flat_map words_of_row rs)) (length rs) n next top) e
    ∙ ended-there rs old sound (omega (arith, o.count-is)) next top
