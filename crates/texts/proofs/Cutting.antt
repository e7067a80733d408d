-- Reading a line byte by byte. Assumes nothing.
use Prim.Native.Nat.{ℕ, suc, ◌+◌, ◌≤◌, ◌<◌, min, max}
use mathlib.Core.Bool.{true, false}
use mathlib.Core.List.{List, [], ◌∷◌}
use mathlib.Core.Path.{◌≡◌, refl, sym, ap, ◌∙◌}
use native.Mathlib.Numerals.{add-one}
use native.Mathlib.Omega.{arith}
use lib.Dec.{eqb}
use lib.ListN.{length, get_or, set, drop, length-set, drop_of_length-le}
use lib.Seq.{drop-cons, set_out}
use borrow.Author.Tests.{ne_eqb}
use Rattle.rules.specs.Rows.{flag}
use Rattle.rules.specs.Words.{put}
use Rattle.laws.proofs.Tests.{by-lt}
use Rattle.texts.specs.Cuts.{line_in, ends?, grown, cut_of, Cuts}

-- Past the end of a run nothing is put.
pub put-out : (vs l : List ℕ) (i : ℕ) → length l ≤ i → put l i vs ≡ l
unfolding put
put-out [] l i h = refl
put-out (v ∷ vs) l i h = ap (λ m. put m (suc i) vs) (set_out l i v h) ∙ put-out vs l (suc i) (omega arith)

-- What is still to be read from place i on comes to what was to be read.
pub record Reads (text : List ℕ) (from : ℕ) (line₀ : List ℕ) (kept₀ i : ℕ) (line : List ℕ) (kept : ℕ) : Type 0 where
  pub cut-same : cut_of (drop i text) i (length line₀) kept ≡ cut_of (drop from text) from (length line₀) kept₀
  pub line_same : put line kept (line_in (drop i text)) ≡ put line₀ kept₀ (line_in (drop from text))
  pub sized : length line ≡ length line₀

pub reads_none : (text : List ℕ) (from : ℕ) (line : List ℕ) (kept : ℕ) → Reads text from line kept from line kept
reads_none text from line kept = record { cut-same = refl; line_same = refl; sized = refl }

module _ (text : List ℕ) (from : ℕ) (line₀ : List ℕ) (kept₀ i : ℕ) (line : List ℕ) (kept : ℕ) (r : Reads text from line₀ kept₀ i line kept) where
  -- A byte more of the line.
  pub reads_more : i < length text → (b : ℕ) → b ≡ get_or text i 0 → (b ≡ 10 → ⊥) → (line' : List ℕ) → line' ≡ set line kept b → (kept' : ℕ) → kept' ≡ grown (length line) kept 1 →
      Reads text from line₀ kept₀ (i + 1) line' kept'
  unfolding line_in ends? put
  reads_more l b e n line' f kept' g =
      let s = drop (suc i) text in
      let d : drop i text ≡ b ∷ s = drop-cons text i 0 l ∙ ap (λ b. b ∷ s) (sym e) in
      let q : eqb b 10 ≡ false = ne_eqb b 10 n in
      let z = r.sized in
      record {
        cut-same = rw (add-one i) (cut-more b s q kept' g ∙ ap (λ s. cut_of s i (length line₀) kept) (sym d) ∙ r.cut-same);
        line_same = rw (add-one i, f) (line-more b s q kept' g ∙ ap (λ s. put line kept (line_in s)) (sym d) ∙ r.line_same);
        sized = ap length f ∙ length-set line kept b ∙ z;
      }
    where
      cut-more : (b : ℕ) (s : List ℕ) → eqb b 10 ≡ false → (kept' : ℕ) → kept' ≡ grown (length line) kept 1 → cut_of s (suc i) (length line₀) kept' ≡ cut_of (b ∷ s) i (length line₀) kept
      cut-more b s q kept' g =
          let z = r.sized in
          let at : suc i + length (line_in s) + flag (ends? s) ≡ i + suc (length (line_in s)) + flag (ends? s) = omega arith in
          let many : grown (length line₀) kept' (length (line_in s)) ≡ grown (length line₀) kept (suc (length (line_in s))) = omega arith in
          rw (q, at, many) refl

      line-more : (b : ℕ) (s : List ℕ) → eqb b 10 ≡ false → (kept' : ℕ) → kept' ≡ grown (length line) kept 1 → put (set line kept b) kept' (line_in s) ≡ put line kept (line_in (b ∷ s))
      line-more b s q kept' g =
          by-lt kept (length line)
          (λ l. let e : kept' ≡ suc kept = omega arith in rw (q, e) refl)
          (λ l. let e : kept' ≡ kept = omega arith in
          let o = length-set line kept b in rw (q, e) (put-out (line_in s) (set line kept b) kept (omega arith) ∙ sym (put-out (line_in s) (set line kept b) (suc kept) (omega arith))))

  -- The line ends here.
  pub reads-ended : i < length text → (b : ℕ) → b ≡ get_or text i 0 → b ≡ 10 → Cuts text from line₀ kept₀ (record { at = i + 1; kept = kept; ended = true }) line
  unfolding line_in ends? put
  reads-ended l b e n =
      let d : drop i text ≡ 10 ∷ drop (suc i) text = drop-cons text i 0 l ∙ ap (λ b. b ∷ drop (suc i) text) (sym e ∙ n) in
      let here : record { at = i + 1; kept = kept; ended = true } ≡ cut_of (10 ∷ drop (suc i) text) i (length line₀) kept =
      let at : i + 1 ≡ i + 0 + 1 = omega arith in let k : kept ≡ max kept (min (length line₀) (kept + 0)) = omega arith in rw (← at, ← k) refl in
      record { cut-is = here ∙ ap (λ s. cut_of s i (length line₀) kept) (sym d) ∙ r.cut-same; line-is = ap (λ s. put line kept (line_in s)) (sym d) ∙ r.line_same }

  -- The text ends here.
  pub reads-past : length text ≤ i → Cuts text from line₀ kept₀ (record { at = i; kept = kept; ended = false }) line
  unfolding line_in ends? put
  reads-past l =
      let d : drop i text ≡ [] = drop_of_length-le text l in
      let here : record { at = i; kept = kept; ended = false } ≡ cut_of [] i (length line₀) kept =
      let at : i ≡ i + 0 + 0 = omega arith in let k : kept ≡ max kept (min (length line₀) (kept + 0)) = omega arith in rw (← at, ← k) refl in
      record { cut-is = here ∙ ap (λ s. cut_of s i (length line₀) kept) (sym d) ∙ r.cut-same; line-is = ap (λ s. put line kept (line_in s)) (sym d) ∙ r.line_same }
