-- A part of the words written as a whole. Assumes nothing.
use Rattle.std.proofs.Common.{ℕ, ◌≡◌, ◌+◌, ◌-◌, ◌≤◌, List, ◌++◌, length, take, drop, replicate, sym, ap, ◌∙◌, arith}
use Rattle.std.proofs.lemmas.List.Edits.{sets-eq}
use borrow.Rule.Slice.PartMut.{mid_of, put_mid, mid_len, Post-is}
use Rattle.std.proofs.lemmas.List.{append_assoc, take_all}
use lib.ListN.{length-replicate}
use lib.Seq.{length-take-le}
use Rattle.rules.specs.Words.{put}

module _ (l vs : List ℕ) where
  -- The words from a place on are these, and those after them stay.
  parts : (at to : ℕ) → at + length vs ≡ to → to ≤ length l → take at l ++ (vs ++ drop to l) ≡ put l at vs
  unfolding put
  parts at to e g = sym (append_assoc (take at l) vs (drop to l)) ∙ ap (λ k. take at l ++ vs ++ drop k l) (sym e) ∙ sym (sets-eq vs l at (omega arith))

  -- The words from one place up to another are these.
  pub put_part : (from to : ℕ) → from ≤ to → to ≤ length l → length vs ≡ to - from → put_mid from (to - from) l vs ≡ put l from vs
  put_part from to h g e = ap (λ rest. take from l ++ (vs ++ rest)) (Post-is from to l h) ∙ parts from to (omega arith) g

  -- The words up to a place are these.
  pub put_front : (to : ℕ) → to ≤ length l → length vs ≡ to → vs ++ drop to l ≡ put l 0 vs
  put_front to g e = parts 0 to (omega arith) g

-- Words of which the first i are zero, and which are no more than i, are all zero.
pub all_zero : (l : List ℕ) (i n : ℕ) → length l ≡ n → n ≤ i → take i l ≡ replicate i 0 → l ≡ replicate n 0
all_zero l i n e g z =
    let all : l ≡ replicate i 0 = sym (take_all i l (omega (arith, e, g))) ∙ z in
    all ∙ ap (λ m. replicate m 0) (sym (length-replicate i 0) ∙ ap length (sym all) ∙ e)

-- The words from one place up to another are zero.
pub clear_part : (l new : List ℕ) (from to : ℕ) → from ≤ to → to ≤ length l → new ≡ replicate (length (mid_of from (to - from) l)) 0 →
    put_mid from (to - from) l new ≡ put l from (replicate (to - from) 0)
clear_part l new from to h g e =
    let zeros : new ≡ replicate (to - from) 0 = e ∙ ap (λ n. replicate n 0) (mid_len from to l g) in
    ap (put_mid from (to - from) l) zeros ∙ put_part l (replicate (to - from) 0) from to h g (length-replicate (to - from) 0)

-- The words up to a place are the first of others.
pub copy_part : (l from new : List ℕ) (to : ℕ) → to ≤ length l → to ≤ length from → new ≡ take to from → new ++ drop to l ≡ put l 0 (take to from)
copy_part l from new to h g e = ap (λ vs. vs ++ drop to l) e ∙ put_front l (take to from) to h (length-take-le to from g)
