-- The first blank of a text: what stands before it and what after it. Assumes nothing.
use Prim.Native.Nat.{ℕ, zero, suc, ◌+◌, ◌<◌}
use mathlib.Core.Bool.{false}
use mathlib.Core.List.{List, ◌∷◌, ◌++◌}
use mathlib.Core.Path.{◌≡◌, refl, sym, ap, ◌∙◌}
use native.Mathlib.Numerals.{add-one}
use native.Mathlib.Omega.{arith}
use lib.IntN.{ℤ, pos, negsuc}
use lib.ListN.{length, get_or, take, drop, length-append, get_or-append}
use lib.Seq.{split_at, take-length, take-append_seam, drop-append-add, get_or-append_seam}
use borrow.Author.Tests.{lt-ltb, le-ltb, eq-eqb, eqb-true, ne_eqb}
use Rattle.std.specs.Prelude.{Option}
use Rattle.laws.proofs.Loops.{earliest-out, earliest-in}
use Rattle.lines.specs.Decimal.{decimal, signed, numeral}
use Rattle.lines.specs.Lines.{numbered, blank?, blank_at, root_named, going_by, going}
use Rattle.lines.proofs.Spelling.{spells}

-- A text without a blank.
abbrev pub Solid : List ℕ → Type 0
Solid text = (k : ℕ) → k < length text → blank? text k ≡ false

-- A number has none.
decimal-solid : (n : ℕ) → Solid (decimal n)
decimal-solid n k l = let d = (spells n).digits k l in ne_eqb (get_or (decimal n) k 0) 32 (λ e. omega arith)

minus-solid : (text : List ℕ) → Solid text → Solid (45 ∷ text)
minus-solid text h zero l = refl
minus-solid text h (suc k) l = h k (omega arith)

pub signed-solid : (δ : ℤ) → Solid (signed δ)
signed-solid (pos n) k l = decimal-solid n k l
signed-solid (negsuc n) k l = minus-solid (decimal (suc n)) (decimal-solid (suc n)) k l

module _ (text : List ℕ) (solid : Solid text) where
  -- Alone it names no root frame, and all of it is the amount.
  blank_none : blank_at text ≡ length text
  blank_none = sym (earliest-in _ (length text) (length text) (record { within = omega arith; passes = λ l. absurd (omega arith); none_before = solid }))

  pub going-solid : going text ≡ going_by 0 text
  unfolding going root_named
  going-solid = rw (blank_none, le-ltb (length text) (length text) (omega arith), take-length text) refl

  -- With a blank after it, the root frame is named by what follows.
  module _ (rest : List ℕ) where
    abbrev both : List ℕ
    both = text ++ 32 ∷ rest

    both-length : length both ≡ length text + suc (length rest)
    both-length = length-append text (32 ∷ rest)

    blank-after : blank_at both ≡ length text
    blank-after =
        sym (earliest-in _ (length both) (length text) (record {
          within = omega (arith, both-length);
          passes = λ l. eq-eqb _ _ (get_or-append_seam text 32 rest 0);
          none_before = λ m l. rw (get_or-append text (32 ∷ rest) 0 m l) (solid m l);
        }))

    pub going-both : (k : Option ℕ) → numeral 4294967295 rest ≡ k → going both ≡ numbered (λ r. going_by r text) k
    unfolding going root_named
    going-both k e = rw (blank-after, lt-ltb (length text) (length both) (omega (arith, both-length)), take-append_seam text (32 ∷ rest), drop-append-add text (32 ∷ rest) 1, e) refl

-- A text with a blank is what stands before its first, the blank, and what follows.
pub blank-splits : (text : List ℕ) → blank_at text < length text → text ≡ take (blank_at text) text ++ 32 ∷ drop (blank_at text + 1) text
blank-splits text l =
    let b : get_or text (blank_at text) 0 ≡ 32 = eqb-true _ _ ((earliest-out _ (length text)).passes l) in
    split_at text (blank_at text) 0 l
    ∙ ap (λ c. take (blank_at text) text ++ c ∷ drop (suc (blank_at text)) text) b
    ∙ ap (λ k. take (blank_at text) text ++ 32 ∷ drop k text) (sym (add-one (blank_at text)))
