-- The words that lines start with, as the code tests them. Assumes nothing.
use Prim.Native.Nat.{ℕ, ◌≤◌, ◌<◌}
use mathlib.Core.Bool.{true, false, So, and-eq-true_iff}
use mathlib.Core.List.{List, [], ◌∷◌, ◌++◌}
use mathlib.Core.Path.{◌≡◌, refl, sym, ap, ◌∙◌}
use native.Mathlib.Omega.{arith}
use lib.Dec.{eqb}
use lib.ListN.{length, get_or, take, drop, length-take, take-append-drop, drop_of_length-le}
use lib.Pointwise.{pointwise, bytes_decides}
use lib.Seq.{ext_get_or, get_or-take}
use borrow.Author.Tests.{leb-true, le-leb, eqb-true, eq-eqb, ne_eqb}
use Rattle.rules.specs.Below.{all_below}
use Rattle.laws.proofs.Tests.{off, clash, same_tests, all_in, all-out}
use Rattle.lines.specs.Lines.{tab_word, starts?, tab?, minus?}

module _ (word line : List ℕ) where
  pub starts-not : (i : ℕ) → i < length word → (get_or line i 0 ≡ get_or word i 0 → ⊥) → false ≡ starts? word line
  unfolding starts?
  starts-not i l n =
      sym (off _ (λ h.
      let p = simp and-eq-true_iff at h in
      clash (all-out (λ i. eqb (get_or line i 0) (get_or word i 0)) (length word) p.1 i l) (ne_eqb _ _ n)))

  -- Its first bytes are the word then.
  first-bytes : So (starts? word line) → take (length word) line ≡ word
  unfolding starts?
  first-bytes h =
      let p = simp and-eq-true_iff at h in
      let l : length word ≤ length line = leb-true _ _ p.0 in
      let m : length (take (length word) line) ≡ length word = length-take (length word) line ∙ omega arith in
      ext_get_or 0 _ _ m (λ i a. get_or-take (length word) line i 0 (omega arith) ∙ eqb-true _ _ (all-out _ (length word) p.1 i (omega arith)))

  bytes-first : take (length word) line ≡ word → So (starts? word line)
  unfolding starts?
  bytes-first e =
      let l : length word ≤ length line = omega (arith, length-take (length word) line, ap length e) in
      simp and-eq-true_iff
      (le-leb _ _ l, all_in _ (length word) (λ i m. eq-eqb _ _ (sym (get_or-take (length word) line i 0 m) ∙ ap (λ t. get_or t i 0) e)))

  -- Such a line is the word and the rest.
  pub word-starts : starts? word line ≡ true → line ≡ word ++ drop (length word) line
  word-starts h = sym (take-append-drop (length word) line) ∙ ap (λ t. t ++ drop (length word) line) (first-bytes h)

  -- What std answers of a prefix.
  pub prefix_is : pointwise eqb (take (length word) line) word ≡ starts? word line
  prefix_is =
      let d = bytes_decides (take (length word) line) word in
      same_tests (λ s. bytes-first (d.0 s)) (λ s. d.1 (first-bytes s))

-- And of a minus.
pub minus_is : (text : List ℕ) → pointwise eqb (take 1 text) (45 ∷ []) ≡ minus? text
minus_is [] = refl
minus_is (b ∷ text) = same_tests (λ h. (simp and-eq-true_iff at h).0) (λ h. simp and-eq-true_iff (h, refl))

-- `tab`, and no more.
pub tab-only : (line : List ℕ) → So (tab? line) → line ≡ tab_word
unfolding tab?
tab-only line t =
    let p = simp and-eq-true_iff at t in
    let l : length line ≡ 3 = eqb-true _ _ p.0 in
    word-starts tab_word line p.1 ∙ ap (λ t. tab_word ++ t) (drop_of_length-le line {i = 3} (omega arith))

only-tab : (line : List ℕ) → line ≡ tab_word → So (tab? line)
unfolding tab? starts? all_below
only-tab line e = rw e refl

pub tab_is : (line : List ℕ) → pointwise eqb line tab_word ≡ tab? line
tab_is line = let d = bytes_decides line tab_word in same_tests (λ s. only-tab line (d.0 s)) (λ s. d.1 (tab-only line s))
