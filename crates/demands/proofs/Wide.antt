-- The words of a sound record are 32-bit if its next numbers are. Assumes nothing.
use Prim.Native.Nat.{ℕ, ◌+◌, ◌-◌, ◌*◌, ◌/◌, ◌%◌, ◌≤◌, ◌<◌}
use mathlib.Core.List.{List}
use mathlib.Core.Logic.{⊎_elim}
use mathlib.Core.Path.{◌≡◌, sym, subst}
use native.Mathlib.Omega.{arith}
use lib.ListN.{length, get_or}
use Rattle.rules.specs.Rows.{Row, Table, none, doc_at, frame_at, parent_at, shown_at}
use Rattle.rules.specs.Words.{capacity, table_of, rows_of, words_of, written}
use Rattle.rules.specs.Sound.{Sound}
use Rattle.laws.proofs.Tests.{by-lt}
use Rattle.laws.proofs.Tree.{tree_of}
use Rattle.laws.proofs.Writes.{get-put-past}
use Rattle.laws.proofs.Words.{rows-length, rows_row, length-words_of, capacity-written, table-written, written-sound}
use Rattle.demands.specs.Record.{Words32}
use Rattle.demands.proofs.Lasting.{Lasting}

module _ (words : List ℕ) (s : Sound words) (h : Lasting (capacity words) (table_of words)) where
  row-wide : (i : ℕ) → i < length (rows_of words) →
      (doc_at (rows_of words) i ≤ none) × (frame_at (rows_of words) i ≤ none) × (parent_at (rows_of words) i ≤ none) × (shown_at (rows_of words) i ≤ none)
  row-wide i l =
      let t = tree_of h.sound h.doc in
      let w = h.doc in
      let v = h.frame in
      let b = t.below i l in
      let f = t.framed i l in
      let z = h.sound.s6.bit i l in (
        omega arith,
        omega arith,
        ⊎_elim (λ e. omega arith) (λ r. let c = t.below r.0 (omega arith) in omega arith) (t.placed i l),
        omega arith,
      )

  word_wide : (i c : ℕ) → i < length (rows_of words) → c < 4 → get_or words (3 + (4 * i + c)) 0 ≤ none
  word_wide i c l m =
      let n = rows-length words in
      let r = row-wide i l in
      let e = rows_row words i (omega arith) in
      let a : get_or words (3 + 4 * i) 0 ≤ none = subst (λ (x : Row). x.doc ≤ none) e r.0 in
      let b : get_or words (4 + 4 * i) 0 ≤ none = subst (λ (x : Row). x.frame ≤ none) e r.1 in
      let p : get_or words (5 + 4 * i) 0 ≤ none = subst (λ (x : Row). x.parent ≤ none) e r.2 in
      let q : get_or words (6 + 4 * i) 0 ≤ none = subst (λ (x : Row). x.shown ≤ none) e r.3 in
      by-lt c 2
      (λ x. by-lt c 1
      (λ y. subst (λ k. get_or words k 0 ≤ none) (omega arith) a)
      (λ y. subst (λ k. get_or words k 0 ≤ none) (omega arith) b))
      (λ x. by-lt c 3
      (λ y. subst (λ k. get_or words k 0 ≤ none) (omega arith) p)
      (λ y. subst (λ k. get_or words k 0 ≤ none) (omega arith) q))

  head-wide : (k : ℕ) → k < 3 → get_or words k 0 ≤ none
  unfolding table_of
  head-wide k l =
      let n = rows-length words in
      let f = s.table.s1.fits in
      by-lt k 1
      (λ a. subst (λ k. get_or words k 0 ≤ none) (omega arith) (let z : get_or words 0 0 ≤ none = omega arith in z))
      (λ a. by-lt k 2
      (λ b. subst (λ k. get_or words k 0 ≤ none) (omega arith) h.doc)
      (λ b. subst (λ k. get_or words k 0 ≤ none) (omega arith) h.frame))

  inside-wide : (k : ℕ) → k < 3 + 4 * capacity words → get_or words k 0 ≤ none
  inside-wide k l =
      let n = rows-length words in
      by-lt k 3 (head-wide k) (λ a.
      by-lt k (3 + 4 * length (rows_of words))
      (λ b.
      let i = (k - 3) / 4 in
      let c = (k - 3) % 4 in
      let e : 3 + (4 * i + c) ≡ k = omega arith in
      subst (λ k. get_or words k 0 ≤ none) e (word_wide i c (omega arith) (omega arith)))
      (λ b. let z = s.s8.zeros k (omega arith) l in omega arith))

-- A table lasting, written over 32-bit words, is 32-bit words.
pub written-wide : (words : List ℕ) (t : Table) → Words32 words → 3 ≤ length words → Lasting (capacity words) t → Words32 (written words t)
unfolding written
written-wide words t wide l h k =
    let fits = h.sound.s1.fits in
    let c = capacity-written words t in
    let e = table-written words t l fits in
    by-lt k (3 + 4 * capacity words)
    (λ a. inside-wide (written words t) (written-sound words t l h.sound)
    (subst (λ c. Lasting c (table_of (written words t))) (sym c) (subst (Lasting (capacity words)) (sym e) h)) k (omega arith))
    (λ a.
    let n = length-words_of (capacity words) t fits in
    subst (λ x. x ≤ none) (sym (get-put-past (words_of (capacity words) t) words 0 k (omega arith))) (wide k))
