-- The words of a table in less room, and in more. Assumes nothing.
use Prim.Native.Nat.{ℕ, ◌+◌, ◌-◌, ◌*◌, ◌≤◌, ◌<◌}
use mathlib.Core.List.{List, [], ◌∷◌, ◌++◌, append_assoc, flat_map}
use mathlib.Core.Path.{◌≡◌, refl, sym, ap, subst, ◌∙◌}
use native.Mathlib.Omega.{arith}
use lib.ListN.{length, take, drop, replicate, length-replicate, get_or-replicate, replicate-append-replicate}
use lib.Seq.{take_at}
use Rattle.rules.specs.Rows.{Table}
use Rattle.rules.specs.Words.{put, capacity, table_of, rows_of, words_of_row, words_of, written}
use Rattle.rules.specs.Sound.{Sound}
use Rattle.laws.proofs.Writes.{put-put, put_same, get-put-past}
use Rattle.laws.proofs.Words.{length-words_of, written_is, written-table}

-- Zeros after the rows, some and then the rest; the parts of the words as variables.
zeros-apart : (head rows : List ℕ) (a b n : ℕ) → n ≡ a + b → head ++ (rows ++ replicate n 0) ≡ (head ++ (rows ++ replicate a 0)) ++ replicate b 0
zeros-apart head rows a b n e = rw (e, append_assoc head, append_assoc rows, replicate-append-replicate {A = ℕ} a b 0) refl

words_of-less : (b c : ℕ) (t : Table) → length t.rows ≤ c → c ≤ b → words_of b t ≡ words_of c t ++ replicate (4 * (b - c)) 0
unfolding words_of
words_of-less b c t l m =
    zeros-apart (length t.rows ∷ t.next_doc ∷ t.next_frame ∷ []) (flat_map words_of_row t.rows) (4 * (c - length t.rows)) (4 * (b - c)) (4 * (b - length t.rows)) (omega arith)

-- The first words of a sound record are those of its table in less room.
pub first-words : (words : List ℕ) → Sound words → (c : ℕ) → length (rows_of words) ≤ c → c ≤ capacity words → take (3 + 4 * c) words ≡ words_of c (table_of words)
first-words words s c l m =
    let t = table_of words in
    let room = capacity words in
    let rest = replicate (4 * (room - c)) 0 ++ drop (3 + 4 * room) words in
    let some = s.table.s1.some in
    let all : words ≡ words_of c t ++ rest =
    sym (written-table words s) ∙ written_is words t (omega arith) s.table.s1.fits ∙ ap (λ ws. ws ++ drop (3 + 4 * room) words) (words_of-less room c t l m) ∙ append_assoc (words_of c t) _ _ in
    ap (take (3 + 4 * c)) all ∙ take_at (words_of c t) rest (3 + 4 * c) (length-words_of c t l)

-- Put into zeros they are those of the table in all the room there is.
pub written-zeros : (m c : ℕ) (t : Table) → length t.rows ≤ c → c ≤ capacity (replicate {A = ℕ} m 0) → put (replicate m 0) 0 (words_of c t) ≡ written (replicate m 0) t
unfolding written
written-zeros m c t l k =
    let zs = replicate {A = ℕ} m 0 in
    let room = capacity zs in
    let n = length-words_of c t l in
    let q = replicate {A = ℕ} (4 * (room - c)) 0 in
    sym (ap (put zs 0) (words_of-less room c t l k) ∙ sym (put-put (words_of c t) q zs 0) ∙ put_same q (put zs 0 (words_of c t)) (0 + length (words_of c t)) (λ j b.
    let e = length-replicate {A = ℕ} m 0 in
    let b' : j < 4 * (room - c) = subst (λ x. j < x) (length-replicate (4 * (room - c)) 0) b in
    get_or-replicate (4 * (room - c)) j 0 0 b' ∙ sym (get-put-past (words_of c t) zs 0 (0 + length (words_of c t) + j) (omega arith) ∙ get_or-replicate m (0 + length (words_of c t) + j) 0 0 (omega arith))))
