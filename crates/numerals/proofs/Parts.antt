-- The saved form and its parts: how long they are, and that they are written once their parts are. Assumes nothing.
use Prim.Native.Nat.{ℕ, ◌+◌, ◌-◌, ◌*◌, ◌/◌, ◌%◌, ◌^◌, ◌<◌, ◌≤◌}
use mathlib.Core.List.{List, [], ◌∷◌, ◌++◌, flat_map, append_assoc}
use mathlib.Core.Path.{◌≡◌, refl, ap, ◌∙◌}
use native.Mathlib.Omega.{arith}
use lib.ListN.{length, length-append}
use borrow.Rule.Slice.PartMut.{put_mid}
use Rattle.rules.specs.Rows.{Row, Table, doc_at}
use Rattle.rules.specs.Moves.{frames}
use Rattle.rules.specs.Words.{put}
use Rattle.rules.specs.Saved.{number, contents, saved_with, entry, body, saved}
use Rattle.laws.specs.Writes.{Wrote}
use Rattle.laws.proofs.Writes.{wrote_then}
use Rattle.writes.proofs.Parts.{put_part}
use Rattle.numerals.specs.Lines.{head}

-- HOW LONG

pub length-entry : (rows : List Row) (i : ℕ) → length (entry rows i) ≡ 8
unfolding number
length-entry rows i = refl

pub length-contents : (rows : List Row) (f : ℕ) → length (contents rows f) ≡ 16
unfolding contents number
length-contents rows f = refl

pub length-lines : (rows : List Row) (fs : List ℕ) → length (flat_map (contents rows) fs) ≡ 16 * length fs
unfolding flat_map
length-lines rows [] = refl
length-lines rows (f ∷ fs) = omega (arith, length-append (contents rows f) (flat_map (contents rows) fs), length-contents rows f, length-lines rows fs)

-- The numbers in front, the contents, the bodies.
pub saved-parts : (t : Table) → length (saved t) ≡ 12 + (length (flat_map (contents t.rows) (frames t)) + length (flat_map (body t.rows) (frames t)))
unfolding saved_with number
saved-parts t = let h = length-append (flat_map (contents t.rows) (frames t)) (flat_map (body t.rows) (frames t)) in omega arith

-- WRITTEN

-- The four bytes of a number, over the part that they take.
pub number_wrote : (old new : List ℕ) (at x : ℕ) → x < 2 ^ 32 → at + 4 ≤ length old → new ≡ (x / 16777216 % 256 ∷ x / 65536 % 256 ∷ x / 256 % 256 ∷ x % 256 ∷ []) → Wrote old at (number x) (put_mid at (at + 4 - at) old new) (at + 4)
unfolding number
number_wrote old new at x b room e =
    let n : new ≡ number x = e ∙ ap (λ d. d ∷ x / 65536 % 256 ∷ x / 256 % 256 ∷ x % 256 ∷ []) (omega arith) in
    record { list = put_part old new at (at + 4) (omega arith) room (ap length n ∙ omega arith) ∙ ap (put old at) n; past = refl }

-- A row's entry: its document, and behind that its place.
pub entry-wrote : (rows : List Row) (i d at p q : ℕ) (b0 b1 b2 : List ℕ) → d ≡ doc_at rows i → Wrote b0 at (number d) b1 p → Wrote b1 p (number i) b2 q → Wrote b0 at (entry rows i) b2 q
entry-wrote rows i d at p q b0 b1 b2 e v w = rw (← e) (wrote_then b0 b1 b2 _ _ at p q v w)

-- All: the numbers in front, then contents and bodies.
pub saved-wrote : (t : Table) (count d f p e : ℕ) (b0 b1 b2 : List ℕ) → count ≡ length (frames t) → d ≡ t.next_doc → f ≡ t.next_frame → Wrote b0 0 (head count d f) b1 p →
    Wrote b1 p (flat_map (contents t.rows) (frames t) ++ flat_map (body t.rows) (frames t)) b2 e → Wrote b0 0 (saved t) b2 e
unfolding saved_with
saved-wrote t count d f p e b0 b1 b2 g h i v w = simp (append_assoc, g, h, i) at (wrote_then b0 b1 b2 (head count d f) _ 0 p e v w)
