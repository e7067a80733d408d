-- Writing: a decimal's digits, one text after another, and the room they take. Assumes nothing.
use Prim.Native.Nat.{ℕ, zero, suc, ◌+◌, ◌-◌, ◌*◌, ◌/◌, ◌%◌, ◌≤◌, ◌<◌}
use mathlib.Core.List.{List, [], ◌∷◌, ◌++◌, append_assoc}
use mathlib.Core.Path.{◌≡◌, refl, sym, ap, subst, ◌∙◌}
use native.Mathlib.Omega.{arith}
use lib.ListN.{length, take, drop, length-append}
use lib.Seq.{drop-drop, sets-eq}
use borrow.Author.Tests.{lt-ltb, le-ltb}
use borrow.Rule.Slice.PartMut.{put_mid}
use Rattle.rules.specs.Words.{put}
use Rattle.laws.proofs.Tests.{by-lt}
use Rattle.laws.specs.Writes.{Wrote}
use Rattle.laws.proofs.Writes.{wrote-length, wrote_then, room-then}
use Rattle.lines.specs.Decimal.{decimal_by, decimal}
use Rattle.lines.specs.Reply.{end_text, status_text, tab_text}

-- DECIMALS

-- Any fuel above the number will do.
decimal-fuel : (a b n : ℕ) → n < a → n < b → decimal_by a n ≡ decimal_by b n
unfolding decimal_by
decimal-fuel zero b n l m = absurd (omega arith)
decimal-fuel (suc a) zero n l m = absurd (omega arith)
decimal-fuel (suc a) (suc b) n l m =
    by-lt n 10
    (λ s. rw (lt-ltb n 10 s) refl)
    (λ s. rw (le-ltb n 10 s) (ap (λ t. t ++ ((48 + n % 10) ∷ [])) (decimal-fuel a b (n / 10) (omega arith) (omega arith))))

-- A single digit.
pub decimal-one : (n : ℕ) → n < 10 → decimal n ≡ (48 + n) ∷ []
unfolding decimal decimal_by
decimal-one n l = rw (lt-ltb n 10 l) refl

-- The digits before the last, and the last.
pub decimal-more : (n : ℕ) → 10 ≤ n → decimal n ≡ decimal (n / 10) ++ ((48 + n % 10) ∷ [])
unfolding decimal decimal_by
decimal-more n l = rw (le-ltb n 10 l) (ap (λ t. t ++ ((48 + n % 10) ∷ [])) (decimal-fuel n (suc (n / 10)) (n / 10) (omega arith) (omega arith)))

-- ONE AFTER ANOTHER

-- The place after a text that ends before the run does.
pub wrote-below : (old vs mid : List ℕ) (at k : ℕ) → Wrote old at vs mid k → at + length vs < length old → k < length mid
wrote-below old vs mid at k v l = omega (arith, wrote-length old vs mid at k v, v.past)

-- A text copied over a part is the text put there.
pub put_part : (l vs part : List ℕ) (at : ℕ) → at + length vs ≤ length l → part ≡ vs → put_mid at (at + length vs - at) l part ≡ put l at vs
unfolding put
put_part l vs part at h e =
    let k = length vs in
    let f : at + (at + k - at) ≡ at + k = omega arith in
    rw (e, drop-drop (at + k - at) at l, f) (sym (sets-eq vs l at h ∙ append_assoc (take at l) vs (drop (at + k) l)))

-- A decimal as the code writes it.
pub wrote_one : (old new : List ℕ) (at n next : ℕ) → n < 10 → Wrote old at ((48 + n) ∷ []) new next → Wrote old at (decimal n) new next
wrote_one old new at n next l w = rw (decimal-one n l) w

pub wrote-more : (old mid new : List ℕ) (at n k next : ℕ) → 10 ≤ n → Wrote old at (decimal (n / 10)) mid k → Wrote mid k ((48 + n % 10) ∷ []) new next → Wrote old at (decimal n) new next
wrote-more old mid new at n k next l v w = subst (λ t. Wrote old at t new next) (sym (decimal-more n l)) (wrote_then old mid new _ _ at k next v w)

-- The room that a decimal takes, for the code's two ways.
module _ (at n m : ℕ) (room : at + length (decimal n) ≤ m) where
  pub room-one : n < 10 → at < m
  room-one l = omega (arith, ap length (decimal-one n l))

  pub room-more : 10 ≤ n → at + length (decimal (n / 10)) < m
  room-more l = omega (arith, ap length (decimal-more n l) ∙ length-append (decimal (n / 10)) ((48 + n % 10) ∷ []))

-- The room that the first of two texts takes.
pub room_front : (k m : ℕ) (vs ws : List ℕ) → k + length (vs ++ ws) ≤ m → k + length vs ≤ m
room_front k m vs ws l = omega (arith, rw length-append at l)

-- THE END OF A LINE: three numbers with a byte before each, then the newline.

module _ (old : List ℕ) (at n p s : ℕ) (room : at + length (end_text n p s) ≤ length old) where
  abbrev last : List ℕ
  last = 10 ∷ []

  abbrev third : List ℕ
  third = (47 ∷ decimal s) ++ last

  abbrev second : List ℕ
  second = (32 ∷ decimal p) ++ third

  all : at + length ((32 ∷ decimal n) ++ second) ≤ length old
  unfolding end_text
  all = room

  pub room-first : at + length (32 ∷ decimal n) ≤ length old
  room-first = room_front at (length old) (32 ∷ decimal n) second all

  module _ (m1 : List ℕ) (k1 : ℕ) (w1 : Wrote old at (32 ∷ decimal n) m1 k1) where
    left1 : k1 + length second ≤ length m1
    left1 = room-then old m1 (32 ∷ decimal n) second at k1 all w1

    pub room-second : k1 + length (32 ∷ decimal p) ≤ length m1
    room-second = room_front k1 (length m1) (32 ∷ decimal p) third left1

    module _ (m2 : List ℕ) (k2 : ℕ) (w2 : Wrote m1 k1 (32 ∷ decimal p) m2 k2) where
      left2 : k2 + length third ≤ length m2
      left2 = room-then m1 m2 (32 ∷ decimal p) third k1 k2 left1 w2

      pub room-third : k2 + length (47 ∷ decimal s) ≤ length m2
      room-third = room_front k2 (length m2) (47 ∷ decimal s) last left2

      module _ (m3 : List ℕ) (k3 : ℕ) (w3 : Wrote m2 k2 (47 ∷ decimal s) m3 k3) where
        pub room-last : k3 < length m3
        room-last = let l = room-then m2 m3 (47 ∷ decimal s) last k2 k3 left2 w3 in omega arith

        pub wrote-end : (m4 : List ℕ) (k4 : ℕ) → Wrote m3 k3 (10 ∷ []) m4 k4 → Wrote old at (end_text n p s) m4 k4
        unfolding end_text
        wrote-end m4 k4 w4 =
            wrote_then old m1 m4 (32 ∷ decimal n) second at k1 k4 w1
            (wrote_then m1 m2 m4 (32 ∷ decimal p) third k1 k2 k4 w2 (wrote_then m2 m3 m4 (47 ∷ decimal s) last k2 k3 k4 w3 w4))

-- THREE TEXTS, one after the other: of a new window, and of a refusal that carries a document.

module _ (old : List ℕ) (at : ℕ) (us vs ws : List ℕ) (room : at + length (us ++ (vs ++ ws)) ≤ length old) (m1 : List ℕ) (k1 : ℕ) (w1 : Wrote old at us m1 k1) where
  left : k1 + length (vs ++ ws) ≤ length m1
  left = room-then old m1 us (vs ++ ws) at k1 room w1

  pub room_middle : k1 + length vs ≤ length m1
  room_middle = room_front k1 (length m1) vs ws left

  module _ (m2 : List ℕ) (k2 : ℕ) (w2 : Wrote m1 k1 vs m2 k2) where
    pub room_end : k2 + length ws ≤ length m2
    room_end = room-then m1 m2 vs ws k1 k2 left w2

    pub wrote_three : (m3 : List ℕ) (k3 : ℕ) → Wrote m2 k2 ws m3 k3 → Wrote old at (us ++ (vs ++ ws)) m3 k3
    wrote_three m3 k3 w3 = wrote_then old m1 m3 us (vs ++ ws) at k1 k3 w1 (wrote_then m1 m2 m3 vs ws k1 k2 k3 w2 w3)

-- HOW LONG

-- 10 to the k.
abbrev pub tens : ℕ → ℕ
tens zero = 1
tens (suc k) = tens k * 10

-- A number below 10 to the k + 1 has at most k + 1 digits.
pub decimal-within : (k n : ℕ) → n < tens (suc k) → length (decimal n) ≤ suc k
decimal-within zero n l = omega (arith, ap length (decimal-one n (omega arith)))
decimal-within (suc k) n l =
    by-lt n 10
    (λ a. omega (arith, ap length (decimal-one n a)))
    (λ a.
    let h = decimal-within k (n / 10) (omega arith) in
    omega (arith, ap length (decimal-more n a) ∙ length-append (decimal (n / 10)) ((48 + n % 10) ∷ [])))

-- The end of a line whose last two numbers are of 64 bits, by the digits of its first.
end-about : (n p s : ℕ) → p < tens 20 → s < tens 20 → length (end_text n p s) ≤ 44 + length (decimal n)
unfolding end_text
end-about n p s y z =
    let j = decimal-within 19 p y in
    let k = decimal-within 19 s z in
    simp length-append (omega arith)

-- So a status line, and what tells a new window with numbers of 32 bits.
pub status-about : (a b n p s : ℕ) → p < tens 20 → s < tens 20 → length (status_text a b n p s) ≤ 46 + length (decimal n)
unfolding status_text
status-about a b n p s y z = let e = end-about n p s y z in simp length-append (omega arith)

pub tab-within : (d f p s : ℕ) → d < tens 10 → f < tens 10 → p < tens 20 → s < tens 20 → length (tab_text d f p s) ≤ 67
unfolding tab_text
tab-within d f p s x w y z =
    let e = end-about f p s y z in
    let j = decimal-within 9 d x in
    let k = decimal-within 9 f w in
    simp length-append (omega arith)

-- A status line of three numbers of 64 bits has at most 66 bytes.
pub status-within : (a b n p s : ℕ) → n < tens 20 → p < tens 20 → s < tens 20 → length (status_text a b n p s) ≤ 66
status-within a b n p s x y z = omega (arith, status-about a b n p s y z, decimal-within 19 n x)
