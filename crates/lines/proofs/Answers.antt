-- The text of an answer by its case. Assumes nothing.
use Prim.Native.Nat.{ℕ, ◌+◌, ◌≤◌, ◌<◌}
use mathlib.Core.List.{List, [], ◌∷◌, ◌++◌}
use mathlib.Core.Path.{◌≡◌, refl, sym, subst}
use native.Mathlib.Omega.{arith}
use lib.ListN.{length, length-append}
use Rattle.std.specs.Prelude.{Option, Some, None}
use Rattle.base.specs.Numbers.{number_of, carried_by, carried_is, Narrow}
use Rattle.base.specs.declared.DocNo.{DocNo}
use Rattle.base.specs.declared.FrameNo.{FrameNo}
use Rattle.base.specs.declared.Refusal.{Refusal}
use Rattle.base.specs.declared.Refusal.TheVariants as Refusals
use Rattle.laws.specs.Writes.{Wrote}
use Rattle.lines.specs.Decimal.{decimal}
use Rattle.lines.specs.Reply.{reply_is, end_text, status_text, tab_text, denied_text, answer_text}
use Rattle.lines.specs.declared.Reply.{Reply}
use Rattle.lines.specs.declared.Progress.{Progress}
use Rattle.lines.proofs.Texts.{room_front, room_middle, room_end, wrote_three, tens, decimal-within, status-about, tab-within, status-within}
use Rattle.lines.specs.declared.Reply.TheVariants as Replies

module _ (reply : Reply) where
  pub answer_ok : (v : ℕ) (s : Progress) → reply ≡ Replies.Ok v s → answer_text (reply_is reply) ≡ (111 ∷ 107 ∷ []) ++ end_text v s.position s.steps
  unfolding answer_text status_text
  answer_ok v s e = rw e refl

  pub answer-tab : (d : DocNo) (f : FrameNo) (s : Progress) → reply ≡ Replies.Tab d f s → answer_text (reply_is reply) ≡ tab_text d.0 f.0 s.position s.steps
  unfolding answer_text
  answer-tab d f s e = rw e refl

  pub answer-no : (r : Refusal) (s : Progress) → reply ≡ Replies.No r s → answer_text (reply_is reply) ≡ denied_text (number_of r) (carried_by r) s.position s.steps
  unfolding answer_text
  answer-no r s e = rw e refl

  pub answer-bad : reply ≡ Replies.Bad → answer_text (reply_is reply) ≡ 98 ∷ 97 ∷ 100 ∷ 10 ∷ []
  unfolding answer_text
  answer-bad e = rw e refl

-- The same room, and the same text written.
pub same-room : (text same : List ℕ) (at m : ℕ) → text ≡ same → at + length text ≤ m → at + length same ≤ m
same-room text same at m e l = subst (λ t. at + length t ≤ m) e l

pub same_text : (text same old new : List ℕ) (at next : ℕ) → text ≡ same → Wrote old at same new next → Wrote old at text new next
same_text text same old new at next e w = subst (λ t. Wrote old at t new next) (sym e) w

-- A refusal by what it carries.
module _ (r : Refusal) (k p s : ℕ) (is : k ≡ number_of r) (c : Option DocNo) (told : carried_is c ≡ carried_by r) where
  pub denied-plain : c ≡ None → denied_text (number_of r) (carried_by r) p s ≡ (110 ∷ 111 ∷ []) ++ end_text k p s
  unfolding denied_text status_text
  denied-plain e = rw (sym is, sym told, e) refl

  module _ (d : DocNo) (e : c ≡ Some d) where
    abbrev hider : List ℕ
    hider = (32 ∷ 97 ∷ 116 ∷ []) ++ end_text d.0 p s

    pub denied-with : denied_text (number_of r) (carried_by r) p s ≡ (110 ∷ 111 ∷ []) ++ ((32 ∷ decimal k) ++ hider)
    unfolding denied_text status_text
    denied-with = rw (sym is, sym told, e) refl

    module _ (old : List ℕ) (at : ℕ) (room : at + length (denied_text (number_of r) (carried_by r) p s) ≤ length old) where
      all : at + length ((110 ∷ 111 ∷ []) ++ ((32 ∷ decimal k) ++ hider)) ≤ length old
      all = same-room _ _ at (length old) denied-with room

      pub room_no : at + 2 ≤ length old
      room_no = room_front at (length old) (110 ∷ 111 ∷ []) ((32 ∷ decimal k) ++ hider) all

      module _ (m1 : List ℕ) (k1 : ℕ) (w1 : Wrote old at (110 ∷ 111 ∷ []) m1 k1) where
        pub room_number : k1 + length (32 ∷ decimal k) ≤ length m1
        room_number = room_middle old at (110 ∷ 111 ∷ []) (32 ∷ decimal k) hider all m1 k1 w1

        module _ (m2 : List ℕ) (k2 : ℕ) (w2 : Wrote m1 k1 (32 ∷ decimal k) m2 k2) where
          pub room_hider : k2 + length hider ≤ length m2
          room_hider = room_end old at (110 ∷ 111 ∷ []) (32 ∷ decimal k) hider all m1 k1 w1 m2 k2 w2

          pub wrote_hider : (m3 : List ℕ) (k3 : ℕ) → Wrote m2 k2 hider m3 k3 → Wrote old at (denied_text (number_of r) (carried_by r) p s) m3 k3
          wrote_hider m3 k3 w3 = same_text _ _ old m3 at k3 denied-with (wrote_three old at (110 ∷ 111 ∷ []) (32 ∷ decimal k) hider all m1 k1 w1 m2 k2 w2 m3 k3 w3)

-- HOW LONG: "enough room" for any answer is 67 bytes.

-- The numbers of an answer are numbers of 64 bits, or less than 10 to the 20; a new window's are of 32 bits.
abbrev pub Small : Reply → Type 0
Small (Replies.Ok v s) = (v < tens 20) × (s.position < tens 20) × (s.steps < tens 20)
Small (Replies.Tab d f s) = (d.0 < tens 10) × (f.0 < tens 10) × (s.position < tens 20) × (s.steps < tens 20)
Small (Replies.No r s) = Narrow (carried_by r) × (s.position < tens 20) × (s.steps < tens 20)
Small Replies.Bad = Unit {0}

number_small : (r : Refusal) → number_of r < tens 2
number_small Refusals.ShortRecord = omega arith
number_small Refusals.Unsound = omega arith
number_small Refusals.NotSaved = omega arith
number_small Refusals.Absent = omega arith
number_small (Refusals.Hidden d) = omega arith
number_small Refusals.Beyond = omega arith
number_small Refusals.Full = omega arith
number_small Refusals.UsedUp = omega arith
number_small Refusals.ShortBuffer = omega arith
number_small Refusals.RootFrame = omega arith
number_small Refusals.NotFinite = omega arith
number_small Refusals.NoEntry = omega arith
number_small Refusals.NoRoot = omega arith
number_small Refusals.BadPlaces = omega arith

denied-within : (k : ℕ) (carried : List ℕ) (p s : ℕ) → k < tens 2 → Narrow carried → p < tens 20 → s < tens 20 → length (denied_text k carried p s) ≤ 66
unfolding denied_text
denied-within k [] p s l h x y = status-within 110 111 k p s (omega arith) x y
denied-within k (d ∷ carried) p s l h x y =
    let i = decimal-within 1 k l in
    let j = decimal-within 9 d (omega arith) in
    let m = status-about 97 116 d p s x y in
    simp length-append (omega arith)

pub answer-within : (reply : Reply) → Small reply → length (answer_text (reply_is reply)) ≤ 67
unfolding answer_text
answer-within (Replies.Ok v s) h = omega (arith, status-within 111 107 v s.position s.steps h.0 h.1 h.2)
answer-within (Replies.Tab d f s) h = tab-within d.0 f.0 s.position s.steps h.0 h.1 h.2 h.3
answer-within (Replies.No r s) h = omega (arith, denied-within (number_of r) (carried_by r) s.position s.steps (number_small r) h.0 h.1 h.2)
answer-within Replies.Bad h = omega arith
