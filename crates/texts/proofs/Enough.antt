-- 67 bytes are room for any answer. Assumes nothing.
use Prim.Native.Nat.{ℕ, ◌+◌, ◌≤◌, ◌<◌}
use mir.Syntax.{w64}
use mir.Val.{Fits}
use native.Mathlib.Omega.{arith}
use mathlib.Core.List.{List}
use lib.ListN.{length}
use Rattle.laws.specs.Writes.{Wrote}
use Rattle.lines.specs.Reply.{reply_is, answer_text}
use Rattle.lines.specs.declared.Reply.{Reply}
use Rattle.lines.proofs.Texts.{tens}
use Rattle.lines.proofs.Answers.{Small, answer-within}

-- A number of 64 bits has at most 20 digits.
pub small : (n : ℕ) → Fits w64 n → n < tens 20
small n f = omega (arith, f.fits)

-- Where 67 bytes are left there is room.
pub room_for : (reply : Reply) (at m : ℕ) → Small reply → at + 67 ≤ m → at + length (answer_text (reply_is reply)) ≤ m
room_for reply at m h l = omega (arith, answer-within reply h)

-- And what was written ends within them.
pub written-short : (reply : Reply) (old new : List ℕ) (at r : ℕ) → Small reply → Wrote old at (answer_text (reply_is reply)) new r → Wrote old at (answer_text (reply_is reply)) new r × (r ≤ at + 67)
written-short reply old new at r h w = (w, omega (arith, w.past, answer-within reply h))
