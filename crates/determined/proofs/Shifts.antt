-- What the promise of `shift` determines: the answer, the record, and the words of the change rows. Assumes nothing.
use Prim.Native.Nat.{ℕ, ◌+◌, ◌*◌, ◌≤◌}
use native.Mathlib.Omega.{arith}
use mathlib.Core.Bool.{So}
use mathlib.Core.List.{List, []}
use mathlib.Core.Path.{◌≡◌, refl, ap, sym, ◌∙◌}
use lib.IntN.{ℤ}
use lib.ListN.{length, get_or, replicate, length-replicate}
use lib.Seq.{ext_get_or}
use borrow.Author.Tests.{eq-eqb}
use Rattle.rules.specs.Rows.{frame_at}
use Rattle.rules.specs.Windows.{is_root}
use Rattle.rules.specs.Words.{put, rows_of}
use Rattle.laws.proofs.Writes.{get-put-in}
use Rattle.sound.specs.declared.Stand.{Stand}
use Rattle.sound.specs.Survey.{Located}
use Rattle.extracts.proofs.Heads.{only-root}
use Rattle.std.specs.Prelude.{Result, Ok, Err}
use Rattle.base.specs.declared.Refusal.{Refusal}
use Rattle.traverses.specs.declared.Trip.{Trip}
use Rattle.traverses.specs.Answers.{answer_of, shift_text, Shifts}
use Rattle.determined.proofs.Injective.{traversed-injective}

-- Texts of one length that make the same of a run are the same.
text-alike : (l vs ws : List ℕ) → length vs ≡ length ws → length vs ≤ length l → put l 0 vs ≡ put l 0 ws → vs ≡ ws
text-alike l vs ws n h e =
    ext_get_or 0 vs ws n (λ k u. sym (get-put-in l vs 0 k (omega arith) u) ∙ ap (λ z. get_or z (0 + k) 0) e ∙ get-put-in l ws 0 k (omega arith) (omega arith))

-- How many change rows an answer tells of; the words of a shift's are four times so many, and there is room for them.
rows_in : Result ℕ Refusal → ℕ
rows_in (Ok n) = n
rows_in (Err r) = 0

text-sized : (words : List ℕ) (δ : ℤ) (room : ℕ) (s : Result Trip Refusal) (new : List ℕ) → Shifts words δ room s new → (length (shift_text new s) ≡ 4 * rows_in (answer_of s)) × (rows_in (answer_of s) ≤ room)
unfolding rows_in
text-sized words δ room (Ok t) new h = let a = h.arrived t refl in (sym a.sized, a.fits)
text-sized words δ room (Err r) new h = (refl, omega arith)

-- Shifts of one record of one window by one amount, with room for as many change rows: both say what Traverse leaves in a run of that room.
pub shift-alike : (words : List ℕ) (stand : Stand) → Located words stand → (δ : ℤ) (room : ℕ) (s q : Result Trip Refusal) (new new' : List ℕ) → Shifts words δ room s new → Shifts words δ room q new' →
    (answer_of s ≡ answer_of q) × (new ≡ new') × (shift_text new s ≡ shift_text new' q)
shift-alike words stand at δ room s q new new' h k =
    let f = frame_at (rows_of words) 0 in
    let root : So (is_root (rows_of words) f) = sym (only-root words stand at f) ∙ eq-eqb f f refl in
    let blank : List ℕ = replicate (4 * room) 0 in
    let l : length blank ≡ 4 * room = length-replicate (4 * room) 0 in
    let g = sym (h.outcome-is f root blank (omega arith)) ∙ k.outcome-is f root blank (omega arith) in
    let a = traversed-injective (answer_of s) (answer_of q) (ap (λ o. o.answer) g) in
    let n = ap rows_in a in
    let u = text-sized words δ room s new h in
    let v = text-sized words δ room q new' k in (
      a,
      ap (λ o. get_or o.lent 0 []) g,
      text-alike blank (shift_text new s) (shift_text new' q) (omega arith) (omega arith) (ap (λ o. get_or o.lent 1 []) g),
    )
