-- The goals of `lists::list_upcoming` that want a word.
use Prim.Native.Nat.{ℕ, ◌+◌, ◌-◌, ◌≤◌, ◌<◌, max}
use mathlib.Core.List.{List}
use mathlib.Core.Path.{◌≡◌, refl, ap, ◌∙◌}
use native.Mathlib.Omega.{arith}
use mir.Val.{Fits}
use mir.Syntax.{w32}
use lib.ListN.{length, get_or, length-set}
use borrow.Author.Rules.{rules}
use Rattle.rules.specs.Words.{rows_of}
use Rattle.laws.proofs.Central.{position-steps}
use Rattle.laws.proofs.Standing.{upto-start, steps-most}
use Rattle.sound.specs.Survey.{Located}
use Rattle.sound.specs.declared.Stand.{Stand}
use Rattle.sound.proofs.Checks.{examined-fits}
use Rattle.lists.specs.Listing.{Begun}
use Rattle.lists.proofs.Alone.{alone-sound}
use Rattle.lists.proofs.Listing.{first-room, upcoming-from, upcoming-on, upcomings-done}
use Rattle.lists.proofs.list_upcoming.Goals as goal

-- The place in a list with room for the upcoming steps is within it.
room : (words : List ℕ) (s : Stand) → Located words s → Fits w32 (get_or words 1 0) → (b : ℕ) → Begun (rows_of words) b → (k i n : ℕ) →
    k ≡ max b s.upcoming.0 → k ≤ i → i < length (rows_of words) → s.steps - s.position ≤ n → (s.frames + s.position ≤ i) × (i - (s.frames + s.position) < n)
room words s h fits b begun k i n e x y p =
    let t = alone-sound words s h fits in
    let l = first-room (rows_of words) t.s6 t.s7 b begun i (s.frames + s.position) (omega arith) (omega (arith, ap (λ z. z.upcoming.0) h.stand-is)) y (ap (λ z. z.frames + z.position) h.stand-is) in
    (l.0, omega (arith, l.1, ap (λ z. z.steps - z.position) h.stand-is))

pub overflow_add-first : goal.overflow_add-first
overflow_add-first c = let h = examined-fits _ c.requires.0.examined in
    let p = ap (λ s. s.frames + s.position) c.requires.0.stand-is in
    let q = position-steps (rows_of c.args.words.now) in
    let r = steps-most (rows_of c.args.words.now) in search rules

pub loop-i-init : goal.loop-i-init
loop-i-init c = let t = alone-sound c.args.words.now _ c.requires.0 (c.type_inv.words 1) in
    (omega arith, omega (arith, c.max-start.ensures, ap (λ s. s.upcoming.0) c.requires.0.stand-is, c.requires.1.upto, upto-start (rows_of c.args.words.now) t.s6 t.s7), refl, λ old h. h)

pub document-requires : goal.document-requires
document-requires c = let h = examined-fits _ c.requires.0.examined in search rules

pub overflow_sub-upcoming : goal.overflow_sub-upcoming
overflow_sub-upcoming c = (room _ _ c.requires.0 (c.type_inv.words 1) _ c.requires.1 _ _ (length c.loop-i.upcoming) c.max-start.ensures c.loop-i.invariant.0 (omega arith) (omega arith)).0

pub bounds-upcoming-i : goal.bounds-upcoming-i
bounds-upcoming-i c = (room _ _ c.requires.0 (c.type_inv.words 1) _ c.requires.1 _ _ _ c.max-start.ensures c.loop-i.invariant.0 (omega arith) (omega arith)).1

pub loop-i-preserved : goal.loop-i-preserved
loop-i-preserved c = let t = alone-sound c.args.words.now _ c.requires.0 (c.type_inv.words 1) in (
  omega arith,
  omega arith,
  simp length-set c.loop-i.invariant.2,
  λ old h. upcoming-on (rows_of c.args.words.now) t.s6 t.s7 _ c.requires.1 _ _ _ old _ (omega (arith, c.max-start.ensures)) (omega (arith, c.max-start.ensures, ap (λ s. s.upcoming.0) c.requires.0.stand-is)) (omega arith) (ap (λ s. s.frames + s.position) c.requires.0.stand-is) c.document.ensures (c.loop-i.invariant.3 old h),
)

pub returns : goal.returns
returns c = let t = alone-sound c.args.words.now _ c.requires.0 (c.type_inv.words 1) in
    λ old h. upcomings-done (rows_of c.args.words.now) t.s6 t.s7 _ c.requires.1 _ old _ (omega arith) (omega arith)
    (c.loop-i.invariant.3 old (upcoming-from (rows_of c.args.words.now) t.s6 t.s7 _ c.requires.1 _ old _ (c.max-start.ensures ∙ ap (λ s. max c.args.from.0 s.upcoming.0) c.requires.0.stand-is) h))
