-- The goals of `lists::list_mixed` that want a word.
use Prim.Native.Nat.{ℕ, ◌-◌, ◌≤◌, ◌<◌}
use mathlib.Core.List.{List}
use mathlib.Core.Path.{◌≡◌, ap}
use native.Mathlib.Omega.{arith}
use mir.Val.{Fits}
use mir.Syntax.{w32}
use lib.ListN.{length, get_or}
use borrow.Author.Rules.{rules}
use Rattle.rules.specs.Below.{count}
use Rattle.rules.specs.Steps.{is_step}
use Rattle.rules.specs.Words.{rows_of}
use Rattle.laws.proofs.Loops.{count_none, count-more, count-within}
use Rattle.reads.specs.Within.{Within}
use Rattle.reads.proofs.Scans.{under_more, steps-fit}
use Rattle.sound.specs.Survey.{Located}
use Rattle.sound.specs.declared.Stand.{Stand}
use Rattle.sound.proofs.Checks.{examined-fits}
use Rattle.lists.proofs.Alone.{alone-sound}
use Rattle.lists.proofs.Listing.{lists-none, takens-more, upcomings-more, begun-later, begun-not-yet, begun-here}
use Rattle.lists.proofs.list_mixed.Goals as goal

-- There is a row yet, after i rows of which m are steps.
more : (words : List ℕ) (s : Stand) → Located words s → Fits w32 (get_or words 1 0) → (i m : ℕ) →
    i ≤ length (rows_of words) → m ≡ count (is_step (rows_of words)) i → m ≤ i → i - m < s.frames → Within words i
more words s h fits i m l e n b =
    let t = alone-sound words s h fits in
    record { fits = examined-fits words h.examined; below = begun-later (rows_of words) t.s6 t.s7 i m s.frames e n (ap (λ z. z.frames) h.stand-is) l b }

pub loop-i-init : goal.loop-i-init
loop-i-init c = let t = alone-sound c.args.words.now _ c.requires (c.type_inv.words 1) in
    let none = lists-none (rows_of c.args.words.now) t.s6 t.s7 c.args.taken.now c.args.upcoming.now in
    (omega arith, count_none _, omega arith, omega arith, λ k l. absurd (omega arith), none.0, none.1, λ k q t. absurd (omega arith))

pub is_step-step-requires : goal.is_step-step-requires
is_step-step-requires c = (more _ _ c.requires (c.type_inv.words 1) _ _ c.loop-i.invariant.0 c.loop-i.invariant.1 c.loop-i.invariant.2 c.loop-i-test.true, c.loop-i.invariant.4)

pub document-d-requires : goal.document-d-requires
document-d-requires c = more _ _ c.requires (c.type_inv.words 1) _ _ c.loop-i.invariant.0 c.loop-i.invariant.1 c.loop-i.invariant.2 c.loop-i-test.true

pub frame-requires : goal.frame-requires
frame-requires c = more _ _ c.requires (c.type_inv.words 1) _ _ c.loop-i.invariant.0 c.loop-i.invariant.1 c.loop-i.invariant.2 c.loop-i-test.true

pub overflow_add-m : goal.overflow_add-m
overflow_add-m c = rw c.from-m.ensures (steps-fit _ _ _ c.is_step-step.result c.loop-i.invariant.2
    (more _ _ c.requires (c.type_inv.words 1) _ _ c.loop-i.invariant.0 c.loop-i.invariant.1 c.loop-i.invariant.2 c.loop-i-test.true))

pub overflow_add-i : goal.overflow_add-i
overflow_add-i c = let w = more _ _ c.requires (c.type_inv.words 1) _ _ c.loop-i.invariant.0 c.loop-i.invariant.1 c.loop-i.invariant.2 c.loop-i-test.true in search rules

pub loop-i-smaller : goal.loop-i-smaller
loop-i-smaller c = omega (arith, (more _ _ c.requires (c.type_inv.words 1) _ _ c.loop-i.invariant.0 c.loop-i.invariant.1 c.loop-i.invariant.2 c.loop-i-test.true).below)

pub loop-i-preserved : goal.loop-i-preserved
loop-i-preserved c = let t = alone-sound c.args.words.now _ c.requires (c.type_inv.words 1) in
    let p = ap (λ s. s.position) c.requires.stand-is in
    let rows = rows_of c.args.words.now in
    let l = (more _ _ c.requires (c.type_inv.words 1) _ _ c.loop-i.invariant.0 c.loop-i.invariant.1 c.loop-i.invariant.2 c.loop-i-test.true).below in
    rw c.from-m.ensures (
      omega arith,
      count-more _ _ _ _ c.loop-i.invariant.1 c.is_step-step.ensures,
      count-within _ _ c.is_step-step.result c.loop-i.invariant.2,
      omega arith,
      under_more _ _ _ _ c.loop-i.invariant.4 (omega arith),
      takens-more rows t.s6 t.s7 _ _ _ _ _ _ _ l c.is_step-step.ensures c.loop-i.invariant.1 c.document-d.ensures c.loop-i.invariant.5 (rw p at c.list_step.ensures.takens),
      upcomings-more rows t.s6 t.s7 _ _ _ _ _ _ _ l c.is_step-step.ensures c.loop-i.invariant.1 c.document-d.ensures c.loop-i.invariant.6 (rw p at c.list_step.ensures.upcomings),
      begun-not-yet rows t.s6 t.s7 _ _ _ c.loop-i.invariant.1 c.loop-i.invariant.2 (ap (λ s. s.frames) c.requires.stand-is) _ c.is_step-step.ensures (omega arith),
    )

pub returns-clause-begun : goal.returns-clause-begun
returns-clause-begun c = let t = alone-sound c.args.words.now _ c.requires (c.type_inv.words 1) in
    begun-here (rows_of c.args.words.now) t.s6 t.s7 _ _ _ c.loop-i.invariant.1 c.loop-i.invariant.2 (ap (λ s. s.frames) c.requires.stand-is) c.loop-i.invariant.0 c.loop-i.invariant.3 c.loop-i.invariant.7 (omega arith)
