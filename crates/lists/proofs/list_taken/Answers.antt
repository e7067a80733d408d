-- The goals of `lists::list_taken` that want a word.
use Prim.Native.Nat.{ℕ, ◌-◌, ◌≤◌, ◌<◌}
use mathlib.Core.List.{List}
use mathlib.Core.Path.{ap}
use native.Mathlib.Omega.{arith}
use mir.Val.{Fits}
use mir.Syntax.{w32}
use lib.ListN.{length, get_or, length-set}
use borrow.Author.Rules.{rules}
use Rattle.rules.specs.Words.{rows_of}
use Rattle.laws.proofs.Standing.{upto-start}
use Rattle.sound.specs.Survey.{Located}
use Rattle.sound.specs.declared.Stand.{Stand}
use Rattle.sound.proofs.Checks.{examined-fits}
use Rattle.lists.specs.Listing.{Begun}
use Rattle.lists.proofs.Alone.{alone-sound}
use Rattle.lists.proofs.Listing.{taken-room, taken-on, takens-done}
use Rattle.lists.proofs.list_taken.Goals as goal

-- The place in a list with room for the taken steps is within it.
room : (words : List ℕ) (s : Stand) → Located words s → Fits w32 (get_or words 1 0) → (b : ℕ) → Begun (rows_of words) b → (i n : ℕ) →
    b ≤ i → i < s.upcoming.0 → s.position ≤ n → s.upcoming.0 - 1 - i < n
room words s h fits b begun i n x y p =
    let t = alone-sound words s h fits in
    let end = ap (λ z. z.upcoming.0) h.stand-is in
    omega (arith, end, ap (λ z. z.position) h.stand-is, taken-room (rows_of words) t.s6 t.s7 b begun i x (omega (arith, end)))

pub document-requires : goal.document-requires
document-requires c = let h = examined-fits _ c.requires.0.examined in
    let t = alone-sound c.args.words.now _ c.requires.0 (c.type_inv.words 1) in
    record { fits = h; below = omega (arith, ap (λ s. s.upcoming.0) c.requires.0.stand-is, upto-start (rows_of c.args.words.now) t.s6 t.s7) }

pub offset_bounds-taken-end : goal.offset_bounds-taken-end
offset_bounds-taken-end c = let l = room _ _ c.requires.0 (c.type_inv.words 1) _ c.requires.1 c.loop-i.i (length c.loop-i.taken) c.loop-i.invariant.0 c.loop-i-test.true (omega arith) in search rules

pub bounds-taken-end : goal.bounds-taken-end
bounds-taken-end c = room _ _ c.requires.0 (c.type_inv.words 1) _ c.requires.1 _ _ c.loop-i.invariant.0 c.loop-i-test.true (omega arith)

pub loop-i-preserved : goal.loop-i-preserved
loop-i-preserved c = let t = alone-sound c.args.words.now _ c.requires.0 (c.type_inv.words 1) in
    let end = ap (λ s. s.upcoming.0) c.requires.0.stand-is in (
      omega arith,
      omega (arith, end, upto-start (rows_of c.args.words.now) t.s6 t.s7),
      simp length-set c.loop-i.invariant.2,
      λ old h. rw end (taken-on (rows_of c.args.words.now) t.s6 t.s7 _ c.requires.1 _ _ old _ c.loop-i.invariant.0 (omega arith) c.document.ensures (c.loop-i.invariant.3 old h)),
    )

pub returns : goal.returns
returns c = let t = alone-sound c.args.words.now _ c.requires.0 (c.type_inv.words 1) in
    λ old h. takens-done (rows_of c.args.words.now) t.s6 t.s7 _ c.requires.1 _ old _ (omega (arith, ap (λ s. s.upcoming.0) c.requires.0.stand-is)) c.loop-i.invariant.1 (c.loop-i.invariant.3 old h)
