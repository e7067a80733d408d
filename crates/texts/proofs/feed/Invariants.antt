-- What the loops of `texts::feed` keep.
use Prim.Native.Nat.{◌-◌}
use mathlib.Core.Path.{◌≡◌}
use lib.ListN.{length}
use Rattle.texts.specs.Feeds.{reader, Reads}
use Rattle.texts.proofs.feed.Given as goal

abbrev pub invariant-loop-at : goal.invariant-loop-at
invariant-loop-at l = Reads (reader l.initial.words l.initial.changes l.initial.line l.kept) l.text l.at (reader l.words l.changes l.line l.len) l.initial.out l.used l.out
    × (length l.line ≡ length l.initial.line) × (length l.words ≡ length l.initial.words) × (length l.changes ≡ length l.initial.changes) × (length l.out ≡ length l.initial.out)

abbrev pub decreases-loop-at : goal.decreases-loop-at
decreases-loop-at l = length l.text - l.at
