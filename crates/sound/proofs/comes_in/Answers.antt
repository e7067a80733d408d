-- The goals of `sound::comes_in` that want a word.
use mathlib.Core.Path.{◌∙◌}
use Prim.Native.Nat.{◌+◌, ◌*◌}
use native.Mathlib.Omega.{arith}
use Rattle.rules.specs.Words.{rows_of}
use Rattle.laws.proofs.Words.{frame-in}
use Rattle.sound.proofs.Calm.{comes-not, comes-there}
use Rattle.sound.proofs.comes_in.Goals as goal

pub comes_at-requires : goal.comes_at-requires
comes_at-requires c = (c.requires, λ k l. omega (arith, c.shared_slice_known-1.given (4 + 4 * k), frame-in c.args.words.now k (omega (arith, c.requires.below))))

pub returns-then-not-comes_at : goal.returns-then-not-comes_at
returns-then-not-comes_at c = comes-not (rows_of c.args.words.now) _ _ c.comes_at.ensures _ c.if-not-comes_at.true

pub returns : goal.returns
returns c = c.eq.ensures ∙ comes-there (rows_of c.args.words.now) _ _ c.comes_at.ensures _ _ c.if-not-comes_at.false c.root_of.ensures
