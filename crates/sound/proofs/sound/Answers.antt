-- The goals of `sound::sound` that want a word.
use mathlib.Core.Path.{sym}
use native.Mathlib.Omega.{arith}
use Rattle.rules.specs.Words.{rows_of}
use Rattle.laws.proofs.Words.{next-doc-in}
use Rattle.sound.proofs.Verdict.{told-fails, told-holds, sound-stops, sound-goes}
use Rattle.sound.proofs.sound.Goals as goal

pub returns-in-None : goal.returns-in-None
returns-in-None c = sym (sound-stops c.args.words.now (omega (arith, c.shared_slice_known-1.given 1, next-doc-in c.args.words.now)) (told-fails (rows_of c.args.words.now) _ _ _ c.test.ensures c.in-None.is))

pub returns-in-Some : goal.returns-in-Some
returns-in-Some c = sound-goes c.args.words.now (omega (arith, c.shared_slice_known-1.given 1, next-doc-in c.args.words.now)) _ (told-holds (rows_of c.args.words.now) _ _ _ c.test.ensures _ c.in-Some.is).0 c.is_in_order.ensures
