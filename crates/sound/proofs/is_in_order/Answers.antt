-- The goals of `sound::is_in_order` that want a word.
use native.Mathlib.Omega.{arith}
use borrow.Author.Tests.{not-true, not-false}
use Rattle.rules.specs.Words.{rows_of}
use Rattle.laws.proofs.Words.{next-doc-in}
use Rattle.sound.proofs.Verdict.{order-calm, order-alone, firm-kept, firm-fits}
use Rattle.sound.proofs.Calm.{firm-kin, order-first}
use Rattle.sound.proofs.is_in_order.Goals as goal

pub returns-then-not-p : goal.returns-then-not-p
returns-then-not-p c = order-calm (rows_of c.args.words.now) _ c.requires.1 (not-true _ c.if-not-p.true)

pub returns-then-not-p-2 : goal.returns-then-not-p-2
returns-then-not-p-2 c = order-alone (rows_of c.args.words.now) _ c.requires.1 _ _ (omega (arith, c.shared_slice_known-1.given 1, next-doc-in c.args.words.now)) (firm-kept c.args.words.now c.requires.0) (not-false _ c.if-not-p.false) (not-true _ c.if-not-p-2.true)

pub windows_calm-requires : goal.windows_calm-requires
windows_calm-requires c = let o = order-first (rows_of c.args.words.now) _ c.requires.1 (not-false _ c.if-not-p.false) in
    (record { fits = firm-fits c.args.words.now c.requires.0; below = o.0 }, firm-kin c.args.words.now (omega (arith, c.shared_slice_known-1.given 1, next-doc-in c.args.words.now)) c.requires.0, o.1, o.2)
