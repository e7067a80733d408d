-- The goals of `extracts::take_out` that want a word.
use native.Mathlib.Omega.{arith}
use Rattle.rules.specs.Words.{rows_of}
use Rattle.sound.proofs.Checks.{examined-fits}
use Rattle.extracts.proofs.Taken.{gathered-long, gathered-few, taken_out}
use Rattle.extracts.proofs.take_out.Goals as goal

pub put_head-requires : goal.put_head-requires
put_head-requires c = (omega (arith, gathered-long _ (rows_of c.args.words.now) _ _ _ c.gather_rows-k.ensures), omega (arith, examined-fits c.args.words.now c.requires.0, gathered-few _ (rows_of c.args.words.now) _ _ _ c.gather_rows-k.ensures))

pub returns : goal.returns
returns c = taken_out c.args.words.now c.requires.0 _ _ _ _ _ _ c.gather_rows-k.ensures c.next_document-next.ensures c.next_frame_number-top.ensures c.put_head.ensures
