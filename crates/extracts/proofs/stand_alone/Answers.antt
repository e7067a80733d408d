-- The goals of `extracts::stand_alone` that want a word.
use Prim.Native.Nat.{◌≤◌}
use native.Mathlib.Omega.{arith}
use Rattle.rules.specs.Rows.{none}
use Rattle.rules.specs.Words.{table_of}
use Rattle.laws.proofs.Words.{next-doc-in}
use Rattle.extracts.proofs.Stands.{scan-stands}
use Rattle.extracts.proofs.stand_alone.Goals as goal

pub returns : goal.returns
returns c = let w : (table_of c.args.own.now).next_doc ≤ none = omega (arith, c.shared_slice_known-1.given 1, next-doc-in c.args.own.now) in
    scan-stands c.args.own.now c.requires.0 c.requires.1 w _ c.scan_all-s.ensures
