-- The goals of `lists::count_window` that want a word.
use Prim.Native.Nat.{◌≤◌}
use native.Mathlib.Omega.{arith}
use Rattle.rules.specs.Rows.{none}
use Rattle.rules.specs.Words.{table_of, rows_of}
use Rattle.laws.proofs.Words.{next-doc-in}
use Rattle.sound.proofs.Checks.{examined-fits}
use Rattle.extracts.proofs.Taken.{examined-kin}
use Rattle.lists.proofs.Tallies.{tally-none}
use Rattle.lists.proofs.count_window.Goals as goal

pub loop-i-init : goal.loop-i-init
loop-i-init c = let w : (table_of c.args.words.now).next_doc ≤ none = omega (arith, c.type_inv.words 1, next-doc-in c.args.words.now) in
    tally-none _ (rows_of c.args.words.now) (examined-kin c.args.words.now c.requires w) _ c.nothing_known.ensures

pub tally_row-t-requires : goal.tally_row-t-requires
tally_row-t-requires c = (record { fits = examined-fits _ c.requires; below = omega (arith, c.row_count-i-end.ensures) }, c.loop-i.invariant)
