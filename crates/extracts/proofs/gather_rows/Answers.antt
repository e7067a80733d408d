-- The goals of `extracts::gather_rows` that want a word.
use Prim.Native.Nat.{◌≤◌}
use mathlib.Core.Path.{sym, subst}
use native.Mathlib.Omega.{arith}
use Rattle.rules.specs.Rows.{none}
use Rattle.rules.specs.Words.{table_of, rows_of}
use Rattle.laws.proofs.Words.{next-doc-in}
use Rattle.members.specs.Members.{Recalls}
use Rattle.members.proofs.Members.{nothing-recalled}
use Rattle.sound.proofs.Checks.{examined-fits}
use Rattle.extracts.proofs.Taken.{examined-kin, starts, gathered_none, gathered-more, gathered-long, gathered-few}
use Rattle.extracts.proofs.gather_rows.Goals as goal

pub loop-i-init : goal.loop-i-init
loop-i-init c = let w : (table_of c.args.words.now).next_doc ≤ none = omega (arith, c.shared_slice_known-1.given 1, next-doc-in c.args.words.now) in
    (gathered_none _ (rows_of c.args.words.now) _ c.requires.2, subst (Recalls _ (rows_of c.args.words.now)) (sym c.nothing_known-known.ensures) (nothing-recalled (rows_of c.args.words.now) (examined-kin c.args.words.now c.requires.0 w) _))

pub belongs_past-m-requires : goal.belongs_past-m-requires
belongs_past-m-requires c = let w : (table_of c.args.words.now).next_doc ≤ none = omega (arith, c.shared_slice_known-1.given 1, next-doc-in c.args.words.now) in
    (record { fits = examined-fits _ c.requires.0; below = omega (arith, c.row_count-i-end.ensures) }, c.requires.1, starts c.args.words.now c.requires.0 w _, c.loop-i.invariant.1)

pub gather_row-k-requires : goal.gather_row-k-requires
gather_row-k-requires c = (
  record { fits = examined-fits _ c.requires.0; below = omega (arith, c.row_count-i-end.ensures) },
  omega (arith, examined-fits c.args.words.now c.requires.0, c.row_count-i-end.ensures, gathered-long _ (rows_of c.args.words.now) _ _ _ c.loop-i.invariant.0, gathered-few _ (rows_of c.args.words.now) _ _ _ c.loop-i.invariant.0),
)

pub loop-i-preserved : goal.loop-i-preserved
loop-i-preserved c = (gathered-more _ (rows_of c.args.words.now) _ _ _ _ _ _ c.belongs_past-m.ensures.inside_is c.loop-i.invariant.0 c.gather_row-k.ensures, c.belongs_past-m.ensures.recalls)
