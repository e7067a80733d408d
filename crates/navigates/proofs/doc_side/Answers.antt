-- The goals of `navigates::doc_side` that want a word.
use native.Mathlib.Omega.{arith}
use mathlib.Core.Path.{ap, sym, ◌∙◌}
use Rattle.rules.specs.Words.{rows_of}
use Rattle.reads.proofs.Scans.{found-lower}
use Rattle.navigates.specs.Sides.{side_if}
use Rattle.navigates.proofs.Looks.{doc-found, doc-lost}
use Rattle.navigates.proofs.doc_side.Goals as goal

pub root_of-requires : goal.root_of-requires
root_of-requires c = let below = found-lower _ _ _ (sym c.find_below.ensures ∙ c.in-Some.is) in
    record { fits = c.requires.fits; below = omega (arith, c.requires.upto) }

pub returns-in-Some : goal.returns-in-Some
returns-in-Some c = ap side_if (sym c.if-eq.true) ∙ doc-found _ (rows_of c.args.words.now) _ _ _ c.find_below.ensures _ _ _ c.in-Some.is c.root_of.ensures c.eq.ensures

pub returns-in-Some-2 : goal.returns-in-Some-2
returns-in-Some-2 c = ap side_if (sym c.if-eq.false) ∙ doc-found _ (rows_of c.args.words.now) _ _ _ c.find_below.ensures _ _ _ c.in-Some.is c.root_of.ensures c.eq.ensures

pub returns-in-None : goal.returns-in-None
returns-in-None c = doc-lost _ (rows_of c.args.words.now) _ _ _ c.find_below.ensures c.in-None.is
