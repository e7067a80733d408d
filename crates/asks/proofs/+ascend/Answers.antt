-- The goals of `asks::ascend` that want a word.
use mathlib.Core.Path.{sym, ◌∙◌}
use native.Mathlib.Omega.{arith}
use Rattle.base.proofs.Compared.{same, apart}
use Rattle.rules.specs.Words.{rows_of}
use Rattle.reads.proofs.Scans.{found-lower}
use Rattle.asks.proofs.Climbs.{hidden-ends, root_ends, climb-goes, lost-ends, coded-document, coded-nobody, coded-further, coded-lost, link_fits}
use Rattle.asks.proofs.+ascend.Goals as goal

pub returns-then-not-is_shown : goal.returns-then-not-is_shown
returns-then-not-is_shown t c =
    let w = c.wide.ensures in
    coded-document _ _ _ (hidden-ends (rows_of c.args.words.now.now) _ _ c.is_shown.ensures c.if-not-is_shown.true) (w.0 ∙ c.document.ensures) w.1

pub returns-then-eq : goal.returns-then-eq
returns-then-eq t c =
    coded-nobody _ (root_ends (rows_of c.args.words.now.now) _ _ c.is_shown.ensures _ c.if-not-is_shown.false c.parent-up.ensures (same _ _ _ c.eq.ensures c.if-eq.true))

pub ascend-requires : goal.ascend-requires
ascend-requires t c =
    let below = found-lower _ _ _ (sym c.find_below.ensures ∙ c.in-Some.is) in
    (omega (arith, below), record { fits = c.requires.fits; below = omega (arith, below, c.requires.below) })

pub overflow_add-result : goal.overflow_add-result
overflow_add-result t c =
    let below = found-lower _ _ _ (sym c.find_below.ensures ∙ c.in-Some.is) in
    omega (arith, link_fits c.args.words.now.now _ _ (record { fits = c.requires.fits; below = omega (arith, below, c.requires.below) }) c.ascend.ensures)

pub returns-in-Some : goal.returns-in-Some
returns-in-Some t c =
    coded-further _ _ _ (climb-goes (rows_of c.args.words.now.now) _ _ c.is_shown.ensures _ c.if-not-is_shown.false c.parent-up.ensures
    _ (apart _ _ _ c.eq.ensures c.if-eq.false) c.find_below.ensures _ c.in-Some.is) c.ascend.ensures

pub returns-in-None : goal.returns-in-None
returns-in-None t c =
    let w = c.wide-in-None.ensures in
    coded-lost _ _ (lost-ends (rows_of c.args.words.now.now) _ _ c.is_shown.ensures _ c.if-not-is_shown.false c.parent-up.ensures
    _ (apart _ _ _ c.eq.ensures c.if-eq.false) c.find_below.ensures c.in-None.is) w.0 w.1
