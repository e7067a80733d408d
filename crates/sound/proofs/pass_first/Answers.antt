-- The goals of `sound::pass_first` that want a word.
use Rattle.base.proofs.Compared.{same, apart}
use Rattle.rules.specs.Words.{rows_of}
use Rattle.sound.proofs.Passes.{headed-known, headed-none, headed-found, headed-lost, linked-first, opens-beneath, found_before}
use Rattle.sound.proofs.pass_first.Goals as goal

pub returns-then-eq : goal.returns-then-eq
returns-then-eq c = let rows = rows_of c.args.words.now in
    (linked-first rows _ _ c.requires.1 c.requires.3 _ (headed-none rows _ _ c.parent-up.ensures (same _ _ _ c.eq.ensures c.if-eq.true)), c.pass_open.ensures)

pub returns-then-eq-2 : goal.returns-then-eq-2
returns-then-eq-2 c = let rows = rows_of c.args.words.now in
    (linked-first rows _ _ c.requires.1 c.requires.3 _ (headed-known rows _ _ _ c.parent-up.ensures (same _ _ _ c.eq-2.ensures c.if-eq-2.true) c.requires.1.passed.known_is), c.pass_open-then-eq-2.ensures)

pub pass_open-requires-in-Some : goal.pass_open-requires-in-Some
pass_open-requires-in-Some c = (c.requires.0, c.requires.1, c.requires.3, opens-beneath (rows_of c.args.words.now) _ _ c.requires.1 c.requires.3 _ c.parent-up.ensures (apart _ _ _ c.eq.ensures c.if-eq.false) (found_before (rows_of c.args.words.now) _ _ _ _ c.find_below.ensures c.in-Some.is))

pub returns-in-Some : goal.returns-in-Some
returns-in-Some c = let rows = rows_of c.args.words.now in
    (linked-first rows _ _ c.requires.1 c.requires.3 _ (headed-found rows _ _ _ _ c.parent-up.ensures c.find_below.ensures c.in-Some.is), c.pass_open-in-Some.ensures)

pub returns-in-None : goal.returns-in-None
returns-in-None c = let rows = rows_of c.args.words.now in
    linked-first rows _ _ c.requires.1 c.requires.3 _ (headed-lost rows _ _ _ c.parent-up.ensures (apart _ _ _ c.eq.ensures c.if-eq.false) c.find_below.ensures c.in-None.is)
