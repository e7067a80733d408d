-- The goals of `turns::turn` that want a word.
use mathlib.Core.Path.{refl, ap, ◌∙◌}
use Rattle.std.specs.Prelude.{Some}
use mir.Syntax.{w32}
use mir.ValLaws.{to_z-of_z}
use Rattle.lines.specs.Lines.{command_is}
use Rattle.turns.proofs.Told.{turned_by, turned-gone}
use Rattle.turns.proofs.turn.Goals as goal

pub returns-in-Open : goal.returns-in-Open
returns-in-Open c = turned_by c.args.words.now c.args.changes.now c.args.line.now
    c.parse.result _ _ c.parse.ensures (ap command_is (c.in-Some.is ∙ ap Some c.in-Open.is)) (c.open_line.ensures c.args.changes.now)

pub returns-in-Nav : goal.returns-in-Nav
returns-in-Nav c = turned_by c.args.words.now c.args.changes.now c.args.line.now
    c.parse.result _ _ c.parse.ensures (ap command_is (c.in-Some.is ∙ ap Some c.in-Nav.is)) (c.nav_line.ensures c.args.changes.now)

pub returns-in-Go : goal.returns-in-Go
returns-in-Go c = turned-gone c.args.words.now c.args.changes.now c.args.line.now
    c.parse.result _ _ _ _ c.parse.ensures (ap command_is (c.in-Some.is ∙ ap Some c.in-Go.is)) (to_z-of_z w32 c.in-Go.delta (record { sfits = c.in-Go.known_told-in-Go-1-own.given.1.0.1 })) c.go_line.ensures

pub returns-in-Drop : goal.returns-in-Drop
returns-in-Drop c = turned_by c.args.words.now c.args.changes.now c.args.line.now
    c.parse.result _ _ c.parse.ensures (ap command_is (c.in-Some.is ∙ ap Some c.in-Drop.is)) (c.drop_line.ensures c.args.changes.now)

pub returns-in-Replace : goal.returns-in-Replace
returns-in-Replace c = turned_by c.args.words.now c.args.changes.now c.args.line.now
    c.parse.result _ _ c.parse.ensures (ap command_is (c.in-Some.is ∙ ap Some c.in-Replace.is)) (c.replace_line.ensures c.args.changes.now)

pub returns-in-Tab : goal.returns-in-Tab
returns-in-Tab c = turned_by c.args.words.now c.args.changes.now c.args.line.now
    c.parse.result _ _ c.parse.ensures (ap command_is (c.in-Some.is ∙ ap Some c.in-Tab.is)) (c.tab_line.ensures c.args.changes.now)

pub returns-in_default : goal.returns-in_default
returns-in_default c = turned_by c.args.words.now c.args.changes.now c.args.line.now
    c.parse.result _ _ c.parse.ensures (ap command_is c.in_default.is) refl
