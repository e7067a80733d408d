-- The goals of `changes::shift_alone` that want a word.
use mathlib.Core.Path.{sym, ◌∙◌}
use mir.Syntax.{w32}
use mir.ValLaws.{to_z-of_z}
use Rattle.base.proofs.Refused.{handed-on}
use Rattle.traverses.proofs.Ways.{root-way, shift_by, stayed-way}
use Rattle.changes.proofs.Routes.{routes-alone}
use Rattle.changes.proofs.shift_alone.Goals as goal

pub returns-then-not-is_only_root : goal.returns-then-not-is_only_root
returns-then-not-is_only_root c = λ lent l. root-way c.args.words.now _ _ lent c.requires.examined (sym c.is_only_root.ensures ∙ c.if-not-is_only_root.true)

pub returns-in_err-trip : goal.returns-in_err-trip
returns-in_err-trip c =
    let by = to_z-of_z w32 c.args.delta c.ranges.delta in
    rw (handed-on _ _ c.from_residual.ensures.1) (stayed-way _ _ _ (sym c.is_only_root.ensures ∙ c.if-not-is_only_root.false) _ _ _ (shift_by _ _ _ _ _ _ by c.shift_sound.ensures) _ c.in_err-trip.was)

pub returns : goal.returns
returns c =
    let by = to_z-of_z w32 c.args.delta c.ranges.delta in
    routes-alone _ _ _ _ _ c.args.root (sym c.is_only_root.ensures ∙ c.if-not-is_only_root.false) (shift_by _ _ _ _ _ _ by c.shift_sound.ensures) _ c.in_ok-trip.was
