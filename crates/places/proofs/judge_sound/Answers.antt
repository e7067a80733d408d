-- The goals of `places::judge_sound` that want a word.
use mathlib.Core.Path.{ap, ◌∙◌}
use Rattle.rules.specs.Rows.{in_record}
use Rattle.places.proofs.Judged.{judged-bad, judged-absent, judged-there}
use Rattle.places.proofs.judge_sound.Goals as goal

pub returns-then-not-are_fine : goal.returns-then-not-are_fine
returns-then-not-are_fine c = judged-bad c.args.words.now c.args.places.now _ c.requires _ c.are_fine.ensures c.if-not-are_fine.true

pub returns-then-not-in_record : goal.returns-then-not-in_record
returns-then-not-in_record c = judged-absent c.args.words.now c.args.places.now c.args.d.0 c.requires _ c.are_fine.ensures c.if-not-are_fine.false _ (c.in_record.ensures ∙ ap (in_record _) c.from.ensures) c.if-not-in_record.true

pub returns : goal.returns
returns c = judged-there c.args.words.now c.args.places.now c.args.d.0 c.requires _ c.are_fine.ensures c.if-not-are_fine.false _ (c.in_record.ensures ∙ ap (in_record _) c.from.ensures) c.if-not-in_record.false
