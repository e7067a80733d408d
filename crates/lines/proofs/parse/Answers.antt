-- The goals of `lines::parse` that want a word.
use mathlib.Core.Path.{◌∙◌}
use native.Mathlib.Omega.{arith}
use Rattle.lines.proofs.Commands.{parse_long, parse_words}
use Rattle.lines.proofs.parse.Goals as goal

pub returns-then-line-gt64 : goal.returns-then-line-gt64
returns-then-line-gt64 c = parse_long c.args.line.now (omega arith)

pub returns : goal.returns
returns c = c.worded.ensures ∙ parse_words c.args.line.now (omega arith)
