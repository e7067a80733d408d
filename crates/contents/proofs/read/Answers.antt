-- The goals of `contents::read` that want a word.
use Rattle.std.proofs.Common.{◌≡◌}
use Rattle.std.proofs.lemmas.Result.{err_from_is_err_and}
use Rattle.base.specs.declared.Refusal.TheVariants.{NotSaved}
use Rattle.contents.proofs.Summing.{read-wrong, not-long, read_right}
use Rattle.contents.proofs.read.Goals as goal

pub returns-in_err-s : goal.returns-in_err-s
returns-in_err-s c =
    let p = err_from_is_err_and c.from_residual.result c.from_residual.ensures.1 in
    let none = c.in_err-s.ensures.ok_part in
    let e : c.in_err-s.field-0.0 ≡ NotSaved = cc (rw none at c.in_err-s.ensures.value) in
    rw (p.1, p.2, e) (read-wrong c.args.bytes.now c.args.width (rw none at c.sum_up.ensures c.args.width))

pub returns-then-bytes-s : goal.returns-then-bytes-s
returns-then-bytes-s c = read-wrong c.args.bytes.now c.args.width (not-long c.args.bytes.now c.args.width _ (rw c.in_ok-s.ensures.ok_part at c.sum_up.ensures) c.if-bytes-s.true)

pub returns : goal.returns
returns c = read_right c.args.bytes.now c.args.width _ (rw c.in_ok-s.ensures.ok_part at c.sum_up.ensures) c.if-bytes-s.false
