-- The goals of `lines::put_decimal` that want a word.
use native.Mathlib.Omega.{arith}
use Rattle.lines.proofs.Texts.{room-one, room-more, wrote-below, wrote_one, wrote-more}
use Rattle.lines.proofs.+put_decimal.Goals as goal

pub put_byte-requires : goal.put_byte-requires
put_byte-requires t c = room-one _ _ _ c.requires c.if-n-lt10.true

pub returns-then-n-lt10 : goal.returns-then-n-lt10
returns-then-n-lt10 t c = wrote_one _ _ _ _ _ c.if-n-lt10.true c.put_byte.ensures

pub put_decimal-k-requires : goal.put_decimal-k-requires
put_decimal-k-requires t c =
    let m = room-more _ _ _ c.requires c.if-n-lt10.false in
    let l = c.if-n-lt10.false in
    (omega arith, omega arith)

pub put_byte-requires-2 : goal.put_byte-requires-2
put_byte-requires-2 t c = wrote-below _ _ _ _ _ c.put_decimal-k.ensures (room-more _ _ _ c.requires c.if-n-lt10.false)

pub returns : goal.returns
returns t c = wrote-more _ _ _ _ _ _ _ c.if-n-lt10.false c.put_decimal-k.ensures c.put_byte-2.ensures
