-- `script::finish` writes the answer to the last line. Assumes nothing.
use Rattle.std.proofs.Common.{subst}
use Rattle.std.proofs.lemmas.Result.{on_ok_weaker}
use Rattle.std.specs.Io.KnownBytes.{Appends}
use Rattle.texts.proofs.Sessions.{finish-prints}
use Rattle.script.proofs.finish.Goals as goal

pub returns : goal.returns
returns g c =
    let last = finish-prints _ _ _ _ _ _ _ _ _ c.in-Some.ensures in
    on_ok_weaker c.print.result (λ p. λ room. subst (Appends _ _) last p) c.print.ensures
