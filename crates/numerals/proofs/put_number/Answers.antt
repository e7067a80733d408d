-- The goals of `numerals::put_number` that want a word.
use mathlib.Core.Path.{refl, ◌∙◌}
use native.Mathlib.Omega.{arith}
use Rattle.numerals.proofs.Parts.{number_wrote}
use Rattle.numerals.proofs.put_number.Goals as goal

pub returns : goal.returns
returns c = (number_wrote _ _ _ _ (omega arith) c.requires (c.copy_from_slice.ensures.after ∙ c.to_be_bytes.ensures), refl)
