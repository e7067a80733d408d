-- What the script program does to what its input has left and to what its output holds, where these are known. Definitions.
use Rattle.std.specs.Prelude.{ℕ, List, ◌<◌, Option}
use Rattle.std.specs.Io.KnownBytes.{Appends, Consumes, IsAtEnd}
use Rattle.texts.specs.Feeds.{Reader, read_by, printed_by, Same}
use Rattle.script.specs.declared.Input.{Input}
use Rattle.script.specs.declared.Input.TheVariants.{More, End}

-- A part of a text was answered by a reader that stood at `s` and stands at `r` then, and the output holds the answers behind what it held.
pub record Answers (s : Reader) (part : List ℕ) (r : Reader) (held held' : Option (List ℕ)) : Type 0 where
  pub stands : Same r (read_by s part)
  pub prints : Appends held held' (printed_by s part)

-- A part of what the input had left was taken and answered.
pub record Takes (left left' : Option (List ℕ)) (s r : Reader) (held held' : Option (List ℕ)) : Type 0 where
  pub part : List ℕ
  pub consumes : Consumes left left' part
  pub told : Answers s part r held held'

-- A read into so many bytes of room: what it gave is answered, and the input has ended only where nothing is left.
abbrev pub ReadsOnce : Input → ℕ → Option (List ℕ) → Option (List ℕ) → Reader → (ℕ → Reader) → Option (List ℕ) → Option (List ℕ) → Type 0
ReadsOnce (More n) room left left' s r held held' = Takes left left' s (r n) held held'
ReadsOnce (End n) room left left' s r held held' = Takes left left' s (r n) held held' × (0 < room → IsAtEnd left')
