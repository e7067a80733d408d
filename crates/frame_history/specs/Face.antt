-- What a host sees of a call. Definitions.
use Rattle.std.specs.Prelude.{ℕ, ◌<◌, ◌^◌, List, [], ◌∷◌, Result, Ok, Err, ◌≡◌, Float}
use Rattle.std.specs.Float.{binary64}
use Rattle.std.specs.Float.Ieee.{to_bits}
use Rattle.rules.specs.Words.{put}
use Rattle.rules.specs.Calls.{Answer, Outcome}
use Rattle.places.specs.Answers.{placed_is}
use Rattle.contents.specs.declared.Told.{Told as Contents}
use Rattle.contents.specs.Answers.{told_is}
use Rattle.points.specs.declared.Place.{Place}
use Rattle.base.specs.declared.DocNo.{DocNo}
use Rattle.base.specs.declared.Refusal.{Refusal}
use Rattle.base.specs.Answers.{answered}

-- The number returned, what the out words hold then, and what the runs hold then that were lent to write in.
pub record Face : Type 0 where
  pub number : ℕ
  pub outs : List ℕ
  pub lent : List (List ℕ)

-- An answer as a host sees it: 0 and the values, or the refusal's number and the out words as they were.
abbrev pub shown : Answer → List ℕ → List (List ℕ) → Face
shown (Answer.gives values) olds runs = record { number = 0; outs = values; lent = runs }
shown (Answer.refuses k carried) olds runs = record { number = k; outs = olds; lent = runs }

-- An outcome as a host sees it whose out words held `olds` before; the lent runs are as the outcome leaves them.
abbrev pub face : Outcome → List ℕ → Face
face o olds = shown o.answer olds o.lent

-- The out word for what a refusal carries: that, or what it held.
abbrev pub carried_or : List ℕ → ℕ → ℕ
carried_or [] old = old
carried_or (d ∷ carried) old = d

abbrev pub hiding_in : Answer → ℕ → ℕ
hiding_in (Answer.gives values) old = old
hiding_in (Answer.refuses k carried) old = carried_or carried old

-- What a host sees of a call whose refusal 5 carries a document: that through one more out word, "written on refusal 5 only and kept otherwise".
pub record HidingFace : Type 0 where
  pub seen : Face
  pub hiding : ℕ

abbrev pub hiding_face : Outcome → List ℕ → ℕ → HidingFace
hiding_face o olds old = record { seen = face o olds; hiding = hiding_in o.answer old }

-- A count fits a word.
abbrev pub Small : Result ℕ Refusal → Type 0
Small (Ok n) = n < 2 ^ 32
Small (Err r) = Unit {0}

-- What a host sees of an answer that is a count, whatever the runs hold then.
abbrev pub ToldCount : Result ℕ Refusal → ℕ → ℕ → ℕ → Type 0
ToldCount answer old new number = (runs : List (List ℕ)) → shown (answered (λ n. n ∷ []) answer) (old ∷ []) runs ≡ record { number = number; outs = new ∷ []; lent = runs }

-- What a host sees of an answer without values.
abbrev pub ToldDone : Result (Unit {0}) Refusal → ℕ → Type 0
ToldDone answer number = (runs : List (List ℕ)) → shown (answered (λ _. []) answer) [] runs ≡ record { number = number; outs = []; lent = runs }

-- What a host sees of an answer that is a document, and whose refusal 5 carries one.
abbrev pub ToldDocument : Result DocNo Refusal → ℕ → ℕ → ℕ → ℕ → ℕ → Type 0
ToldDocument answer old carried new carried' number = (runs : List (List ℕ)) →
    hiding_face (record { answer = answered (λ d. d.0 ∷ []) answer; lent = runs }) (old ∷ []) carried
    ≡ record { seen = record { number = number; outs = new ∷ []; lent = runs }; hiding = carried' }

-- Position and steps of the contents fit a word each, and what a host sees of them.
abbrev pub SmallContents : Result Contents Refusal → Type 0
SmallContents (Ok told) = (told.position < 2 ^ 32) × (told.steps < 2 ^ 32)
SmallContents (Err r) = Unit {0}

abbrev pub ToldContents : Result Contents Refusal → ℕ → ℕ → ℕ → ℕ → ℕ → Type 0
ToldContents answer p s p' s' number = (runs : List (List ℕ)) → shown (told_is answer) (p ∷ s ∷ []) runs ≡ record { number = number; outs = p' ∷ s' ∷ []; lent = runs }

-- An answer as a host sees it where a call may give fewer values than there are out words: those past them keep what they held.
abbrev pub shown_over : Answer → List ℕ → List (List ℕ) → Face
shown_over (Answer.gives values) olds runs = record { number = 0; outs = put olds 0 values; lent = runs }
shown_over (Answer.refuses k carried) olds runs = record { number = k; outs = olds; lent = runs }

abbrev pub face_over : Outcome → List ℕ → Face
face_over o olds = shown_over o.answer olds o.lent

-- What the out words of a place hold: a kind, and two doubles by their bits.
abbrev pub place_outs : ℕ → Float → Float → List ℕ
place_outs kind x y = kind ∷ to_bits binary64 x ∷ to_bits binary64 y ∷ []

-- What a host sees of a place's answer, whatever the runs hold then.
abbrev pub ToldPlace : Result Place Refusal → List ℕ → List ℕ → ℕ → Type 0
ToldPlace answer olds news number = (runs : List (List ℕ)) → shown_over (placed_is answer) olds runs ≡ record { number = number; outs = news; lent = runs }
