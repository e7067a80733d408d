-- The words of document 01, "Words".
use Rattle.std.specs.Prelude.{ℕ, suc, ◌+◌, Bool, true, false, not, ◌&&◌, cond, List, eqb, leb, length}
use Rattle.rules.specs.Below.{some_below, count}
use Rattle.rules.specs.Rows.{Row, none, doc_at, frame_at, parent_at, is_shown, climb}

-- Places i and k are of one frame; fr tells the frames.
abbrev pub same : (ℕ → ℕ) → ℕ → ℕ → Bool
same fr i k = eqb (fr k) (fr i)

-- "A step is a document that isn't the first row of its frame."
unfoldable pub step : (ℕ → ℕ) → ℕ → Bool
step fr i = some_below i (same fr i)

-- Place i is "no later than its frame's shown document", of n places; s tells the shown ones.
unfoldable pub reach : ℕ → (ℕ → ℕ) → (ℕ → Bool) → ℕ → Bool
reach n fr s i = some_below n (λ k. same fr i k && leb i k && s k)

abbrev pub is_step : List Row → ℕ → Bool
is_step rows = step (frame_at rows)

abbrev pub reached : List Row → ℕ → Bool
reached rows = reach (length rows) (frame_at rows) (is_shown rows)

-- "A step is taken when it is no later than its frame's shown document, else upcoming."
abbrev pub taken : List Row → ℕ → Bool
taken rows i = is_step rows i && reached rows i

abbrev pub upcoming : List Row → ℕ → Bool
upcoming rows i = is_step rows i && not (reached rows i)

-- "Position is the number of taken steps."
unfoldable pub position : List Row → ℕ
position rows = count (taken rows) (length rows)

unfoldable pub steps : List Row → ℕ
steps rows = count (is_step rows) (length rows)

-- "HTML counts the current entry, so a fresh window has length 1. Document 01 says length is the number of steps; it is steps plus one." (document 02, L2)
abbrev pub script_length : List Row → ℕ
script_length rows = steps rows + 1

-- What hides a document: nobody, "or the number of the nearest document, itself first and then upwards, that isn't shown" (document 02, L4).
pub data Hider : Type 0 where
  nobody : Hider
  document : (d : ℕ) → Hider

abbrev pub is_nobody : Hider → Bool
is_nobody Hider.nobody = true
is_nobody (Hider.document d) = false

-- Its number; none where it is nobody.
abbrev pub hider_number : Hider → ℕ
hider_number Hider.nobody = none
hider_number (Hider.document d) = d

-- What a climb finds: who hides the document, and "the number of parent links followed" (document 02, L6).
pub record Climb : Type 0 where
  pub hider : Hider
  pub links : ℕ

-- The climb ends here, or has followed one link more.
abbrev pub ended : Hider → Climb
ended h = record { hider = h; links = 0 }

abbrev pub further : Climb → Climb
further c = record { hider = c.hider; links = suc c.links }

-- "Its question to a document is the question to its parent, once the document itself is shown": what the climb from row k finds, when `up d` is what that
-- from document d does. "from the document upwards, none if it isn't shown itself, and no link above the first hidden one"
abbrev pub climb_ask : List Row → (ℕ → Climb) → ℕ → Climb
climb_ask rows up k =
    let above = cond (eqb (parent_at rows k) none) (ended Hider.nobody) (further (up (parent_at rows k))) in
    cond (is_shown rows k) above (ended (Hider.document (doc_at rows k)))

-- A document of no row is hidden, by no document that there is.
abbrev pub lost : Climb
lost = ended (Hider.document none)

-- The climb from row k, and from document d.
unfoldable pub climb_at : List Row → ℕ → Climb
climb_at rows k = climb_ask rows (climb lost (climb_ask rows) rows k) k

unfoldable pub climb_of : List Row → ℕ → Climb
climb_of rows d = climb lost (climb_ask rows) rows (length rows) d

-- Who hides row k, and document d.
unfoldable pub hider_at : List Row → ℕ → Hider
hider_at rows k = (climb_at rows k).hider

unfoldable pub hider_of : List Row → ℕ → Hider
hider_of rows d = (climb_of rows d).hider

-- "A document is visible when it and every document above it are shown": nobody hides it.
unfoldable pub visible_at : List Row → ℕ → Bool
visible_at rows k = is_nobody (hider_at rows k)

unfoldable pub visible : List Row → ℕ → Bool
visible rows d = is_nobody (hider_of rows d)
