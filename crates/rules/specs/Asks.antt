-- What the questions answer (document 01, "The calls": Lists, Stretch, Outline).
use Rattle.std.specs.Prelude.{ℕ, suc, Bool, ◌&&◌, cond, eqb, ltb, ℤ, pos, negsuc, nat_abs, length, take}
use mathlib.Core.List.{List, [], ◌∷◌, flat_map, reverse}
use Rattle.rules.specs.Below.{gather}
use Rattle.rules.specs.Rows.{Row, Table, none, doc_at}
use Rattle.rules.specs.Steps.{taken, upcoming}
use Rattle.rules.specs.Moves.{frames}

-- "taken steps, latest first"
unfoldable pub taken_list : List Row → List ℕ
taken_list rows = reverse (gather (taken rows) (doc_at rows) (length rows))

-- "upcoming steps, earliest first"
unfoldable pub upcoming_list : List Row → List ℕ
upcoming_list rows = gather (upcoming rows) (doc_at rows) (length rows)

-- "the caller's own list, the second for δ ≥ 0 and the first for δ < 0"
abbrev pub own_list : List ℕ → List ℕ → ℤ → List ℕ
own_list takens upcomings (pos k) = upcomings
own_list takens upcomings (negsuc k) = takens

-- "list shorter than the magnitude of δ"
abbrev pub too_far : List ℕ → List ℕ → ℤ → Bool
too_far takens upcomings δ = ltb (length (own_list takens upcomings δ)) (nat_abs δ)

-- "gives back the first |δ| entries [..] when it is 6, the part given back is empty"
unfoldable pub stretched : List ℕ → List ℕ → ℤ → List ℕ
stretched takens upcomings δ = cond (too_far takens upcomings δ) [] (take (nat_abs δ) (own_list takens upcomings δ))

-- "A document is followed by its frames by rising frame number, and a frame by its shown document, one level deeper": frame f of document d,
-- whose rows are later than d's own; fs are the record's frames.
unfoldable pub outline_frame : List ℕ → List Row → ℕ → ℕ → ℕ → List ℕ
outline_frame fs [] depth d f = []
outline_frame fs (r ∷ rows) depth d f =
    let here = depth ∷ r.doc ∷ flat_map (outline_frame fs rows (suc depth) r.doc) fs in
    let on = outline_frame fs rows depth d f in
    cond (eqb r.shown 1 && eqb r.parent d && eqb r.frame f) here on

-- "Outline fills lent pairs (depth, document) with the visible documents. [..] the root has depth 0."
unfoldable pub outline_of : Table → List ℕ
outline_of t = flat_map (outline_frame (frames t) t.rows 0 none) (frames t)
