-- Scroll places: document 02, L5. A double is IEEE 754's binary64; `to_bits` and `of_bits` lead from it to its bits and back, and `mul` is the product rounded once.
use Rattle.std.specs.Prelude.{ℕ, zero, suc, ◌+◌, ◌*◌, ◌/◌, Bool, true, false, not, ◌&&◌, ◌||◌, cond, List, [], ◌∷◌, T, eqb, leb, ltb, Float, length, get_or, set}
use Rattle.std.specs.Float.{nan, inf, fin, binary64}
use Rattle.std.specs.Float.Ieee.{fits, mul, to_bits, of_bits}
use Rattle.rules.specs.Below.{some_below, all_below, earliest}
use Rattle.rules.specs.Rows.{Row, none, in_record}
use Rattle.rules.specs.Words.{put}

-- "either that the page places itself or a point in CSS pixels, two doubles"
pub data Place : Type 0 where
  itself : Place
  at : (x y : Float) → Place

-- Both coordinates are of the format, as those of all doubles are.
abbrev pub Doubles : Place → Type 0
Doubles Place.itself = Unit {0}
Doubles (Place.at x y) = T (fits binary64 x) × T (fits binary64 y)

-- Not "NaN or infinite": a double, and the doubles of a place.
unfoldable pub finite : Float → Bool
finite nan = false
finite (inf negative) = false
finite (fin negative m e) = true

abbrev pub finite_place : Place → Bool
finite_place Place.itself = true
finite_place (Place.at x y) = finite x && finite y

-- "the point at a page zoom: each coordinate times the zoom, rounded once"
abbrev pub scaled : Float → Place → Place
scaled zoom Place.itself = Place.itself
scaled zoom (Place.at x y) = Place.at (mul binary64 x zoom) (mul binary64 y zoom)

-- "a kind (0 itself, 1 point) and two doubles, used only for kind 1"
abbrev pub place_words : Place → List ℕ
place_words Place.itself = 0 ∷ []
place_words (Place.at x y) = 1 ∷ to_bits binary64 x ∷ to_bits binary64 y ∷ []

-- THE STORE: four words of 64 bits an entry, a document, a kind and the bits of two doubles. Words past the last whole entry are neither read nor written.
abbrev pub entries : List ℕ → ℕ
entries places = length places / 4

abbrev pub document_in : List ℕ → ℕ → ℕ
document_in places i = get_or places (4 * i) 0

abbrev pub kind_in : List ℕ → ℕ → ℕ
kind_in places i = get_or places (4 * i + 1) 0

abbrev pub place_in : List ℕ → ℕ → Place
place_in places i =
    let x = of_bits binary64 (get_or places (4 * i + 2) 0) in
    let y = of_bits binary64 (get_or places (4 * i + 3) 0) in
    cond (eqb (kind_in places i) 1) (Place.at x y) Place.itself

-- Entry i is of document d; "4294967295: free".
abbrev pub is_of : List ℕ → ℕ → ℕ → Bool
is_of places d i = eqb (document_in places i) d

-- The first entry of document d; past the last where it has none.
unfoldable pub entry_of : List ℕ → ℕ → ℕ
entry_of places d = earliest (is_of places d) (entries places)

-- "A document without an entry reads as 'the page places itself'."
unfoldable pub place_of : List ℕ → ℕ → Place
place_of places d = cond (ltb (entry_of places d) (entries places)) (place_in places (entry_of places d)) Place.itself

-- "entries not free hold a document twice, a kind above 1 or a point not finite": no such thing at entry i; anywhere.
abbrev pub sane : List ℕ → ℕ → Bool
sane places i = leb (kind_in places i) 1 && finite_place (place_in places i)

abbrev pub fine_at : List ℕ → ℕ → Bool
fine_at places i = is_of places none i || (sane places i && not (some_below i (is_of places (document_in places i))))

unfoldable pub fine? : List ℕ → Bool
fine? places = all_below (entries places) (fine_at places)

-- "Setting first frees the entries of documents gone from the record, by their number alone". "Freeing changes only the document": of entry i, of the first k entries, of all.
abbrev pub gone_in : List Row → List ℕ → ℕ → Bool
gone_in rows places i = not (in_record rows (document_in places i))

abbrev pub free_at : List Row → ℕ → List ℕ → List ℕ
free_at rows i places = cond (gone_in rows places i) (set places (4 * i) none) places

unfoldable pub freed_to : List Row → ℕ → List ℕ → List ℕ
freed_to rows zero places = places
freed_to rows (suc k) places = free_at rows k (freed_to rows k places)

abbrev pub freed : List Row → List ℕ → List ℕ
freed rows places = freed_to rows (entries places) places

-- "without an entry of its own the document takes the first free one, for either kind"
unfoldable pub spot : List ℕ → ℕ → ℕ
spot places d = cond (ltb (entry_of places d) (entries places)) (entry_of places d) (entry_of places none)

abbrev pub no_room : List ℕ → ℕ → Bool
no_room places d = leb (entries places) (spot places d)

-- "kind 0 keeps the entry's doubles"; "The other entries [..] stay."
unfoldable pub placed : List ℕ → ℕ → Place → List ℕ
placed places d place = put places (4 * spot places d) (d ∷ place_words place)
