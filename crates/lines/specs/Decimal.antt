-- Decimal numbers as text: "Decimal without leading zeros or plus". Bytes are ASCII: `0` is 48, `9` is 57, `-` is 45.
use Rattle.std.specs.Prelude.{ℕ, zero, suc, ◌+◌, ◌-◌, ◌*◌, ◌/◌, ◌%◌, Bool, not, ◌&&◌, cond, List, [], ◌∷◌, ◌++◌, eqb, leb, ltb, ℤ, pos, negsuc, length, get_or, Option, Some, None}
use Rattle.rules.specs.Below.{all_below}

-- WRITTEN

-- The decimal of a number, where fuel is more than it: its last digit is written last.
unfoldable pub decimal_by : ℕ → ℕ → List ℕ
decimal_by zero n = []
decimal_by (suc fuel) n = cond (ltb n 10) ((48 + n) ∷ []) (decimal_by fuel (n / 10) ++ ((48 + n % 10) ∷ []))

-- The decimal of a number.
unfoldable pub decimal : ℕ → List ℕ
decimal n = decimal_by (suc n) n

-- A signed number: "minus [..] never `-0`"
abbrev pub signed : ℤ → List ℕ
signed (pos n) = decimal n
signed (negsuc n) = 45 ∷ decimal (suc n)

-- READ

-- A digit.
abbrev pub digit? : ℕ → Bool
digit? b = ltb 47 b && ltb b 58

-- A zero with more after it.
abbrev pub leading_zero? : List ℕ → Bool
leading_zero? text = ltb 1 (length text) && eqb (get_or text 0 0) 48

-- Every byte is a digit.
abbrev pub digits? : List ℕ → Bool
digits? text = all_below (length text) (λ i. digit? (get_or text i 0))

-- "Decimal without leading zeros": digits, and at least one.
unfoldable pub decimal? : List ℕ → Bool
decimal? text = not (eqb (length text) 0) && (not (leading_zero? text) && digits? text)

-- The number that the first k digits spell.
unfoldable pub spelled : List ℕ → ℕ → ℕ
spelled text zero = 0
spelled text (suc k) = spelled text k * 10 + (get_or text k 0 - 48)

-- The number, if it is at most top.
unfoldable pub up_to : ℕ → ℕ → Option ℕ
up_to top n = cond (leb n top) (Some n) None

-- The number that a text spells, if it is a decimal and the number at most top.
unfoldable pub numeral : ℕ → List ℕ → Option ℕ
numeral top text = cond (decimal? text) (up_to top (spelled text (length text))) None
