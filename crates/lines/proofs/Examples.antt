-- Lines of documents 01 and 02 and lines just outside them: what they ask; and lines that answer. Assumes nothing.
use mathlib.Core.List.{[], ◌∷◌}
use mathlib.Core.Path.{◌≡◌, refl}
use lib.IntN.{pos, negsuc}
use Rattle.rules.specs.Below.{some_below, all_below, earliest}
use Rattle.lines.specs.Decimal.{decimal_by, decimal, decimal?, spelled, up_to, numeral}
use Rattle.lines.specs.Lines.{Command, starts?, tab?, going_by, root_named, going, other_word, worded, parse}
use Rattle.lines.specs.Reply.{Said, end_text, status_text, tab_text, denied_text, answer_text}

-- `open 0`
pub open-root : parse (111 ∷ 112 ∷ 101 ∷ 110 ∷ 32 ∷ 48 ∷ []) ≡ Command.opens 0
unfolding parse worded other_word tab? going root_named going_by starts? numeral up_to decimal? spelled all_below some_below earliest
open-root = refl

-- `nav 12`
pub nav-twelve : parse (110 ∷ 97 ∷ 118 ∷ 32 ∷ 49 ∷ 50 ∷ []) ≡ Command.navs 12
unfolding parse worded other_word tab? going root_named going_by starts? numeral up_to decimal? spelled all_below some_below earliest
nav-twelve = refl

-- `go -2`
pub go-back : parse (103 ∷ 111 ∷ 32 ∷ 45 ∷ 50 ∷ []) ≡ Command.goes 0 (negsuc 1)
unfolding parse worded other_word tab? going root_named going_by starts? numeral up_to decimal? spelled all_below some_below earliest
go-back = refl

-- `go 1`
pub go-forth : parse (103 ∷ 111 ∷ 32 ∷ 49 ∷ []) ≡ Command.goes 0 (pos 1)
unfolding parse worded other_word tab? going root_named going_by starts? numeral up_to decimal? spelled all_below some_below earliest
go-forth = refl

-- `open 4294967295`
pub open-most : parse (111 ∷ 112 ∷ 101 ∷ 110 ∷ 32 ∷ 52 ∷ 50 ∷ 57 ∷ 52 ∷ 57 ∷ 54 ∷ 55 ∷ 50 ∷ 57 ∷ 53 ∷ []) ≡ Command.opens 4294967295
unfolding parse worded other_word tab? going root_named going_by starts? numeral up_to decimal? spelled all_below some_below earliest
open-most = refl

-- `open 4294967296`
pub open-over : parse (111 ∷ 112 ∷ 101 ∷ 110 ∷ 32 ∷ 52 ∷ 50 ∷ 57 ∷ 52 ∷ 57 ∷ 54 ∷ 55 ∷ 50 ∷ 57 ∷ 54 ∷ []) ≡ Command.bad
unfolding parse worded other_word tab? going root_named going_by starts? numeral up_to decimal? spelled all_below some_below earliest
open-over = refl

-- `go -2147483648`
pub go-least : parse (103 ∷ 111 ∷ 32 ∷ 45 ∷ 50 ∷ 49 ∷ 52 ∷ 55 ∷ 52 ∷ 56 ∷ 51 ∷ 54 ∷ 52 ∷ 56 ∷ []) ≡ Command.goes 0 (negsuc 2147483647)
unfolding parse worded other_word tab? going root_named going_by starts? numeral up_to decimal? spelled all_below some_below earliest
go-least = refl

-- `go 2147483648`
pub go-over : parse (103 ∷ 111 ∷ 32 ∷ 50 ∷ 49 ∷ 52 ∷ 55 ∷ 52 ∷ 56 ∷ 51 ∷ 54 ∷ 52 ∷ 56 ∷ []) ≡ Command.bad
unfolding parse worded other_word tab? going root_named going_by starts? numeral up_to decimal? spelled all_below some_below earliest
go-over = refl

-- `go -0`
pub minus-zero : parse (103 ∷ 111 ∷ 32 ∷ 45 ∷ 48 ∷ []) ≡ Command.bad
unfolding parse worded other_word tab? going root_named going_by starts? numeral up_to decimal? spelled all_below some_below earliest
minus-zero = refl

-- `go 0`
pub go-zero : parse (103 ∷ 111 ∷ 32 ∷ 48 ∷ []) ≡ Command.goes 0 (pos 0)
unfolding parse worded other_word tab? going root_named going_by starts? numeral up_to decimal? spelled all_below some_below earliest
go-zero = refl

-- `nav 01`
pub leading-zero : parse (110 ∷ 97 ∷ 118 ∷ 32 ∷ 48 ∷ 49 ∷ []) ≡ Command.bad
unfolding parse worded other_word tab? going root_named going_by starts? numeral up_to decimal? spelled all_below some_below earliest
leading-zero = refl

-- `nav +1`
pub plus : parse (110 ∷ 97 ∷ 118 ∷ 32 ∷ 43 ∷ 49 ∷ []) ≡ Command.bad
unfolding parse worded other_word tab? going root_named going_by starts? numeral up_to decimal? spelled all_below some_below earliest
plus = refl

-- `open -1`
pub minus-after-open : parse (111 ∷ 112 ∷ 101 ∷ 110 ∷ 32 ∷ 45 ∷ 49 ∷ []) ≡ Command.bad
unfolding parse worded other_word tab? going root_named going_by starts? numeral up_to decimal? spelled all_below some_below earliest
minus-after-open = refl

-- `nav `
pub no_number : parse (110 ∷ 97 ∷ 118 ∷ 32 ∷ []) ≡ Command.bad
unfolding parse worded other_word tab? going root_named going_by starts? numeral up_to decimal? spelled all_below some_below earliest
no_number = refl

-- `nav 1 `
pub more-after : parse (110 ∷ 97 ∷ 118 ∷ 32 ∷ 49 ∷ 32 ∷ []) ≡ Command.bad
unfolding parse worded other_word tab? going root_named going_by starts? numeral up_to decimal? spelled all_below some_below earliest
more-after = refl

-- `ok 1 0/0`
pub ok-one : answer_text (Said.ok 1 0 0) ≡ 111 ∷ 107 ∷ 32 ∷ 49 ∷ 32 ∷ 48 ∷ 47 ∷ 48 ∷ 10 ∷ []
unfolding answer_text status_text end_text decimal decimal_by
ok-one = refl

-- `no 4 2/2`
pub no-four : answer_text (Said.denied 4 [] 2 2) ≡ 110 ∷ 111 ∷ 32 ∷ 52 ∷ 32 ∷ 50 ∷ 47 ∷ 50 ∷ 10 ∷ []
unfolding answer_text denied_text status_text end_text decimal decimal_by
no-four = refl

-- `no 5 at 12 2/3`
pub no-five : answer_text (Said.denied 5 (12 ∷ []) 2 3) ≡ 110 ∷ 111 ∷ 32 ∷ 53 ∷ 32 ∷ 97 ∷ 116 ∷ 32 ∷ 49 ∷ 50 ∷ 32 ∷ 50 ∷ 47 ∷ 51 ∷ 10 ∷ []
unfolding answer_text denied_text status_text end_text decimal decimal_by
no-five = refl

-- `ok 512 10/99`
pub ok-many : answer_text (Said.ok 512 10 99) ≡ 111 ∷ 107 ∷ 32 ∷ 53 ∷ 49 ∷ 50 ∷ 32 ∷ 49 ∷ 48 ∷ 47 ∷ 57 ∷ 57 ∷ 10 ∷ []
unfolding answer_text status_text end_text decimal decimal_by
ok-many = refl

-- `bad`
pub bad-line : answer_text Said.bad ≡ 98 ∷ 97 ∷ 100 ∷ 10 ∷ []
unfolding answer_text status_text end_text decimal decimal_by
bad-line = refl

-- `drop 12`, and `drop -1`
pub drop-twelve : parse (100 ∷ 114 ∷ 111 ∷ 112 ∷ 32 ∷ 49 ∷ 50 ∷ []) ≡ Command.drops 12
unfolding parse worded other_word tab? going root_named going_by starts? numeral up_to decimal? spelled all_below some_below earliest
drop-twelve = refl

pub drop-below : parse (100 ∷ 114 ∷ 111 ∷ 112 ∷ 32 ∷ 45 ∷ 49 ∷ []) ≡ Command.bad
unfolding parse worded other_word tab? going root_named going_by starts? numeral up_to decimal? spelled all_below some_below earliest
drop-below = refl

-- `replace 12`, `replace`, and `replaced 1`
pub replace-twelve : parse (114 ∷ 101 ∷ 112 ∷ 108 ∷ 97 ∷ 99 ∷ 101 ∷ 32 ∷ 49 ∷ 50 ∷ []) ≡ Command.replaces 12
unfolding parse worded other_word tab? going root_named going_by starts? numeral up_to decimal? spelled all_below some_below earliest
replace-twelve = refl

pub replace-nothing : parse (114 ∷ 101 ∷ 112 ∷ 108 ∷ 97 ∷ 99 ∷ 101 ∷ []) ≡ Command.bad
unfolding parse worded other_word tab? going root_named going_by starts? numeral up_to decimal? spelled all_below some_below earliest
replace-nothing = refl

pub replaced-one : parse (114 ∷ 101 ∷ 112 ∷ 108 ∷ 97 ∷ 99 ∷ 101 ∷ 100 ∷ 32 ∷ 49 ∷ []) ≡ Command.bad
unfolding parse worded other_word tab? going root_named going_by starts? numeral up_to decimal? spelled all_below some_below earliest
replaced-one = refl

-- `tab`; `tab ` and `tabs`
pub tab-line : parse (116 ∷ 97 ∷ 98 ∷ []) ≡ Command.tabs
unfolding parse worded other_word tab? going root_named going_by starts? numeral up_to decimal? spelled all_below some_below earliest
tab-line = refl

pub tab-blank : parse (116 ∷ 97 ∷ 98 ∷ 32 ∷ []) ≡ Command.bad
unfolding parse worded other_word tab? going root_named going_by starts? numeral up_to decimal? spelled all_below some_below earliest
tab-blank = refl

pub tab-more : parse (116 ∷ 97 ∷ 98 ∷ 115 ∷ []) ≡ Command.bad
unfolding parse worded other_word tab? going root_named going_by starts? numeral up_to decimal? spelled all_below some_below earliest
tab-more = refl

-- `go 1 0`, `go -2 3`, and `go 1 4294967295`
pub go_named : parse (103 ∷ 111 ∷ 32 ∷ 49 ∷ 32 ∷ 48 ∷ []) ≡ Command.goes 0 (pos 1)
unfolding parse worded other_word tab? going root_named going_by starts? numeral up_to decimal? spelled all_below some_below earliest
go_named = refl

pub go-back-named : parse (103 ∷ 111 ∷ 32 ∷ 45 ∷ 50 ∷ 32 ∷ 51 ∷ []) ≡ Command.goes 3 (negsuc 1)
unfolding parse worded other_word tab? going root_named going_by starts? numeral up_to decimal? spelled all_below some_below earliest
go-back-named = refl

pub go-root-most : parse (103 ∷ 111 ∷ 32 ∷ 49 ∷ 32 ∷ 52 ∷ 50 ∷ 57 ∷ 52 ∷ 57 ∷ 54 ∷ 55 ∷ 50 ∷ 57 ∷ 53 ∷ []) ≡ Command.goes 4294967295 (pos 1)
unfolding parse worded other_word tab? going root_named going_by starts? numeral up_to decimal? spelled all_below some_below earliest
go-root-most = refl

-- `go 1 4294967296`, `go 1 00`, `go 1 -0`, and `go 1 +1`
pub go-root-over : parse (103 ∷ 111 ∷ 32 ∷ 49 ∷ 32 ∷ 52 ∷ 50 ∷ 57 ∷ 52 ∷ 57 ∷ 54 ∷ 55 ∷ 50 ∷ 57 ∷ 54 ∷ []) ≡ Command.bad
unfolding parse worded other_word tab? going root_named going_by starts? numeral up_to decimal? spelled all_below some_below earliest
go-root-over = refl

pub go-root-leads : parse (103 ∷ 111 ∷ 32 ∷ 49 ∷ 32 ∷ 48 ∷ 48 ∷ []) ≡ Command.bad
unfolding parse worded other_word tab? going root_named going_by starts? numeral up_to decimal? spelled all_below some_below earliest
go-root-leads = refl

pub go-root-minus : parse (103 ∷ 111 ∷ 32 ∷ 49 ∷ 32 ∷ 45 ∷ 48 ∷ []) ≡ Command.bad
unfolding parse worded other_word tab? going root_named going_by starts? numeral up_to decimal? spelled all_below some_below earliest
go-root-minus = refl

pub go-root-plus : parse (103 ∷ 111 ∷ 32 ∷ 49 ∷ 32 ∷ 43 ∷ 49 ∷ []) ≡ Command.bad
unfolding parse worded other_word tab? going root_named going_by starts? numeral up_to decimal? spelled all_below some_below earliest
go-root-plus = refl

-- `go 1 `, `go 1  0`, `go 1 0 `, `go  1`, and `go -0 0`
pub go-root-empty : parse (103 ∷ 111 ∷ 32 ∷ 49 ∷ 32 ∷ []) ≡ Command.bad
unfolding parse worded other_word tab? going root_named going_by starts? numeral up_to decimal? spelled all_below some_below earliest
go-root-empty = refl

pub go-blanks : parse (103 ∷ 111 ∷ 32 ∷ 49 ∷ 32 ∷ 32 ∷ 48 ∷ []) ≡ Command.bad
unfolding parse worded other_word tab? going root_named going_by starts? numeral up_to decimal? spelled all_below some_below earliest
go-blanks = refl

pub go-blank-after : parse (103 ∷ 111 ∷ 32 ∷ 49 ∷ 32 ∷ 48 ∷ 32 ∷ []) ≡ Command.bad
unfolding parse worded other_word tab? going root_named going_by starts? numeral up_to decimal? spelled all_below some_below earliest
go-blank-after = refl

pub go-blank-before : parse (103 ∷ 111 ∷ 32 ∷ 32 ∷ 49 ∷ []) ≡ Command.bad
unfolding parse worded other_word tab? going root_named going_by starts? numeral up_to decimal? spelled all_below some_below earliest
go-blank-before = refl

pub go-minus-zero-named : parse (103 ∷ 111 ∷ 32 ∷ 45 ∷ 48 ∷ 32 ∷ 48 ∷ []) ≡ Command.bad
unfolding parse worded other_word tab? going root_named going_by starts? numeral up_to decimal? spelled all_below some_below earliest
go-minus-zero-named = refl

-- `ok 6 3 2/2`, and `no 13 0/0`
pub ok-tab : answer_text (Said.tabbed 6 3 2 2) ≡ 111 ∷ 107 ∷ 32 ∷ 54 ∷ 32 ∷ 51 ∷ 32 ∷ 50 ∷ 47 ∷ 50 ∷ 10 ∷ []
unfolding answer_text tab_text end_text decimal decimal_by
ok-tab = refl

pub no-root : answer_text (Said.denied 13 [] 0 0) ≡ 110 ∷ 111 ∷ 32 ∷ 49 ∷ 51 ∷ 32 ∷ 48 ∷ 47 ∷ 48 ∷ 10 ∷ []
unfolding answer_text denied_text status_text end_text decimal decimal_by
no-root = refl
