-- The paper's number of each refusal (document 01, "Nine ways to say no"; document 02, L1: "10 for the root frame"; L5: 11, 12 and 15; L10: 13), and what it carries.
use Rattle.std.specs.Prelude.{ℕ, ◌≡◌, ◌<◌, List, [], ◌∷◌, Option, None, Some}
use Rattle.base.specs.declared.DocNo.{DocNo}
use Rattle.base.specs.declared.Refusal.{Refusal}
use Rattle.base.specs.declared.Refusal.TheVariants.{ShortRecord, Unsound, NotSaved, Absent, Hidden, Beyond, Full, UsedUp, ShortBuffer, RootFrame, NotFinite, NoEntry, NoRoot, BadPlaces}

abbrev pub number_of : Refusal → ℕ
number_of ShortRecord = 1
number_of Unsound = 2
number_of NotSaved = 3
number_of Absent = 4
number_of (Hidden d) = 5
number_of Beyond = 6
number_of Full = 7
number_of UsedUp = 8
number_of ShortBuffer = 9
number_of RootFrame = 10
number_of NotFinite = 11
number_of NoEntry = 12
number_of NoRoot = 13
number_of BadPlaces = 15

-- What a number says that stands for a refusal.
abbrev pub IsNumberOf : Refusal → ℕ → Type 0
IsNumberOf r n = n ≡ number_of r

-- "Refusal 5 of opening, navigating and removal carries that number too" (document 02, L4)
abbrev pub carried_by : Refusal → List ℕ
carried_by ShortRecord = []
carried_by Unsound = []
carried_by NotSaved = []
carried_by Absent = []
carried_by (Hidden d) = d.0 ∷ []
carried_by Beyond = []
carried_by Full = []
carried_by UsedUp = []
carried_by ShortBuffer = []
carried_by RootFrame = []
carried_by NotFinite = []
carried_by NoEntry = []
carried_by NoRoot = []
carried_by BadPlaces = []

-- The values that stand for what is carried.
abbrev pub carried_is : Option DocNo → List ℕ
carried_is None = []
carried_is (Some d) = d.0 ∷ []

-- What is carried fits a word.
abbrev pub Narrow : List ℕ → Type 0
Narrow [] = Unit {0}
Narrow (d ∷ carried) = d < 4294967296
