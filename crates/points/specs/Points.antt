-- A place of the code as the rules have it. Definitions.
use Rattle.rules.specs.Places.{Place}
use Rattle.points.specs.declared.Place.{Place as Given}
use Rattle.points.specs.declared.Place.TheVariants.{Itself, At}

abbrev pub place_given : Given → Place
place_given Itself = Place.itself
place_given (At p) = Place.at p.x p.y
