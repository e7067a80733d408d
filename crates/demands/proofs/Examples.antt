-- P1 to P12 and the small examples of document 01, what Drop and Replace do, scroll places, several windows, and what contents tell. The tables stand beside the definitions, in `rules`, so that an edit of a definition is held
-- against them; here they are said of the calls of the library. Assumes nothing.
use mathlib.Core.List.{map}
use mathlib.Core.Path.{◌≡◌}
use Rattle.rules.specs.Calls.{outcome}
use Rattle.rules.proofs.Examples.{seen, table, drops, smalls, scrolls, examples-hold, drops-hold, smalls-hold, scrolls-hold, replaces, replaces-hold, windows, windows-hold, windowed, windowed-hold, greyed, greyed-hold}

pub p1-to-p12 : map seen table ≡ map (λ c. c.expected) table
p1-to-p12 = examples-hold

pub drop-examples : map seen drops ≡ map (λ c. c.expected) drops
drop-examples = drops-hold

pub replace-examples : map seen replaces ≡ map (λ c. c.expected) replaces
replace-examples = replaces-hold

pub small-examples : map (λ s. outcome s.call) smalls ≡ map (λ s. s.expected) smalls
small-examples = smalls-hold

pub place-examples : map (λ s. outcome s.call) scrolls ≡ map (λ s. s.expected) scrolls
place-examples = scrolls-hold

pub window-examples : map seen windows ≡ map (λ c. c.expected) windows
window-examples = windows-hold

pub window-answers : map (λ s. outcome s.call) windowed ≡ map (λ s. s.expected) windowed
window-answers = windowed-hold

pub contents-examples : map (λ s. outcome s.call) greyed ≡ map (λ s. s.expected) greyed
contents-examples = greyed-hold
