-- What the customer buys, as theorems over the definitions of `rules`. The ends of the lines of thought: `p1-to-p12`, `drop-examples`, `replace-examples`, `place-examples`, `contents-examples`,
-- `standing`, `past-spared`, `windows`, `demand1` and `smallest-first`, `undo-each-other`, `takes-old` and `demand2`, `contents-loaded` and `contents-blind`, `noted`, `demand3`, `without-drops`, `without-replacements` and `without-tabs`, `hides-rightly` and
-- `refusal-five-carries`, `links-rightly`, `traverse-traverse`, `scrolls`, and of the readings that look right `back-does-not-restore`, `back-restores-visible`,
-- `own-future-not-enough`, `visible-futures-not-enough`, `back-is-not-to-latest-past`, `back-is-not-from-latest-of-all`, `back-is-not-to-first`,
-- `back-is-backward`, `taken-may-not-go`, `noted-may-not-be-replaced`, `gone-not-as-noted`.
pub mod Examples
pub mod Nearest
pub mod Demand1
pub mod Accepted
pub mod From
pub mod Lasting
pub mod Windows
pub mod Wide
pub mod Loading
pub mod Standing
pub mod Past
pub mod Saving
pub mod Contents
pub mod Seen
pub mod Steady
pub mod Renamed
pub mod Fair
pub mod Numbers
pub mod Still
pub mod Concealing
pub mod Demand3
pub mod Only
pub mod Links
pub mod Fundamental
pub mod Histories
pub mod Places
pub mod Traverses
pub mod Shape
pub mod Active
pub mod Deleted
pub mod Navigates
pub mod Demand2
pub mod Readings
pub mod Return
pub mod Rests
pub mod Scrolls
