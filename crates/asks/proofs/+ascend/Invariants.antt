-- What falls from call to call: the row place.
use Rattle.asks.proofs.+ascend.Given as goal

abbrev pub decreases-ascend : goal.decreases-ascend
decreases-ascend l = l.at.0
