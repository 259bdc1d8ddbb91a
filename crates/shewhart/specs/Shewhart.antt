-- The Shewhart limit.
--   above          whether there is a score and it is above c
--   latest_above   whether the latest score of a list is above c
--   shewhart       the chart with limit c, which has one state
use Rattle.std.specs.Prelude.{Bool, false, List, ℤ, Some, None, Option, int_lt}
use Rattle.charts.specs.Leaf.{leaf}
use Rattle.charts.specs.Model.{Model}
use Rattle.charts.specs.Scores.{latest}

abbrev pub above : ℤ → Option ℤ → Bool
above c None = false
above c (Some x) = int_lt c x

abbrev pub latest_above : ℤ → List ℤ → Bool
latest_above c xs = above c (latest xs)

abbrev pub shewhart : ℤ → Model
shewhart c = leaf 1 0 (λ s x. int_lt c x) (λ s x. 0) (latest_above c)
