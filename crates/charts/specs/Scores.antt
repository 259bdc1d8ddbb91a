-- Lists of scores, as a look-back takes them.
--   listed       the list that a view stands for, the oldest score first
--   are_scores   whether every number of a list is a score
--   checked      whether a look-back takes a list: 15 where it has more than 4,096 numbers, then 6 where one is no score
--   latest       the latest score of a list, if it has one
--   to_come      what an iterator over scores has still to give
--   LastOf       a list split at its end: nothing of an empty list, else the last element and those before it
use Rattle.std.specs.Prelude.{◌≡◌, ◌-◌, Bool, cond, List, [], ◌∷◌, ◌++◌, length, reverse, ℤ, Some, None, Ok, Err, Option, Result, nat_le}
use Rattle.std.specs.List.{list_all, slice_get}
use Rattle.common.specs.Score.{is_score}
use Rattle.charts.specs.declared.fault.ChartFault.{ChartFault}
use Rattle.charts.specs.declared.fault.ChartFault.TheVariants.{OutOfRange, TooLong}
use Rattle.charts.specs.declared.scores.Scores.{Scores}
use Rattle.charts.specs.declared.scores.LatestFirst.{LatestFirst}

abbrev pub listed : Scores → List ℤ
listed view = view.list.now

abbrev pub to_come : LatestFirst → List ℤ
to_come scores = reverse (listed scores.left)

abbrev pub are_scores : List ℤ → Bool
are_scores = list_all is_score

abbrev pub checked : List ℤ → Result (Unit {0}) ChartFault
checked xs = cond (nat_le (length xs) 4096) (cond (are_scores xs) (Ok tt) (Err OutOfRange)) (Err TooLong)

abbrev pub latest : List ℤ → Option ℤ
latest xs = slice_get xs (length xs - 1)

-- `before` gives the list of what stands before
abbrev pub LastOf : {B : Type 0} → (B → List ℤ) → List ℤ → Option (ℤ × B) → Type 0
LastOf before xs None = xs ≡ []
LastOf before xs (Some split) = xs ≡ before split.1 ++ split.0 ∷ []
