use Rattle.charts.specs.Scores.{listed, to_come}
use Rattle.walk.proofs.TotalLaws.{Reading}
use Rattle.walk.proofs.total.Given as goal

abbrev pub invariant-loop-score : goal.invariant-loop-score
invariant-loop-score l = Reading (listed l.scores) l.sum (to_come l.score-iterator)
