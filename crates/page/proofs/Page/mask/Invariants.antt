use Rattle.charts.specs.Scores.{listed, to_come}
use Rattle.page.proofs.MaskLaws.{Reading}
use Rattle.page.proofs.Page.mask.Given as goal

abbrev pub invariant-loop-score : goal.invariant-loop-score
invariant-loop-score l = Reading l.self.h l.self.k l.self.s0 (listed l.scores) l.sum (to_come l.score-iterator)
