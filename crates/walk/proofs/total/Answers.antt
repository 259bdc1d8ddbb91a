use Rattle.std.proofs.Common.{reverse, ◌≡◌, pos, ◌+ℤ◌, subst, arith, w32, to_z, of_z}
use Rattle.std.proofs.lemmas.Int.{ints}
use Rattle.charts.specs.Scores.{listed, to_come}
use Rattle.walk.proofs.TotalLaws.{Reading, reading_none, reading_fits, reading_more}
use Rattle.walk.proofs.total.Goals as goal

pub loop-score-init : goal.loop-score-init
loop-score-init c =
    let all : reverse (listed c.args.scores) ≡ to_come c.into_iter-score-iterator.result = cc in
    subst (Reading (listed c.args.scores) (pos 0)) all (reading_none _ c.requires)

pub loop-score-preserved : goal.loop-score-preserved
loop-score-preserved c =
    let more = reading_more _ _ _ _ _ c.loop-score.invariant c.in-Some.ensures.steps in
    let bounds = reading_fits _ _ _ _ _ c.loop-score.invariant c.in-Some.ensures.steps in
    let is : to_z w32 c.loop-score.sum-bits +ℤ c.in-Some.score ≡ to_z w32 (of_z w32 (to_z w32 c.loop-score.sum-bits +ℤ to_z w32 (of_z w32 c.from-sum.result))) = omega (arith, ints) in
    subst (λ t. Reading (listed c.args.scores) t (to_come c.next.new.self)) is more
