use Rattle.std.proofs.Common.{◌+◌, ◌*◌, ◌^◌, ◌<◌, sym, ◌∙◌, arith}
use Rattle.combined.proofs.PairCode.{starts_fit}
use Rattle.combined.proofs.pair.PairChart.start.Given.{Over}
use Rattle.combined.proofs.pair.PairChart.start.Goals as goal
use Rattle.combined.proofs.pair.PairChart.start.Goals.{In_ok-second_start}

fit : (g : Over) (c : In_ok-second_start g) → c.in_ok-first_start.first_start * c.in_ok-sizes.sizes.second.states + c.in_ok-second_start.second_start < 2 ^ 32
fit g c =
    let self = c.args.self.now in
    starts_fit _ _ (g.met.A.Chart.lawful self.first) (g.met.B.Chart.lawful self.second) _ (sym c.sized.ensures ∙ c.in_ok-sizes.was) _ _
    (sym c.start.ensures ∙ c.in_ok-first_start.was) (sym c.start-2.ensures ∙ c.in_ok-second_start.was)

pub overflow_mul-result : goal.overflow_mul-result
overflow_mul-result g c = let h = fit g (goal.at.overflow_mul-result g c).In_ok-second_start in omega arith

pub overflow_add-result : goal.overflow_add-result
overflow_add-result g c = let h = fit g (goal.at.overflow_add-result g c).In_ok-second_start in omega arith
