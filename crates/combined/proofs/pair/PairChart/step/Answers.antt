use Rattle.std.proofs.Common.{◌+◌, ◌*◌, ◌^◌, ◌<◌, sym, ◌∙◌, arith, w16, to_z, of_z}
use Rattle.charts.proofs.Stepping.{checked_step_is}
use Rattle.combined.proofs.PairCode.{first_takes, second_takes, steps_fit, steps_join}
use Rattle.combined.proofs.pair.PairChart.step.Given.{Over}
use Rattle.combined.proofs.pair.PairChart.step.Goals as goal
use Rattle.combined.proofs.pair.PairChart.step.Goals.{Then-word-eq0}

pub returns-in_err-first_next : goal.returns-in_err-first_next
returns-in_err-first_next g c =
    let self = c.args.self.now in
    let taken = checked_step_is c.in_ok-sizes.sizes.pair.states c.args.state (to_z w16 (of_z w16 c.args.score)) _ (sym c.check.ensures ∙ c.in_ok-check.was) in
    absurd (first_takes _ _ (g.met.A.Chart.lawful self.first) (g.met.B.Chart.lawful self.second) _ (sym c.sized.ensures ∙ c.in_ok-sizes.was)
    _ _ _ taken.0 taken.1 (sym c.step.ensures ∙ c.in_err-first_next.was))

pub returns-in_err-second_next : goal.returns-in_err-second_next
returns-in_err-second_next g c =
    let self = c.args.self.now in
    let taken = checked_step_is c.in_ok-sizes.sizes.pair.states c.args.state (to_z w16 (of_z w16 c.args.score)) _ (sym c.check.ensures ∙ c.in_ok-check.was) in
    absurd (second_takes _ _ (g.met.A.Chart.lawful self.first) (g.met.B.Chart.lawful self.second) _ (sym c.sized.ensures ∙ c.in_ok-sizes.was)
    _ _ _ taken.0 taken.1 (sym c.step-2.ensures ∙ c.in_err-second_next.was))

pub join-word-requires-clause-fits : goal.join-word-requires-clause-fits
join-word-requires-clause-fits g c =
    let self = c.args.self.now in
    steps_join _ _ (g.met.A.Chart.lawful self.first) (g.met.B.Chart.lawful self.second) _ (sym c.sized.ensures ∙ c.in_ok-sizes.was)
    _ _ _ _ _ _ _ (sym c.step.ensures ∙ c.in_ok-first_next.was) (sym c.step-2.ensures ∙ c.in_ok-second_next.was)

fit : (g : Over) (c : Then-word-eq0 g) → c.in_ok-first_next.first_next * c.in_ok-sizes.sizes.second.states + c.in_ok-second_next.second_next < 2 ^ 32
fit g c =
    let self = c.args.self.now in
    steps_fit _ _ (g.met.A.Chart.lawful self.first) (g.met.B.Chart.lawful self.second) _ (sym c.sized.ensures ∙ c.in_ok-sizes.was)
    _ _ _ _ _ _ _ (sym c.step.ensures ∙ c.in_ok-first_next.was) (sym c.step-2.ensures ∙ c.in_ok-second_next.was)

pub overflow_mul-result : goal.overflow_mul-result
overflow_mul-result g c = let h = fit g c in omega arith

pub overflow_add-result : goal.overflow_add-result
overflow_add-result g c = let h = fit g c in omega arith
