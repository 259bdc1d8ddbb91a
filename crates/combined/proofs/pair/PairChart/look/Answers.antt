use Rattle.std.proofs.Common.{sym, ◌∙◌}
use Rattle.charts.specs.Scores.{listed}
use Rattle.combined.proofs.PairCode.{looks_join}
use Rattle.combined.proofs.pair.PairChart.look.Goals as goal

pub join-requires-clause-fits : goal.join-requires-clause-fits
join-requires-clause-fits g c =
    let self = c.args.self.now in
    looks_join _ _ (g.met.A.Chart.lawful self.first) (g.met.B.Chart.lawful self.second) _ (sym c.sized.ensures ∙ c.in_ok-sizes.was) (listed c.args.scores) _ _
    (sym c.look.ensures ∙ c.in_ok-first_word.was) (sym c.look-2.ensures ∙ c.in_ok-second_word.was)
