use Rattle.std.proofs.Common.{reverse, ◌∙◌, take, rules}
use Rattle.std.proofs.lemmas.Iterator.{YieldsList-from_take}
use Rattle.std.proofs.lemmas.Iterator.Consumers.{YieldsList-from_filter, YieldsList-from_first, count_from_yields_List}
use Rattle.std.proofs.lemmas.List.Sums.{length-filter}
use borrow.Author.Tests.{tests}
use Rattle.charts.specs.Scores.{listed, to_come}
use Rattle.runs.specs.Runs.{counts}
use Rattle.runs.proofs.RecentLaws.{recent_is}
use Rattle.runs.proofs.Runs.recent.Goals as goal

pub returns : goal.returns
returns c =
    let self = c.args.self.now in
    let xs = listed c.args.scores in
    count_from_yields_List c.filter.result c.count.result c.count.ensures.ran (YieldsList-from_filter _ (counts self.y) (YieldsList-from_take self.m (YieldsList-from_first (λ x. x) to_come (reverse xs) cc) cc) c.filter.ensures.closure (λ x b q k. search (rules, tests)))
    ∙ length-filter (counts self.y) (take self.m (reverse xs))
    ∙ recent_is self.y self.m xs
