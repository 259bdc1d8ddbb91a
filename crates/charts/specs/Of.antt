-- Charts of any type.
--   of   the model of a chart, from the ghost members of its `impl`
use Rattle.charts.specs.declared.chart.Chart.{Ghosts}
use Rattle.charts.specs.Model.{Model}

abbrev pub of : {C : Type 0} → Ghosts C → C → Model
of ghosts c = record {
  size = ghosts.size c;
  start = ghosts.start c;
  leaves = ghosts.leaves c;
  next = ghosts.next c;
  word = ghosts.word c;
  look = ghosts.look c;
}
