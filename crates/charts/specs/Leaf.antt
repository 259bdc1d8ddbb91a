-- A chart of one leaf.
--   leaf   the chart with so many states and this start, from when a score alarms in a state, the state after a score that
--          does not, and when a whole list alarms
use Rattle.std.specs.Prelude.{ℕ, Bool, cond, List, ℤ, Some}
use Rattle.charts.specs.Model.{Model}
use Rattle.charts.specs.Words.{bit}

abbrev pub leaf : ℕ → ℕ → (ℕ → ℤ → Bool) → (ℕ → ℤ → ℕ) → (List ℤ → Bool) → Model
leaf states start alarms next look = record {
  size = Some states;
  start = start;
  leaves = 1;
  next = λ s x. cond (alarms s x) start (next s x);
  word = λ s x. bit (alarms s x);
  look = λ xs. bit (look xs);
}
