-- What the calls of a chart answer, from its meaning.
--   size_of        the size, with the leaves beside it
--   leaf_size      the size of one leaf
--   checked_step   whether a step is taken: 6 for a state not below the size, or for no score
--   started        the start state, or refusal 5
--   taken          an answer, where a check passes; else its refusal
--   stepped        next state and word together; 5 where the size is absent, then 6 where the step is not taken
--   looked         the look-back word of a list; 5 where the size is absent, then 15 or 6 where the list is refused
use Rattle.std.specs.Prelude.{ℕ, cond, ◌&&◌, List, ℤ, Some, None, Ok, Err, Option, Result, nat_lt}
use Rattle.common.specs.Score.{is_score}
use Rattle.charts.specs.declared.chart.Size.{Size}
use Rattle.charts.specs.declared.fault.ChartFault.{ChartFault}
use Rattle.charts.specs.declared.fault.ChartFault.TheVariants.{NoSize, OutOfRange}
use Rattle.charts.specs.Scores.{checked}

abbrev pub size_of : Option ℕ → ℕ → Option Size
size_of None leaves = None
size_of (Some n) leaves = Some (record { states = n; leaves = leaves })

abbrev pub leaf_size : ℕ → Size
leaf_size states = record { states = states; leaves = 1 }

abbrev pub checked_step : ℕ → ℕ → ℤ → Result (Unit {0}) ChartFault
checked_step states s x = cond (nat_lt s states && is_score x) (Ok tt) (Err OutOfRange)

abbrev pub started : Option ℕ → ℕ → Result ℕ ChartFault
started None start = Err NoSize
started (Some n) start = Ok start

abbrev pub taken : {A : Type 0} → Result (Unit {0}) ChartFault → A → Result A ChartFault
taken (Ok ok) answer = Ok answer
taken (Err fault) answer = Err fault

abbrev pub stepped : Option ℕ → (ℕ → ℤ → ℕ) → (ℕ → ℤ → ℕ) → ℕ → ℤ → Result (ℕ × ℕ) ChartFault
stepped None next word s x = Err NoSize
stepped (Some n) next word s x = taken (checked_step n s x) (next s x, word s x)

abbrev pub looked : Option ℕ → (List ℤ → ℕ) → List ℤ → Result ℕ ChartFault
looked None look xs = Err NoSize
looked (Some n) look xs = taken (checked xs) (look xs)
