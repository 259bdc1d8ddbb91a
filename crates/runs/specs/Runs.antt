-- A runs rule, as the Western Electric rules have several: at least t of the last m scores are above y.
--   counts        whether a score counts: it is above y
--   mark          1 where a score counts, else 0
--   count_in      how many scores of a list count
--   last_scores   the last m scores of a list, or all where it has fewer
--   marked        the marks with a score's own as the lowest bit, and those before it moved up
--   reached       whether at least t of the m lowest marks are set
--   runs          the chart; its state holds the marks of the last m - 1 scores
use Rattle.std.specs.Prelude.{ℕ, ◌+◌, ◌-◌, ◌*◌, ◌%◌, ◌^◌, Bool, List, length, drop, ℤ, count_by, int_lt, nat_le}
use Rattle.std.specs.Int.Count.{ones_in}
use Rattle.charts.specs.Leaf.{leaf}
use Rattle.charts.specs.Model.{Model}
use Rattle.charts.specs.Words.{bit}

abbrev pub counts : ℤ → ℤ → Bool
counts y x = int_lt y x

abbrev pub mark : ℤ → ℤ → ℕ
mark y x = bit (counts y x)

abbrev pub count_in : ℤ → List ℤ → ℕ
count_in y xs = count_by (counts y) xs

abbrev pub last_scores : ℕ → List ℤ → List ℤ
last_scores m xs = drop (length xs - m) xs

abbrev pub marked : ℤ → ℕ → ℤ → ℕ
marked y s x = 2 * s + mark y x

abbrev pub reached : ℕ → ℕ → ℕ → Bool
reached t m marks = nat_le t (ones_in m marks)

abbrev pub runs : ℕ → ℕ → ℤ → Model
runs t m y = leaf (2 ^ (m - 1)) 0 (λ s x. reached t m (marked y s x)) (λ s x. marked y s x % 2 ^ (m - 1)) (λ xs. nat_le t (count_in y (last_scores m xs)))
