-- A random walk with two limits.
--   total      the sum of a list of scores
--   outside    whether a total is at least h, or at most -h
--   total_at   the total that a state stands for
--   state_of   the state that stands for a total between the limits: total + h - 1
--   moved      the total that a score makes of the state
--   walk       the chart with limits h and -h
use Rattle.std.specs.Prelude.{ℕ, ◌-◌, ◌*◌, Bool, ◌||◌, List, [], ◌∷◌, ℤ, pos, ◌+ℤ◌, ◌-ℤ◌, neg_ℤ, int_le, unsigned_abs}
use Rattle.charts.specs.Leaf.{leaf}
use Rattle.charts.specs.Model.{Model}

abbrev pub total : List ℤ → ℤ
total [] = pos 0
total (x ∷ xs) = x +ℤ total xs

abbrev pub outside : ℕ → ℤ → Bool
outside h t = int_le (pos h) t || int_le t (neg_ℤ (pos h))

abbrev pub total_at : ℕ → ℕ → ℤ
total_at h s = pos s -ℤ pos (h - 1)

abbrev pub state_of : ℕ → ℤ → ℕ
state_of h t = unsigned_abs (t +ℤ pos (h - 1))

abbrev pub moved : ℕ → ℕ → ℤ → ℤ
moved h s x = total_at h s +ℤ x

abbrev pub walk : ℕ → Model
walk h = leaf (2 * h - 1) (h - 1) (λ s x. outside h (moved h s x)) (λ s x. state_of h (moved h s x)) (λ xs. outside h (total xs))
