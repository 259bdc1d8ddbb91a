-- Page's cumulative sum, with the V-mask as its look-back.
--   excess           the sum of (score - k) over a list
--   trailing_parts   the non-empty trailing parts of a list, the longest first
--   masked           the V-mask: some trailing part has an excess of at least h, or headstart plus the excess of the whole list has
--   raised           the sum T that a score makes of the state
--   floored          T, or 0 where it is below
--   page             the chart with decision interval h, reference value k and headstart s0
use Rattle.std.specs.Prelude.{ℕ, Bool, ◌||◌, List, [], ◌∷◌, ℤ, pos, negsuc, ◌+ℤ◌, ◌-ℤ◌, int_le}
use Rattle.std.specs.List.{list_any}
use Rattle.charts.specs.Leaf.{leaf}
use Rattle.charts.specs.Model.{Model}

abbrev pub excess : ℤ → List ℤ → ℤ
excess k [] = pos 0
excess k (x ∷ xs) = (x -ℤ k) +ℤ excess k xs

abbrev pub trailing_parts : List ℤ → List (List ℤ)
trailing_parts [] = []
trailing_parts (x ∷ xs) = (x ∷ xs) ∷ trailing_parts xs

abbrev pub masked : ℕ → ℤ → ℕ → List ℤ → Bool
masked h k s0 xs = list_any (λ part. int_le (pos h) (excess k part)) (trailing_parts xs) || int_le (pos h) (pos s0 +ℤ excess k xs)

abbrev pub raised : ℤ → ℕ → ℤ → ℤ
raised k s x = pos s +ℤ (x -ℤ k)

abbrev pub floored : ℤ → ℕ
floored (pos n) = n
floored (negsuc n) = 0

abbrev pub page : ℕ → ℤ → ℕ → Model
page h k s0 = leaf h s0 (λ s x. int_le (pos h) (raised k s x)) (λ s x. floored (raised k s x)) (masked h k s0)
