-- What the test for a score tells.
use Rattle.std.proofs.Common.{◌≡◌, true, ℤ, pos, negsuc, ◌≤ℤ◌, arith}
use Rattle.std.proofs.lemmas.Int.{ints}
use Rattle.common.specs.Score.{is_score}

pub score_within : (x : ℤ) → is_score x ≡ true → (negsuc 999 ≤ℤ x) × (x ≤ℤ pos 1000)
score_within x q = (grind (arith, ints), grind (arith, ints))
