-- Scores.
--   is_score   whether a whole number is a score: from -1,000 to 1,000
--   Score      the same, as a fact
use Rattle.std.specs.Prelude.{◌≡◌, Bool, true, ◌&&◌, ℤ, pos, negsuc, int_le}

abbrev pub is_score : ℤ → Bool
is_score x = int_le (negsuc 999) x && int_le x (pos 1000)

abbrev pub Score : ℤ → Type 0
Score x = is_score x ≡ true
