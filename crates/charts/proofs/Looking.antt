-- What the check of a list of scores tells.
use Rattle.std.proofs.Common.{◌≡◌, ◌≤◌, true, List, [], ◌∷◌, length, ℤ, Ok, arith}
use Rattle.std.proofs.lemmas.Bool.{and_parts}
use Rattle.std.specs.List.{AllByRecursion}
use Rattle.common.specs.Score.{is_score, Score}
use Rattle.charts.specs.Scores.{are_scores, checked}

-- a list that a look-back takes is short, and has only scores
pub record Passed (xs : List ℤ) : Type 0 where
  pub few : length xs ≤ 4096
  pub scores : are_scores xs ≡ true

pub passed : (xs : List ℤ) → checked xs ≡ Ok tt → Passed xs
passed xs e = record { few = grind arith; scores = grind arith }

-- a list of which each passes the test is a list of scores
pub all_scores : (xs : List ℤ) → are_scores xs ≡ true → AllByRecursion Score xs
all_scores [] q = tt
all_scores (x ∷ xs) q = let both = and_parts (is_score x) (are_scores xs) q in (both.0, all_scores xs both.1)

-- a short list of scores passes the check
pub passes : (xs : List ℤ) → length xs ≤ 4096 → are_scores xs ≡ true → checked xs ≡ Ok tt
passes xs few scores = grind arith
