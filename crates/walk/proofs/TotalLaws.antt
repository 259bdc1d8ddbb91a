-- The total, taken from the latest score.
use Rattle.std.proofs.lemmas.List.{reverse-append}
use Rattle.std.proofs.Common.{reverse, ◌≡◌, ◌*◌, true, List, [], ◌∷◌, length, ℤ, pos, negsuc, ◌+ℤ◌, ◌≤ℤ◌, Ok, refl, ap, ◌∙◌, arith}
use Rattle.std.proofs.lemmas.Int.{ints}
use Rattle.std.proofs.lemmas.Bool.{and_parts}
use Rattle.common.specs.Score.{is_score}
use Rattle.common.proofs.ScoreLaws.{score_within}
use Rattle.charts.specs.Scores.{are_scores, checked}
use Rattle.charts.proofs.Backward.{Summing, summing_none, summing_bounds, summing_score, summing_more}
use Rattle.walk.specs.Walk.{total}
use Rattle.walk.specs.WalkLaws.{total_push}

total_backward : (xs : List ℤ) → total (reverse xs) ≡ total xs
total_backward [] = refl
total_backward (x ∷ xs) =
    let rest = total_backward xs in
    ap total (reverse-append (x ∷ []) xs) ∙ total_push (reverse xs) x ∙ omega (arith, ints)

-- the total of a list of scores
total_within : (xs : List ℤ) → are_scores xs ≡ true → (total xs ≤ℤ pos (1000 * length xs)) × (pos 0 ≤ℤ (total xs +ℤ pos (1000 * length xs)))
total_within [] q = (omega (arith, ints), omega (arith, ints))
total_within (x ∷ xs) q =
    let both = and_parts (is_score x) (are_scores xs) q in
    let rest = total_within xs both.1 in
    let one = score_within x both.0 in
    (omega (arith, ints), omega (arith, ints))

-- the list xs, with the sum of the scores read so far, and those left
pub record Reading (xs : List ℤ) (sum : ℤ) (left : List ℤ) : Type 0 where
  pub all : sum +ℤ total left ≡ total xs
  pub summing : Summing 1000 sum left

pub reading_none : (xs : List ℤ) → checked xs ≡ Ok tt → Reading xs (pos 0) (reverse xs)
reading_none xs ok = record { all = let same = total_backward xs in omega (arith, ints); summing = summing_none 1000 xs ok }

-- x is the next of those left
module _ (xs : List ℤ) (sum x : ℤ) (left rest : List ℤ) (reading : Reading xs sum left) (next : left ≡ x ∷ rest) where
  pub reading_more : Reading xs (sum +ℤ x) rest
  reading_more = record {
    all = let all = reading.all in let parts = ap total next in omega (arith, ints);
    summing = let score = summing_score 1000 sum x left rest reading.summing next in summing_more 1000 sum x left rest reading.summing next x (omega (arith, ints)) (omega (arith, ints));
  }

  pub reading_fits : (negsuc 4095999 ≤ℤ (sum +ℤ x)) × ((sum +ℤ x) ≤ℤ pos 4096000)
  reading_fits = summing_bounds 1000 (sum +ℤ x) rest reading_more.summing
