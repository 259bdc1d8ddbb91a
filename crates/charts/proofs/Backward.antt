-- Lists of scores from the end to the beginning, and sums over them.
use Rattle.std.proofs.Common.{reverse, ◌≡◌, ℕ, ◌+◌, ◌*◌, ◌≤◌, true, List, [], ◌∷◌, length, ℤ, pos, negsuc, ◌+ℤ◌, neg_ℤ, ◌≤ℤ◌, Ok, sym, refl, ap, ◌∙◌, arith, mul-suc, mul-le-mul_left}
use Rattle.std.proofs.lemmas.Int.{ints}
use Rattle.std.proofs.lemmas.Bool.{and_parts, and_from}
use Rattle.std.proofs.lemmas.List.{length-reverse, reverse-append}
use Rattle.std.proofs.lemmas.List.Folds.{list_all-append}
use Rattle.common.specs.Score.{is_score}
use Rattle.common.proofs.ScoreLaws.{score_within}
use Rattle.charts.specs.Scores.{are_scores, checked}
use Rattle.charts.proofs.Looking.{passed}

pub reverse_scores : (xs : List ℤ) → are_scores xs ≡ true → are_scores (reverse xs) ≡ true
reverse_scores [] q = refl
reverse_scores (x ∷ xs) q =
    let both = and_parts (is_score x) (are_scores xs) q in
    ap are_scores (reverse-append (x ∷ []) xs)
    ∙ list_all-append is_score (reverse xs) (x ∷ [])
    ∙ and_from (are_scores (reverse xs)) (are_scores (x ∷ [])) (reverse_scores xs both.1) (and_from (is_score x) true both.0 refl)

-- a sum over at most 4,096 scores, each of which adds at most `most` either way, where the scores `left` are still to come
pub record Summing (most : ℕ) (sum : ℤ) (left : List ℤ) : Type 0 where
  pub scores : are_scores left ≡ true
  pub low : neg_ℤ (pos (most * 4096)) ≤ℤ (sum +ℤ neg_ℤ (pos (most * length left)))
  pub high : (sum +ℤ pos (most * length left)) ≤ℤ pos (most * 4096)

module _ (most : ℕ) where
  pub summing_none : (xs : List ℤ) → checked xs ≡ Ok tt → Summing most (pos 0) (reverse xs)
  summing_none xs ok =
      let taken = passed xs ok in
      let few = taken.few in
      let fits : most * length (reverse xs) ≤ most * 4096 = mul-le-mul_left most (omega (arith, length-reverse xs)) in
      record { scores = reverse_scores xs taken.scores; low = omega (arith, ints); high = omega (arith, ints) }

  pub summing_bounds : (sum : ℤ) (left : List ℤ) → Summing most sum left → (neg_ℤ (pos (most * 4096)) ≤ℤ sum) × (sum ≤ℤ pos (most * 4096))
  summing_bounds sum left s = (let low = s.low in omega (arith, ints), let high = s.high in omega (arith, ints))

  -- x is the next of those left
  module _ (sum x : ℤ) (left rest : List ℤ) (s : Summing most sum left) (next : left ≡ x ∷ rest) where
    parts : (is_score x ≡ true) × (are_scores rest ≡ true)
    parts = and_parts (is_score x) (are_scores rest) (sym (ap are_scores next) ∙ s.scores)

    pub summing_score : (negsuc 999 ≤ℤ x) × (x ≤ℤ pos 1000)
    summing_score = score_within x parts.0

    pub summing_more : (d : ℤ) → neg_ℤ (pos most) ≤ℤ d → d ≤ℤ pos most → Summing most (sum +ℤ d) rest
    summing_more d down up =
        let one : most * length left ≡ most * length rest + most = ap (λ l. most * length l) next ∙ mul-suc most (length rest) in
        record { scores = parts.1; low = let low = s.low in omega (arith, ints); high = let high = s.high in omega (arith, ints) }
