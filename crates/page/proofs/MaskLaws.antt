-- The V-mask, read backward from the latest score.
use Rattle.std.proofs.Common.{reverse, ◌≡◌, ℕ, ◌*◌, Bool, true, false, ◌||◌, List, [], ◌∷◌, ◌++◌, length, ℤ, pos, negsuc, ◌+ℤ◌, ◌-ℤ◌, ◌≤ℤ◌, int_le, Ok, sym, ap, ◌∙◌, subst, arith}
use Rattle.std.specs.List.{list_any}
use Rattle.std.proofs.Math.Bool.{or_comm, or-false}
use Rattle.std.proofs.lemmas.List.{reverse-append, reverse-reverse, append_assoc, append-nil}
use Rattle.std.proofs.lemmas.Int.{ints}
use Rattle.std.proofs.lemmas.Bool.{and_parts, or_left, or_right}
use Rattle.common.specs.Score.{is_score}
use Rattle.common.proofs.ScoreLaws.{score_within}
use Rattle.charts.specs.Scores.{are_scores, checked}
use Rattle.charts.proofs.Backward.{Summing, summing_none, summing_bounds, summing_score, summing_more}
use Rattle.page.specs.Page.{excess, trailing_parts, masked}

-- the excess of a list of scores
excess_within : (k : ℤ) (xs : List ℤ) → is_score k ≡ true → are_scores xs ≡ true → (excess k xs ≤ℤ pos (2000 * length xs)) × (pos 0 ≤ℤ (excess k xs +ℤ pos (2000 * length xs)))
excess_within k [] r q = (omega (arith, ints), omega (arith, ints))
excess_within k (x ∷ xs) r q =
    let both = and_parts (is_score x) (are_scores xs) q in
    let rest = excess_within k xs r both.1 in
    let one = score_within x both.0 in
    let reference = score_within k r in
    (omega (arith, ints), omega (arith, ints))

module _ (h : ℕ) (k : ℤ) (s0 : ℕ) where
  -- the mask over scores still to come, the latest first, with the excess of those before them
  abbrev pub mask_on : ℤ → List ℤ → Bool
  mask_on sum [] = int_le (pos h) (pos s0 +ℤ sum)
  mask_on sum (x ∷ xs) = int_le (pos h) (sum +ℤ (x -ℤ k)) || mask_on (sum +ℤ (x -ℤ k)) xs

  abbrev trailing : List ℤ → Bool
  trailing xs = list_any (λ part. int_le (pos h) (excess k part)) (trailing_parts xs)

  -- a trailing part that alarms makes the list alarm
  part_alarms : (front : List ℤ) (x : ℤ) (part : List ℤ) → int_le (pos h) (excess k (x ∷ part)) ≡ true → trailing (front ++ (x ∷ part)) ≡ true
  part_alarms [] x part high = or_left _ _ high
  part_alarms (y ∷ front) x part high = or_right _ _ (part_alarms front x part high)

  same_sum : (x : ℤ) (ys : List ℤ) → excess k ys +ℤ (x -ℤ k) ≡ excess k (x ∷ ys)
  same_sum x ys = omega (arith, ints)

  regroup : (a b c : Bool) → ((a || b) || c) ≡ (b || (a || c))
  regroup a b c = grind arith

  -- with the scores `ys` read
  mask_rest : (xs ys : List ℤ) → (mask_on (excess k ys) xs || trailing ys) ≡ masked h k s0 (reverse xs ++ ys)
  mask_rest [] ys = or_comm (int_le (pos h) (pos s0 +ℤ excess k ys)) (trailing ys)
  mask_rest (x ∷ xs) ys =
      ap (λ sum. (int_le (pos h) sum || mask_on sum xs) || trailing ys) (same_sum x ys)
      ∙ regroup (int_le (pos h) (excess k (x ∷ ys))) (mask_on (excess k (x ∷ ys)) xs) (trailing ys)
      ∙ mask_rest xs (x ∷ ys)
      ∙ ap (masked h k s0) (sym (append_assoc (reverse xs) (x ∷ []) ys) ∙ ap (λ l. l ++ ys) (sym (reverse-append (x ∷ []) xs)))

  mask_is : (xs : List ℤ) → mask_on (pos 0) (reverse xs) ≡ masked h k s0 xs
  mask_is xs =
      sym (or-false (mask_on (pos 0) (reverse xs)))
      ∙ mask_rest (reverse xs) []
      ∙ ap (masked h k s0) (append-nil (reverse (reverse xs)) ∙ reverse-reverse xs)

  -- the list xs, with the sum of the scores read so far, none of which alarmed, and those left, the latest first
  pub record Reading (xs : List ℤ) (sum : ℤ) (left : List ℤ) : Type 0 where
    pub mask : mask_on sum left ≡ masked h k s0 xs
    pub summing : Summing 2000 sum left

  pub reading_none : (xs : List ℤ) → checked xs ≡ Ok tt → Reading xs (pos 0) (reverse xs)
  reading_none xs ok = record { mask = mask_is xs; summing = summing_none 2000 xs ok }

  -- x is the latest of those left, and t the sum with it
  module _ (xs : List ℤ) (sum x t : ℤ) (left rest : List ℤ) (reference : is_score k ≡ true) (reading : Reading xs sum left) (next : left ≡ x ∷ rest) (is : t ≡ sum +ℤ (x -ℤ k)) where
    summing : Summing 2000 t rest
    summing =
        let score = summing_score 2000 sum x left rest reading.summing next in
        let setting = score_within k reference in
        subst (λ u. Summing 2000 u rest) (sym is) (summing_more 2000 sum x left rest reading.summing next (x -ℤ k) (omega (arith, ints)) (omega (arith, ints)))

    decides : (int_le (pos h) t || mask_on t rest) ≡ masked h k s0 xs
    decides = ap (λ u. int_le (pos h) u || mask_on u rest) is ∙ sym (ap (mask_on sum) next) ∙ reading.mask

    pub reading_fits : (negsuc 8191999 ≤ℤ t) × (t ≤ℤ pos 8192000)
    reading_fits = summing_bounds 2000 t rest summing

    pub reading_more : int_le (pos h) t ≡ false → Reading xs t rest
    reading_more quiet = record { mask = sym (ap (λ b. b || mask_on t rest) quiet) ∙ decides; summing = summing }

    pub reading_alarms : int_le (pos h) t ≡ true → true ≡ masked h k s0 xs
    reading_alarms alarm = sym (ap (λ b. b || mask_on t rest) alarm) ∙ decides
