-- Marks of scores as the bits of a number, and how many of them are set.
use Rattle.std.specs.Prelude.{◌≡◌, ℕ, zero, suc, ◌+◌, ◌-◌, ◌*◌, ◌/◌, ◌%◌, ◌^◌, ◌<◌, ◌≤◌, Bool, true, false, List, [], ◌∷◌, ◌++◌, length, drop, ℤ, refl}
use Rattle.std.proofs.Math.Path.{sym, ap}
use Rattle.std.proofs.Common.{ap₂, ◌∙◌, pow-suc, add-one, arith, shr_lt}
use Rattle.std.proofs.Math.Nat.{add-mul-mod_self_right}
use Rattle.std.proofs.Math.Arith.{lt-one}
use Rattle.std.specs.Int.Count.{ones_in, ones, ones_step}
use Rattle.std.proofs.Math.Pow.{mod-mod-pow, field}
use Rattle.std.proofs.Math.Seq.{drop-nil}
use Rattle.std.proofs.lemmas.Nat.{div-add-mod'}
use Rattle.std.proofs.lemmas.List.{drop_all, drop-append-le, length_push}
use Rattle.std.proofs.lemmas.List.Sums.{sum_by-append}
use Rattle.charts.specs.Model.{run}
use Rattle.charts.specs.Words.{bit}
use Rattle.charts.proofs.Lists.{snoc_ind}
use Rattle.std.proofs.lemmas.List.Sums.{fold_push}
use Rattle.runs.specs.Runs.{mark, count_in, last_scores, marked}

bit_one : (b : Bool) → bit b ≤ 1
bit_one true = omega arith
bit_one false = omega arith

pub mark_one : (y x : ℤ) → mark y x ≤ 1
mark_one y x = bit_one _

ones_none : (k : ℕ) → ones_in k 0 ≡ 0
unfolding ones_in
ones_none zero = refl
ones_none (suc k) = let rest = ones_none k in omega arith

-- one more bit, the lowest
ones_push : (m n b : ℕ) → 1 ≤ m → b ≤ 1 → ones_in m (2 * n + b) ≡ b + ones_in (m - 1) n
unfolding ones_in
ones_push zero n b some small = absurd (omega arith)
ones_push (suc k) n b some small =
    let low : (2 * n + b) % 2 ≡ b = omega arith in
    let rest : (2 * n + b) / 2 ≡ n = omega arith in
    let less : k ≡ suc k - 1 = omega arith in
    ap₂ (λ p q. p + ones_in k q) low rest ∙ ap (λ j. b + ones_in j n) less

-- the bits above the k lowest are no matter
ones_low : (k n : ℕ) → ones_in k (n % 2 ^ k) ≡ ones_in k n
unfolding ones_in
ones_low zero n = refl
ones_low (suc k) n =
    ap (λ j. ones_in (suc k) (n % 2 ^ j)) (sym (add-one k))
    ∙ ap₂ (λ p q. p + ones_in k q) (mod-mod-pow n k 1) (field n k 1)
    ∙ ap (λ c. n % 2 + c) (ones_low k (n / 2))

-- all the bits of a number below 2 to the k
pub ones_all : (k n : ℕ) → n < 2 ^ k → ones n ≡ ones_in k n
unfolding ones_in ones
ones_all zero n small = ap ones (lt-one small)
ones_all (suc k) n small = ones_step n ∙ ap (λ c. n % 2 + c) (ones_all k (n / 2) (shr_lt k 1 (omega (arith, ap (λ j. 2 ^ j) (add-one k)))))

-- a remainder, doubled
pub twice_low : (n b d : ℕ) → (2 * (n % d) + b) % d ≡ (2 * n + b) % d
twice_low n b d =
    let split = div-add-mod' n d in
    let whole : 2 * (n % d) + b + 2 * (n / d) * d ≡ 2 * n + b = omega arith in
    sym (add-mul-mod_self_right (2 * (n % d) + b) (2 * (n / d)) d) ∙ ap (λ a. a % d) whole

-- the marks of m scores
pub marked_below : (y : ℤ) (m s : ℕ) (x : ℤ) → 1 ≤ m → s < 2 ^ (m - 1) → marked y s x < 2 ^ m
marked_below y zero s x some below = absurd (omega arith)
marked_below y (suc k) s x some below =
    let less : 2 ^ (suc k - 1) ≡ 2 ^ k = ap (λ j. 2 ^ j) (omega arith) in
    let twice = pow-suc 2 k in
    let small = mark_one y x in
    omega arith

module _ (y : ℤ) where
  pub count_push : (xs : List ℤ) (x : ℤ) → count_in y (xs ++ x ∷ []) ≡ mark y x + count_in y xs
  count_push xs x =
      let more : count_in y (xs ++ x ∷ []) ≡ count_in y xs + count_in y (x ∷ []) = sum_by-append (mark y) xs (x ∷ []) in
      let one : count_in y (x ∷ []) ≡ 0 + mark y x = refl in
      omega arith

  pub count_cons : (x : ℤ) (xs : List ℤ) → count_in y (x ∷ xs) ≡ mark y x + count_in y xs
  count_cons x xs =
      let more : count_in y (x ∷ xs) ≡ count_in y (x ∷ []) + count_in y xs = sum_by-append (mark y) (x ∷ []) xs in
      let one : count_in y (x ∷ []) ≡ 0 + mark y x = refl in
      omega arith

  -- the last m of a list with one more score
  last_push : (m : ℕ) (xs : List ℤ) (x : ℤ) → 1 ≤ m → count_in y (last_scores m (xs ++ x ∷ [])) ≡ mark y x + count_in y (last_scores (m - 1) xs)
  last_push m xs x some =
      let long = length_push xs x in
      let less : length (xs ++ x ∷ []) - m ≡ length xs - (m - 1) = omega arith in
      ap (λ n. count_in y (drop n (xs ++ x ∷ []))) less
      ∙ ap (count_in y) (drop-append-le (length xs - (m - 1)) xs (x ∷ []) (omega arith))
      ∙ count_push (drop (length xs - (m - 1)) xs) x

  -- the marks of all scores of a list
  abbrev pub marks : List ℤ → ℕ
  marks = run (marked y) 0

  pub marks_push : (m : ℕ) (xs : List ℤ) (x : ℤ) (n : ℕ) → 1 ≤ m → ones_in (m - 1) n ≡ count_in y (last_scores (m - 1) xs) → ones_in m (marked y n x) ≡ count_in y (last_scores m (xs ++ x ∷ []))
  marks_push m xs x n some e = ones_push m n (mark y x) some (mark_one y x) ∙ ap (λ c. mark y x + c) e ∙ sym (last_push m xs x some)

  -- as many of the k lowest are set as scores of the last k count
  marks_count : (xs : List ℤ) (k : ℕ) → ones_in k (marks xs) ≡ count_in y (last_scores k xs)
  unfolding ones_in
  marks_count = snoc_ind (λ xs. (k : ℕ) → ones_in k (marks xs) ≡ count_in y (last_scores k xs)) (λ k. ones_none k ∙ sym (ap (count_in y) (drop-nil (0 - k)))) on
    where
      on : (xs : List ℤ) (x : ℤ) → ((k : ℕ) → ones_in k (marks xs) ≡ count_in y (last_scores k xs)) → (k : ℕ) → ones_in k (marks (xs ++ x ∷ [])) ≡ count_in y (last_scores k (xs ++ x ∷ []))
      on xs x before zero = sym (ap (count_in y) (drop_all (length (xs ++ x ∷ []) - 0) (xs ++ x ∷ []) (omega arith)))
      on xs x before (suc k) = ap (ones_in (suc k)) (fold_push (marked y) 0 xs x) ∙ marks_push (suc k) xs x (marks xs) (omega arith) (before (suc k - 1))

  pub marks_low : (xs : List ℤ) (k : ℕ) → ones_in k (marks xs % 2 ^ k) ≡ count_in y (last_scores k xs)
  marks_low xs k = ones_low k (marks xs) ∙ marks_count xs k
