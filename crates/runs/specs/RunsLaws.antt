-- The laws of the runs rule: after a quiet list the state holds the marks of its last m - 1 scores.
use Rattle.std.specs.Prelude.{◌≡◌, ℕ, ◌-◌, ◌%◌, ◌^◌, ◌≤◌, cond, leb, List, [], ◌∷◌, ◌++◌, ℤ, nat_le}
use Rattle.std.proofs.Common.{sym, ap, ◌∙◌, mod-lt, arith, pow_pos, pow_mono}
use Rattle.std.proofs.Math.Seq.{drop-nil}
use Rattle.std.specs.List.{AllByRecursion}
use Rattle.std.proofs.lemmas.Bool.{lt-leb}
use Rattle.common.specs.Score.{Score}
use Rattle.charts.specs.Model.{Lawful, Quiet, run}
use Rattle.std.proofs.lemmas.List.Sums.{fold_push}
use Rattle.charts.proofs.Running.{run_tracks}
use Rattle.charts.proofs.LeafLaws.{leaf_lawful}
use Rattle.charts.proofs.WordLaws.{bit_none}
use Rattle.runs.specs.Runs.{mark, count_in, last_scores, marked, reached, runs}
use Rattle.runs.specs.Marks.{twice_low, marks, marks_push, marks_low}

module _ (t m : ℕ) (y : ℤ) (some : 1 ≤ m) where
  abbrev state : List ℤ → ℕ
  state xs = marks y xs % 2 ^ (m - 1)

  -- the marks after one more score are those of the last m scores
  word_is : (xs : List ℤ) (x : ℤ) → reached t m (marked y (state xs) x) ≡ nat_le t (count_in y (last_scores m (xs ++ x ∷ [])))
  word_is xs x = ap (leb t) (marks_push y m xs x (state xs) some (marks_low y xs (m - 1)))

  carried : (xs : List ℤ) (x : ℤ) → AllByRecursion Score xs → Score x → Quiet (runs t m y).look xs → (runs t m y).look (xs ++ x ∷ []) ≡ 0 → (runs t m y).next (state xs) x ≡ state (xs ++ x ∷ [])
  carried xs x k q quiet still =
      ap (λ b. cond b 0 (marked y (state xs) x % 2 ^ (m - 1))) (word_is xs x ∙ bit_none (nat_le t (count_in y (last_scores m (xs ++ x ∷ [])))) still)
      ∙ twice_low (marks y xs) (mark y x) (2 ^ (m - 1))
      ∙ sym (ap (λ n. n % 2 ^ (m - 1)) (fold_push (marked y) 0 xs x))

  tracks : (xs : List ℤ) → AllByRecursion Score xs → Quiet (runs t m y).look xs → run (runs t m y).next 0 xs ≡ state xs
  tracks = run_tracks (runs t m y) state none carried
    where
      none : 0 % 2 ^ (m - 1) ≡ 0
      none = let some = pow_pos (m - 1) in omega arith

pub runs_lawful : (t m : ℕ) (y : ℤ) → 2 ≤ t → t ≤ m → m ≤ 8 → Lawful (runs t m y)
runs_lawful t m y several within few = leaf_lawful _ _ _ _ _ (record {
  few = let most : 2 ^ (m - 1) ≤ 2 ^ 7 = pow_mono {i = m - 1} {j = 7} (omega arith) in omega arith;
  start_below = pow_pos (m - 1);
  next_below = λ s x b q quiet. mod-lt (marked y s x) (pow_pos (m - 1));
  look_none = ap (λ xs. leb t (count_in y xs)) (drop-nil (0 - m)) ∙ lt-leb t 0 (omega arith);
  agrees = λ before last q r quiet. ap (λ s. reached t m (marked y s last)) (tracks t m y (omega arith) before q quiet) ∙ word_is t m y (omega arith) before last;
})
