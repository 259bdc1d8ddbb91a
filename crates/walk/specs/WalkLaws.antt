-- The laws of the random walk: after a quiet list the state stands for the total of the list.
use Rattle.std.specs.Prelude.{◌≡◌, ℕ, ◌-◌, ◌*◌, ◌<◌, ◌≤◌, false, cond, List, [], ◌∷◌, ◌++◌, ℤ, pos, ◌+ℤ◌, neg_ℤ, int_le}
use Rattle.std.proofs.Common.{sym, ap, ◌∙◌, arith}
use Rattle.std.specs.List.{AllByRecursion}
use Rattle.std.proofs.lemmas.List.{append-nil}
use Rattle.std.proofs.lemmas.Int.{ints}
use Rattle.std.proofs.lemmas.Bool.{or_parts, or_from}
use Rattle.common.specs.Score.{Score}
use Rattle.charts.specs.Model.{Lawful, Quiet, run}
use Rattle.charts.proofs.Running.{run_tracks}
use Rattle.charts.proofs.LeafLaws.{leaf_lawful}
use Rattle.charts.proofs.WordLaws.{bit_none}
use Rattle.walk.specs.Walk.{total, outside, total_at, state_of, moved, walk}

pub total_push : (xs : List ℤ) (x : ℤ) → total (xs ++ x ∷ []) ≡ total xs +ℤ x
total_push [] x = omega (arith, ints)
total_push (y ∷ ys) x = let rest = total_push ys x in omega (arith, ints)

module _ (h : ℕ) (some : 1 ≤ h) where
  -- a total of 0 is between the limits
  none_outside : outside h (pos 0) ≡ false
  none_outside = or_from (int_le (pos h) (pos 0)) (int_le (pos 0) (neg_ℤ (pos h))) (grind (arith, ints)) (grind (arith, ints))

  -- between the limits the state stands for the total
  stands : (t : ℤ) → outside h t ≡ false → total_at h (state_of h t) ≡ t
  stands t quiet = let both = or_parts (int_le (pos h) t) (int_le t (neg_ℤ (pos h))) quiet in omega (arith, ints)

  state_below : (t : ℤ) → outside h t ≡ false → state_of h t < 2 * h - 1
  state_below t quiet = let both = or_parts (int_le (pos h) t) (int_le t (neg_ℤ (pos h))) quiet in omega (arith, ints)

  state_none : state_of h (pos 0) ≡ h - 1
  state_none = omega (arith, ints)

  whole_quiet : (xs : List ℤ) → Quiet (walk h).look xs → outside h (total xs) ≡ false
  whole_quiet xs quiet = bit_none (outside h (total xs)) (quiet xs [] (append-nil xs))

  -- a score after a quiet list makes the total of both
  moved_on : (xs : List ℤ) (x : ℤ) → Quiet (walk h).look xs → moved h (state_of h (total xs)) x ≡ total (xs ++ x ∷ [])
  moved_on xs x quiet = ap (λ t. t +ℤ x) (stands (total xs) (whole_quiet xs quiet)) ∙ sym (total_push xs x)

  carried : (xs : List ℤ) (x : ℤ) → AllByRecursion Score xs → Score x → Quiet (walk h).look xs → (walk h).look (xs ++ x ∷ []) ≡ 0 → (walk h).next (state_of h (total xs)) x ≡ state_of h (total (xs ++ x ∷ []))
  carried xs x k q quiet still =
      ap (λ t. cond (outside h t) (h - 1) (state_of h t)) (moved_on xs x quiet)
      ∙ ap (λ b. cond b (h - 1) (state_of h (total (xs ++ x ∷ [])))) (bit_none (outside h (total (xs ++ x ∷ []))) still)

  tracks : (xs : List ℤ) → AllByRecursion Score xs → Quiet (walk h).look xs → run (walk h).next (walk h).start xs ≡ state_of h (total xs)
  tracks = run_tracks (walk h) (λ xs. state_of h (total xs)) state_none carried

pub walk_lawful : (h : ℕ) → 1 ≤ h → h ≤ 2048 → Lawful (walk h)
walk_lawful h some few = leaf_lawful _ _ _ _ _ (record {
  few = omega arith;
  start_below = omega arith;
  next_below = λ s x b q quiet. state_below h some (moved h s x) quiet;
  look_none = none_outside h some;
  agrees = λ before last q r quiet. ap (λ s. outside h (moved h s last)) (tracks h some before q quiet) ∙ ap (outside h) (moved_on h some before last quiet);
})
