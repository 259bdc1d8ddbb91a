-- The laws of Page's cumulative sum. The V-mask from any state s in the place of the headstart: a score that does not
-- alarm moves it to the next state (`shift`), so stepping and looking back agree by induction from the front.
use Rattle.std.specs.Prelude.{◌≡◌, ℕ, ◌<◌, ◌≤◌, Bool, false, cond, ◌||◌, List, [], ◌∷◌, ◌++◌, ℤ, pos, negsuc, ◌+ℤ◌, ◌-ℤ◌, int_le, refl}
use Rattle.std.proofs.Common.{sym, ap, ◌∙◌, arith}
use Rattle.std.proofs.lemmas.Int.{ints}
use Rattle.charts.specs.Model.{Lawful, run}
use Rattle.charts.proofs.LeafLaws.{leaf_lawful}
use Rattle.charts.proofs.WordLaws.{bit_none}
use Rattle.page.specs.Page.{excess, masked, raised, floored, page}

-- d is what the first score adds, e the excess of the rest, t whether a shorter trailing part alarms
shift_sums : (h s : ℕ) (d e : ℤ) (t : Bool) (sum : ℤ) → pos s +ℤ d ≡ sum → int_le (pos h) sum ≡ false
    → ((int_le (pos h) (d +ℤ e) || (int_le (pos h) e || t)) || int_le (pos h) (pos s +ℤ (d +ℤ e))) ≡ ((int_le (pos h) e || t) || int_le (pos h) (pos (floored sum) +ℤ e))
shift_sums h s d e t (pos n) is low = grind (arith, ints)
shift_sums h s d e t (negsuc n) is low = grind (arith, ints)

module _ (h : ℕ) (k : ℤ) where
  -- a score x that does not alarm from s leaves the mask of what follows to the next state
  shift : (s : ℕ) (x y : ℤ) (ys : List ℤ) → int_le (pos h) (raised k s x) ≡ false → masked h k s (x ∷ (y ∷ ys)) ≡ masked h k (floored (raised k s x)) (y ∷ ys)
  shift s x y ys low = shift_sums h s (x -ℤ k) (excess k (y ∷ ys)) _ (raised k s x) refl low

  -- the same for what ends with a score
  shift_on : (s : ℕ) (x : ℤ) (ys : List ℤ) (last : ℤ) → int_le (pos h) (raised k s x) ≡ false → masked h k s (x ∷ (ys ++ last ∷ [])) ≡ masked h k (floored (raised k s x)) (ys ++ last ∷ [])
  shift_on s x [] last low = shift s x last [] low
  shift_on s x (y ∷ ys) last low = shift s x y (ys ++ last ∷ []) low

  -- one score alone
  alone : (s : ℕ) (x : ℤ) → masked h k s (x ∷ []) ≡ int_le (pos h) (raised k s x)
  alone s x = grind (arith, ints)

  -- no score alarms from a state below h
  none_alarm : (s : ℕ) → s < h → masked h k s [] ≡ false
  none_alarm s b = grind (arith, ints)

  floored_below : (sum : ℤ) → 0 < h → int_le (pos h) sum ≡ false → floored sum < h
  floored_below (pos n) b low = grind (arith, ints)
  floored_below (negsuc n) b low = b

  next_is : (s0 s : ℕ) (x : ℤ) → int_le (pos h) (raised k s x) ≡ false → (page h k s0).next s x ≡ floored (raised k s x)
  next_is s0 s x low = ap (λ b. cond b s0 (floored (raised k s x))) low

  -- from any state below h
  agree : (s0 s : ℕ) → s < h → (before : List ℤ) (last : ℤ) → ((front back : List ℤ) → front ++ back ≡ before → masked h k s front ≡ false)
      → int_le (pos h) (raised k (run (page h k s0).next s before) last) ≡ masked h k s (before ++ last ∷ [])
  agree s0 s b [] last quiet = sym (alone s last)
  agree s0 s b (x ∷ xs) last quiet =
      let low : int_le (pos h) (raised k s x) ≡ false = sym (alone s x) ∙ quiet (x ∷ []) xs refl in
      let t = floored (raised k s x) in
      let below : t < h = floored_below (raised k s x) (omega arith) low in
      let rest : (front back : List ℤ) → front ++ back ≡ xs → masked h k t front ≡ false = later s x low below xs quiet in
      ap (λ n. int_le (pos h) (raised k (run (page h k s0).next n xs) last)) (next_is s0 s x low) ∙ agree s0 t below xs last rest ∙ sym (shift_on s x xs last low)
    where
      later : (s : ℕ) (x : ℤ) → int_le (pos h) (raised k s x) ≡ false → floored (raised k s x) < h → (xs : List ℤ)
          → ((front back : List ℤ) → front ++ back ≡ x ∷ xs → masked h k s front ≡ false)
          → (front back : List ℤ) → front ++ back ≡ xs → masked h k (floored (raised k s x)) front ≡ false
      later s x low below xs quiet [] back e = none_alarm (floored (raised k s x)) below
      later s x low below xs quiet (y ∷ ys) back e = sym (shift s x y ys low) ∙ quiet (x ∷ (y ∷ ys)) back (ap (λ zs. x ∷ zs) e)

pub page_lawful : (h : ℕ) (k : ℤ) (s0 : ℕ) → h ≤ 4096 → s0 < h → Lawful (page h k s0)
page_lawful h k s0 few ahead = leaf_lawful _ _ _ _ _ (record {
  few = omega arith;
  start_below = ahead;
  next_below = λ s x b q low. floored_below h k (raised k s x) (omega arith) low;
  look_none = none_alarm h k s0 ahead;
  agrees = λ before last q r quiet. agree h k s0 s0 ahead before last (λ front back e. bit_none (masked h k s0 front) (quiet front back e));
})
