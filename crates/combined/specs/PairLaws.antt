-- The laws of two charts side by side, from the laws of each.
use Rattle.std.specs.Prelude.{◌≡◌, ℕ, ◌+◌, ◌*◌, ◌/◌, ◌%◌, ◌^◌, ◌<◌, ◌≤◌, Bool, true, false, cond, ◌&&◌, List, [], ◌∷◌, ◌++◌, ℤ, Some, None, Option, ◌==◌, ◌≢◌, nat_le, refl}
use Rattle.std.proofs.Common.{sym, ap, ap₂, ◌∙◌, subst, arith}
use Rattle.std.specs.Option.{unwrap_or}
use Rattle.std.specs.List.{AllByRecursion}
use Rattle.std.proofs.lemmas.Nat.{mul-le, mul-add-lt, div-mul-add, mod-mul-add, div_below, mod_below, pow-add, pow_pos}
use Rattle.std.proofs.lemmas.Bool.{leb-true, eq-eqb, ne_eqb, and_parts}
use Rattle.common.specs.Score.{Score}
use Rattle.charts.specs.Model.{Model, Lawful, Sized, Quiet, run}
use Rattle.charts.proofs.Lists.{snoc_ind}
use Rattle.std.proofs.lemmas.List.Sums.{fold_push}
use Rattle.charts.proofs.Running.{run_below, quiet_before, quiet_whole, all_before, all_last}
use Rattle.combined.specs.Pair.{product, states, pair_word, pair_start, word_at, pair}

-- what a pair's size tells
pub record Parts (a b : Model) (n : ℕ) : Type 0 where
  pub p : ℕ
  pub q : ℕ
  pub first : a.size ≡ Some p
  pub second : b.size ≡ Some q
  pub is : n ≡ p * q
  pub few : p * q ≤ 65536
  pub narrow : a.leaves + b.leaves ≤ 16

pub parts : (a b : Model) (n : ℕ) → (pair a b).size ≡ Some n → Parts a b n
parts a b n e = go a.size b.size refl refl e
  where
    known : (p q : ℕ) → a.size ≡ Some p → b.size ≡ Some q → (t : Bool) → (nat_le (p * q) 65536 && nat_le (a.leaves + b.leaves) 16) ≡ t → cond t (Some (p * q)) None ≡ Some n → Parts a b n
    known p q f s true t e =
        let both = and_parts (nat_le (p * q) 65536) (nat_le (a.leaves + b.leaves) 16) t in
        record { p = p; q = q; first = f; second = s; is = cc; few = leb-true _ _ both.0; narrow = leb-true _ _ both.1 }
    known p q f s false t e = cc

    go : (x y : Option ℕ) → a.size ≡ x → b.size ≡ y → product x y (a.leaves + b.leaves) ≡ Some n → Parts a b n
    go None y f s e = cc
    go (Some p) None f s e = cc
    go (Some p) (Some q) f s e = known p q f s _ refl e

-- a word is 0 only where both its parts are
word_none : (a : Model) (first second : ℕ) → pair_word a first second ≡ 0 → (first ≡ 0) × (second ≡ 0)
word_none a first second e =
    let grows = mul-le 1 second (2 ^ a.leaves) second (pow_pos a.leaves) (omega arith) in
    (omega arith, omega arith)

-- the words of both fit side by side
pub word_fits : (a b : Model) (first second : ℕ) → first < 2 ^ a.leaves → second < 2 ^ b.leaves → pair_word a first second < 2 ^ (a.leaves + b.leaves)
word_fits a b first second f s =
    let place = mul-add-lt second (2 ^ a.leaves) first (2 ^ b.leaves) s f in
    let power = pow-add 2 a.leaves b.leaves in
    let turned = native.Mathlib.Nat.mul_comm (2 ^ a.leaves) second in
    omega arith

module _ (a b : Model) (la : Lawful a) (lb : Lawful b) (n : ℕ) (d : Parts a b n) where
  pub sized_first : Sized a d.p
  sized_first = la.sized d.p d.first

  pub sized_second : Sized b d.q
  sized_second = lb.sized d.q d.second

  states_is : states b ≡ d.q
  states_is = ap (λ o. unwrap_or o 0) d.second

  -- a state of the second is below its states
  second_below : (r : ℕ) → r < d.q → r < states b
  second_below r h = subst (λ m. r < m) (sym states_is) h

  -- two states side by side
  pub side : (r t : ℕ) → r < d.p → t < d.q → r * states b + t < n
  side r t f s =
      let place = mul-add-lt r d.q t d.p f s in
      let turned = native.Mathlib.Nat.mul_comm d.p d.q in
      let is = d.is in
      subst (λ m. r * m + t < n) (sym states_is) (omega arith)

  pub first_of : (s : ℕ) → s < n → s / states b < d.p
  first_of s h =
      let is = d.is in
      let positive = sized_second.start_below in
      subst (λ m. s / m < d.p) (sym states_is) (div_below s d.q d.p (omega arith) (omega arith))

  pub second_of : (s : ℕ) → s < n → s % states b < d.q
  second_of s h =
      let positive = sized_second.start_below in
      subst (λ m. s % m < d.q) (sym states_is) (mod_below s d.q (omega arith))

  pair_start_below : pair_start a b < n
  pair_start_below = side a.start b.start sized_first.start_below sized_second.start_below

  pair_next_below : (s : ℕ) (x : ℤ) → s < n → Score x → (pair a b).next s x < n
  pair_next_below s x h k = go (word_at a b s x == 0)
    where
      go : (t : Bool) → cond t (a.next (s / states b) x * states b + b.next (s % states b) x) (pair_start a b) < n
      go true = side _ _ (sized_first.next_below _ x (first_of s h) k) (sized_second.next_below _ x (second_of s h) k)
      go false = pair_start_below

  pair_word_below : (s : ℕ) (x : ℤ) → s < n → Score x → word_at a b s x < 2 ^ (a.leaves + b.leaves)
  pair_word_below s x h k = word_fits a b _ _ (sized_first.word_below _ x (first_of s h) k) (sized_second.word_below _ x (second_of s h) k)

  pair_look_below : (xs : List ℤ) → AllByRecursion Score xs → (pair a b).look xs < 2 ^ (a.leaves + b.leaves)
  pair_look_below xs k = word_fits a b _ _ (sized_first.look_below xs k) (sized_second.look_below xs k)

  pair_restarts : (s : ℕ) (x : ℤ) → (word_at a b s x ≢ 0) → (pair a b).next s x ≡ pair_start a b
  pair_restarts s x w = ap (λ t. cond t (a.next (s / states b) x * states b + b.next (s % states b) x) (pair_start a b)) (ne_eqb (word_at a b s x) 0 w)

  goes_on : (s : ℕ) (x : ℤ) → word_at a b s x ≡ 0 → (pair a b).next s x ≡ a.next (s / states b) x * states b + b.next (s % states b) x
  goes_on s x w = ap (λ t. cond t (a.next (s / states b) x * states b + b.next (s % states b) x) (pair_start a b)) (eq-eqb (word_at a b s x) 0 w)

  quiet_first : (xs : List ℤ) → Quiet (pair a b).look xs → Quiet a.look xs
  quiet_first xs quiet front back h = (word_none a _ _ (quiet front back h)).0

  quiet_second : (xs : List ℤ) → Quiet (pair a b).look xs → Quiet b.look xs
  quiet_second xs quiet front back h = (word_none a _ _ (quiet front back h)).1

  -- the pair's state, while it is quiet: both run alone
  abbrev Both : List ℤ → Type 0
  Both xs = run (pair a b).next (pair_start a b) xs ≡ run a.next a.start xs * states b + run b.next b.start xs

  -- so at the next score the word is the look-back word
  word_at_last : (xs : List ℤ) (x : ℤ) → AllByRecursion Score xs → Score x → Quiet (pair a b).look xs → Both xs → word_at a b (run (pair a b).next (pair_start a b) xs) x ≡ (pair a b).look (xs ++ x ∷ [])
  word_at_last xs x k last quiet both =
      let r = run a.next a.start xs in
      let t = run b.next b.start xs in
      let below = second_below t (run_below b d.q sized_second b.start sized_second.start_below xs k) in
      ap (λ s. word_at a b s x) both
      ∙ ap₂ (λ u v. pair_word a (a.word u x) (b.word v x)) (div-mul-add r (states b) t below) (mod-mul-add r (states b) t below)
      ∙ ap₂ (pair_word a) (sized_first.agrees xs x k last (quiet_first xs quiet)) (sized_second.agrees xs x k last (quiet_second xs quiet))

  both : (xs : List ℤ) → AllByRecursion Score xs → Quiet (pair a b).look xs → Both xs
  both = snoc_ind (λ xs. AllByRecursion Score xs → Quiet (pair a b).look xs → Both xs) (λ k quiet. refl) more
    where
      more : (xs : List ℤ) (x : ℤ) → (AllByRecursion Score xs → Quiet (pair a b).look xs → Both xs) → AllByRecursion Score (xs ++ x ∷ []) → Quiet (pair a b).look (xs ++ x ∷ []) → Both (xs ++ x ∷ [])
      more xs x before k quiet =
          let kb = all_before xs x k in
          let qb = quiet_before (pair a b).look xs x quiet in
          let here = before kb qb in
          let r = run a.next a.start xs in
          let t = run b.next b.start xs in
          let below = second_below t (run_below b d.q sized_second b.start sized_second.start_below xs kb) in
          let none = word_at_last xs x kb (all_last xs x k) qb here ∙ quiet_whole (pair a b).look xs x quiet in
          fold_push (pair a b).next (pair_start a b) xs x
          ∙ goes_on (run (pair a b).next (pair_start a b) xs) x none
          ∙ ap (λ s. a.next (s / states b) x * states b + b.next (s % states b) x) here
          ∙ ap₂ (λ u v. a.next u x * states b + b.next v x) (div-mul-add r (states b) t below) (mod-mul-add r (states b) t below)
          ∙ sym (ap₂ (λ u v. u * states b + v) (fold_push a.next a.start xs x) (fold_push b.next b.start xs x))

  pair_sized : Sized (pair a b) n
  pair_sized = record {
    few = let is = d.is in let few = d.few in omega arith;
    narrow = d.narrow;
    start_below = pair_start_below;
    next_below = pair_next_below;
    word_below = pair_word_below;
    look_below = pair_look_below;
    restarts = λ s x h k w. pair_restarts s x w;
    agrees = λ before last k score quiet. word_at_last before last k score quiet (both before k quiet);
  }

pub pair_lawful : (a b : Model) → Lawful a → Lawful b → Lawful (pair a b)
pair_lawful a b la lb = record {
  look_none = ap₂ (pair_word a) la.look_none lb.look_none ∙ none (2 ^ a.leaves);
  sized = λ n e. pair_sized a b la lb n (parts a b n e);
}
  where
    none : (c : ℕ) → 0 + c * 0 ≡ 0
    none c = omega arith
