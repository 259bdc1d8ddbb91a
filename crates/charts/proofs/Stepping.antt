-- What the answers of a chart tell of its meaning.
use Rattle.std.proofs.Common.{◌≡◌, ℕ, ◌<◌, true, List, ℤ, is_some, Some, None, Ok, Err, Option, Result, sym, refl, ap, ◌∙◌, arith}
use Rattle.std.specs.Option.{ok_or}
use Rattle.common.specs.Score.{Score}
use Rattle.charts.specs.Answers.{checked_step, size_of, started, stepped, taken, looked}
use Rattle.charts.specs.Scores.{checked}
use Rattle.charts.specs.declared.chart.Size.{Size}
use Rattle.charts.specs.declared.fault.ChartFault.{ChartFault}

-- a size that is answered
pub size_is : (size : Option ℕ) (leaves : ℕ) (z : Size) → size_of size leaves ≡ Some z → (size ≡ Some z.states) × (z.leaves ≡ leaves)
size_is None leaves z e = cc
size_is (Some n) leaves z e =
    let same : ◌≡◌ {A = Size} (record { states = n; leaves = leaves }) z = cc in
    (ap (λ y. Some y.states) same, sym (ap (λ y. y.leaves) same))

-- there is one where there is a size
pub size_there : (size : Option ℕ) (leaves : ℕ) → is_some (size_of size leaves) ≡ is_some size
size_there None leaves = refl
size_there (Some n) leaves = refl

-- so a chart whose size is answered has one
pub size_answered : (size : Option ℕ) (leaves : ℕ) (z : Size) (fault : ChartFault) → Ok z ≡ ok_or (size_of size leaves) fault → is_some size ≡ true
size_answered None leaves z fault e = cc
size_answered (Some n) leaves z fault e = refl

-- a start that is answered is the start
pub started_is : (size : Option ℕ) (start s : ℕ) → started size start ≡ Ok s → s ≡ start
started_is None start s e = cc
started_is (Some n) start s e = cc

-- a step that is answered is the step from a state below the size by a score
pub record Took (size : Option ℕ) (next word : ℕ → ℤ → ℕ) (s : ℕ) (x : ℤ) (t w : ℕ) : Type 0 where
  pub n : ℕ
  pub sized : size ≡ Some n
  pub below : s < n
  pub score : Score x
  pub state : t ≡ next s x
  pub bits : w ≡ word s x

-- a step that is taken is from a state below the size, by a score
pub checked_step_is : (n s : ℕ) (x : ℤ) (ok : Unit {0}) → checked_step n s x ≡ Ok ok → (s < n) × Score x
checked_step_is n s x ok e = (grind arith, grind arith)

pub stepped_is : (size : Option ℕ) (next word : ℕ → ℤ → ℕ) (s : ℕ) (x : ℤ) (t w : ℕ) → stepped size next word s x ≡ Ok (t, w) → Took size next word s x t w
stepped_is None next word s x t w e = cc
stepped_is (Some n) next word s x t w e = go (checked_step n s x) refl e
  where
    go : (check : Result (Unit {0}) ChartFault) → checked_step n s x ≡ check → taken {A = ℕ × ℕ} check (next s x, word s x) ≡ Ok (t, w) → Took (Some n) next word s x t w
    go (Ok ok) c e =
        let both = checked_step_is n s x ok c in
        let same : ◌≡◌ {A = ℕ × ℕ} (next s x, word s x) (t, w) = cc in
        record { n = n; sized = refl; below = both.0; score = both.1; state = sym (ap (λ z. z.0) same); bits = sym (ap (λ z. z.1) same) }
    go (Err fault) c e = cc

-- a step from a state below the size by a score is answered
pub stepped_ok : (size : Option ℕ) (next word : ℕ → ℤ → ℕ) (s : ℕ) (x : ℤ) (n : ℕ) → size ≡ Some n → s < n → Score x → stepped size next word s x ≡ Ok (next s x, word s x)
stepped_ok size next word s x n e b k =
    let passes : checked_step n s x ≡ Ok tt = grind arith in
    ap (λ o. stepped o next word s x) e ∙ ap (λ check. taken {A = ℕ × ℕ} check (next s x, word s x)) passes

-- a word that is answered is the look-back word, of a list that passes the check
pub looked_is : (size : Option ℕ) (look : List ℤ → ℕ) (xs : List ℤ) (w : ℕ) → looked size look xs ≡ Ok w → (w ≡ look xs) × (checked xs ≡ Ok tt)
looked_is None look xs w e = cc
looked_is (Some n) look xs w e = go (checked xs) refl e
  where
    go : (t : Result (Unit {0}) ChartFault) → checked xs ≡ t → taken t (look xs) ≡ Ok w → (w ≡ look xs) × (checked xs ≡ Ok tt)
    go (Ok u) c e = (cc, c)
    go (Err f) c e = cc
