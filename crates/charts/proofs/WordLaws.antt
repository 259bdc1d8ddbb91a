-- Words of one leaf, and bits past the end of a word.
use Rattle.std.proofs.Common.{◌≡◌, ℕ, ◌/◌, ◌%◌, ◌^◌, ◌<◌, ◌≤◌, Bool, true, false, cond, eqb, refl, ap, arith, lit<, pow_mono}
use native.Mathlib.Nat.{div-eq_of_lt}
use Rattle.charts.specs.Words.{bit, alarmed}

pub bit_below : (b : Bool) → bit b < 2 ^ 1
bit_below true = lit< tt
bit_below false = lit< tt

-- the word is 0 only where the leaf is quiet
pub bit_none : (b : Bool) → bit b ≡ 0 → b ≡ false
bit_none true e = absurd (omega arith)
bit_none false e = refl

-- after an alarm the next state is the start
pub restarted : (b : Bool) (start next : ℕ) → (bit b ≡ 0 → ⊥) → cond b start next ≡ start
restarted true start next alarm = refl
restarted false start next alarm = absurd (alarm refl)

pub none_past : (word leaf : ℕ) → word < 2 ^ 16 → 16 ≤ leaf → alarmed word leaf ≡ false
none_past word leaf small past =
    let most : 2 ^ 16 ≤ 2 ^ leaf = pow_mono past in
    let none : word / 2 ^ leaf ≡ 0 = div-eq_of_lt (omega arith) in
    ap (λ n. eqb (n % 2) 1) none
