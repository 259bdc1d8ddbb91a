-- From a float to the whole number nearest to it.
use Rattle.std.proofs.Common.{◌≡◌, ℕ, zero, suc, ◌+◌, ◌*◌, ◌^◌, ◌<◌, ◌≤◌, Bool, true, false, T, ℤ, pos, Some, None, sym, refl, ap, ◌∙◌, zero-lt-suc, div-lt_iff_lt-mul, mul-pos, le-div_iff_mul-le, zero-mul, arith, le→leb, lt→ltb}
use lib.Ieee.{Float, nan, inf, fin, binary64, down, eq, in_float, in_signed, lt, neg, of_bits, of_int, round, to_signed, up}
use lib.Ieee.Back.{negative_back, positive_back, round_whole}
use lib.Ieee.Exact.{HasValue}
use lib.Ieee.Fits.{down_pos}
use Rattle.std.proofs.lemmas.Int.{ints}
use Rattle.std.proofs.lemmas.Bool.{ltb-true, ltb-false, eqb-true, both_ways, and_parts}
use Rattle.std.specs.Float.{float_round, round_with}
use Rattle.common.specs.Score.{is_score}
use Rattle.measure.specs.Measure.{nearest_score, nearest_up, signed_by}

-- 1000.5
abbrev pub edge : Float
edge = of_bits binary64 0x408f_4400_0000_0000

-- a finite float whose nearest whole number is a score
abbrev pub Near : Float → Type 0
Near nan = ⊥
Near (inf s) = ⊥
Near (fin s m e) = nearest_up (m * up e) (down e) ≤ 1000

-- ---- a size below 1000.5 is near 1,000 at most, and any other is not

near : (n d : ℕ) → 0 < d → n * 2 < 2001 * d → nearest_up n d ≤ 1000
near n d h below =
    let k : nearest_up n d < 1001 = (div-lt_iff_lt-mul {k = 2 * d} {x = 2 * n + d} {y = 1001} (omega arith)).1 (omega arith) in
    omega arith

far : (n d : ℕ) → 0 < d → 2001 * d ≤ n * 2 → 1000 < nearest_up n d
far n d h above = (le-div_iff_mul-le {k = 2 * d} {x = 1001} {y = 2 * n + d} (omega arith)).1 (omega arith)

score_near : (s : Bool) (k : ℕ) → k ≤ 1000 → is_score (signed_by s k) ≡ true
score_near false k h = grind (arith, ints)
score_near true zero h = refl
score_near true (suc k) h = grind (arith, ints)

score_far : (s : Bool) (k : ℕ) → 1000 < k → is_score (signed_by s k) ≡ false
score_far false k h = grind (arith, ints)
score_far true zero h = absurd (omega arith)
score_far true (suc k) h = grind (arith, ints)

near_score : (s : Bool) (m : ℕ) (e : ℤ) → Near (fin s m e) → nearest_score (fin s m e) ≡ Some (signed_by s (nearest_up (m * up e) (down e)))
near_score s m e h = rw (score_near s (nearest_up (m * up e) (down e)) h)

far_score : (s : Bool) (m : ℕ) (e : ℤ) → 1000 < nearest_up (m * up e) (down e) → nearest_score (fin s m e) ≡ None
far_score s m e h = rw (score_far s (nearest_up (m * up e) (down e)) h)

pub on_scale : (x : Float) → lt (neg edge) x ≡ true → lt x edge ≡ true → Near x
unfolding lt neg of_bits
on_scale nan low high = both_ways false refl low
on_scale (inf false) low high = both_ways false refl high
on_scale (inf true) low high = both_ways false refl low
on_scale (fin false m e) low high = near (m * up e) (down e) (down_pos e) (ltb-true (m * up e * 2) (2001 * down e) high)
on_scale (fin true m e) low high = near (m * up e) (down e) (down_pos e) (ltb-true (m * up e * 2) (2001 * down e) low)

pub off_below : (x : Float) → lt (neg edge) x ≡ false → nearest_score x ≡ None
unfolding lt neg of_bits
off_below nan low = refl
off_below (inf s) low = refl
off_below (fin false m e) low = let h = down_pos e in let k = ltb-false 0 (2001 * down e + m * up e * 2) low in absurd (omega arith)
off_below (fin true m e) low = far_score true m e (far (m * up e) (down e) (down_pos e) (ltb-false (m * up e * 2) (2001 * down e) low))

pub off_above : (x : Float) → lt x edge ≡ false → nearest_score x ≡ None
unfolding lt neg of_bits
off_above nan high = refl
off_above (inf s) high = refl
off_above (fin false m e) high = far_score false m e (far (m * up e) (down e) (down_pos e) (ltb-false (m * up e * 2) (2001 * down e) high))
off_above (fin true m e) high = let h = down_pos e in let k = ltb-false 0 (m * up e * 2 + 2001 * down e) high in absurd (omega arith)

-- ---- a whole number, as a float and back

-- a float that equals zero has no value but 0
zero_value : (x : Float) (s : Bool) (k : ℕ) → HasValue x s k 1 → eq x (of_bits binary64 0) ≡ true → k ≡ 0
unfolding eq of_bits
zero_value nan s k v e = absurd v
zero_value (inf t) s k v e = absurd v
zero_value (fin t m g) s zero v e = refl
zero_value (fin t m g) s (suc k) v e =
    let z = eqb-true (m * up g * 1) (0 * down g) (and_parts _ _ e).0 in
    let n = zero-mul (down g) in
    let h = mul-pos (zero-lt-suc k) (down_pos g) in
    let w = v.1 in
    absurd (omega arith)

cast_back : (s : Bool) (k : ℕ) → k ≤ 1000 → eq (round binary64 s k 1) (of_bits binary64 0) ≡ false →
    T (in_signed binary64 15 (round binary64 s k 1)) × (to_signed 15 (round binary64 s k 1) ≡ signed_by s k)
unfolding eq in_float of_bits of_int round
cast_back false k h z = positive_back binary64 15 k (le→leb k (2 ^ 53) (omega arith)) (omega arith)
cast_back true zero h z = absurd (both_ways true z refl)
cast_back true (suc k) h z = negative_back binary64 15 k (lt→ltb k (2 ^ 53) (omega arith)) (omega arith)

pub rounded_to_zero : (x : Float) → Near x → eq (float_round binary64 x) (of_bits binary64 0) ≡ true → Some (pos 0) ≡ nearest_score x
unfolding round_with
rounded_to_zero nan h z = absurd h
rounded_to_zero (inf s) h z = absurd h
rounded_to_zero (fin false m e) h z =
    let k = nearest_up (m * up e) (down e) in
    let is : k ≡ 0 = zero_value (round binary64 false k 1) false k (round_whole binary64 false k (omega arith)) z in
    sym (near_score false m e h ∙ ap (λ n. Some (signed_by false n)) is)
rounded_to_zero (fin true m e) h z =
    let k = nearest_up (m * up e) (down e) in
    let is : k ≡ 0 = zero_value (round binary64 true k 1) true k (round_whole binary64 true k (omega arith)) z in
    sym (near_score true m e h ∙ ap (λ n. Some (signed_by true n)) is)

pub rounded_cast : (x : Float) → Near x → eq (float_round binary64 x) (of_bits binary64 0) ≡ false →
    T (in_signed binary64 15 (float_round binary64 x)) × (Some (to_signed 15 (float_round binary64 x)) ≡ nearest_score x)
unfolding round_with
rounded_cast nan h z = absurd h
rounded_cast (inf s) h z = absurd h
rounded_cast (fin false m e) h z =
    let c = cast_back false (nearest_up (m * up e) (down e)) h z in
    (c.0, ap Some c.1 ∙ sym (near_score false m e h))
rounded_cast (fin true m e) h z =
    let c = cast_back true (nearest_up (m * up e) (down e)) h z in
    (c.0, ap Some c.1 ∙ sym (near_score true m e h))
