-- The score by a measure, with its target and unit.
--   nearest_up      the whole number nearest to the fraction n / d, halves up
--   nearest_up_is   it is the k with n / d from k - 1/2 to below k + 1/2, here with every part times 2 * d
--   signed_by       a size with a sign, where true is minus
--   nearest_score   the whole number nearest to a float, halves away from zero, where it is a score; an infinity and what is
--                   not a number have none. The finite float of sign s, digits m and exponent e is the number m times 2 to
--                   the power e with that sign, which is the fraction of m * up e and down e
--   quotient_of     the reading less the target, by the unit, each rounded once
--   measure_score   the score nearest to the quotient, where the reading is taken and there is one; else the reading's
--                   refusal, 10, 11 or 12, or 13 with the quotient
use Rattle.std.specs.Prelude.{ℕ, ◌+◌, ◌*◌, ◌/◌, ◌<◌, ◌≤◌, Bool, true, false, cond, ℤ, pos, neg_ℤ, Some, None, Option, Result, Float}
use Rattle.std.proofs.Common.{div-add-mod', le-div_iff_mul-le, mod-lt, arith}
use Rattle.std.specs.Float.{nan, inf, fin, binary64}
use Rattle.std.specs.Float.Ieee.{div, down, sub, up}
use Rattle.std.specs.Option.{ok_or}
use Rattle.std.specs.Result.{result_and}
use Rattle.common.specs.Score.{is_score}
use Rattle.scoring.specs.Range.{admitted}
use Rattle.scoring.specs.declared.fault.SourceFault.{SourceFault}
use Rattle.scoring.specs.declared.fault.SourceFault.TheVariants.{OffScale}

abbrev pub nearest_up : ℕ → ℕ → ℕ
nearest_up n d = (2 * n + d) / (2 * d)

pub nearest_up_is : (n d : ℕ) → 0 < d → (nearest_up n d * (2 * d) ≤ 2 * n + d) × (2 * n < nearest_up n d * (2 * d) + d)
nearest_up_is n d h = (
  (le-div_iff_mul-le {k = 2 * d} {x = nearest_up n d} {y = 2 * n + d} (omega arith)).0 (omega arith),
  let rest = mod-lt (2 * n + d) {m = 2 * d} (omega arith) in
      let parts = div-add-mod' (2 * n + d) (2 * d) in
      omega arith,
)

abbrev pub signed_by : Bool → ℕ → ℤ
signed_by false n = pos n
signed_by true n = neg_ℤ (pos n)

abbrev pub nearest_score : Float → Option ℤ
nearest_score nan = None
nearest_score (inf s) = None
nearest_score (fin s m e) =
    let x = signed_by s (nearest_up (m * up e) (down e)) in
    cond (is_score x) (Some x) None

abbrev pub quotient_of : Float → Float → Float → Float
quotient_of target unit x = div binary64 (sub binary64 x target) unit

abbrev pub measure_score : Float → Float → Float → Result ℤ SourceFault
measure_score target unit x =
    let q = quotient_of target unit x in
    result_and (admitted x) (ok_or (nearest_score q) (OffScale q))
