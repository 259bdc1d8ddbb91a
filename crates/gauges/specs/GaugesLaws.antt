-- What gauges answer is a score.
use Rattle.std.specs.Prelude.{◌≡◌, Bool, true, false, cond, ℤ, pos, neg_ℤ, Ok, Err, Result, Float}
use Rattle.std.proofs.Common.{subst, arith}
use Rattle.std.specs.Float.Ieee.{le, lt}
use Rattle.std.proofs.lemmas.Int.{ints}
use Rattle.std.specs.Result.{result_and}
use Rattle.common.specs.Score.{Score}
use Rattle.scoring.specs.Range.{admitted}
use Rattle.scoring.specs.declared.fault.SourceFault.{SourceFault}
use Rattle.gauges.specs.Gauges.{gauge_score, zone_score}
use Rattle.gauges.specs.Settings.{in_order}

-- whichever zone it is
zone_within : (a b : ℤ) → in_order a b ≡ true → (h i j k : Bool) →
    Score (cond h (neg_ℤ b) (cond i (neg_ℤ a) (cond j (pos 0) (cond k a b))))
zone_within a b order true i j k = grind (arith, ints)
zone_within a b order false true j k = grind (arith, ints)
zone_within a b order false false true k = grind (arith, ints)
zone_within a b order false false false true = grind (arith, ints)
zone_within a b order false false false false = grind (arith, ints)

answered : (taken : Result (Unit {0}) SourceFault) (z x : ℤ) → result_and taken (Ok z) ≡ Ok x → z ≡ x
answered (Ok ok) z x e = cc
answered (Err fault) z x e = cc

pub gauges_within : (p q r s : Float) (a b : ℤ) → in_order a b ≡ true → (reading : Float) (x : ℤ) →
    gauge_score p q r s a b reading ≡ Ok x → Score x
gauges_within p q r s a b order reading x e =
    subst Score (answered (admitted reading) (zone_score p q r s a b reading) x e)
    (zone_within a b order (le reading p) (le reading q) (lt reading r) (lt reading s))
