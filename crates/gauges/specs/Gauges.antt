-- The score by gauges, with the limits p, q, r, s and the scores a and b.
--   zone_score    -b up to and including p; -a above p, up to and including q; 0 strictly between q and r; a from r to below
--                 s; b from s on
--   gauge_score   the score of the zone, where the reading is taken; else its refusal, 10, 11 or 12
use Rattle.std.specs.Prelude.{cond, ℤ, pos, neg_ℤ, Ok, Result, Float}
use Rattle.std.specs.Float.Ieee.{le, lt}
use Rattle.std.specs.Result.{result_and}
use Rattle.scoring.specs.Range.{admitted}
use Rattle.scoring.specs.declared.fault.SourceFault.{SourceFault}

abbrev pub zone_score : Float → Float → Float → Float → ℤ → ℤ → Float → ℤ
zone_score p q r s a b x =
    cond (le x p) (neg_ℤ b) (cond (le x q) (neg_ℤ a) (cond (lt x r) (pos 0) (cond (lt x s) a b)))

abbrev pub gauge_score : Float → Float → Float → Float → ℤ → ℤ → Float → Result ℤ SourceFault
gauge_score p q r s a b x = result_and (admitted x) (Ok (zone_score p q r s a b x))
