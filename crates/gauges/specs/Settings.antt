-- What gauges can be made of.
--   within_range   whether four limits are each from -1,000,000 to 1,000,000
--   is_rising      whether four limits strictly rise
--   in_order       whether two scores have 1 <= a < b <= 1,000
--   gauges_fault   1 where a limit is out of its range, then 2 where the limits do not rise, then 3 where the scores are not
--                  in order
use Rattle.std.specs.Prelude.{Bool, cond, not, ◌&&◌, ℤ, pos, Some, None, Option, int_le, int_lt, Float}
use Rattle.std.specs.Float.Ieee.{lt}
use Rattle.scoring.specs.Range.{in_range}
use Rattle.scoring.specs.declared.fault.SourceSettingFault.{SourceSettingFault}
use Rattle.scoring.specs.declared.fault.SourceSettingFault.TheVariants.{OutOfRange, NotRising, ScoresOutOfOrder}

abbrev pub within_range : Float → Float → Float → Float → Bool
within_range p q r s = in_range p && in_range q && in_range r && in_range s

abbrev pub is_rising : Float → Float → Float → Float → Bool
is_rising p q r s = lt p q && lt q r && lt r s

abbrev pub in_order : ℤ → ℤ → Bool
in_order a b = int_le (pos 1) a && int_lt a b && int_le b (pos 1000)

abbrev pub gauges_fault : Float → Float → Float → Float → ℤ → ℤ → Option SourceSettingFault
gauges_fault p q r s a b =
    cond (not (within_range p q r s)) (Some OutOfRange)
    (cond (not (is_rising p q r s)) (Some NotRising)
    (cond (not (in_order a b)) (Some ScoresOutOfOrder) None))
