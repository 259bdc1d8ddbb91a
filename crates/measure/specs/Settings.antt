-- What a measure can be made of.
--   least_unit      1/1024
--   least_unit_is   its bits stand for that number
--   is_unit         whether a float is from 1/1024 to 1,000,000
--   measure_fault   1, unless the target is from -1,000,000 to 1,000,000 and the unit from 1/1024 to 1,000,000
use Rattle.std.specs.Prelude.{◌≡◌, Bool, false, cond, ◌&&◌, negsuc, Some, None, Option, refl, Float}
use Rattle.std.specs.Float.{fin, binary64}
use Rattle.std.specs.Float.Ieee.{le, of_bits}
use Rattle.scoring.specs.Range.{in_range}
use Rattle.scoring.specs.declared.fault.SourceSettingFault.{SourceSettingFault}
use Rattle.scoring.specs.declared.fault.SourceSettingFault.TheVariants.{OutOfRange}

abbrev pub least_unit : Float
least_unit = of_bits binary64 0x3f50_0000_0000_0000

-- 1 times 2 to the power -10
pub least_unit_is : least_unit ≡ fin false 1 (negsuc 9)
unfolding of_bits
least_unit_is = refl

abbrev pub is_unit : Float → Bool
is_unit x = in_range x && le least_unit x

abbrev pub measure_fault : Float → Float → Option SourceSettingFault
measure_fault target unit = cond (in_range target && is_unit unit) None (Some OutOfRange)
