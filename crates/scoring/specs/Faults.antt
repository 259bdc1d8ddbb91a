-- The refusals of sources.
--   source_refusal           of a reading: 10 not a number; 11 below the range and 12 above it, with the reading; 13 with the
--                            quotient and 14 with the difference that make no score
--   source_setting_refusal   of making a source: 1 a setting out of its range, 2 limits that do not rise, 3 scores out of order
use Rattle.common.specs.Refusals.{bare, carrying}
use Rattle.common.specs.declared.refusal.Carried.TheVariants.{Value, Difference}
use Rattle.common.specs.declared.refusal.Refusal.{Refusal}
use Rattle.scoring.specs.declared.fault.SourceFault.{SourceFault}
use Rattle.scoring.specs.declared.fault.SourceFault.TheVariants.{NotANumber, Below, Above, OffScale, OffCount}
use Rattle.scoring.specs.declared.fault.SourceSettingFault.{SourceSettingFault}
use Rattle.scoring.specs.declared.fault.SourceSettingFault.TheVariants.{OutOfRange, NotRising, ScoresOutOfOrder}

abbrev pub source_refusal : SourceFault → Refusal
source_refusal NotANumber = bare 10
source_refusal (Below reading) = carrying 11 (Value reading)
source_refusal (Above reading) = carrying 12 (Value reading)
source_refusal (OffScale quotient) = carrying 13 (Value quotient)
source_refusal (OffCount difference) = carrying 14 (Difference difference)

abbrev pub source_setting_refusal : SourceSettingFault → Refusal
source_setting_refusal OutOfRange = bare 1
source_setting_refusal NotRising = bare 2
source_setting_refusal ScoresOutOfOrder = bare 3
