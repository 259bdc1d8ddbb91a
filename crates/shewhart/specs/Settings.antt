-- What a Shewhart limit can be made of.
--   shewhart_fault   refusal 4, unless c is from -1,000 to 1,000
use Rattle.std.specs.Prelude.{cond, ℤ, Some, None, Option}
use Rattle.common.specs.Score.{is_score}
use Rattle.charts.specs.declared.fault.SettingFault.{SettingFault}
use Rattle.charts.specs.declared.fault.SettingFault.TheVariants.{OutOfRange}

abbrev pub shewhart_fault : ℤ → Option SettingFault
shewhart_fault c = cond (is_score c) None (Some OutOfRange)
