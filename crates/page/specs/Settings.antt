-- What a Page chart can be made of.
--   page_fault   refusal 4, unless h is from 1 to 4,096, k from -1,000 to 1,000 and s0 below h
use Rattle.std.specs.Prelude.{ℕ, cond, ◌&&◌, ℤ, Some, None, Option, nat_le, nat_lt}
use Rattle.common.specs.Score.{is_score}
use Rattle.charts.specs.declared.fault.SettingFault.{SettingFault}
use Rattle.charts.specs.declared.fault.SettingFault.TheVariants.{OutOfRange}

abbrev pub page_fault : ℕ → ℤ → ℕ → Option SettingFault
page_fault h k s0 = cond ((nat_le 1 h && nat_le h 4096) && (is_score k && nat_lt s0 h)) None (Some OutOfRange)
