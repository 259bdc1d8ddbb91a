-- What a runs rule can be made of.
--   runs_fault   refusal 4, unless t is from 2 to m, m at most 8 and y from -1,000 to 1,000
use Rattle.std.specs.Prelude.{ℕ, cond, ◌&&◌, ℤ, Some, None, Option, nat_le}
use Rattle.common.specs.Score.{is_score}
use Rattle.charts.specs.declared.fault.SettingFault.{SettingFault}
use Rattle.charts.specs.declared.fault.SettingFault.TheVariants.{OutOfRange}

abbrev pub runs_fault : ℕ → ℕ → ℤ → Option SettingFault
runs_fault t m y = cond ((nat_le 2 t && nat_le t m) && (nat_le m 8 && is_score y)) None (Some OutOfRange)
