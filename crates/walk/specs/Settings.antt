-- What a random walk can be made of.
--   walk_fault   refusal 4, unless h is from 1 to 2,048
use Rattle.std.specs.Prelude.{ℕ, cond, ◌&&◌, Some, None, Option, nat_le}
use Rattle.charts.specs.declared.fault.SettingFault.{SettingFault}
use Rattle.charts.specs.declared.fault.SettingFault.TheVariants.{OutOfRange}

abbrev pub walk_fault : ℕ → Option SettingFault
walk_fault h = cond (nat_le 1 h && nat_le h 2048) None (Some OutOfRange)
