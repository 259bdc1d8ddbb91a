-- The refusals of charts.
--   chart_refusal     of a step or a look-back: 5 no size, 6 a state or score out of range, 15 too many scores
--   setting_refusal   of making a leaf: 4 a setting out of its range
use Rattle.common.specs.Refusals.{bare}
use Rattle.common.specs.declared.refusal.Refusal.{Refusal}
use Rattle.charts.specs.declared.fault.ChartFault.{ChartFault}
use Rattle.charts.specs.declared.fault.ChartFault.TheVariants.{NoSize, TooLong}
use Rattle.charts.specs.declared.fault.ChartFault.TheVariants as Chart
use Rattle.charts.specs.declared.fault.SettingFault.{SettingFault}
use Rattle.charts.specs.declared.fault.SettingFault.TheVariants as Setting

abbrev pub chart_refusal : ChartFault → Refusal
chart_refusal NoSize = bare 5
chart_refusal Chart.OutOfRange = bare 6
chart_refusal TooLong = bare 15

abbrev pub setting_refusal : SettingFault → Refusal
setting_refusal Setting.OutOfRange = bare 4
