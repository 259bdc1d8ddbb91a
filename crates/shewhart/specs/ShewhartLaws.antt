-- The laws of the Shewhart limit.
use Rattle.std.specs.Prelude.{ℤ, refl}
use Rattle.std.proofs.Common.{sym, ap, arith}
use Rattle.charts.specs.Model.{Lawful}
use Rattle.charts.proofs.LeafLaws.{leaf_lawful}
use Rattle.charts.proofs.Lists.{latest_is}
use Rattle.shewhart.specs.Shewhart.{above, shewhart}

pub shewhart_lawful : (c : ℤ) → Lawful (shewhart c)
shewhart_lawful c = leaf_lawful _ _ _ _ _ (record {
  few = omega arith;
  start_below = omega arith;
  next_below = λ s x b q quiet. omega arith;
  look_none = refl;
  agrees = λ before last q r quiet. sym (ap (above c) (latest_is before last));
})
