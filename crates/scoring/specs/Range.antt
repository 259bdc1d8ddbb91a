-- The range of what is measured.
--   million      1,000,000
--   million_is   its bits stand for that whole number
--   in_range     whether a float is from -1,000,000 to 1,000,000; no infinity is, nor what is not a number
--   admitted     whether a measured reading is taken: 10 where it is not a number, then 11 below the range and 12 above it,
--                with the reading
use Rattle.std.specs.Prelude.{◌≡◌, Bool, cond, ◌&&◌, pos, Ok, Err, Result, is_nan, refl, Float}
use Rattle.std.specs.Float.{binary64}
use Rattle.std.specs.Float.Ieee.{le, lt, neg, of_bits, of_int}
use Rattle.scoring.specs.declared.fault.SourceFault.{SourceFault}
use Rattle.scoring.specs.declared.fault.SourceFault.TheVariants.{NotANumber, Below, Above}

abbrev pub million : Float
million = of_bits binary64 0x412e_8480_0000_0000

pub million_is : million ≡ of_int binary64 (pos 1000000)
unfolding of_bits of_int
million_is = refl

abbrev pub in_range : Float → Bool
in_range x = le (neg million) x && le x million

abbrev pub admitted : Float → Result (Unit {0}) SourceFault
admitted x =
    cond (is_nan x) (Err NotANumber)
    (cond (lt x (neg million)) (Err (Below x))
    (cond (lt million x) (Err (Above x)) (Ok tt)))
