use Rattle.std.proofs.Common.{◌≡◌, true, false, sym, w16}
use lib.Ieee.{binary64, eq, of_bits, to_signed}
use lib.Ieee.Casts.{to_signed_in}
use Rattle.std.proofs.lemmas.Int.{to_z-of_z}
use Rattle.std.specs.Float.{float_round}
use Rattle.measure.proofs.NearestLaws.{off_above, off_below, on_scale, rounded_cast, rounded_to_zero}
use Rattle.measure.proofs.nearest_score.Goals as goal
use Rattle.measure.proofs.nearest_score.Goals.{else-quotient-via-else-quotient, else-quotient-via-then-quotient+else-quotient-2}

pub float_to_int-result : goal.float_to_int-result
float_to_int-result c =
    let x = c.args.quotient in
    let nonzero : eq (float_round binary64 x) (of_bits binary64 0) ≡ false = cc in
    rw c.round-whole.ensures (rounded_cast x (on_scale x c.if-quotient.true c.if-quotient-2.true) nonzero).0

pub returns-then-whole : goal.returns-then-whole
returns-then-whole c =
    let x = c.args.quotient in
    let zeroed : eq (float_round binary64 x) (of_bits binary64 0) ≡ true = cc in
    rounded_to_zero x (on_scale x c.if-quotient.true c.if-quotient-2.true) zeroed

pub returns-else-whole : goal.returns-else-whole
returns-else-whole c =
    let x = c.args.quotient in
    let nonzero : eq (float_round binary64 x) (of_bits binary64 0) ≡ false = cc in
    let back = (rounded_cast x (on_scale x c.if-quotient.true c.if-quotient-2.true) nonzero).1 in
    let fit = to_z-of_z w16 (to_signed 15 c.round-whole.result) (record { sfits = to_signed_in 15 c.round-whole.result }) in
    cc

pub returns-else-quotient : goal.returns-else-quotient
returns-else-quotient c =
    elim c.else-quotient.branch [
      | else-quotient-via-else-quotient w ↦ sym (off_below c.args.quotient w.if-quotient.false)
      | else-quotient-via-then-quotient+else-quotient-2 w ↦ sym (off_above c.args.quotient w.if-quotient-2.false)
    ]
