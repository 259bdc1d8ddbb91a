-- What a constructor answers.
--   Made   a value of which Holds, where there is no fault; else the fault
use Rattle.std.specs.Prelude.{◌≡◌, Some, None, Ok, Err, Option, Result}

abbrev pub Made : {T E : Type 0} → Option E → (T → Type 0) → Result T E → Type 0
Made fault Holds (Ok made) = (fault ≡ None) × Holds made
Made fault Holds (Err given) = fault ≡ Some given
