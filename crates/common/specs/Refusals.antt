-- Refusals.
--   bare       a number that carries nothing
--   carrying   a number, with what it carries
use Rattle.std.specs.Prelude.{ℕ, Some, None}
use Rattle.common.specs.declared.refusal.Carried.{Carried}
use Rattle.common.specs.declared.refusal.Refusal.{Refusal}

abbrev pub bare : ℕ → Refusal
bare number = record { number = number; carried = None }

abbrev pub carrying : ℕ → Carried → Refusal
carrying number carried = record { number = number; carried = Some carried }
