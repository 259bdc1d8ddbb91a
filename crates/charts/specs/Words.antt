-- Alarm words.
--   bit       the word of one leaf: 1 where it alarms, else 0
--   alarmed   whether the leaf at a place, from 0, has its bit set
use Rattle.std.specs.Prelude.{ℕ, ◌/◌, ◌%◌, ◌^◌, Bool, cond, ◌==◌}

abbrev pub bit : Bool → ℕ
bit alarms = cond alarms 1 0

abbrev pub alarmed : ℕ → ℕ → Bool
alarmed word leaf = word / 2 ^ leaf % 2 == 1
