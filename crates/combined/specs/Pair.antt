-- Two charts side by side.
--   product      the size: the product of both; absent where either is, above 65,536, and where the leaves together pass 16
--   states       the number of states of a chart that has a size
--   pair_word    the word: the first's bits, and above them the second's
--   pair_start   the start state: the first's times the states of the second, plus the second's
--   sizes_at     the sizes of a pair with so many states, and of both its charts
--   sizes        the same of any pair, where it has a size
--   word_at      the word at a state s and a score: the first is at s / states of the second, the second at the remainder
--   pair         both charts; where either alarms, both go to their starts
use Rattle.std.specs.Prelude.{ℕ, ◌+◌, ◌*◌, ◌/◌, ◌%◌, ◌^◌, cond, ◌&&◌, ℤ, Some, None, Option, ◌==◌, nat_le}
use Rattle.std.specs.Option.{option_map, unwrap_or}
use Rattle.charts.specs.Model.{Model}
use Rattle.combined.specs.declared.pair.Sizes.{Sizes}

abbrev pub product : Option ℕ → Option ℕ → ℕ → Option ℕ
product None q leaves = None
product (Some p) None leaves = None
product (Some p) (Some q) leaves = cond (nat_le (p * q) 65536 && nat_le leaves 16) (Some (p * q)) None

abbrev pub states : Model → ℕ
states m = unwrap_or m.size 0

abbrev pub pair_word : Model → ℕ → ℕ → ℕ
pair_word a first second = first + 2 ^ a.leaves * second

abbrev pub pair_start : Model → Model → ℕ
pair_start a b = a.start * states b + b.start

abbrev pub sizes_at : Model → Model → ℕ → Sizes
sizes_at a b n = record {
  pair = record { states = n; leaves = a.leaves + b.leaves };
  first = record { states = states a; leaves = a.leaves };
  second = record { states = states b; leaves = b.leaves };
}

abbrev pub sizes : Model → Model → Option Sizes
sizes a b = option_map (sizes_at a b) (product a.size b.size (a.leaves + b.leaves))

abbrev pub word_at : Model → Model → ℕ → ℤ → ℕ
word_at a b s x = pair_word a (a.word (s / states b) x) (b.word (s % states b) x)

abbrev pub pair : Model → Model → Model
pair a b = record {
  size = product a.size b.size (a.leaves + b.leaves);
  start = pair_start a b;
  leaves = a.leaves + b.leaves;
  next = λ s x. cond (word_at a b s x == 0) (a.next (s / states b) x * states b + b.next (s % states b) x) (pair_start a b);
  word = word_at a b;
  look = λ xs. pair_word a (a.look xs) (b.look xs);
}
