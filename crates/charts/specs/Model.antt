-- What a chart is, and the laws that every chart keeps.
--   Model    a chart by its meaning: size, start state, leaves, a step's next state and word, the look-back word of a list
--   run      the state after stepping through a list of scores, the oldest first
--   Quiet    the look-back word of every beginning of a list, and of the whole, is 0
--   Lawful   what every chart shows: Sized where it has a size, and 0 for the empty list
--   Sized    start and next states are below the size; words, looked back too, are below 2 to the leaves;
--            after a word other than 0 the next state is the start; stepping a list from the start ends with
--            its look-back word, if every shorter beginning has look-back word 0
use Rattle.std.specs.Prelude.{◌≡◌, ℕ, ◌^◌, ◌<◌, ◌≤◌, List, [], ◌∷◌, ◌++◌, ℤ, Some, Option, fold, ◌≢◌}
use Rattle.std.specs.List.{AllByRecursion}
use Rattle.common.specs.Score.{Score}

pub record Model : Type 0 where
  pub size : Option ℕ
  pub start : ℕ
  pub leaves : ℕ
  pub next : ℕ → ℤ → ℕ
  pub word : ℕ → ℤ → ℕ
  pub look : List ℤ → ℕ

abbrev pub run : (ℕ → ℤ → ℕ) → ℕ → List ℤ → ℕ
run next s xs = fold next s xs

abbrev pub Quiet : (List ℤ → ℕ) → List ℤ → Type 0
Quiet look xs = (front back : List ℤ) → front ++ back ≡ xs → look front ≡ 0

pub record Sized (m : Model) (n : ℕ) : Type 0 where
  pub few : n ≤ 65536
  pub narrow : m.leaves ≤ 16
  pub start_below : m.start < n
  pub next_below : (s : ℕ) (x : ℤ) → s < n → Score x → m.next s x < n
  pub word_below : (s : ℕ) (x : ℤ) → s < n → Score x → m.word s x < 2 ^ m.leaves
  pub look_below : (xs : List ℤ) → AllByRecursion Score xs → m.look xs < 2 ^ m.leaves
  pub restarts : (s : ℕ) (x : ℤ) → s < n → Score x → (m.word s x ≢ 0) → m.next s x ≡ m.start
  pub agrees : (before : List ℤ) (last : ℤ) → AllByRecursion Score before → Score last → Quiet m.look before → m.word (run m.next m.start before) last ≡ m.look (before ++ last ∷ [])

pub record Lawful (m : Model) : Type 0 where
  pub look_none : m.look [] ≡ 0
  pub sized : (n : ℕ) → m.size ≡ Some n → Sized m n
