-- What one leaf has to show, so that it keeps the laws of every chart.
--   Shown         there are few states; the start, and what follows a score that does not alarm, is one; the empty list does
--                 not alarm; after a quiet list the state alarms at a score where the look-back alarms at the whole
--   leaf_lawful   such a leaf keeps the laws
use Rattle.std.specs.Prelude.{◌≡◌, ℕ, ◌<◌, ◌≤◌, Bool, true, false, cond, List, [], ◌∷◌, ◌++◌, ℤ, refl}
use Rattle.std.proofs.Common.{sym, ap, subst, arith}
use Rattle.std.specs.List.{AllByRecursion}
use Rattle.common.specs.Score.{Score}
use Rattle.charts.specs.Leaf.{leaf}
use Rattle.charts.specs.Model.{Lawful, Quiet, run}
use Rattle.charts.specs.Words.{bit}
use Rattle.charts.proofs.WordLaws.{bit_below, restarted}

module _ (states start : ℕ) (alarms : ℕ → ℤ → Bool) (next : ℕ → ℤ → ℕ) (look : List ℤ → Bool) where
  pub record Shown : Type 0 where
    pub few : states ≤ 65536
    pub start_below : start < states
    pub next_below : (s : ℕ) (x : ℤ) → s < states → Score x → alarms s x ≡ false → next s x < states
    pub look_none : look [] ≡ false
    pub agrees : (before : List ℤ) (last : ℤ) → AllByRecursion Score before → Score last → Quiet (leaf states start alarms next look).look before
        → alarms (run (leaf states start alarms next look).next start before) last ≡ look (before ++ last ∷ [])

  pub leaf_lawful : Shown → Lawful (leaf states start alarms next look)
  leaf_lawful shown = record {
    look_none = ap bit shown.look_none;
    sized = λ n e. let same : n ≡ states = cc in record {
      few = let few = shown.few in omega arith;
      narrow = omega arith;
      start_below = let below = shown.start_below in omega arith;
      next_below = λ s x b q. subst (λ m. (leaf states start alarms next look).next s x < m) (sym same) (settled (alarms s x) (next s x) (λ quiet. shown.next_below s x (omega arith) q quiet));
      word_below = λ s x b q. bit_below (alarms s x);
      look_below = λ xs q. bit_below (look xs);
      restarts = λ s x b q w. restarted (alarms s x) start (next s x) w;
      agrees = λ before last q r quiet. ap bit (shown.agrees before last q r quiet);
    };
  }
    where
      settled : (b : Bool) (t : ℕ) → (b ≡ false → t < states) → cond b start t < states
      settled true t below = shown.start_below
      settled false t below = below refl
