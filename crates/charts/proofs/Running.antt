-- Stepping through a list of scores.
use Rattle.std.proofs.Common.{◌≡◌, ℕ, ◌<◌, List, [], ◌∷◌, ◌++◌, ℤ, sym, ap, ◌∙◌}
use Rattle.std.specs.List.{AllByRecursion}
use Rattle.std.proofs.lemmas.List.{append_assoc, append-nil}
use Rattle.std.proofs.lemmas.List.Sums.{fold_push}
use Rattle.common.specs.Score.{Score}
use Rattle.charts.proofs.Lists.{snoc_ind}
use Rattle.charts.specs.Model.{Model, Sized, Quiet, run}

-- the states on the way are below the size
pub run_below : (m : Model) (n : ℕ) → Sized m n → (s : ℕ) → s < n → (xs : List ℤ) → AllByRecursion Score xs → run m.next s xs < n
run_below m n sized s b [] q = b
run_below m n sized s b (x ∷ xs) q = run_below m n sized (m.next s x) (sized.next_below s x b q.0) xs q.1

module _ (look : List ℤ → ℕ) (xs : List ℤ) (x : ℤ) where
  -- a quiet list is quiet before its last
  pub quiet_before : Quiet look (xs ++ x ∷ []) → Quiet look xs
  quiet_before quiet front back e = quiet front (back ++ x ∷ []) (sym (append_assoc front back (x ∷ [])) ∙ ap (λ l. l ++ x ∷ []) e)

  -- and as a whole
  pub quiet_whole : Quiet look (xs ++ x ∷ []) → look (xs ++ x ∷ []) ≡ 0
  quiet_whole quiet = quiet (xs ++ x ∷ []) [] (append-nil (xs ++ x ∷ []))

pub all_before : (xs : List ℤ) (x : ℤ) → AllByRecursion Score (xs ++ x ∷ []) → AllByRecursion Score xs
all_before [] x q = tt
all_before (y ∷ ys) x q = (q.0, all_before ys x q.1)

pub all_last : (xs : List ℤ) (x : ℤ) → AllByRecursion Score (xs ++ x ∷ []) → Score x
all_last [] x q = q.0
all_last (y ∷ ys) x q = all_last ys x q.1

-- the state after a quiet list: one that the start has and that every quiet score carries on
pub run_tracks : (m : Model) (state : List ℤ → ℕ) → state [] ≡ m.start
    → ((xs : List ℤ) (x : ℤ) → AllByRecursion Score xs → Score x → Quiet m.look xs → m.look (xs ++ x ∷ []) ≡ 0 → m.next (state xs) x ≡ state (xs ++ x ∷ []))
    → (xs : List ℤ) → AllByRecursion Score xs → Quiet m.look xs → run m.next m.start xs ≡ state xs
run_tracks m state none more = snoc_ind (λ xs. AllByRecursion Score xs → Quiet m.look xs → run m.next m.start xs ≡ state xs) (λ k quiet. sym none) on
  where
    on : (xs : List ℤ) (x : ℤ) → (AllByRecursion Score xs → Quiet m.look xs → run m.next m.start xs ≡ state xs)
        → AllByRecursion Score (xs ++ x ∷ []) → Quiet m.look (xs ++ x ∷ []) → run m.next m.start (xs ++ x ∷ []) ≡ state (xs ++ x ∷ [])
    on xs x before k quiet =
        let scores = all_before xs x k in
        let earlier = quiet_before m.look xs x quiet in
        fold_push m.next m.start xs x
        ∙ ap (λ s. m.next s x) (before scores earlier)
        ∙ more xs x scores (all_last xs x k) earlier (quiet_whole m.look xs x quiet)
