-- The last scores of a list, counted from its end.
use Rattle.std.proofs.Common.{reverse, ◌≡◌, ℕ, ◌+◌, ◌-◌, Bool, true, false, leb, List, [], ◌∷◌, ◌++◌, length, take, drop, ℤ, sym, refl, ap, ◌∙◌, arith}
use Rattle.std.proofs.lemmas.Bool.{leb-true, leb-false}
use Rattle.std.proofs.lemmas.List.{length-reverse, length-drop, reverse-append, take_at, take_all, take-append-drop}
use Rattle.runs.specs.Marks.{count_cons, count_push}
use Rattle.runs.specs.Runs.{mark, count_in, last_scores}

module _ (y : ℤ) where
  count_backward : (xs : List ℤ) → count_in y (reverse xs) ≡ count_in y xs
  count_backward [] = refl
  count_backward (x ∷ xs) = ap (count_in y) (reverse-append (x ∷ []) xs) ∙ count_push y (reverse xs) x ∙ ap (λ n. mark y x + n) (count_backward xs) ∙ sym (count_cons y x xs)

  -- the first m of a list read backward are the last m
  take_backward : (m : ℕ) (xs : List ℤ) → take m (reverse xs) ≡ reverse (last_scores m xs)
  take_backward m xs =
      let parts = ap reverse (sym (take-append-drop (length xs - m) xs)) ∙ reverse-append (take (length xs - m) xs) (last_scores m xs) in
      go (leb m (length xs)) refl parts
    where
      go : (b : Bool) → leb m (length xs) ≡ b → reverse xs ≡ reverse (last_scores m xs) ++ reverse (take (length xs - m) xs) → take m (reverse xs) ≡ reverse (last_scores m xs)
      go true e parts =
          let enough = leb-true m (length xs) e in
          let long = length-reverse (last_scores m xs) in
          let dropped = length-drop (length xs - m) xs in
          ap (take m) parts ∙ take_at (reverse (last_scores m xs)) (reverse (take (length xs - m) xs)) m (omega arith)
      go false e parts =
          let less = leb-false m (length xs) e in
          let none : length xs - m ≡ 0 = omega arith in
          take_all m (reverse xs) (omega (arith, length-reverse xs)) ∙ ap (λ n. reverse (drop n xs)) (sym none)

  pub recent_is : (m : ℕ) (xs : List ℤ) → count_in y (take m (reverse xs)) ≡ count_in y (last_scores m xs)
  recent_is m xs = ap (count_in y) (take_backward m xs) ∙ count_backward (last_scores m xs)
