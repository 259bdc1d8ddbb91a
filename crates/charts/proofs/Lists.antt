-- Lists with one more at the end.
use Rattle.std.proofs.Common.{◌≡◌, ◌-◌, List, [], ◌∷◌, ◌++◌, length, ℤ, Some, sym, ap, ◌∙◌, subst, arith}
use Rattle.std.specs.List.{slice_get}
use Rattle.std.proofs.Math.Seq.{get_or-append_seam}
use Rattle.std.proofs.lemmas.List.{append-nil, append_assoc, length_push}
use Rattle.std.proofs.lemmas.Option.{slice_get-get_or}
use Rattle.charts.specs.Scores.{latest}

-- the last of a list is its latest
pub latest_is : (xs : List ℤ) (x : ℤ) → latest (xs ++ x ∷ []) ≡ Some x
latest_is xs x =
    let more = length_push xs x in
    let place : length (xs ++ x ∷ []) - 1 ≡ length xs = omega arith in
    ap (slice_get (xs ++ x ∷ [])) place
    ∙ slice_get-get_or (xs ++ x ∷ []) (length xs) x (omega arith)
    ∙ ap Some (get_or-append_seam xs x [] x)

-- induction, one more at the end
pub snoc_ind : {X : Type 0} (P : List X → Type 0) → P [] → ((xs : List X) (x : X) → P xs → P (xs ++ x ∷ [])) → (xs : List X) → P xs
snoc_ind {X} P none more xs = go [] xs none
  where
    go : (front back : List X) → P front → P (front ++ back)
    go front [] h = subst P (sym (append-nil front)) h
    go front (x ∷ back) h = subst P (append_assoc front (x ∷ []) back) (go (front ++ x ∷ []) back (more front x h))
