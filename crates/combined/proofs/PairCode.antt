-- What the code of a pair needs: its numbers fit, and its parts never decline a step that the pair takes.
use Rattle.std.proofs.Common.{◌≡◌, ℕ, ◌+◌, ◌*◌, ◌/◌, ◌%◌, ◌^◌, ◌<◌, ◌≤◌, List, ℤ, Some, None, Ok, Err, Option, sym, refl, ap, ◌∙◌, subst, arith, pow_mono}
use Rattle.std.specs.Option.{ok_or, option_map}
use Rattle.common.specs.Score.{Score}
use Rattle.charts.specs.Answers.{started, stepped, looked}
use Rattle.charts.specs.Model.{Model, Lawful}
use Rattle.charts.specs.declared.fault.ChartFault.{ChartFault}
use Rattle.charts.specs.declared.fault.ChartFault.TheVariants.{NoSize}
use Rattle.charts.proofs.Looking.{passed, all_scores}
use Rattle.charts.proofs.Stepping.{Took, started_is, stepped_is, stepped_ok, looked_is}
use Rattle.combined.specs.Pair.{pair, product, sizes, sizes_at, states}
use Rattle.combined.specs.PairLaws.{Parts, parts, sized_first, sized_second, side, first_of, second_of, word_fits}
use Rattle.combined.specs.declared.pair.Sizes.{Sizes}

-- what the sizes of a pair tell
record Known (a b : Model) (z : Sizes) : Type 0 where
  sized : (pair a b).size ≡ Some z.pair.states
  second_states : z.second.states ≡ states b
  first_leaves : z.first.leaves ≡ a.leaves

known : (a b : Model) (z : Sizes) → ok_or (sizes a b) NoSize ≡ Ok z → Known a b z
known a b z e = go (product a.size b.size (a.leaves + b.leaves)) refl e
  where
    go : (size : Option ℕ) → product a.size b.size (a.leaves + b.leaves) ≡ size → ok_or (option_map (sizes_at a b) size) NoSize ≡ Ok z → Known a b z
    go None s e = cc
    go (Some n) s e =
        let same : sizes_at a b n ≡ z = cc in
        record { sized = s ∙ ap (λ y. Some y.pair.states) same; second_states = sym (ap (λ y. y.second.states) same); first_leaves = sym (ap (λ y. y.first.leaves) same) }

some_same : {o : Option ℕ} {m n : ℕ} → o ≡ Some m → o ≡ Some n → m ≡ n
some_same e f = cc

module _ (a b : Model) (la : Lawful a) (lb : Lawful b) (z : Sizes) (e : ok_or (sizes a b) NoSize ≡ Ok z) where
  here : Known a b z
  here = known a b z e

  d : Parts a b z.pair.states
  d = parts a b z.pair.states here.sized

  -- the state of two states
  state_fits : (r t : ℕ) → r < d.p → t < d.q → r * z.second.states + t < 2 ^ 32
  state_fits r t f s =
      let is = d.is in
      let few = d.few in
      let place = subst (λ m. r * m + t < z.pair.states) (sym here.second_states) (side a b la lb z.pair.states d r t f s) in
      omega arith

  pub starts_fit : (first second : ℕ) → started a.size a.start ≡ Ok first → started b.size b.start ≡ Ok second → first * z.second.states + second < 2 ^ 32
  starts_fit first second f s =
      state_fits first second
      (subst (λ m. m < d.p) (sym (started_is a.size a.start first f)) (sized_first a b la lb z.pair.states d).start_below)
      (subst (λ m. m < d.q) (sym (started_is b.size b.start second s)) (sized_second a b la lb z.pair.states d).start_below)

  -- the bits of the first leave room in a word
  pub first_narrow : z.first.leaves ≤ 16
  first_narrow =
      let few = d.narrow in
      let same = here.first_leaves in
      omega arith

  -- the words of both fit side by side
  words_join : (low high : ℕ) → low < 2 ^ a.leaves → high < 2 ^ b.leaves → low + 2 ^ z.first.leaves * high < 65536
  words_join low high f s =
      let most : 2 ^ (a.leaves + b.leaves) ≤ 2 ^ 16 = pow_mono d.narrow in
      let fit = word_fits a b low high f s in
      subst (λ k. low + 2 ^ k * high < 65536) (sym here.first_leaves) (omega arith)

  module _ (s : ℕ) (x : ℤ) where
    -- the first takes a step that the pair takes
    pub first_takes : (fault : ChartFault) → s < z.pair.states → Score x → stepped a.size a.next a.word (s / z.second.states) x ≡ Err fault → ⊥
    first_takes fault h k refused =
        let below = subst (λ m. s / m < d.p) (sym here.second_states) (first_of a b la lb z.pair.states d s h) in
        let ok = stepped_ok a.size a.next a.word (s / z.second.states) x d.p d.first below k in
        cc

    -- and so does the second
    pub second_takes : (fault : ChartFault) → s < z.pair.states → Score x → stepped b.size b.next b.word (s % z.second.states) x ≡ Err fault → ⊥
    second_takes fault h k refused =
        let below = subst (λ m. s % m < d.q) (sym here.second_states) (second_of a b la lb z.pair.states d s h) in
        let ok = stepped_ok b.size b.next b.word (s % z.second.states) x d.q d.second below k in
        cc

  -- steps that both take, from any states of theirs
  module _ (s t : ℕ) (x : ℤ) (first low second high : ℕ) (f : stepped a.size a.next a.word s x ≡ Ok (first, low)) (g : stepped b.size b.next b.word t x ≡ Ok (second, high)) where
    one : Took a.size a.next a.word s x first low
    one = stepped_is a.size a.next a.word s x first low f

    two : Took b.size b.next b.word t x second high
    two = stepped_is b.size b.next b.word t x second high g

    -- the next states fit
    pub steps_fit : first * z.second.states + second < 2 ^ 32
    steps_fit =
        let below_one : s < d.p = let same : one.n ≡ d.p = some_same one.sized d.first in let h = one.below in omega arith in
        let below_two : t < d.q = let same : two.n ≡ d.q = some_same two.sized d.second in let h = two.below in omega arith in
        state_fits first second
        (subst (λ m. m < d.p) (sym one.state) ((sized_first a b la lb z.pair.states d).next_below s x below_one one.score))
        (subst (λ m. m < d.q) (sym two.state) ((sized_second a b la lb z.pair.states d).next_below t x below_two two.score))

    -- and the words side by side
    pub steps_join : low + 2 ^ z.first.leaves * high < 65536
    steps_join =
        words_join low high
        (subst (λ m. m < 2 ^ a.leaves) (sym one.bits) ((la.sized one.n one.sized).word_below s x one.below one.score))
        (subst (λ m. m < 2 ^ b.leaves) (sym two.bits) ((lb.sized two.n two.sized).word_below t x two.below two.score))

  pub looks_join : (xs : List ℤ) (low high : ℕ) → looked a.size a.look xs ≡ Ok low → looked b.size b.look xs ≡ Ok high → low + 2 ^ z.first.leaves * high < 65536
  looks_join xs low high f s =
      let one = looked_is a.size a.look xs low f in
      let two = looked_is b.size b.look xs high s in
      let scores = all_scores xs (passed xs one.1).scores in
      words_join low high
      (subst (λ m. m < 2 ^ a.leaves) (sym one.0) ((sized_first a b la lb z.pair.states d).look_below xs scores))
      (subst (λ m. m < 2 ^ b.leaves) (sym two.0) ((sized_second a b la lb z.pair.states d).look_below xs scores))
