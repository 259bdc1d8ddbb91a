use Rattle.std.proofs.Common.{reverse, ◌≡◌, pos, ◌+ℤ◌, ◌-ℤ◌, sym, ◌∙◌, subst, arith, w32, to_z, of_z}
use Rattle.std.proofs.lemmas.Int.{ints, to_z-of_z}
use Rattle.charts.specs.Scores.{listed, to_come}
use Rattle.page.proofs.MaskLaws.{Reading, reading_none, reading_fits, reading_more, reading_alarms}
use Rattle.page.proofs.Page.mask.Goals.{After-excess-sum}
use Rattle.page.proofs.Page.mask.Goals as goal

pub loop-score-init : goal.loop-score-init
loop-score-init c =
    let self = c.args.self.now in
    let all : reverse (listed c.args.scores) ≡ to_come c.into_iter-score-iterator.result = cc in
    subst (Reading self.h self.k self.s0 (listed c.args.scores) (pos 0)) all (reading_none self.h self.k self.s0 _ c.requires)

-- what the score adds
added : (c : After-excess-sum) → to_z w32 c.loop-score.sum-bits +ℤ to_z w32 (of_z w32 c.excess-sum.result) ≡ to_z w32 c.loop-score.sum-bits +ℤ (c.in-Some.score -ℤ c.args.self.now.k)
added c = omega (arith, ints)

pub overflow_add-sum : goal.overflow_add-sum
overflow_add-sum c =
    let self = c.args.self.now in
    let bounds = reading_fits self.h self.k self.s0 _ _ _ _ _ _ self.reference c.loop-score.invariant c.in-Some.ensures.steps (added c) in
    omega (arith, ints)

-- the sum with it
sum_is : (c : After-excess-sum) → to_z w32 (of_z w32 (to_z w32 c.loop-score.sum-bits +ℤ to_z w32 (of_z w32 c.excess-sum.result))) ≡ to_z w32 c.loop-score.sum-bits +ℤ (c.in-Some.score -ℤ c.args.self.now.k)
sum_is c = to_z-of_z w32 _ (overflow_add-sum c) ∙ added c

pub returns-then-alarms : goal.returns-then-alarms
returns-then-alarms c =
    let self = c.args.self.now in
    reading_alarms self.h self.k self.s0 _ _ _ _ _ _ self.reference c.loop-score.invariant c.in-Some.ensures.steps (sum_is (goal.at.returns-then-alarms c).After-excess-sum) (sym c.if-alarms.ensures)

pub loop-score-preserved : goal.loop-score-preserved
loop-score-preserved c =
    let self = c.args.self.now in
    reading_more self.h self.k self.s0 _ _ _ _ _ _ self.reference c.loop-score.invariant c.in-Some.ensures.steps (sum_is (goal.at.loop-score-preserved c).After-excess-sum) (sym c.if-alarms.ensures)
