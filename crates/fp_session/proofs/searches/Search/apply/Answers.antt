-- What was planned may be done, and it is what the answer says.
use Rattle.std.proofs.Common.{◌∙◌, ap}
use Rattle.std.specs.Prelude.{None}
use Rattle.fp_session.specs.declared.searches.Search.{Search}
use Rattle.fp_session.specs.Searches.{cheapest_plan}
use Rattle.fp_session.proofs.StepsTaken.{better-cheaper, close-settled, divide-division, divide-left, divide-unsettled, kept-cheaper, kept-going, kept-reserve, refine-next, reserve-some, round-kept, stop-left, stop-none, stop-unsettled}
use Rattle.fp_session.proofs.StepOrder.{better-order, close-order, round-order, split-order, stop-order}
use Rattle.fp_session.proofs.searches.Search.apply.Goals as goal

pub close-requires-clause-settled : goal.close-requires-clause-settled
close-requires-clause-settled c = close-settled c.args.self.now c.args.prices.now c.args.leaf c.args.planned.kept c.args.planned.planned c.requires.planned c.in-Close.is

pub take-requires-clause-going : goal.take-requires-clause-going
take-requires-clause-going c =
    kept-going c.args.self.now c.keep.new.self c.args.self.now c.in-Better.cheaper
    (better-cheaper c.args.self.now c.args.prices.now c.args.leaf c.args.planned.kept c.args.planned.planned c.requires.planned c.in-Better.cheaper c.in-Better.is) c.keep.ensures.others c.requires.going

pub take-requires-clause-cheaper : goal.take-requires-clause-cheaper
take-requires-clause-cheaper c =
    rw c.in-Better.is (kept-cheaper c.args.self.now c.keep.new.self c.args.self.now c.in-Better.cheaper
    (better-cheaper c.args.self.now c.args.prices.now c.args.leaf c.args.planned.kept c.args.planned.planned c.requires.planned c.in-Better.cheaper c.in-Better.is) c.keep.ensures.others)

pub take_reserve-requires-clause-going : goal.take_reserve-requires-clause-going
take_reserve-requires-clause-going c = ap (λ (x : Search). x.left) c.keep-in-TakeReserve.ensures.others ∙ c.requires.going

pub take_reserve-requires-clause-some : goal.take_reserve-requires-clause-some
take_reserve-requires-clause-some c =
    kept-reserve c.args.self.now c.keep-in-TakeReserve.new.self c.keep-in-TakeReserve.ensures.others
    (reserve-some c.args.self.now c.args.prices.now c.args.leaf c.args.planned.kept c.args.planned.planned c.requires.planned c.in-TakeReserve.is)

pub returns-in-TakeReserve-clause-order : goal.returns-in-TakeReserve-clause-order
returns-in-TakeReserve-clause-order c =
    better-order c.args.self.now c.args.prices.now c.args.leaf c.args.planned.kept c.args.planned.planned c.requires.planned c.requires.least c.keep-in-TakeReserve.new.self c.take_reserve.new.self
    (cheapest_plan c.keep-in-TakeReserve.new.self) None c.keep-in-TakeReserve.new.self.preparation c.keep-in-TakeReserve.ensures.tree c.take_reserve.ensures.taken

pub refine-requires-clause-round : goal.refine-requires-clause-round
refine-requires-clause-round c =
    rw c.in-Refine.is (refine-next c.args.self.now c.args.prices.now c.args.leaf c.args.planned.kept c.args.planned.planned c.requires.planned c.in-Refine.note c.in-Refine.refined c.in-Refine.is)

pub divide-requires-clause-left : goal.divide-requires-clause-left
divide-requires-clause-left c = divide-left c.args.self.now c.args.prices.now c.args.leaf c.args.planned.kept c.args.planned.planned c.requires.planned c.in-Divide.division c.in-Divide.is

pub divide-requires-clause-unsettled : goal.divide-requires-clause-unsettled
divide-requires-clause-unsettled c = divide-unsettled c.args.self.now c.args.prices.now c.args.leaf c.args.planned.kept c.args.planned.planned c.requires.planned c.in-Divide.division c.in-Divide.is

pub divide-requires-clause-division : goal.divide-requires-clause-division
divide-requires-clause-division c = divide-division c.args.self.now c.args.prices.now c.args.leaf c.args.planned.kept c.args.planned.planned c.requires.planned c.in-Divide.division c.in-Divide.is

pub stop-requires-clause-unsettled : goal.stop-requires-clause-unsettled
stop-requires-clause-unsettled c = stop-unsettled c.args.self.now c.args.prices.now c.args.leaf c.args.planned.kept c.args.planned.planned c.requires.planned c.in-Stop.left c.in-Stop.is

pub stop-requires-clause-left : goal.stop-requires-clause-left
stop-requires-clause-left c = rw c.in-Stop.is (stop-left c.args.self.now c.args.prices.now c.args.leaf c.args.planned.kept c.args.planned.planned c.requires.planned c.in-Stop.left c.in-Stop.is)

pub stop-requires-clause-none : goal.stop-requires-clause-none
stop-requires-clause-none c = stop-none c.args.self.now c.args.prices.now c.args.leaf c.args.planned.kept c.args.planned.planned c.requires.planned c.in-Stop.left c.in-Stop.is

pub keep-requires-in-Refine-clause-kept : goal.keep-requires-in-Refine-clause-kept
keep-requires-in-Refine-clause-kept c =
    round-kept c.args.self.now c.refine.new.self c.args.prices.now c.in-Refine.note c.in-Refine.refined
    (refine-next c.args.self.now c.args.prices.now c.args.leaf c.args.planned.kept c.args.planned.planned c.requires.planned c.in-Refine.note c.in-Refine.refined c.in-Refine.is)
    (rw c.in-Refine.is at c.in_ok-refine-in-Refine.ensures.refined) c.args.leaf c.args.planned.kept c.requires.planned.kept

pub returns-in-Close-clause-order : goal.returns-in-Close-clause-order
returns-in-Close-clause-order c = close-order c.args.self.now c.args.prices.now c.args.leaf c.args.planned.kept c.args.planned.planned c.requires.planned c.requires.least c.close.new.self c.close.ensures.tree

pub returns-in-Better-clause-order : goal.returns-in-Better-clause-order
returns-in-Better-clause-order c = better-order c.args.self.now c.args.prices.now c.args.leaf c.args.planned.kept c.args.planned.planned c.requires.planned c.requires.least c.keep.new.self c.take.new.self c.in-Better.cheaper c.take.new.self.reserve c.take.new.self.preparation c.keep.ensures.tree (rw c.in-Better.is at c.take.ensures.taken)

pub returns-in_ok-refine-in-Refine-clause-order : goal.returns-in_ok-refine-in-Refine-clause-order
returns-in_ok-refine-in-Refine-clause-order c =
    round-order c.args.self.now c.args.prices.now c.args.leaf c.args.planned.kept c.args.planned.planned c.requires.planned c.requires.least c.refine.new.self c.keep-in-Refine.new.self c.in-Refine.note c.in-Refine.refined c.in-Refine.is
    (rw c.in-Refine.is at c.in_ok-refine-in-Refine.ensures.refined) c.keep-in-Refine.ensures.others c.keep-in-Refine.ensures.tree

pub returns-in_ok-divide-in-Divide-clause-order : goal.returns-in_ok-divide-in-Divide-clause-order
returns-in_ok-divide-in-Divide-clause-order c = split-order c.args.self.now c.args.prices.now c.args.leaf c.args.planned.kept c.args.planned.planned c.requires.planned c.requires.least c.divide.new.self c.in-Divide.division c.in-Divide.is c.in_ok-divide-in-Divide.ensures.tree

pub returns-in-Stop-clause-order : goal.returns-in-Stop-clause-order
returns-in-Stop-clause-order c =
    stop-order c.args.self.now c.args.prices.now c.args.leaf c.args.planned.kept c.args.planned.planned c.requires.planned c.requires.least c.stop.new.self c.in-Stop.left c.ending_of-ending.result c.in-Stop.is (rw c.in-Stop.is at c.ending_of-ending.ensures) c.stop.ensures.tree (rw c.in-Stop.is at c.stop.ensures.left)
