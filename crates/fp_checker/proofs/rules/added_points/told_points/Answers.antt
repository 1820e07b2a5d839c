use Rattle.std.proofs.Common.{Ok, ap, ◌∙◌, arith}
use Rattle.std.proofs.lemmas.Bool.{false_from_ne_true}
use Rattle.fp_certificate_rules.proofs.AddedPoints.{HaveAdded-greatest_round, HaveAdded_push, HaveAdded-list_has, HaveAdded-ArePointsOf, HaveAdded-AreAddedPoints}
use Rattle.fp_checker.proofs.Results.{Part_injective, New-not_There}
use Rattle.fp_checker.proofs.rules.added_points.told_points.Goals as goal

pub add-requires-clause-order : goal.add-requires-clause-order
add-requires-clause-order c =
    HaveAdded-greatest_round c.args.instance.now c.args.windows.now.anchors c.args.added.now c.loop-point.points c.loop-point.point-index _ c.loop-point.invariant
    (c.rounds_ascend.ensures.0 c.if-not-rounds_ascend.false) (omega arith)

pub returns-in-There-clause-part : goal.returns-in-There-clause-part
returns-in-There-clause-part c number same = (
  Part_injective 4 number same,
  HaveAdded-list_has c.args.instance.now c.args.windows.now.anchors c.args.added.now c.loop-point.points c.loop-point.point-index _ c.loop-point.invariant (omega arith)
      (c.requires.range c.loop-point.point-index _ (omega arith)).terminal (c.add.ensures.there.0 (c.in_ok-add.was ∙ ap Ok c.in-There.is)),
)

pub loop-point-preserved : goal.loop-point-preserved
loop-point-preserved c =
    HaveAdded_push c.args.instance.now c.args.windows.now.anchors c.args.added.now c.loop-point.points c.add.new.self c.loop-point.point-index _ c.loop-point.invariant
    (c.rounds_ascend.ensures.0 c.if-not-rounds_ascend.false) (omega arith) (c.requires.range c.loop-point.point-index _ (omega arith)).terminal
    (false_from_ne_true _ (λ there. New-not_There c.add.result c.in_ok-add.field-0 c.in_ok-add.was c.in-New.is (c.add.ensures.there.1 there)))
    (c.add.ensures.new (c.in_ok-add.was ∙ ap Ok c.in-New.is))

pub returns-clause-points : goal.returns-clause-points
returns-clause-points c =
    HaveAdded-ArePointsOf c.args.instance.now c.args.windows.now.anchors c.args.added.now c.loop-point.points c.loop-point.point-index c.requires.belongs.valid c.loop-point.invariant (omega arith)
    c.requires.range (c.few_in_rounds.ensures.0 c.if-not-few_in_rounds.false)

pub returns-clause-holds : goal.returns-clause-holds
returns-clause-holds c =
    HaveAdded-AreAddedPoints c.args.instance.now c.args.windows.now.anchors c.args.added.now c.loop-point.points c.loop-point.point-index c.loop-point.invariant (omega arith)
    (c.rounds_ascend.ensures.0 c.if-not-rounds_ascend.false) (c.few_in_rounds.ensures.0 c.if-not-few_in_rounds.false)
