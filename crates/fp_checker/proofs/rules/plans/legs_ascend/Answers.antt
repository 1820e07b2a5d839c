use Rattle.std.proofs.Common.{refl, arith}
use Rattle.fp_timetable.specs.declared.lines.LegLine.{LegLine}
use Rattle.fp_base_lists.specs.Order.{Precedes}
use Rattle.fp_base_lists.proofs.Order.{Precedes-trans}
use Rattle.fp_base_lists.proofs.Pairs.{AllPairs-from_adjacent}
use Rattle.fp_checker.proofs.rules.plans.legs_ascend.Goals as goal

pub returns : goal.returns
returns c =
    (λ _. AllPairs-from_adjacent (λ (k l : LegLine). Precedes k.depart k.shipment l.depart l.shipment) (λ k l m. Precedes-trans k.depart k.shipment l.depart l.shipment m.depart m.shipment) c.args.legs.now c.loop-place.place c.loop-place.invariant (omega arith), λ _. refl)
