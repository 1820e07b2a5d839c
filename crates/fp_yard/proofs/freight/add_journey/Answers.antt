use Rattle.std.proofs.Common.{rules}
use Rattle.fp_base_lists.specs.Vectors.{lists_of}
use Rattle.fp_yard.proofs.FreightLists.{all-legs, one-leg}
use Rattle.fp_yard.proofs.freight.add_journey.Goals as goal

pub loop-leg-preserved : goal.loop-leg-preserved
loop-leg-preserved c = record {
  count = search rules;
  rest = λ line.
      one-leg line c.args.shipment c.loop-leg.leg _ c.args.journey.now (lists_of c.loop-leg.freight.items) (lists_of c.add.new.freight.items) _ (search rules) (search rules)
      (c.in_ok-add.ensures.legs line) (c.loop-leg.invariant.rest line);
}

pub returns-clause-legs : goal.returns-clause-legs
returns-clause-legs c = λ line. all-legs line c.args.shipment c.loop-leg.leg c.args.journey.now (lists_of c.loop-leg.freight.items) _ (search rules) (c.loop-leg.invariant.rest line)
