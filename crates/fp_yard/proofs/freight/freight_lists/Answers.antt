use Rattle.std.proofs.Common.{◌<◌, ◌∙◌, ◌+◌, ◌++◌, ℕ, List, [], length, rules, sym, ap, subst, arith}
use Rattle.std.specs.Prelude.{All}
use Rattle.fp_base_lists.specs.Vectors.{lists_of}
use Rattle.fp_yard.specs.Freight.{freight_at, members_by}
use Rattle.fp_yard.proofs.FreightLists.{all-journeys, journey-in, length-lists, lists_of-drop, one-journey}
use Rattle.fp_yard.proofs.freight.freight_lists.Goals as goal

pub add_journey-requires-clause-exist : goal.add_journey-requires-clause-exist
add_journey-requires-clause-exist c =
    let here = journey-in c.args.journeys.now c.loop-shipment.shipment c.index-journeys-shipment.result c.deref.result.now (search rules) c.index-journeys-shipment.is c.deref.ensures.value in
    let lt : c.loop-shipment.shipment < length (lists_of c.args.journeys.now) = omega (arith, length-lists c.args.journeys.now, c.loop-shipment-test.true) in
    subst (λ (n : ℕ). All (λ line. line < n) c.deref.result.now) (sym c.loop-shipment.invariant.count)
    (subst (λ (j : List ℕ). All (λ line. line < c.args.lines) j) (sym here) (c.requires.exist c.loop-shipment.shipment [] lt))

pub add_journey-requires-clause-few : goal.add_journey-requires-clause-few
add_journey-requires-clause-few c =
    let here = journey-in c.args.journeys.now c.loop-shipment.shipment c.index-journeys-shipment.result c.deref.result.now (search rules) c.index-journeys-shipment.is c.deref.ensures.value in
    let lt : c.loop-shipment.shipment < length (lists_of c.args.journeys.now) = omega (arith, length-lists c.args.journeys.now, c.loop-shipment-test.true) in
    omega (arith, ap (λ (j : List ℕ). length j) here, c.requires.short c.loop-shipment.shipment [] lt)

pub loop-shipment-preserved : goal.loop-shipment-preserved
loop-shipment-preserved c =
    let here = journey-in c.args.journeys.now c.loop-shipment.shipment c.index-journeys-shipment.result c.deref.result.now (search rules) c.index-journeys-shipment.is c.deref.ensures.value in
    let lt : c.loop-shipment.shipment < length (lists_of c.args.journeys.now) = omega (arith, length-lists c.args.journeys.now, c.loop-shipment-test.true) in
    record {
      count = search rules;
      rest = λ line.
          ap (λ (js : List (List ℕ)). freight_at (lists_of c.add_journey.new.freight.items) line ++ members_by line (c.loop-shipment.shipment + 1) js) (lists_of-drop c.args.journeys.now (c.loop-shipment.shipment + 1))
          ∙ one-journey line c.loop-shipment.shipment (lists_of c.args.journeys.now) (lists_of c.loop-shipment.freight.items) (lists_of c.add_journey.new.freight.items) c.deref.result.now _ lt here
          (c.in_ok-add_journey.ensures.legs line)
          (ap (λ (js : List (List ℕ)). freight_at (lists_of c.loop-shipment.freight.items) line ++ members_by line c.loop-shipment.shipment js) (sym (lists_of-drop c.args.journeys.now c.loop-shipment.shipment))
          ∙ c.loop-shipment.invariant.rest line);
    }

pub returns-clause-legs : goal.returns-clause-legs
returns-clause-legs c = λ line. all-journeys line c.loop-shipment.shipment c.args.journeys.now (lists_of c.loop-shipment.freight.items) _ (search rules) (c.loop-shipment.invariant.rest line)
