use Rattle.std.proofs.Common.{◌≡◌, ℕ, ◌+◌, ◌<◌, ◌≤◌, List, [], length, take, drop, ◌++◌, sym, ap, ◌∙◌, subst, arith}
use Rattle.std.specs.Prelude.{Bool, IfSome, Option}
use Rattle.std.proofs.lemmas.List.{get_or_read}
use Rattle.fp_model.specs.declared.parts.Shipment.{Shipment}
use Rattle.fp_longestarcs.specs.Networks.{class_count}
use Rattle.fp_prices.specs.ClassCosts.{IsFree}
use Rattle.fp_prices.proofs.LeastSoFar.{first_without, least_all, least_more, least_none, more-fits, row-priced}
use Rattle.fp_prices.proofs.SetBits.{whole_write}
use Rattle.fp_prices.proofs.values.bounds.value_over.Goals as goal

pub loop-shipment-init : goal.loop-shipment-init
loop-shipment-init c = record {
  so_far = least_none c.args.over.now.pricing.now c.args.rows.now c.args.bases;
  edges = c.in_ok-costs.ensures.count;
  free = λ e from h. c.in_ok-costs.ensures.free e (omega arith) h;
  known = c.requires.known;
  before = omega arith;
}

pub known_or_found-requires-clause-over : goal.known_or_found-requires-clause-over
known_or_found-requires-clause-over c =
    let i : ℕ = c.loop-shipment.shipment in
    let exists : i < length c.args.over.now.pricing.now.instance.now.shipments = omega (arith, ap (λ (l : List Shipment). length l) c.shipments.ensures.same) in
    let inside : i < length c.args.rows.now = omega (arith, c.requires.rows, exists) in
    let row_is = get_or_read c.args.rows.now i c.index-rows-shipment.result inside c.index-rows-shipment.is [] in
    record {
      graph = c.requires.graph;
      shipment = exists;
      priced = row-priced c.args.over.now.pricing.now c.args.rows.now i c.index-rows-shipment.result inside row_is c.requires.priced;
      long = ap (λ (r : List Bool). length r) row_is ∙ c.requires.priced.rows_of.long i inside;
      edges = ap (λ (l : List (Option ℕ)). length l) c.deref_mut.ensures.value ∙ c.loop-shipment.invariant.edges;
      free = subst (IsFree (class_count c.args.over.now.pricing.now.network.now)) (sym c.deref_mut.ensures.value) c.loop-shipment.invariant.free;
    }

pub overflow_add-value : goal.overflow_add-value
overflow_add-value c =
    let i : ℕ = c.loop-shipment.shipment in
    let exists : i < length c.args.over.now.pricing.now.instance.now.shipments = omega (arith, ap (λ (l : List Shipment). length l) c.shipments.ensures.same) in
    omega (
      arith,
      more-fits c.args.over.now.pricing.now c.args.rows.now c.args.bases i c.loop-shipment.value c.in-Some.cost c.in_ok-cost.field-0 c.in-Some.is c.shipments.ensures.valid exists c.loop-shipment.invariant.so_far
          c.in_ok-cost.ensures.small c.requires.bases,
    )

pub returns-in-None-clause-found : goal.returns-in-None-clause-found
returns-in-None-clause-found c = λ tables allowed kind chains is are classes.
    let i : ℕ = c.loop-shipment.shipment in
    let exists : i < length c.args.over.now.pricing.now.instance.now.shipments = omega (arith, ap (λ (l : List Shipment). length l) c.shipments.ensures.same) in
    let inside : i < length c.args.rows.now = omega (arith, c.requires.rows, exists) in
    first_without c.args.over.now.pricing.now c.args.rows.now c.args.bases i c.loop-shipment.value c.index-rows-shipment.result c.in_ok-cost.field-0 c.in-None.is exists inside
    (get_or_read c.args.rows.now i c.index-rows-shipment.result inside c.index-rows-shipment.is []) c.loop-shipment.invariant.so_far c.in_ok-cost.ensures.exact
    tables allowed kind chains (record { is = is; rows_of = are; classes = classes })

pub loop-shipment-preserved : goal.loop-shipment-preserved
loop-shipment-preserved c =
    let i : ℕ = c.loop-shipment.shipment in
    let exists : i < length c.args.over.now.pricing.now.instance.now.shipments = omega (arith, ap (λ (l : List Shipment). length l) c.shipments.ensures.same) in
    let inside : i < length c.args.rows.now = omega (arith, c.requires.rows, exists) in
    let long : length c.known_or_found.new.costs ≡ length c.loop-shipment.costs.items = c.known_or_found.auto.costs ∙ ap (λ (l : List (Option ℕ)). length l) c.deref_mut.ensures.value in
    let written : take c.loop-shipment.costs.len (c.known_or_found.new.costs ++ drop (length c.known_or_found.new.costs) c.loop-shipment.costs.items) ≡ c.known_or_found.new.costs =
    whole_write c.loop-shipment.costs.len c.known_or_found.new.costs (drop (length c.known_or_found.new.costs) c.loop-shipment.costs.items) (omega (arith, c.loop-shipment.costs.ok, long)) in
    record {
      so_far = least_more c.args.over.now.pricing.now c.args.rows.now c.args.bases i c.loop-shipment.value c.in-Some.cost c.index-rows-shipment.result c.in_ok-cost.field-0 c.in-Some.is exists inside
          (get_or_read c.args.rows.now i c.index-rows-shipment.result inside c.index-rows-shipment.is []) c.loop-shipment.invariant.so_far c.in_ok-cost.ensures.small c.in_ok-cost.ensures.exact;
      edges = ap (λ (l : List (Option ℕ)). length l) written ∙ long ∙ c.loop-shipment.invariant.edges;
      free = subst (IsFree (class_count c.args.over.now.pricing.now.network.now)) (sym written) c.in_ok-cost.ensures.free;
      known = c.in_ok-cost.ensures.known;
      before = subst (λ (o : Option ℕ). IfSome o (λ _. i + 1 ≤ length c.known_or_found.new.known.items)) c.in-Some.is c.in_ok-cost.ensures.more;
    }

pub returns-clause-found : goal.returns-clause-found
returns-clause-found c = λ tables allowed kind chains is are classes.
    least_all c.args.over.now.pricing.now c.args.rows.now c.args.bases c.loop-shipment.shipment c.loop-shipment.value (omega (arith, ap (λ (l : List Shipment). length l) c.shipments.ensures.same))
    c.loop-shipment.invariant.so_far tables allowed kind chains (record { is = is; rows_of = are; classes = classes })
