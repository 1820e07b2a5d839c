use Rattle.std.proofs.Common.{◌≡◌, ℕ, ◌+◌, ◌<◌, List, [], length, take, drop, ◌++◌, sym, ap, ◌∙◌, subst, arith}
use Rattle.std.specs.Prelude.{Bool, Option}
use Rattle.std.proofs.lemmas.List.{get_or_read}
use Rattle.fp_model.specs.declared.parts.Shipment.{Shipment}
use Rattle.fp_longestarcs.specs.Networks.{class_count}
use Rattle.fp_longestarcs.specs.Stops.{legs_of}
use Rattle.fp_prices.specs.ClassCosts.{IsFree}
use Rattle.fp_prices.proofs.LeastSoFar.{row-priced}
use Rattle.fp_prices.proofs.PreferredWalks.{ArePreferredSoFar, preferred_all, preferred_more, preferred_none}
use Rattle.fp_prices.proofs.SetBits.{whole_write}
use Rattle.fp_prices.proofs.WalksSoFar.{AreWalksSoFar, walks_all, walks_end, walks_more, walks_none}
use Rattle.fp_prices.proofs.values.leaf_walks.walks_over.Goals as goal

pub loop-shipment-init : goal.loop-shipment-init
loop-shipment-init c = record {
  so_far = subst (AreWalksSoFar c.args.over.now.pricing.now c.args.rows.now 0) (sym c.new-walks.ensures.items) (walks_none c.args.over.now.pricing.now c.args.rows.now);
  preferred = subst (ArePreferredSoFar c.args.over.now.pricing.now c.args.rows.now c.args.preferred.now 0) (sym c.new-walks.ensures.items) (preferred_none c.args.over.now.pricing.now c.args.rows.now c.args.preferred.now);
  edges = c.in_ok-costs.ensures.count;
  free = λ e from h. c.in_ok-costs.ensures.free e (omega arith) h;
}

pub shipment_walk-requires : goal.shipment_walk-requires
shipment_walk-requires c =
    let i : ℕ = c.loop-shipment.shipment in
    let exists : i < length c.args.over.now.pricing.now.instance.now.shipments = omega (arith, ap (λ (l : List Shipment). length l) c.shipments.ensures.same) in
    let inside : i < length c.args.rows.now = omega (arith, c.requires.rows, exists) in
    let row_is = get_or_read c.args.rows.now i c.index-rows-shipment.result inside c.index-rows-shipment.is [] in
    record {
      graph = c.requires.graph;
      shipment = exists;
      priced = row-priced c.args.over.now.pricing.now c.args.rows.now i c.index-rows-shipment.result inside row_is c.requires.priced;
      long = ap (λ (r : List Bool). length r) row_is ∙ c.requires.priced.rows_of.long i inside;
      edges = ap (λ (l : List (Option ℕ)). length l) c.deref_mut.ensures.value ∙ c.loop-shipment.invariant.edges;
      free = subst (IsFree (class_count c.args.over.now.pricing.now.network.now)) (sym c.deref_mut.ensures.value) c.loop-shipment.invariant.free;
    }

pub returns-in-None : goal.returns-in-None
returns-in-None c =
    let i : ℕ = c.loop-shipment.shipment in
    let exists : i < length c.args.over.now.pricing.now.instance.now.shipments = omega (arith, ap (λ (l : List Shipment). length l) c.shipments.ensures.same) in
    let inside : i < length c.args.rows.now = omega (arith, c.requires.rows, exists) in
    record {
      none = walks_end c.args.over.now.pricing.now c.args.rows.now i c.index-rows-shipment.result c.in_ok-walk.field-0 c.in-None.is exists inside
          (get_or_read c.args.rows.now i c.index-rows-shipment.result inside c.index-rows-shipment.is []) c.in_ok-walk.ensures.exact;
      walks = tt;
      preferred = tt;
    }

pub loop-shipment-preserved : goal.loop-shipment-preserved
loop-shipment-preserved c =
    let i : ℕ = c.loop-shipment.shipment in
    let exists : i < length c.args.over.now.pricing.now.instance.now.shipments = omega (arith, ap (λ (l : List Shipment). length l) c.shipments.ensures.same) in
    let inside : i < length c.args.rows.now = omega (arith, c.requires.rows, exists) in
    let long : length c.shipment_walk.new.costs ≡ length c.loop-shipment.costs.items = c.shipment_walk.auto.costs ∙ ap (λ (l : List (Option ℕ)). length l) c.deref_mut.ensures.value in
    let written : take c.loop-shipment.costs.len (c.shipment_walk.new.costs ++ drop (length c.shipment_walk.new.costs) c.loop-shipment.costs.items) ≡ c.shipment_walk.new.costs =
    whole_write c.loop-shipment.costs.len c.shipment_walk.new.costs (drop (length c.shipment_walk.new.costs) c.loop-shipment.costs.items) (omega (arith, c.loop-shipment.costs.ok, long)) in
    record {
      so_far = subst (AreWalksSoFar c.args.over.now.pricing.now c.args.rows.now (i + 1)) (sym c.in_ok-push-in-Some.ensures.items)
          (walks_more c.args.over.now.pricing.now c.args.rows.now i c.loop-shipment.walks.items c.in-Some.walk c.index-rows-shipment.result c.in_ok-walk.field-0 c.in-Some.is exists inside
          (get_or_read c.args.rows.now i c.index-rows-shipment.result inside c.index-rows-shipment.is []) c.loop-shipment.invariant.so_far c.in_ok-walk.ensures.exact);
      preferred = subst (ArePreferredSoFar c.args.over.now.pricing.now c.args.rows.now c.args.preferred.now (i + 1)) (sym c.in_ok-push-in-Some.ensures.items)
          (preferred_more c.args.over.now.pricing.now c.args.rows.now c.args.preferred.now i c.loop-shipment.walks.items (legs_of c.preferred_for-wanted.result.now) c.in-Some.walk c.index-rows-shipment.result c.in_ok-walk.field-0 c.in-Some.is inside
          (get_or_read c.args.rows.now i c.index-rows-shipment.result inside c.index-rows-shipment.is []) c.preferred_for-wanted.ensures c.loop-shipment.invariant.preferred c.in_ok-walk.ensures.preferred);
      edges = ap (λ (l : List (Option ℕ)). length l) written ∙ long ∙ c.loop-shipment.invariant.edges;
      free = subst (IsFree (class_count c.args.over.now.pricing.now.network.now)) (sym written) c.in_ok-walk.ensures.free;
    }

pub returns-clause-walks : goal.returns-clause-walks
returns-clause-walks c =
    walks_all c.args.over.now.pricing.now c.args.rows.now c.loop-shipment.shipment c.loop-shipment.walks.items (omega (arith, ap (λ (l : List Shipment). length l) c.shipments.ensures.same)) c.loop-shipment.invariant.so_far

pub returns-clause-preferred : goal.returns-clause-preferred
returns-clause-preferred c =
    preferred_all c.args.over.now.pricing.now c.args.rows.now c.args.preferred.now c.loop-shipment.shipment c.loop-shipment.walks.items (omega (arith, ap (λ (l : List Shipment). length l) c.shipments.ensures.same)) c.loop-shipment.invariant.preferred
