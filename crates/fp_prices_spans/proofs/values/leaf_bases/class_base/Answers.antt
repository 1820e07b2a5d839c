use Rattle.std.proofs.Common.{◌≡◌, ℕ, ◌*◌, ◌^◌, ◌<◌, ◌≤◌, true, List, length, sym, ap, ◌∙◌, subst, arith}
use Rattle.std.proofs.Math.Nat.{mul-le-mul_left}
use Rattle.std.proofs.lemmas.Bool.{cond-true}
use Rattle.std.proofs.lemmas.List.Elements.{All-get_or}
use Rattle.fp_model.specs.declared.parts.Arc.{Arc}
use Rattle.fp_model.specs.declared.parts.Leg.{Leg}
use Rattle.fp_model.specs.Costs.{all_legs, departure_cost, has_leg}
use Rattle.fp_model.specs.Problem.{IsArc, IsValid, Problem, arc_at, no_arc}
use Rattle.fp_longestarcs.specs.Networks.{IsNetwork, TimedNetwork}
use Rattle.fp_longestarcs.proofs.HeadLists.{arc-count}
use Rattle.fp_allowed.specs.Listing.{class_at}
use Rattle.fp_allowed.proofs.ListedClasses.{class_at-number}
use Rattle.fp_prices.specs.LeafPricings.{AreChainsOf}
use Rattle.fp_prices_spans.specs.SpanCosts.{base_of}
use Rattle.fp_prices_spans.proofs.LeafBases.{bases-fit, departure-is}
use Rattle.fp_prices_spans.proofs.values.leaf_bases.class_base.Goals as goal

pub arc-arc-requires : goal.arc-arc-requires
arc-arc-requires c =
    omega (
      arith,
      c.of_class.ensures.is.0,
      ap (λ (n : TimedNetwork). length n.tails) c.requires.network,
      arc-count c.args.pricing.now.leaf.setting.problem c.args.pricing.now.leaf.setting.network c.requires.whole.arcs,
      ap (λ (p : Problem). length p.arcs) c.requires.instance,
    )

pub div_ceil-trucks-requires : goal.div_ceil-trucks-requires
div_ceil-trucks-requires c =
    let exists : c.of_class.result.0 < length c.args.instance.now.arcs =
    omega (
      arith,
      c.of_class.ensures.is.0,
      ap (λ (n : TimedNetwork). length n.tails) c.requires.network,
      arc-count c.args.pricing.now.leaf.setting.problem c.args.pricing.now.leaf.setting.network c.requires.whole.arcs,
      ap (λ (p : Problem). length p.arcs) c.requires.instance,
    ) in
    let some = (All-get_or (IsArc (length c.args.instance.now.terminals)) c.args.instance.now.arcs c.of_class.result.0 no_arc exists c.arc-arc.ensures.valid.parts.arcs).within.capacity.0 in
    omega (arith, some, c.from.ensures, ap (λ (a : Arc). a.capacity) c.arc-arc.ensures.same)

-- the class is forced, and its trucks cost what the departure does
product : (c : goal.After-from-3) (chains : List (List Leg)) → AreChainsOf c.args.pricing.now.leaf c.args.pricing.now.forced chains →
    (has_leg (class_at c.args.pricing.now.leaf.setting.network c.args.class) (all_legs chains) ≡ true)
    × (c.from-3.result * c.div_ceil-trucks.result ≡ departure_cost c.args.pricing.now.leaf.setting.problem chains (class_at c.args.pricing.now.leaf.setting.network c.args.class))
product c chains are =
    let p : Problem = c.args.pricing.now.leaf.setting.problem in
    let net : TimedNetwork = c.args.pricing.now.leaf.setting.network in
    let here : Leg = record { arc = c.of_class.result.0; depart = c.of_class.result.1 } in
    let told = c.in-Some.ensures chains are in
    let at : c.of_class.result.0 ≡ (class_at net c.args.class).arc =
    ap (λ (e : Leg). e.arc)
    (sym
    (ap (λ (n : TimedNetwork). class_at n c.args.class) (sym c.requires.network) ∙ ap (class_at c.args.network.now) (sym c.of_class.ensures.number)
    ∙ class_at-number c.args.network.now here (subst IsNetwork (sym c.requires.network) c.requires.whole.valid) c.of_class.ensures.is)) in
    let arc : c.arc-arc.result ≡ arc_at p (class_at net c.args.class).arc = c.arc-arc.ensures.same ∙ ap (λ (q : Problem). arc_at q c.of_class.result.0) c.requires.instance ∙ ap (arc_at p) at in
    (told.0, departure-is p chains (class_at net c.args.class) c.arc-arc.result c.in-Some.load c.from-3.result c.from.result c.div_ceil-trucks.result arc told.1 c.from-3.ensures c.from.ensures c.div_ceil-trucks.ensures)

-- scaled, that fits
fits : (c : goal.After-from-3) →
    (c.args.pricing.now.leaf.setting.problem.scale * (c.from-3.result * c.div_ceil-trucks.result) < 2 ^ 127) × (1 ≤ c.args.pricing.now.leaf.setting.problem.scale)
fits c =
    let p : Problem = c.args.pricing.now.leaf.setting.problem in
    let net : TimedNetwork = c.args.pricing.now.leaf.setting.network in
    let chains : List (List Leg) = c.requires.chains.0 in
    let is = product c chains c.requires.chains.1 in
    let base : base_of p net chains c.args.class ≡ departure_cost p chains (class_at net c.args.class) =
    cond-true (has_leg (class_at net c.args.class) (all_legs chains)) (departure_cost p chains (class_at net c.args.class)) 0 is.0 in
    let scaled : p.scale * (c.from-3.result * c.div_ceil-trucks.result) ≡ p.scale * base_of p net chains c.args.class = ap (λ (n : ℕ). p.scale * n) (is.1 ∙ sym base) in
    let valid : IsValid p = subst IsValid c.requires.instance c.scale.ensures.valid in
    let all = bases-fit c.args.pricing.now.leaf c.args.pricing.now.forced chains c.requires.whole c.requires.chains.1 valid c.args.class c.requires.class in
    (omega (arith, scaled, all), valid.scale.0)

pub overflow_mul-result : goal.overflow_mul-result
overflow_mul-result c =
    let amount : ℕ = c.from-3.result * c.div_ceil-trucks.result in
    let once : amount * 1 ≤ amount * c.args.pricing.now.leaf.setting.problem.scale = mul-le-mul_left amount (fits c).1 in
    omega (arith, once, (fits c).0)

pub overflow_mul-result-2 : goal.overflow_mul-result-2
overflow_mul-result-2 c =
    let same : c.from-2.result * (c.from-3.result * c.div_ceil-trucks.result) ≡ c.args.pricing.now.leaf.setting.problem.scale * (c.from-3.result * c.div_ceil-trucks.result) =
    ap (λ (n : ℕ). n * (c.from-3.result * c.div_ceil-trucks.result)) (c.from-2.ensures ∙ c.scale.ensures.same ∙ ap (λ (q : Problem). q.scale) c.requires.instance) in
    omega (arith, same, (fits c).0)

pub returns : goal.returns
returns c = λ chains are.
    let p : Problem = c.args.pricing.now.leaf.setting.problem in
    let net : TimedNetwork = c.args.pricing.now.leaf.setting.network in
    let is = product c chains are in
    ap (λ (n : ℕ). n * (c.from-3.result * c.div_ceil-trucks.result)) (c.from-2.ensures ∙ c.scale.ensures.same ∙ ap (λ (q : Problem). q.scale) c.requires.instance)
    ∙ ap (λ (n : ℕ). p.scale * n) (is.1 ∙ sym (cond-true (has_leg (class_at net c.args.class) (all_legs chains)) (departure_cost p chains (class_at net c.args.class)) 0 is.0))
