use Rattle.std.proofs.Common.{ℕ, ◌≡◌, ◌*◌, List, get_or, sym, ap, ◌∙◌, arith}
use Rattle.std.specs.Int.{div_ceil}
use Rattle.std.proofs.lemmas.List.{get_or_read}
use Rattle.fp_model.specs.declared.parts.Arc.{Arc}
use Rattle.fp_model.specs.declared.parts.Leg.{Leg}
use Rattle.fp_model.specs.Problem.{Problem, arc_at}
use Rattle.fp_longestarcs.specs.Networks.{TimedNetwork}
use Rattle.fp_allowed.specs.Listing.{class_at}
use Rattle.fp_allowed.proofs.ListedClasses.{class_at-number}
use Rattle.fp_prices.specs.Forced.{truck_cost_at}
use Rattle.fp_prices.proofs.classes.bases.class_base.Goals as goal

-- a truck's cost times the trucks that a load needs, read from the arc of the class
base-is : (p : Problem) (net : TimedNetwork) (loads : List ℕ) (class number : ℕ) (arc : Arc) (load truck capacity trucks : ℕ) → (class_at net class).arc ≡ number → arc ≡ arc_at p number →
    load ≡ get_or loads class 0 → truck ≡ arc.truck → capacity ≡ arc.capacity → trucks ≡ div_ceil load capacity → truck * trucks ≡ truck_cost_at p net loads class
base-is p net loads class number arc load truck capacity trucks at is load_is truck_is capacity_is trucks_is =
    let same : arc ≡ arc_at p (class_at net class).arc = is ∙ ap (arc_at p) (sym at) in
    ap (λ (n : ℕ). n * trucks) (truck_is ∙ ap (λ (a : Arc). a.truck) same) ∙
    ap (λ (n : ℕ). (arc_at p (class_at net class).arc).truck * n)
    (trucks_is ∙ ap (λ (n : ℕ). div_ceil n capacity) load_is ∙ ap (div_ceil (get_or loads class 0)) (capacity_is ∙ ap (λ (a : Arc). a.capacity) same))

pub overflow_mul-result : goal.overflow_mul-result
overflow_mul-result c = omega (arith, returns_is, c.requires.fits)
  where
    returns_is : c.from-2.result * c.div_ceil-trucks.result ≡ truck_cost_at c.args.instance.now c.args.network.now c.args.forced.now.loads.items c.args.class
    returns_is =
        let net = c.args.network.now in
        let here : Leg = record { arc = c.of_class.result.0; depart = c.of_class.result.1 } in
        let at : class_at net c.args.class ≡ here = ap (class_at net) (sym c.of_class.ensures.number) ∙ class_at-number net here c.requires.whole.valid c.of_class.ensures.is in
        base-is c.args.instance.now net c.args.forced.now.loads.items c.args.class c.of_class.result.0 c.arc-arc.result c.index.result.now c.from-2.result c.from.result c.div_ceil-trucks.result
        (ap (λ (e : Leg). e.arc) at) c.arc-arc.ensures.same (get_or_read c.args.forced.now.loads.items c.args.class c.index.result.now (omega (arith, c.requires.class, c.requires.loads)) c.index.ensures 0)
        c.from-2.ensures c.from.ensures c.div_ceil-trucks.ensures

pub returns : goal.returns
returns c =
    let net = c.args.network.now in
    let here : Leg = record { arc = c.of_class.result.0; depart = c.of_class.result.1 } in
    let at : class_at net c.args.class ≡ here = ap (class_at net) (sym c.of_class.ensures.number) ∙ class_at-number net here c.requires.whole.valid c.of_class.ensures.is in
    base-is c.args.instance.now net c.args.forced.now.loads.items c.args.class c.of_class.result.0 c.arc-arc.result c.index.result.now c.from-2.result c.from.result c.div_ceil-trucks.result
    (ap (λ (e : Leg). e.arc) at) c.arc-arc.ensures.same (get_or_read c.args.forced.now.loads.items c.args.class c.index.result.now (omega (arith, c.requires.class, c.requires.loads)) c.index.ensures 0)
    c.from-2.ensures c.from.ensures c.div_ceil-trucks.ensures
