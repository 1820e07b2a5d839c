-- The whole legs of a plan's route are a passage.
use Rattle.std.proofs.Common.{◌≡◌, ℕ, ◌+◌, ◌*◌, ◌/◌, ◌<◌, ◌≤◌, true, List, [], ◌∷◌, get_or, length, map, sym, subst, arith}
use Rattle.std.specs.Prelude.{Option}
use Rattle.std.specs.List.{AllByRecursion}
use Rattle.std.proofs.lemmas.List.{length-map}
use Rattle.std.proofs.lemmas.Slice.Zip.{AllZip-long}
use Rattle.fp_base_lists.proofs.Maps.{get_or-map_default}
use Rattle.fp_base_lists.proofs.Numbered.{AllFrom-get_or_zero, AllZip-get_or}
use Rattle.fp_model.specs.declared.parts.Leg.{Leg}
use Rattle.fp_model.specs.Numbered.{no_shipment, route_at, shipment_at}
use Rattle.fp_model.specs.Plans.{IsPlan}
use Rattle.fp_model.specs.Problem.{Problem}
use Rattle.fp_model.specs.Routes.{Carries, Leads, LeavesReady, step}
use Rattle.fp_flatnet.specs.declared.window_tables.Window.{Window}
use Rattle.fp_flatnet.specs.Windows.{LiesWithin, PlanLiesWithinWhole, whole_legs}
use Rattle.fp_flatnet.proofs.WholeMoments.{arcs_of-whole, whole-holds, whole-le}
use Rattle.fp_tree.specs.declared.sides.Side.{Side}
use Rattle.fp_tree.specs.Sides.{MeetsAll}
use Rattle.fp_allowed.specs.Allowed.{PlanObeys, exit_of, meets_all}
use Rattle.fp_allowed.specs.WindowsUnder.{IsPassage}
use Rattle.fp_allowed.proofs.SideTests.{meets_all_true}

-- they leave when they can
whole-ready : (p : Problem) (d n ready : ℕ) (legs : List Leg) → 0 < d → d * n ≤ ready → LeavesReady p d ready legs → LeavesReady p 1 n (whole_legs d legs)
whole-ready p d n ready [] some le leaves = tt
whole-ready p d n ready (l ∷ legs) some le leaves =
    let late : ready ≤ l.depart = leaves.0 in
    let next : d * (l.depart / d + 1 * step p l.arc) ≤ l.depart + d * step p l.arc = omega (arith, whole-holds d l.depart some) in (
      whole-le d n l.depart some (omega (arith, le, late)),
      whole-ready p d (l.depart / d + 1 * step p l.arc) (l.depart + d * step p l.arc) legs some next leaves.1,
    )

meets-whole : (p : Problem) (d k : ℕ) (sides : List Side) (legs : List Leg) → 0 < d → AllByRecursion (λ (l : Leg). MeetsAll d k sides (exit_of p l)) legs →
    AllByRecursion (λ (l : Leg). meets_all k sides (exit_of p l) ≡ true) (whole_legs d legs)
meets-whole p d k sides [] some meets = tt
meets-whole p d k sides (l ∷ legs) some meets = (meets_all_true d k (exit_of p l) sides some meets.0, meets-whole p d k sides legs some meets.1)

-- the whole legs of a shipment's route
pub whole_passage : (p : Problem) (windows : ℕ → ℕ → Option Window) (sides : List Side) (d k : ℕ) (routes : List (List Leg)) → 1 ≤ d → k < length p.shipments → IsPlan p d routes →
    PlanLiesWithinWhole windows d routes → PlanObeys p d sides routes → IsPassage p windows sides k (whole_legs d (route_at routes k))
whole_passage p windows sides d k routes h exists is within obeys =
    let legs : List Leg = route_at routes k in
    let some : 0 < d = omega (arith, h) in
    let carries : Carries p d (shipment_at p k) legs = AllZip-get_or (Carries p d) p.shipments routes k no_shipment [] is exists in
    let long : length routes ≡ length p.shipments = AllZip-long (Carries p d) p.shipments routes is in
    let there : k < length routes = omega (arith, long, exists) in
    let there_whole : k < length (map (whole_legs d) routes) = omega (arith, there, length-map routes (whole_legs d)) in
    let own : LiesWithin windows 1 k (get_or (map (whole_legs d) routes) k []) = AllFrom-get_or_zero (LiesWithin windows 1) (map (whole_legs d) routes) [] k within there_whole in record {
      leads = subst (λ (arcs : List ℕ). Leads p (shipment_at p k).from arcs (shipment_at p k).to) (sym (arcs_of-whole d legs)) carries.route.leads;
      ready = whole-ready p d (shipment_at p k).release (d * (shipment_at p k).release) legs some (omega arith) carries.ready;
      within = subst (λ (r : List Leg). LiesWithin windows 1 k r) (get_or-map_default (whole_legs d) routes k []) own;
      meets = meets-whole p d k sides legs some
          (AllFrom-get_or_zero (λ j r. AllByRecursion (λ (l : Leg). MeetsAll d j sides (exit_of p l)) r) routes [] k obeys.legs there);
    }
