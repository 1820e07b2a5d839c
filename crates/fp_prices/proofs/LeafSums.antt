-- The bases and all that shipments pay are at most what the trucks of the classes cost, and the least costs at most what the walks cost.
use Rattle.std.proofs.Common.{◌≡◌, ℕ, ◌+◌, ◌*◌, ◌≤◌, false, Bool, List, [], ◌∷◌, sym, ap, ◌∙◌, subst, arith}
use Rattle.std.specs.Prelude.{sum_by}
use Rattle.std.specs.List.{AllZip}
use Rattle.std.specs.Int.{div_ceil}
use Rattle.std.proofs.lemmas.List.Sums.{sum_by-cons, sum_by-le-sum_by}
use Rattle.fp_model.specs.declared.parts.Arc.{Arc}
use Rattle.fp_model.specs.declared.parts.Leg.{Leg}
use Rattle.fp_model.specs.declared.parts.Shipment.{Shipment}
use Rattle.fp_base_lists.specs.Numbered.{AllZipFrom}
use Rattle.fp_base_lists.proofs.Numbered.{AllZipFrom-weaker}
use Rattle.fp_model.specs.Problem.{Problem, arc_at}
use Rattle.fp_model.specs.Costs.{has_leg, distinct, all_legs, departures_cost, flow_cost, flow_total}
use Rattle.fp_model.proofs.Bounds.{departure_of, load-outside}
use Rattle.fp_base_lists.proofs.Ceilings.{div_ceil-zero}
use Rattle.fp_model.proofs.Distinct.{distinct_sum, distinct_sum-le}
use Rattle.fp_base_lists.proofs.Sums.{sum_by-scaled, sum_by-same, sum_by-both}
use Rattle.fp_allowed.specs.Walks.{IsTimedWalk}
use Rattle.fp_prices.specs.declared.leaf_prices.Kind.{Kind}
use Rattle.fp_prices.specs.Shares.{ClassShare}
use Rattle.fp_prices.specs.Prices.{AllKeepRule}
use Rattle.fp_prices.specs.Leaves.{IsLeastCost, walk_cost, leaf_price}
use Rattle.fp_prices.proofs.TakenByClasses.{users, NoneTwiceInAny, paid, paid-le}
use Rattle.fp_prices.proofs.Users.{AgreesFrom}
use Rattle.fp_prices.proofs.ForcedClasses.{AreAmong, base-le}
use Rattle.fp_prices.proofs.ClassPrices.{AreWalks, class-fits}

-- a class that no walk has has no base
base-outside : (p : Problem) (shipments : List Shipment) (chains walks : List (List Leg)) (c : Leg) → AllZip AreAmong chains walks → has_leg c (all_legs walks) ≡ false →
    p.scale * departure_of p shipments chains c ≡ 0
base-outside p shipments chains walks c among out =
    let arc : Arc = arc_at p c.arc in
    let none : departure_of p shipments walks c ≡ arc.truck * 0 =
    ap (λ (n : ℕ). arc.truck * div_ceil n arc.capacity) (load-outside shipments walks c out) ∙ ap (λ (n : ℕ). arc.truck * n) (div_ceil-zero arc.capacity) in
    let no_base : departure_of p shipments chains c ≡ 0 = omega (arith, base-le p shipments chains walks c among, none) in
    ap (λ (n : ℕ). p.scale * n) no_base ∙ (let e : p.scale * 0 ≡ 0 = omega arith in e)

-- the bases and all that shipments pay are at most what the trucks of the classes cost
pub bases-and-paid : (p : Problem) (tables : List (List ClassShare)) (allowed : ℕ → Leg → Bool) (kind : Kind) (size : ℕ → ℕ) (chains walks : List (List Leg)) → AllKeepRule p tables →
    AreWalks p allowed size chains walks → NoneTwiceInAny walks →
    p.scale * departures_cost p chains (all_legs chains) + paid (λ c k. leaf_price p tables allowed kind chains k (size k) c) 0 walks ≤ p.scale * departures_cost p walks (all_legs walks)
bases-and-paid p tables allowed kind size chains walks keep are once =
    let all : List Leg = all_legs walks in
    let price : Leg → ℕ → ℕ = λ c k. leaf_price p tables allowed kind chains k (size k) c in
    let base : Leg → ℕ = λ c. p.scale * departure_of p p.shipments chains c in
    let taken : Leg → ℕ = λ c. sum_by (price c) (users 0 walks c) in
    let whole : Leg → ℕ = λ c. p.scale * departure_of p p.shipments walks c in
    let within : distinct_sum base (all_legs chains) ≤ distinct_sum base all =
    distinct_sum-le (all_legs chains) all base (λ c. base-outside p p.shipments chains walks c are.among) in
    let pay : paid price 0 walks ≤ distinct_sum taken all = paid-le price all 0 walks once (λ k h. h) in
    let both : sum_by (λ c. base c + taken c) (distinct all) ≡ distinct_sum base all + distinct_sum taken all = sum_by-both base taken (distinct all) in
    let each : sum_by (λ c. base c + taken c) (distinct all) ≤ distinct_sum whole all =
    sum_by-le-sum_by (λ c. base c + taken c) whole (distinct all) (λ c. class-fits p tables allowed kind size chains walks c keep are) in
    omega (
      arith,
      within,
      pay,
      both,
      each,
      sum_by-scaled p.scale (departure_of p p.shipments chains) (distinct (all_legs chains)),
      sum_by-scaled p.scale (departure_of p p.shipments walks) (distinct all),
    )

-- what a walk costs is what its shipment pays, and its flow
pub walk-parts : (p : Problem) (price : Leg → ℕ) (size : ℕ) (walk : List Leg) → walk_cost p price size walk ≡ sum_by price walk + p.scale * flow_cost p size walk
walk-parts p price size walk =
    let flow : Leg → ℕ = λ c. (arc_at p c.arc).freight * size in
    let parts : walk_cost p price size walk ≡ sum_by price walk + sum_by (λ c. p.scale * flow c) walk =
    sum_by-same (λ c. price c + p.scale * (arc_at p c.arc).freight * size) (λ c. price c + p.scale * flow c) (λ c. omega arith) walk
    ∙ sum_by-both price (λ c. p.scale * flow c) walk in
    omega (arith, parts, sum_by-scaled p.scale flow walk)

-- costs that are at most what each walk of some kind costs are at most what the shipments pay for such walks, and their flow
pub costs-le_among : (p : Problem) (IsWalk : ℕ → Shipment → List Leg → Type 0) (price : ℕ → ℕ → Leg → ℕ) (size : ℕ → ℕ) (i : ℕ) (shipments : List Shipment) (costs : List ℕ) (walks : List (List Leg)) →
    AgreesFrom size i shipments → AllZipFrom (λ k (s : Shipment) n. (walk : List Leg) → IsWalk k s walk → n ≤ walk_cost p (price k s.size) s.size walk) i shipments costs →
    AllZipFrom IsWalk i shipments walks → sum_by (λ (n : ℕ). n) costs ≤ paid (λ c k. price k (size k) c) i walks + p.scale * flow_total p shipments walks
costs-le_among p IsWalk price size i [] [] walks agrees least are = omega arith
costs-le_among p IsWalk price size i [] (n ∷ costs) walks agrees least are = absurd least
costs-le_among p IsWalk price size i (s ∷ shipments) [] walks agrees least are = absurd least
costs-le_among p IsWalk price size i (s ∷ shipments) (n ∷ costs) [] agrees least are = absurd are
costs-le_among p IsWalk price size i (s ∷ shipments) (n ∷ costs) (walk ∷ walks) agrees least are =
    let own : Leg → ℕ = price i (size i) in
    let first : n ≤ walk_cost p own s.size walk =
    subst (λ (z : ℕ). n ≤ walk_cost p (price i z) s.size walk) (sym agrees.0) (least.0 walk are.0) in
    let rest : sum_by (λ (m : ℕ). m) costs ≤ paid (λ c k. price k (size k) c) (i + 1) walks + p.scale * flow_total p shipments walks =
    costs-le_among p IsWalk price size (i + 1) shipments costs walks agrees.1 least.1 are.1 in
    omega (arith, first, walk-parts p own s.size walk, rest, sum_by-cons (λ (m : ℕ). m) n costs)

-- so the least costs of the timed walks are
pub costs-le : (p : Problem) (points : ℕ → List ℕ) (allowed : ℕ → Leg → Bool) (price : ℕ → ℕ → Leg → ℕ) (size : ℕ → ℕ) (i : ℕ) (shipments : List Shipment) (costs : List ℕ) (walks : List (List Leg)) →
    AgreesFrom size i shipments → AllZipFrom (λ k (s : Shipment) n. IsLeastCost p points (allowed k) s (price k s.size) n) i shipments costs →
    AllZipFrom (λ k (s : Shipment) walk. IsTimedWalk p points (allowed k) s walk) i shipments walks →
    sum_by (λ (n : ℕ). n) costs ≤ paid (λ c k. price k (size k) c) i walks + p.scale * flow_total p shipments walks
costs-le p points allowed price size i shipments costs walks agrees least =
    costs-le_among p (λ k (s : Shipment) walk. IsTimedWalk p points (allowed k) s walk) price size i shipments costs walks agrees
    (AllZipFrom-weaker (λ k (s : Shipment) n. IsLeastCost p points (allowed k) s (price k s.size) n)
    (λ k (s : Shipment) n. (walk : List Leg) → IsTimedWalk p points (allowed k) s walk → n ≤ walk_cost p (price k s.size) s.size walk) (λ k s n is. is.least) i shipments costs least)
