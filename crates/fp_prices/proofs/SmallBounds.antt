-- The bases of a leaf, and a value whose least costs are small, are at most what all shipments cost over every arc alone, some times.
use Rattle.std.proofs.Common.{◌≡◌, ◌≢◌, ℕ, ◌+◌, ◌*◌, ◌<◌, ◌≤◌, Bool, true, false, List, [], ◌∷◌, length, get_or, map, sym, ap, ◌∙◌, subst, arith}
use Rattle.std.specs.Prelude.{sum_by, Option}
use Rattle.std.specs.List.{AllByRecursion}
use Rattle.std.proofs.Math.Nat.{mul-le-mul_left}
use Rattle.std.proofs.lemmas.List.Sums.{sum_by-cons, sum_by-le-sum_by}
use Rattle.fp_model.specs.declared.parts.Leg.{Leg}
use Rattle.fp_model.specs.declared.parts.Shipment.{Shipment}
use Rattle.fp_base_lists.specs.Numbered.{AllZipFrom}
use Rattle.fp_model.specs.Problem.{Problem, alone_cost, alone_total, arc_at, no_arc}
use Rattle.fp_model.specs.Routes.{arcs_of}
use Rattle.fp_base_lists.specs.Distinct.{AreDistinct}
use Rattle.fp_model.specs.Costs.{all_legs, departures_cost}
use Rattle.fp_model.proofs.Bounds.{alone_routes, alone_trucks, departures-le-alone}
use Rattle.fp_base_lists.proofs.Distinct.{AreDistinct-from_map, AreDistinct-cons, AreDistinct-nil}
use Rattle.fp_base_lists.proofs.DistinctSums.{sum_by-places-le}
use Rattle.fp_base_lists.proofs.Sums.{sum_by-map}
use Rattle.fp_flatnet.specs.declared.window_tables.Window.{Window}
use Rattle.fp_tree.specs.declared.sides.Side.{Side}
use Rattle.fp_allowed.specs.Allowed.{AreForced, is_allowed, tails_of}
use Rattle.fp_allowed.proofs.AllowedClasses.{is_allowed_parts}
use Rattle.fp_prices.specs.declared.values.bounds.LeafBound.TheVariants.{Value}
use Rattle.fp_prices.specs.Leaves.{IsChain, IsSmallBound}

-- forced classes leave no terminal that was met before
not-met : (p : Problem) (allowed : Leg → Bool) (there : ℕ) (met : List ℕ) (here : ℕ) (chain : List Leg) (t : ℕ) → ((x : ℕ) → AllByRecursion (λ u. u ≢ x) met → t ≢ x) →
    AreForced p allowed there met here chain → AllByRecursion (λ y. y ≢ t) (map (tails_of p) (arcs_of chain))
not-met p allowed there met here [] t among forced = tt
not-met p allowed there met here (c ∷ chain) t among forced =
    ((λ e. among here forced.1 (sym e ∙ forced.2.leaves)), not-met p allowed there (here ∷ met) (arc_at p c.arc).to chain t (λ x others. among x others.1) forced.3)

-- so they leave different terminals
tails-apart : (p : Problem) (allowed : Leg → Bool) (there : ℕ) (met : List ℕ) (here : ℕ) (chain : List Leg) → AreForced p allowed there met here chain → AreDistinct (map (tails_of p) (arcs_of chain))
tails-apart p allowed there met here [] forced = AreDistinct-nil
tails-apart p allowed there met here (c ∷ chain) forced =
    let others : AllByRecursion (λ y. y ≢ here) (map (tails_of p) (arcs_of chain)) =
    not-met p allowed there (here ∷ met) (arc_at p c.arc).to chain here (λ x others e. others.0 e) forced.3 in
    AreDistinct-cons (tails_of p c.arc) (map (tails_of p) (arcs_of chain))
    (subst (λ (t : ℕ). AllByRecursion (λ y. y ≢ t) (map (tails_of p) (arcs_of chain))) (sym forced.2.leaves) others)
    (tails-apart p allowed there (here ∷ met) (arc_at p c.arc).to chain forced.3)

forced-exist : (p : Problem) (allowed : Leg → Bool) (there : ℕ) (met : List ℕ) (here : ℕ) (chain : List Leg) → ((c : Leg) → allowed c ≡ true → c.arc < length p.arcs) →
    AreForced p allowed there met here chain → AllByRecursion (λ a. a < length p.arcs) (arcs_of chain)
forced-exist p allowed there met here [] exist forced = tt
forced-exist p allowed there met here (c ∷ chain) exist forced =
    (exist c forced.2.is_allowed, forced-exist p allowed there (here ∷ met) (arc_at p c.arc).to chain exist forced.3)

-- the forced chain of a shipment goes by different arcs that exist
pub chain-arcs : (p : Problem) (allowed : Leg → Bool) (forced : Bool) (s : Shipment) (chain : List Leg) → ((c : Leg) → allowed c ≡ true → c.arc < length p.arcs) → IsChain p allowed forced s chain →
    AllByRecursion (λ a. a < length p.arcs) (arcs_of chain) × AreDistinct (arcs_of chain)
chain-arcs p allowed true s chain exist is =
    (forced-exist p allowed s.to [] s.from chain exist is.forced, AreDistinct-from_map (tails_of p) (arcs_of chain) (tails-apart p allowed s.to [] s.from chain is.forced))
chain-arcs p allowed false s chain exist is =
    subst (λ (legs : List Leg). AllByRecursion (λ a. a < length p.arcs) (arcs_of legs) × AreDistinct (arcs_of legs)) (sym is) (tt, AreDistinct-nil)

-- so its trucks alone cost at most what the shipment would cost over every arc alone
chain-alone : (p : Problem) (size : ℕ) (chain : List Leg) → AllByRecursion (λ a. a < length p.arcs) (arcs_of chain) → AreDistinct (arcs_of chain) →
    sum_by (alone_trucks p size) chain ≤ sum_by (alone_cost size) p.arcs
chain-alone p size chain exist apart =
    let at : ℕ → ℕ = λ a. alone_cost size (get_or p.arcs a no_arc) in
    let trucks : sum_by (alone_trucks p size) chain ≤ sum_by (λ (c : Leg). at c.arc) chain = sum_by-le-sum_by (alone_trucks p size) (λ (c : Leg). at c.arc) chain (λ c. omega arith) in
    let numbers : sum_by at (arcs_of chain) ≡ sum_by (λ (c : Leg). at c.arc) chain = sum_by-map at (λ (c : Leg). c.arc) chain in
    omega (arith, trucks, numbers, sum_by-places-le (alone_cost size) no_arc (omega arith) (arcs_of chain) p.arcs exist apart)

-- those of all shipments
chains-alone : (p : Problem) (allowed : ℕ → Leg → Bool) (forced : Bool) (i : ℕ) (shipments : List Shipment) (chains : List (List Leg)) → ((k : ℕ) (c : Leg) → allowed k c ≡ true → c.arc < length p.arcs) →
    AllZipFrom (λ k. IsChain p (allowed k) forced) i shipments chains → (length chains ≡ length shipments) × (alone_routes p shipments chains ≤ alone_total p.arcs shipments)
chains-alone p allowed forced i [] [] exist are = (omega arith, omega arith)
chains-alone p allowed forced i [] (chain ∷ chains) exist are = absurd are
chains-alone p allowed forced i (s ∷ shipments) [] exist are = absurd are
chains-alone p allowed forced i (s ∷ shipments) (chain ∷ chains) exist are =
    let arcs = chain-arcs p (allowed i) forced s chain (exist i) are.0 in
    let first : sum_by (alone_trucks p s.size) chain ≤ sum_by (alone_cost s.size) p.arcs = chain-alone p s.size chain arcs.0 arcs.1 in
    let rest = chains-alone p allowed forced (i + 1) shipments chains exist are.1 in
    let long : length chains ≡ length shipments = rest.0 in
    let later : alone_routes p shipments chains ≤ alone_total p.arcs shipments = rest.1 in
    (omega (arith, long), omega (arith, first, later, sum_by-cons (λ (t : Shipment). sum_by (alone_cost t.size) p.arcs) s shipments))

-- the bases of a leaf are at most what all shipments cost over every arc alone
pub bases-small : (p : Problem) (windows : ℕ → ℕ → Option Window) (points : ℕ → List ℕ) (sides : List Side) (forced : Bool) (chains : List (List Leg)) →
    AllZipFrom (λ k. IsChain p (is_allowed p windows points sides k) forced) 0 p.shipments chains → departures_cost p chains (all_legs chains) ≤ alone_total p.arcs p.shipments
bases-small p windows points sides forced chains are =
    let alone = chains-alone p (is_allowed p windows points sides) forced 0 p.shipments chains (λ k c is. (is_allowed_parts p windows points sides k c is).0) are in
    let routes : alone_routes p p.shipments chains ≤ alone_total p.arcs p.shipments = alone.1 in
    omega (arith, departures-le-alone p p.shipments chains alone.0, routes)

-- the costs of shipments, numbered from i, are each at most 65,536 times the scaled cost of the shipment over every arc alone
abbrev pub AreSmallCosts : Problem → ℕ → List Shipment → List ℕ → Type 0
AreSmallCosts p i shipments costs = AllZipFrom (λ k (s : Shipment) n. n ≤ 65536 * (p.scale * sum_by (alone_cost s.size) p.arcs)) i shipments costs

-- small costs together
pub costs-small : (p : Problem) (i : ℕ) (shipments : List Shipment) (costs : List ℕ) → AreSmallCosts p i shipments costs →
    sum_by (λ (n : ℕ). n) costs ≤ p.scale * 65536 * alone_total p.arcs shipments
costs-small p i [] [] small = omega arith
costs-small p i [] (n ∷ costs) small = absurd small
costs-small p i (s ∷ shipments) [] small = absurd small
costs-small p i (s ∷ shipments) (n ∷ costs) small =
    let rest : sum_by (λ (m : ℕ). m) costs ≤ p.scale * 65536 * alone_total p.arcs shipments = costs-small p (i + 1) shipments costs small.1 in
    let own : ℕ = sum_by (alone_cost s.size) p.arcs in
    let whole : p.scale * 65536 * alone_total p.arcs (s ∷ shipments) ≡ p.scale * 65536 * (own + alone_total p.arcs shipments) =
    ap (λ (m : ℕ). p.scale * 65536 * m) (sum_by-cons (λ (t : Shipment). sum_by (alone_cost t.size) p.arcs) s shipments) in
    let first : n ≤ 65536 * (p.scale * own) = small.0 in
    omega (arith, first, rest, whole, sum_by-cons (λ (m : ℕ). m) n costs)

-- bases and small costs together are a small bound
pub value-small : (p : Problem) (bases : ℕ) (costs : List ℕ) → bases ≤ alone_total p.arcs p.shipments → AreSmallCosts p 0 p.shipments costs →
    IsSmallBound p (Value (p.scale * bases + sum_by (λ (n : ℕ). n) costs))
value-small p bases costs few small =
    let scaled : p.scale * bases ≤ p.scale * alone_total p.arcs p.shipments = mul-le-mul_left p.scale few in
    omega (arith, scaled, costs-small p 0 p.shipments costs small)
