-- The price of an allowed class for a shipment is at most what its trucks would cost the shipment alone, so the least costs stay small.
use Rattle.std.proofs.Common.{◌≡◌, ℕ, zero, suc, ◌+◌, ◌*◌, ◌<◌, ◌≤◌, Bool, true, false, List, [], ◌∷◌, length, ⊎_elim, sym, subst, arith}
use Rattle.std.specs.Prelude.{sum_by}
use Rattle.std.proofs.lemmas.Bool.{cases_Bool, cond-true, cond-false}
use Rattle.std.proofs.lemmas.List.Elements.{All-get_or}
use Rattle.std.proofs.lemmas.List.Sums.{sum_by-cons, get_or-le-sum_by}
use Rattle.fp_base_lists.proofs.Distinct.{AreDistinct-cons, AreDistinct-nil}
use Rattle.fp_model.specs.declared.parts.Arc.{Arc}
use Rattle.fp_model.specs.declared.parts.Leg.{Leg}
use Rattle.fp_model.specs.declared.parts.Shipment.{Shipment}
use Rattle.fp_model.specs.Numbered.{no_shipment, shipment_at}
use Rattle.fp_model.specs.Problem.{Problem, IsArc, IsShipment, IsValid, alone_cost, alone_total, arc_at, no_arc, truck_cost}
use Rattle.fp_model.specs.Costs.{all_legs, has_leg}
use Rattle.fp_prices.specs.declared.leaf_prices.Kind.{Kind}
use Rattle.fp_prices.specs.Shares.{ClassShare}
use Rattle.fp_prices.specs.Prices.{AllKeepRule, allowed_count, truck_price}
use Rattle.fp_prices.specs.Leaves.{leaf_price}
use Rattle.fp_prices.proofs.ClassPrices.{trucks-fit}

-- a class that is allowed for some shipment is allowed for at least one
pub allowed_count-some : (allowed : ℕ → Bool) (i k : ℕ) (shipments : List Shipment) → k < length shipments → allowed (i + k) ≡ true → 1 ≤ allowed_count allowed i shipments
allowed_count-some allowed i k [] exists is = absurd (omega (arith, exists))
allowed_count-some allowed i zero (s ∷ shipments) exists is =
    let same : i + 0 ≡ i = omega arith in
    omega (arith, cond-true {A = ℕ} (allowed i) 1 0 (subst (λ (n : ℕ). allowed n ≡ true) same is))
allowed_count-some allowed i (suc k) (s ∷ shipments) exists is =
    let on : i + suc k ≡ i + 1 + k = omega arith in
    omega (arith, allowed_count-some allowed (i + 1) k shipments (omega (arith, exists)) (subst (λ (n : ℕ). allowed n ≡ true) on is))

-- the truck price of a class that is allowed for a shipment is at most what the shipment's trucks would cost on the arc, if it went alone
pub price-small : (p : Problem) (tables : List (List ClassShare)) (allowed : ℕ → Leg → Bool) (kind : Kind) (c : Leg) (k : ℕ) → IsValid p → AllKeepRule p tables → k < length p.shipments →
    c.arc < length p.arcs → allowed k c ≡ true →
    truck_price p tables allowed kind c k (shipment_at p k).size ≤ p.scale * truck_cost (arc_at p c.arc) (shipment_at p k).size
price-small p tables allowed kind c k valid keep exists arc_exists is =
    let size : ℕ = (shipment_at p k).size in
    let price : ℕ → ℕ = λ j. truck_price p tables allowed kind c j size in
    let some : 1 ≤ size = (All-get_or (IsShipment (length p.terminals)) p.shipments k no_shipment exists valid.parts.shipments).within.size.0 in
    let capacity : 1 ≤ (arc_at p c.arc).capacity = (All-get_or (IsArc (length p.terminals)) p.arcs c.arc no_arc arc_exists valid.parts.arcs).within.capacity.0 in
    let number : 0 + k ≡ k = omega arith in
    let few : 1 ≤ allowed_count (λ j. allowed j c) 0 p.shipments =
    allowed_count-some (λ j. allowed j c) 0 k p.shipments exists (subst (λ (n : ℕ). allowed n c ≡ true) (sym number) is) in
    let one_size : sum_by (λ (j : ℕ). size) (k ∷ []) ≡ size = omega (arith, sum_by-cons (λ (j : ℕ). size) k []) in
    let one_price : sum_by price (k ∷ []) ≡ price k = omega (arith, sum_by-cons price k []) in
    let fit : sum_by price (k ∷ []) ≤ p.scale * truck_cost (arc_at p c.arc) (sum_by (λ (j : ℕ). size) (k ∷ [])) =
    trucks-fit p tables allowed kind c (λ (j : ℕ). size) (k ∷ []) keep (omega (arith, capacity)) (AreDistinct-cons k [] tt AreDistinct-nil) (omega (arith, one_size, some)) few in
    let there : sum_by price (k ∷ []) ≤ p.scale * truck_cost (arc_at p c.arc) size =
    subst (λ (n : ℕ). sum_by price (k ∷ []) ≤ p.scale * truck_cost (arc_at p c.arc) n) one_size fit in
    omega (arith, there, one_price)

-- so is its price at a leaf
pub leaf_price-small : (p : Problem) (tables : List (List ClassShare)) (allowed : ℕ → Leg → Bool) (kind : Kind) (chains : List (List Leg)) (c : Leg) (k : ℕ) → IsValid p → AllKeepRule p tables →
    k < length p.shipments → c.arc < length p.arcs → allowed k c ≡ true →
    leaf_price p tables allowed kind chains k (shipment_at p k).size c ≤ p.scale * truck_cost (arc_at p c.arc) (shipment_at p k).size
leaf_price-small p tables allowed kind chains c k valid keep exists arc_exists is =
    let price : ℕ = truck_price p tables allowed kind c k (shipment_at p k).size in
    let forced : Bool = has_leg c (all_legs chains) in
    let most : price ≤ p.scale * truck_cost (arc_at p c.arc) (shipment_at p k).size = price-small p tables allowed kind c k valid keep exists arc_exists is in
    ⊎_elim (λ (h : forced ≡ true). omega (arith, cond-true forced 0 price h)) (λ (h : forced ≡ false). omega (arith, cond-false forced 0 price h, most)) (cases_Bool forced)

-- with the shipment's flow, a price within its trucks is within the scaled cost of going over the arc alone
pub priced-alone : (p : Problem) (arc : Arc) (price size : ℕ) → price ≤ p.scale * truck_cost arc size → price + p.scale * arc.freight * size ≤ p.scale * alone_cost size arc
priced-alone p arc price size most =
    let parts : p.scale * alone_cost size arc ≡ p.scale * arc.freight * size + p.scale * truck_cost arc size = omega arith in
    omega (arith, parts, most)

-- an arc alone costs at most all arcs, each gone over alone
pub arc-alone : (p : Problem) (size a : ℕ) → a < length p.arcs → alone_cost size (arc_at p a) ≤ sum_by (alone_cost size) p.arcs
arc-alone p size a exists = get_or-le-sum_by (alone_cost size) p.arcs a no_arc exists

-- and a shipment over all arcs at most all shipments
pub shipment-alone : (p : Problem) (k : ℕ) → k < length p.shipments → sum_by (alone_cost (shipment_at p k).size) p.arcs ≤ alone_total p.arcs p.shipments
shipment-alone p k exists = get_or-le-sum_by (λ (s : Shipment). sum_by (alone_cost s.size) p.arcs) p.shipments k no_shipment exists
