-- In each class, the base and what its users pay are together at most what its trucks cost.
use Rattle.std.proofs.Common.{◌≡◌, ℕ, ◌+◌, ◌*◌, ◌-◌, ◌<◌, ◌≤◌, Bool, true, false, List, [], ◌∷◌, length, ⊎_elim, sym, ap, subst, arith}
use Rattle.std.specs.Prelude.{sum_by, nat_eq, ◌&&◌, Option, Some, None, MatchOption}
use Rattle.std.specs.List.{AllByRecursion, AllZip}
use Rattle.std.proofs.Math.Nat.{mul-le-mul_left}
use Rattle.std.proofs.lemmas.Bool.{cases_Bool, cond-true, cond-false, and_parts, eqb-true}
use Rattle.fp_base_lists.proofs.Elements.{AllByRecursion-get_or_default}
use Rattle.fp_model.specs.declared.parts.Leg.{Leg}
use Rattle.fp_model.specs.declared.parts.Shipment.{Shipment}
use Rattle.fp_model.specs.Problem.{Problem, arc_at, truck_cost}
use Rattle.fp_base_lists.specs.Distinct.{AreDistinct}
use Rattle.fp_model.specs.Costs.{has_leg, all_legs, load}
use Rattle.fp_model.proofs.Bounds.{departure_of, departure-outside}
use Rattle.fp_model.proofs.TruckCounts.{load-some}
use Rattle.fp_base_lists.proofs.Sums.{sum_by-same, sum_by-const}
use Rattle.fp_prices.specs.declared.leaf_prices.Kind.{Kind}
use Rattle.fp_prices.specs.declared.leaf_prices.Kind.TheVariants.{Linear, Even, Table}
use Rattle.fp_prices.specs.Shares.{ClassShare}
use Rattle.fp_prices.specs.Prices.{KeepsRule, AllKeepRule, share_for, table_at, table_price, truck_price, allowed_count, allowed_size}
use Rattle.fp_prices.specs.Leaves.{leaf_price}
use Rattle.fp_prices.proofs.SetPrices.{linear-fits, even-fits, share-fits}
use Rattle.fp_prices.proofs.TakenByClasses.{users}
use Rattle.fp_prices.proofs.Users.{AgreesFrom, users-size, users-apart, users-none}
use Rattle.fp_prices.proofs.ForcedClasses.{AreAmong, base-le}

-- each share of a table keeps the price rule of its arc
abbrev pub TableKeepsRule : Problem → List ClassShare → Type 0
TableKeepsRule p table = AllByRecursion (λ (share : ClassShare). KeepsRule p.scale (arc_at p share.arc) share) table

-- the share of a class, if there is one, keeps the price rule of the class's arc
share-keeps : (p : Problem) (table : List ClassShare) (c : Leg) → TableKeepsRule p table →
    MatchOption (share_for table c) (Unit {0}) (KeepsRule p.scale (arc_at p c.arc))
share-keeps p [] c keep = tt
share-keeps p (share ∷ table) c keep =
    let P : Option ClassShare → Type 0 = λ o. MatchOption o (Unit {0}) (KeepsRule p.scale (arc_at p c.arc)) in
    let test : Bool = nat_eq share.arc c.arc && nat_eq share.point c.depart in
    ⊎_elim
    (λ (h : test ≡ true).
    let same : share.arc ≡ c.arc = eqb-true share.arc c.arc (and_parts (nat_eq share.arc c.arc) (nat_eq share.point c.depart) h).0 in
    subst P (sym (cond-true test (Some share) (share_for table c) h)) (subst (λ (a : ℕ). KeepsRule p.scale (arc_at p a) share) same keep.0))
    (λ (h : test ≡ false). subst P (sym (cond-false test (Some share) (share_for table c) h)) (share-keeps p table c keep.1))
    (cases_Bool test)

-- so it is in the table with a number
share-at-keeps : (p : Problem) (tables : List (List ClassShare)) (id : ℕ) (c : Leg) → AllKeepRule p tables →
    MatchOption (share_for (table_at tables id) c) (Unit {0}) (KeepsRule p.scale (arc_at p c.arc))
share-at-keeps p tables id c keep = share-keeps p (table_at tables id) c (AllByRecursion-get_or_default (TableKeepsRule p) tables (id - 1) [] keep tt)

-- different shipments pay at most for the trucks that they need
pub trucks-fit : (p : Problem) (tables : List (List ClassShare)) (allowed : ℕ → Leg → Bool) (kind : Kind) (c : Leg) (size : ℕ → ℕ) (set : List ℕ) → AllKeepRule p tables →
    0 < (arc_at p c.arc).capacity → AreDistinct set → 0 < sum_by size set → length set ≤ allowed_count (λ j. allowed j c) 0 p.shipments →
    sum_by (λ k. truck_price p tables allowed kind c k (size k)) set ≤ p.scale * truck_cost (arc_at p c.arc) (sum_by size set)
trucks-fit p tables allowed Linear c size set keep h apart some few = linear-fits p.scale (arc_at p c.arc) size set h
trucks-fit p tables allowed Even c size set keep h apart some few =
    even-fits p.scale (arc_at p c.arc) (allowed_count (λ j. allowed j c) 0 p.shipments) (allowed_size (λ j. allowed j c) 0 p.shipments) size set h few some
trucks-fit p tables allowed (Table id) c size set keep h apart some few = by_share (share_for (table_at tables id) c) (share-at-keeps p tables id c keep)
  where
    by_share : (o : Option ClassShare) → MatchOption o (Unit {0}) (KeepsRule p.scale (arc_at p c.arc)) →
        sum_by (λ k. table_price p.scale (arc_at p c.arc) o k (size k)) set ≤ p.scale * truck_cost (arc_at p c.arc) (sum_by size set)
    by_share None rule = linear-fits p.scale (arc_at p c.arc) size set h
    by_share (Some share) rule = share-fits p.scale (arc_at p c.arc) share size set h rule apart some

-- what is known of the chains of a leaf and of walks that have them, one for each shipment
pub record AreWalks (p : Problem) (allowed : ℕ → Leg → Bool) (size : ℕ → ℕ) (chains walks : List (List Leg)) : Type 0 where
  pub long : length walks ≡ length p.shipments
  pub sizes : AgreesFrom size 0 p.shipments
  pub sized : AllByRecursion (λ (s : Shipment). 1 ≤ s.size) p.shipments
  pub capacity : (c : Leg) → has_leg c (all_legs walks) ≡ true → 0 < (arc_at p c.arc).capacity
  pub few : (c : Leg) → length (users 0 walks c) ≤ allowed_count (λ j. allowed j c) 0 p.shipments
  pub among : AllZip AreAmong chains walks

-- what the users of a class pay by its truck prices is at most what its trucks cost
users-fit : (p : Problem) (tables : List (List ClassShare)) (allowed : ℕ → Leg → Bool) (kind : Kind) (size : ℕ → ℕ) (chains walks : List (List Leg)) (c : Leg) → AllKeepRule p tables →
    AreWalks p allowed size chains walks → sum_by (λ k. truck_price p tables allowed kind c k (size k)) (users 0 walks c) ≤ p.scale * departure_of p p.shipments walks c
users-fit p tables allowed kind size chains walks c keep are =
    let set : List ℕ = users 0 walks c in
    let price : ℕ → ℕ = λ k. truck_price p tables allowed kind c k (size k) in
    ⊎_elim
    (λ (used : has_leg c (all_legs walks) ≡ true).
    let sized : sum_by size set ≡ load p.shipments walks c = users-size size 0 p.shipments walks c are.long are.sizes in
    let some : 0 < sum_by size set = omega (arith, sized, load-some p.shipments walks c are.long are.sized used) in
    subst (λ (n : ℕ). sum_by price set ≤ p.scale * truck_cost (arc_at p c.arc) n) sized
    (trucks-fit p tables allowed kind c size set keep (are.capacity c used) (users-apart 0 walks c) some (are.few c)))
    (λ (unused : has_leg c (all_legs walks) ≡ false).
    let empty : sum_by price set ≡ 0 = ap (sum_by price) (users-none 0 walks c unused) in
    omega (arith, empty))
    (cases_Bool (has_leg c (all_legs walks)))

-- the base of a class, and what its users pay
pub class-fits : (p : Problem) (tables : List (List ClassShare)) (allowed : ℕ → Leg → Bool) (kind : Kind) (size : ℕ → ℕ) (chains walks : List (List Leg)) (c : Leg) → AllKeepRule p tables →
    AreWalks p allowed size chains walks →
    p.scale * departure_of p p.shipments chains c + sum_by (λ k. leaf_price p tables allowed kind chains k (size k) c) (users 0 walks c) ≤ p.scale * departure_of p p.shipments walks c
class-fits p tables allowed kind size chains walks c keep are =
    let set : List ℕ = users 0 walks c in
    let of_leaf : ℕ → ℕ = λ k. leaf_price p tables allowed kind chains k (size k) c in
    let of_trucks : ℕ → ℕ = λ k. truck_price p tables allowed kind c k (size k) in
    ⊎_elim
    (λ (forced : has_leg c (all_legs chains) ≡ true).
    let base : p.scale * departure_of p p.shipments chains c ≤ p.scale * departure_of p p.shipments walks c =
    mul-le-mul_left p.scale (base-le p p.shipments chains walks c are.among) in
    let free : sum_by of_leaf set ≡ sum_by (λ (k : ℕ). 0) set = sum_by-same of_leaf (λ (k : ℕ). 0) (λ k. cond-true (has_leg c (all_legs chains)) 0 (of_trucks k) forced) set in
    omega (arith, base, free, sum_by-const 0 set))
    (λ (not_forced : has_leg c (all_legs chains) ≡ false).
    let priced : sum_by of_leaf set ≡ sum_by of_trucks set = sum_by-same of_leaf of_trucks (λ k. cond-false (has_leg c (all_legs chains)) 0 (of_trucks k) not_forced) set in
    let none : p.scale * departure_of p p.shipments chains c ≡ p.scale * 0 = ap (λ (n : ℕ). p.scale * n) (departure-outside p p.shipments chains c not_forced) in
    omega (arith, priced, none, users-fit p tables allowed kind size chains walks c keep are))
    (cases_Bool (has_leg c (all_legs chains)))
