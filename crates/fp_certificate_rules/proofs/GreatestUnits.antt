-- The greatest unit of a problem: the units are the divisors of one number, the greatest common divisor of what trucks and freight cost.
use Rattle.std.proofs.Common.{◌≡◌, ℕ, ◌+◌, ◌*◌, ◌%◌, ◌<◌, ◌≤◌, List, length, take, ⊎_elim, refl, sym, ◌∙◌, subst, arith}
use Rattle.std.specs.Prelude.{◌↔◌, ◌≢◌, All, Some, slice_index_or}
use Rattle.std.specs.Int.{IsGcd}
use Prim.Native.Nat.{◌∣◌}
use Rattle.std.proofs.Math.Nat.{mod-eq_of_lt, mod-zero, mod_self, mul-le-mul_left, mul-le-mul_right, zero-mod}
use Rattle.std.proofs.lemmas.Bool.{cases_lt}
use Rattle.std.proofs.lemmas.List.{take_more}
use Rattle.std.proofs.lemmas.List.Elements.{All-more, All-pop, All-weaker}
use Rattle.std.proofs.lemmas.Nat.Gcd.{dvd_trans, dvd_of_mod-eq-zero, mod-eq-zero_of_dvd}
use Rattle.fp_model.specs.declared.limits.TheConstants.{GREATEST_AMOUNT}
use Rattle.fp_model.specs.declared.parts.Arc.{Arc}
use Rattle.fp_model.specs.declared.parts.Shipment.{Shipment}
use Rattle.fp_model.specs.Numbered.{no_shipment}
use Rattle.fp_model.specs.Problem.{IsArc, IsShipment, IsValid, Problem, no_arc}
use Rattle.fp_certificate_lines.specs.Ranges.{IsUnitInRange}
use Rattle.fp_certificate_rules.specs.Units.{CostsNothing, IsGreatestUnit, IsUnit}
use Rattle.fp_certificate_rules.proofs.KeptPrices.{All-both}

-- a unit divides what the trucks of an arc cost
abbrev pub DividesTruck : ℕ → Arc → Type 0
DividesTruck unit a = a.truck % unit ≡ 0

-- and what the freight of each shipment costs over it
abbrev pub DividesFreight : ℕ → List Shipment → Arc → Type 0
DividesFreight unit shipments a = All (λ (s : Shipment). a.freight * s.size % unit ≡ 0) shipments

-- the divisors of a greatest common divisor are those that its two numbers have in common
pub divides-gcd : (a b g unit : ℕ) → IsGcd a b g → (g % unit ≡ 0 ↔ (a % unit ≡ 0) × (b % unit ≡ 0))
divides-gcd a b g unit gcd = (
  λ h.
      let divides : unit ∣ g = dvd_of_mod-eq-zero unit h in
      (mod-eq-zero_of_dvd unit (dvd_trans unit divides gcd.0), mod-eq-zero_of_dvd unit (dvd_trans unit divides gcd.1)),
  λ h. mod-eq-zero_of_dvd unit (gcd.2 unit (dvd_of_mod-eq-zero unit h.0) (dvd_of_mod-eq-zero unit h.1)),
)

-- a fact holds of one element more exactly where it holds of those before and of that one
pub All-next : {X : Type 0} (P : X → Type 0) (xs : List X) (i : ℕ) (d : X) → i < length xs → (All P (take (i + 1) xs) ↔ All P (take i xs) × P (slice_index_or xs i d))
All-next P xs i d there = (
  λ all. All-pop P (take (i + 1) xs) (take i xs) (Some (slice_index_or xs i d)) (take_more xs i d there) all,
  λ both. All-more P xs i d there both.0 both.1,
)

-- one shipment more: the divisors that a number has in common with what its freight costs over an arc
pub freight-next : (number divisor next : ℕ) (a : Arc) (shipments : List Shipment) (i : ℕ) (s : Shipment) → i < length shipments → s ≡ slice_index_or shipments i s →
    ((unit : ℕ) → divisor % unit ≡ 0 ↔ (number % unit ≡ 0) × DividesFreight unit (take i shipments) a) → IsGcd divisor (a.freight * s.size) next →
    (unit : ℕ) → next % unit ≡ 0 ↔ (number % unit ≡ 0) × DividesFreight unit (take (i + 1) shipments) a
freight-next number divisor next a shipments i s there is are gcd unit =
    let Divides : Shipment → Type 0 = λ other. a.freight * other.size % unit ≡ 0 in
    let more = divides-gcd divisor (a.freight * s.size) next unit gcd in
    let all = All-next Divides shipments i s there in (
      λ h.
          let parts = more.0 h in
          let before = (are unit).0 parts.0 in
          (before.0, all.1 (before.1, subst Divides is parts.1)),
      λ both.
          let parts = all.0 both.1 in
          more.1 ((are unit).1 (both.0, parts.0), subst Divides (sym is) parts.1),
    )

-- a problem with its first so many arcs alone
abbrev pub with_first : ℕ → Problem → Problem
with_first n p = record p { arcs = take n p.arcs }

-- the divisors of a number are the units of a problem
abbrev pub HasUnits : Problem → ℕ → Type 0
HasUnits p divisor = (unit : ℕ) → divisor % unit ≡ 0 ↔ IsUnit p unit

-- one arc more: the divisors that a number has in common with what the arc costs
pub HasUnits-next : (p : Problem) (i divisor middle next : ℕ) → i < length p.arcs → HasUnits (with_first i p) divisor →
    IsGcd divisor (slice_index_or p.arcs i no_arc).truck middle →
    ((unit : ℕ) → next % unit ≡ 0 ↔ (middle % unit ≡ 0) × DividesFreight unit p.shipments (slice_index_or p.arcs i no_arc)) →
    HasUnits (with_first (i + 1) p) next
HasUnits-next p i divisor middle next there are gcd more unit =
    let a : Arc = slice_index_or p.arcs i no_arc in
    let truck = divides-gcd divisor a.truck middle unit gcd in
    let trucks = All-next (DividesTruck unit) p.arcs i no_arc there in
    let freights = All-next (DividesFreight unit p.shipments) p.arcs i no_arc there in (
      λ h.
          let parts = (more unit).0 h in
          let both = truck.0 parts.0 in
          let is : IsUnit (with_first i p) unit = (are unit).0 both.0 in
          record { trucks = trucks.1 (is.trucks, both.1); freights = freights.1 (is.freights, parts.1) },
      λ is.
          let by_truck = trucks.0 is.trucks in
          let by_freight = freights.0 is.freights in
          let before : IsUnit (with_first i p) unit = record { trucks = by_truck.0; freights = by_freight.0 } in
          (more unit).1 (truck.1 ((are unit).1 before, by_truck.1), by_freight.1),
    )

-- where nothing costs anything each number is a unit
free-unit : (p : Problem) (unit : ℕ) → CostsNothing p → IsUnit p unit
free-unit p unit free =
    let divides : (n : ℕ) → n ≡ 0 → n % unit ≡ 0 = λ n none. subst (λ (m : ℕ). m % unit ≡ 0) (sym none) (zero-mod unit) in
    record {
      trucks = All-weaker (λ (a : Arc). a.truck ≡ 0) (DividesTruck unit) (λ a none. divides a.truck none) p.arcs free.trucks;
      freights = All-weaker (λ (a : Arc). All (λ (s : Shipment). a.freight * s.size ≡ 0) p.shipments) (DividesFreight unit p.shipments)
          (λ a none. All-weaker (λ (s : Shipment). a.freight * s.size ≡ 0) (λ (s : Shipment). a.freight * s.size % unit ≡ 0) (λ s h. divides (a.freight * s.size) h) p.shipments none) p.arcs free.freights;
    }

-- 0 divides only what costs nothing
free_of-zero : (p : Problem) → IsUnit p 0 → CostsNothing p
free_of-zero p is =
    record {
      trucks = All-weaker (DividesTruck 0) (λ (a : Arc). a.truck ≡ 0) (λ a h. sym (mod-zero a.truck) ∙ h) p.arcs is.trucks;
      freights = All-weaker (DividesFreight 0 p.shipments) (λ (a : Arc). All (λ (s : Shipment). a.freight * s.size ≡ 0) p.shipments)
          (λ a each. All-weaker (λ (s : Shipment). a.freight * s.size % 0 ≡ 0) (λ (s : Shipment). a.freight * s.size ≡ 0) (λ s h. sym (mod-zero (a.freight * s.size)) ∙ h) p.shipments each) p.arcs is.freights;
    }

-- the largest amount that a truck or the freight of a shipment over an arc may cost
abbrev most_cost : ℕ
most_cost = GREATEST_AMOUNT * GREATEST_AMOUNT

-- a larger number divides only 0
none_of-large : (unit n : ℕ) → most_cost < unit → n ≤ most_cost → n % unit ≡ 0 → n ≡ 0
none_of-large unit n large small divides =
    let less : n < unit = omega arith in
    sym (mod-eq_of_lt less) ∙ divides

-- what freight costs is no more
freight-le : (arcs : ℕ) (a : Arc) (s : Shipment) → IsArc arcs a → IsShipment arcs s → a.freight * s.size ≤ most_cost
freight-le arcs a s arc shipment =
    let one : a.freight * s.size ≤ GREATEST_AMOUNT * s.size = mul-le-mul_right s.size arc.within.freight in
    let two : GREATEST_AMOUNT * s.size ≤ most_cost = mul-le-mul_left GREATEST_AMOUNT shipment.within.size.1 in
    omega (arith, one, two)

-- so a larger unit is one of a problem in which nothing costs anything
free_of-large : (p : Problem) (unit : ℕ) → IsValid p → IsUnit p unit → most_cost < unit → CostsNothing p
free_of-large p unit valid is large =
    let n : ℕ = length p.terminals in
    record {
      trucks = All-both (IsArc n) (DividesTruck unit) (λ (a : Arc). a.truck ≡ 0) no_arc
          (λ a arc h.
          let small : a.truck ≤ most_cost = omega (arith, arc.within.truck) in
          none_of-large unit a.truck large small h) p.arcs valid.parts.arcs is.trucks;
      freights = All-both (IsArc n) (DividesFreight unit p.shipments) (λ (a : Arc). All (λ (s : Shipment). a.freight * s.size ≡ 0) p.shipments) no_arc
          (λ a arc each.
          All-both (IsShipment n) (λ (s : Shipment). a.freight * s.size % unit ≡ 0) (λ (s : Shipment). a.freight * s.size ≡ 0) no_shipment
          (λ s shipment h. none_of-large unit (a.freight * s.size) large (freight-le n a s arc shipment) h) p.shipments valid.parts.shipments each) p.arcs valid.parts.arcs is.freights;
    }

-- where something costs something the number is the greatest unit
pub greatest-some : (p : Problem) (divisor : ℕ) → HasUnits p divisor → divisor ≢ 0 → IsGreatestUnit p divisor
greatest-some p divisor are some =
    record {
      is = (are divisor).0 (mod_self divisor);
      greatest = λ costs other is. (are other).1 is;
      free = λ free. absurd (some (sym (mod-zero divisor) ∙ (are 0).1 (free-unit p 0 free)));
    }

-- and 1 where the number is 0
pub greatest-none : (p : Problem) → HasUnits p 0 → IsGreatestUnit p 1
greatest-none p are =
    let free : CostsNothing p = free_of-zero p ((are 0).0 (zero-mod 0)) in
    record { is = free-unit p 1 free; greatest = λ costs. absurd (costs free); free = λ _. refl }

-- it is small enough for a certificate
pub range-some : (p : Problem) (divisor : ℕ) → IsValid p → HasUnits p divisor → divisor ≢ 0 → IsUnitInRange divisor
range-some p divisor valid are some =
    ⊎_elim
    (λ (large : most_cost < divisor).
    let is : IsUnit p divisor = (are divisor).0 (mod_self divisor) in
    absurd (some (sym (mod-zero divisor) ∙ (are 0).1 (free-unit p 0 (free_of-large p divisor valid is large)))))
    (λ (small : divisor ≤ most_cost). record { least = omega (arith, some); most = omega arith })
    (cases_lt most_cost divisor)
