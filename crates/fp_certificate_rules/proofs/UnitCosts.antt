-- What a unit divides: what each plan costs, so amounts below that may be rounded up by it.
use Rattle.std.proofs.Common.{◌≡◌, ℕ, ◌*◌, ◌/◌, ◌%◌, ◌<◌, ◌≤◌, List, [], ◌∷◌, length, ⊎_elim, sym, subst, arith}
use Rattle.std.specs.Prelude.{All, Option, Some, None, IfSome, sum_by, slice_index_or}
use Rattle.std.specs.Int.{div_ceil}
use Prim.Native.Nat.{◌∣◌}
use Rattle.std.proofs.Math.Nat.{div-mul_cancel, dvd-add, dvd-mul_right_of_dvd, mul-le-mul_right, zero-mod}
use Rattle.std.proofs.lemmas.Bool.{cases_lt}
use Rattle.std.proofs.lemmas.List.{get_or_past}
use Rattle.std.proofs.lemmas.List.Elements.{All-get_or, All-head, All-tail, All-weaker}
use Rattle.std.proofs.lemmas.List.Sums.{sum_by-cons}
use Rattle.std.proofs.lemmas.Nat.Gcd.{dvd-zero, dvd_of_mod-eq-zero}
use Rattle.fp_base_lists.proofs.Ceilings.{div_ceil-least}
use Rattle.fp_model.specs.declared.parts.Arc.{Arc}
use Rattle.fp_model.specs.declared.parts.Leg.{Leg}
use Rattle.fp_model.specs.declared.parts.Shipment.{Shipment}
use Rattle.fp_model.specs.Costs.{all_legs, cost, departure_cost, distinct, flow_total, trucks}
use Rattle.fp_model.specs.Problem.{Problem, arc_at, no_arc}
use Rattle.fp_certificate_lines.specs.Ranges.{IsUnitInRange}
use Rattle.fp_certificate_rules.specs.Units.{IsUnit, rounded_up}

-- what holds of all elements and of what stands for those that aren't there holds of each that is looked up
pub at-all : {X : Type 0} (P : X → Type 0) (xs : List X) (i : ℕ) (d : X) → P d → All P xs → P (slice_index_or xs i d)
at-all P xs i d none all =
    ⊎_elim
    (λ (there : i < length xs). All-get_or P xs i d there all)
    (λ (past : length xs ≤ i). subst P (sym (get_or_past xs i d past)) none)
    (cases_lt i (length xs))

-- a sum of multiples is one
sum_by-dvd : {X : Type 0} (unit : ℕ) (f : X → ℕ) → ((x : X) → unit ∣ f x) → (xs : List X) → unit ∣ sum_by f xs
sum_by-dvd unit f each [] = dvd-zero unit
sum_by-dvd unit f each (x ∷ xs) = subst (λ (n : ℕ). unit ∣ n) (sym (sum_by-cons f x xs)) (dvd-add unit (each x) (sum_by-dvd unit f each xs))

-- the trucks of a departure cost a multiple of the unit
departure-dvd : (p : Problem) (unit : ℕ) (routes : List (List Leg)) (k : Leg) → IsUnit p unit → unit ∣ departure_cost p routes k
departure-dvd p unit routes k is =
    dvd-mul_right_of_dvd unit (dvd_of_mod-eq-zero unit (at-all (λ (a : Arc). a.truck % unit ≡ 0) p.arcs k.arc no_arc (zero-mod unit) is.trucks)) (trucks p routes k)

-- and so does the flow of a shipment over a leg
leg-dvd : (p : Problem) (unit : ℕ) (s : Shipment) (k : Leg) → All (λ (a : Arc). a.freight * s.size % unit ≡ 0) p.arcs → unit ∣ (arc_at p k.arc).freight * s.size
leg-dvd p unit s k each =
    let none : no_arc.freight * s.size ≡ 0 = omega arith in
    dvd_of_mod-eq-zero unit (at-all (λ (a : Arc). a.freight * s.size % unit ≡ 0) p.arcs k.arc no_arc (subst (λ (m : ℕ). m % unit ≡ 0) (sym none) (zero-mod unit)) each)

-- what holds of all pairs holds of all pairs the other way round
All-first : {X Y : Type 0} (R : X → Y → Type 0) (xs : List X) (y : Y) (ys : List Y) → All (λ x. All (R x) (y ∷ ys)) xs → All (λ x. R x y) xs
All-first R xs y ys all = All-weaker (λ x. All (R x) (y ∷ ys)) (λ x. R x y) (λ x each. All-head (R x) y ys each) xs all

All-rest : {X Y : Type 0} (R : X → Y → Type 0) (xs : List X) (y : Y) (ys : List Y) → All (λ x. All (R x) (y ∷ ys)) xs → All (λ x. All (R x) ys) xs
All-rest R xs y ys all = All-weaker (λ x. All (R x) (y ∷ ys)) (λ x. All (R x) ys) (λ x each. All-tail (R x) y ys each) xs all

-- the flow of shipments costs a multiple of the unit
flow-dvd : (p : Problem) (unit : ℕ) (shipments : List Shipment) (routes : List (List Leg)) → All (λ (a : Arc). All (λ (s : Shipment). a.freight * s.size % unit ≡ 0) shipments) p.arcs →
    unit ∣ flow_total p shipments routes
flow-dvd p unit [] routes each = dvd-zero unit
flow-dvd p unit (s ∷ shipments) [] each = dvd-zero unit
flow-dvd p unit (s ∷ shipments) (legs ∷ routes) each =
    let rest : (a : Arc) (x : Shipment) → Type 0 = λ a x. a.freight * x.size % unit ≡ 0 in
    dvd-add unit
    (sum_by-dvd unit (λ (k : Leg). (arc_at p k.arc).freight * s.size) (λ k. leg-dvd p unit s k (All-first rest p.arcs s shipments each)) legs)
    (flow-dvd p unit shipments routes (All-rest rest p.arcs s shipments each))

-- what a plan costs is a multiple of the unit
cost-dvd : (p : Problem) (unit : ℕ) (routes : List (List Leg)) → IsUnit p unit → unit ∣ cost p routes
cost-dvd p unit routes is =
    dvd-add unit
    (sum_by-dvd unit (departure_cost p routes) (λ k. departure-dvd p unit routes k is) (distinct (all_legs routes)))
    (flow-dvd p unit p.shipments routes is.freights)

-- a multiple that is at least an amount is at least the amount rounded up
rounded-le : (unit amount n : ℕ) → 0 < unit → unit ∣ n → amount ≤ n → div_ceil amount unit * unit ≤ n
rounded-le unit amount n some whole le =
    let times : ℕ = n / unit in
    let is : times * unit ≡ n = div-mul_cancel unit whole in
    let few : div_ceil amount unit ≤ times = div_ceil-least amount unit times some (omega (arith, is, le)) in
    let product : div_ceil amount unit * unit ≤ times * unit = mul-le-mul_right {m = div_ceil amount unit} {n = times} unit few in
    omega (arith, product, is)

-- a plan that costs at least an amount costs at least the amount rounded up
pub rounded_up-cost : (p : Problem) (unit : Option ℕ) (amount : ℕ) (routes : List (List Leg)) → IfSome unit IsUnitInRange → IfSome unit (IsUnit p) → amount ≤ cost p routes → rounded_up unit amount ≤ cost p routes
rounded_up-cost p None amount routes range is le = le
rounded_up-cost p (Some unit) amount routes range is le = rounded-le unit amount (cost p routes) range.least (cost-dvd p unit routes is) le
