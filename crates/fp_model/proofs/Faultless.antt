-- Routes are a plan exactly where they have no fault.
use Rattle.std.proofs.Common.{◌≡◌, ◌≢◌, ℕ, zero, suc, ◌+◌, ◌*◌, ◌-◌, ◌<◌, ◌≤◌, List, [], ◌∷◌, length, take, inl, inr, ⊎_elim, refl, sym, ◌∙◌, ap, subst, arith}
use Rattle.std.specs.List.{AllByRecursion}
use Rattle.std.proofs.lemmas.Bool.Decides.{eqb_tells}
use Rattle.std.proofs.lemmas.List.{get_or-take, length-take-le}
use Rattle.std.proofs.lemmas.Slice.Zip.{AllZip-long}
use Rattle.fp_model.specs.declared.faults.PlanKind.{PlanKind}
use Rattle.fp_model.specs.declared.faults.PlanKind.TheVariants.{Count, NotRoute, TerminalTwice, BeforeRelease, BeforeArrival, AfterDue}
use Rattle.fp_model.specs.declared.parts.Leg.{Leg}
use Rattle.fp_model.specs.declared.parts.Shipment.{Shipment}
use Rattle.fp_model.specs.Problem.{Problem, arc_at}
use Rattle.fp_model.specs.Routes.{Carries, arcs_of, step, ends_of}
use Rattle.fp_base_lists.specs.Distinct.{AreDistinct}
use Rattle.fp_model.specs.Numbered.{leg_at, no_leg, route_at, shipment_at, no_shipment}
use Rattle.fp_model.specs.Faults.{place_before, HasLegFault, AreFaultless, HasFault, IsFaultless}
use Rattle.fp_model.specs.Plans.{IsPlan}
use Rattle.fp_base_lists.proofs.Distinct.{AreDistinct-from_map, AreDistinct-tail}
use Rattle.fp_model.proofs.LegByLeg.{GoesOn, Leads-from_legs, Leads-legs, Leads-last, NeverReturns, AreDistinct-from_legs, AreDistinct-legs, StartsFrom, KeepsSteps, LeavesReady-from_legs, LeavesReady-first, LeavesReady-legs}
use Rattle.fp_base_lists.proofs.Numbered.{AllZip-get_or}
use Rattle.fp_base_lists.proofs.DistinctSums.{length-distinct-le}
use Rattle.fp_base_lists.proofs.Numbered.{AllZip-from_get_or}
use Rattle.fp_model.proofs.LastArrivals.{arrives_at_last}

-- the legs below a number have no fault
abbrev pub AreFaultlessBelow : Problem → Shipment → List Leg → ℕ → Type 0
AreFaultlessBelow p s legs n = (kind : PlanKind) (i : ℕ) → i < n → HasLegFault p s legs kind i → ⊥

-- a number that is not another one's other is that one
same-number : (a b : ℕ) → (a ≢ b → ⊥) → a ≡ b
same-number a b h = ⊎_elim (λ t. t.1) (λ t. absurd (h t.1)) (eqb_tells a b)

pub goes_on : (p : Problem) (s : Shipment) (legs : List Leg) (i : ℕ) → i < length legs → (HasLegFault p s legs NotRoute i → ⊥) → GoesOn p s.from legs i
goes_on p s legs i lt none =
    let far : length p.arcs ≤ (leg_at legs i).arc → ⊥ = λ h. none (inr (lt, inl h)) in
    (omega (arith, far), same-number _ _ (λ ne. none (inr (lt, inr (inl ne)))))

enters_last : (p : Problem) (s : Shipment) (legs : List Leg) (i : ℕ) → i + 1 ≡ length legs → (HasLegFault p s legs NotRoute i → ⊥) → (arc_at p (leg_at legs i).arc).to ≡ s.to
enters_last p s legs i last none = same-number _ _ (λ ne. none (inr (omega (arith, last), inr (inr (last, ne)))))

-- the places before legs of a front part are those of the whole
place_before-take : (p : Problem) (origin : ℕ) (legs : List Leg) (n j : ℕ) → j ≤ n → place_before p origin (take n legs) j ≡ place_before p origin legs j
place_before-take p origin legs n zero le = refl
place_before-take p origin legs n (suc j) le = ap (λ (l : Leg). (arc_at p l.arc).to) (get_or-take n legs j no_leg (omega (arith, le)))

arcs-below : (p : Problem) (origin : ℕ) (legs : List Leg) → ((i : ℕ) → i < length legs → (leg_at legs i).arc < length p.arcs) → AllByRecursion (λ a. a < length p.arcs) (arcs_of legs)
arcs-below p origin [] each = tt
arcs-below p origin (l ∷ legs) each = (each 0 (omega arith), arcs-below p origin legs (λ i lt. each (suc i) (omega (arith, lt))))

pub length-arcs_of : (legs : List Leg) → length (arcs_of legs) ≡ length legs
length-arcs_of [] = refl
length-arcs_of (l ∷ legs) = omega (arith, length-arcs_of legs)

-- legs without a fault go by different arcs, so they are few
pub few_faultless : (p : Problem) (s : Shipment) (legs : List Leg) (n : ℕ) → n ≤ length legs → AreFaultlessBelow p s legs n → n ≤ length p.arcs
few_faultless p s legs n le none =
    let front : List Leg = take n legs in
    let long : length front ≡ n = length-take-le n legs le in
    let same : (i : ℕ) → i < n → leg_at front i ≡ leg_at legs i = λ i lt. get_or-take n legs i no_leg lt in
    let returns : NeverReturns p s.from front =
    λ i j before lt e.
    let below : i < n = omega (arith, lt, long) in
    none TerminalTwice i below (
      omega (arith, below, le),
      (j, before, sym (place_before-take p s.from legs n j (omega (arith, below, before))) ∙ e ∙ ap (λ (l : Leg). (arc_at p l.arc).to) (same i below)),
    ) in
    let exist : (i : ℕ) → i < length front → (leg_at front i).arc < length p.arcs =
    λ i lt.
    let below : i < n = omega (arith, lt, long) in
    subst (λ (l : Leg). l.arc < length p.arcs) (sym (same i below)) (goes_on p s legs i (omega (arith, below, le)) (none NotRoute i below)).0 in
    let apart : AreDistinct (arcs_of front) = AreDistinct-from_map (λ a. (arc_at p a).to) (arcs_of front) (AreDistinct-tail s.from (ends_of p (arcs_of front)) (AreDistinct-from_legs p s.from front returns)) in
    let few : length (arcs_of front) ≤ length p.arcs =
    length-distinct-le (length p.arcs) (arcs_of front) (arcs-below p s.from front exist) apart in
    omega (arith, few, long, length-arcs_of front)

Carries-from_faultless : (p : Problem) (s : Shipment) (legs : List Leg) → AreFaultless p s legs → Carries p 1 s legs
Carries-from_faultless p s [] none = absurd (none NotRoute 0 (inl (refl, refl)))
Carries-from_faultless p s (l ∷ legs) none =
    let all : List Leg = l ∷ legs in
    let end : ℕ = length all - 1 in
    let starts : StartsFrom (1 * s.release) all =
    λ some. let late : (leg_at all 0).depart < s.release → ⊥ = λ h. none BeforeRelease 0 (some, refl, h) in omega (arith, late) in
    let keeps : KeepsSteps p all =
    λ i lt. let late : (leg_at all (suc i)).depart < (leg_at all i).depart + step p (leg_at all i).arc → ⊥ = λ h. none BeforeArrival (suc i) (lt, h) in omega (arith, late) in
    let early : s.due < (leg_at all end).depart + (arc_at p (leg_at all end).arc).time → ⊥ = λ h. none AfterDue end (omega arith, (omega arith, h)) in
    record {
      route = record {
        some = λ e. cc;
        leads = Leads-from_legs p s.from s.to all (λ i lt. goes_on p s all i lt (none NotRoute i)) (enters_last p s all (length legs) (omega arith) (none NotRoute (length legs)));
        once = AreDistinct-from_legs p s.from all (λ i j le lt e. none TerminalTwice i (lt, (j, le, e)));
      };
      ready = LeavesReady-from_legs p (1 * s.release) all starts keeps;
      due = (arrives_at_last p 1 s.due all no_leg (omega arith)).1 (omega (arith, early));
    }

-- legs that carry a shipment are some
some-legs : (legs : List Leg) → arcs_of legs ≢ [] → length legs ≡ 0 → ⊥
some-legs [] some none = some refl
some-legs (l ∷ legs) some none = omega (arith, none)

Carries-faultless : (p : Problem) (s : Shipment) (legs : List Leg) → Carries p 1 s legs → AreFaultless p s legs
Carries-faultless p s legs carries Count i fault = fault
Carries-faultless p s legs carries NotRoute i fault =
    ⊎_elim
    (λ empty. some-legs legs carries.route.some empty.0)
    (λ at.
    let on : GoesOn p s.from legs i = Leads-legs p s.from s.to legs carries.route.leads i at.0 in
    ⊎_elim
    (λ (far : length p.arcs ≤ (leg_at legs i).arc). omega (arith, on.0, far))
    (λ other.
    ⊎_elim
    (λ (elsewhere : (arc_at p (leg_at legs i).arc).from ≢ place_before p s.from legs i). elsewhere on.1)
    (λ last.
    let end : i + 1 ≡ length legs = last.0 in
    let there : place_before p s.from legs (suc i) ≡ s.to =
    subst (λ (n : ℕ). place_before p s.from legs n ≡ s.to) (let e : length legs ≡ suc i = omega (arith, end) in e) (Leads-last p s.from s.to legs carries.route.leads) in
    last.1 there)
    other)
    at.1)
    fault
Carries-faultless p s legs carries TerminalTwice i fault = AreDistinct-legs p s.from legs carries.route.once i fault.1.0 fault.1.1 fault.0 fault.1.2
Carries-faultless p s legs carries BeforeRelease i fault =
    let same : i ≡ 0 = fault.1 in
    let early : (leg_at legs 0).depart < s.release = subst (λ (n : ℕ). (leg_at legs n).depart < s.release) same fault.2 in
    omega (arith, early, LeavesReady-first p (1 * s.release) legs carries.ready (omega (arith, fault.0)))
Carries-faultless p s legs carries BeforeArrival zero fault = fault.1
Carries-faultless p s legs carries BeforeArrival (suc i) fault = omega (arith, fault.1, LeavesReady-legs p (1 * s.release) legs carries.ready i fault.0)
Carries-faultless p s legs carries AfterDue i fault =
    let end : length legs - 1 ≡ i = omega (arith, fault.1.0) in
    let due : (leg_at legs (length legs - 1)).depart + 1 * (arc_at p (leg_at legs (length legs - 1)).arc).time ≤ 1 * s.due =
    (arrives_at_last p 1 s.due legs no_leg (omega (arith, fault.0))).0 carries.due in
    let here : (leg_at legs i).depart + 1 * (arc_at p (leg_at legs i).arc).time ≤ 1 * s.due =
    subst (λ (n : ℕ). (leg_at legs n).depart + 1 * (arc_at p (leg_at legs n).arc).time ≤ 1 * s.due) end due in
    omega (arith, here, fault.1.1)

-- a fault of legs is one of the routes
pub HasFault-leg : (p : Problem) (routes : List (List Leg)) (kind : PlanKind) (k i : ℕ) → k < length p.shipments → k < length routes →
    HasLegFault p (shipment_at p k) (route_at routes k) kind i → HasFault p routes kind k i
HasFault-leg p routes Count k i lt there fault = absurd fault
HasFault-leg p routes NotRoute k i lt there fault = (lt, there, fault)
HasFault-leg p routes TerminalTwice k i lt there fault = (lt, there, fault)
HasFault-leg p routes BeforeRelease k i lt there fault = (lt, there, fault)
HasFault-leg p routes BeforeArrival k i lt there fault = (lt, there, fault)
HasFault-leg p routes AfterDue k i lt there fault = (lt, there, fault)

-- a fault of routes of the right number is one of legs
pub HasLegFault-fault : (p : Problem) (routes : List (List Leg)) (kind : PlanKind) (k i : ℕ) → length routes ≡ length p.shipments → HasFault p routes kind k i →
    (k < length p.shipments) × HasLegFault p (shipment_at p k) (route_at routes k) kind i
HasLegFault-fault p routes Count k i long fault = absurd (fault.0 long)
HasLegFault-fault p routes NotRoute k i long fault = (fault.0, fault.2)
HasLegFault-fault p routes TerminalTwice k i long fault = (fault.0, fault.2)
HasLegFault-fault p routes BeforeRelease k i long fault = (fault.0, fault.2)
HasLegFault-fault p routes BeforeArrival k i long fault = (fault.0, fault.2)
HasLegFault-fault p routes AfterDue k i long fault = (fault.0, fault.2)

pub IsPlan-from_faultless : (p : Problem) (routes : List (List Leg)) → IsFaultless p routes → IsPlan p 1 routes
IsPlan-from_faultless p routes none =
    let long : length routes ≡ length p.shipments = same-number _ _ (λ ne. none Count 0 0 (ne, refl, refl)) in
    AllZip-from_get_or (Carries p 1) p.shipments routes no_shipment [] long
    (λ k lt. Carries-from_faultless p (shipment_at p k) (route_at routes k) (λ kind i fault. none kind k i (HasFault-leg p routes kind k i lt (omega (arith, lt, long)) fault)))

pub IsPlan-faultless : (p : Problem) (routes : List (List Leg)) → IsPlan p 1 routes → IsFaultless p routes
IsPlan-faultless p routes plan kind k i fault =
    let long : length routes ≡ length p.shipments = AllZip-long (Carries p 1) p.shipments routes plan in
    let at = HasLegFault-fault p routes kind k i long fault in
    Carries-faultless p (shipment_at p k) (route_at routes k) (AllZip-get_or (Carries p 1) p.shipments routes k no_shipment [] plan at.0) kind i at.1
