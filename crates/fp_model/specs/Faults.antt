-- What is wrong with routes that are no plan over the denominator 1, and where.
use Rattle.std.specs.Prelude.{ℕ, zero, suc, ◌+◌, ◌<◌, ◌≤◌, ◌≡◌, ◌≢◌, ◌⊎◌, List, length}
use Rattle.fp_model.specs.declared.faults.PlanKind.{PlanKind}
use Rattle.fp_model.specs.declared.faults.PlanKind.TheVariants.{Count, NotRoute, TerminalTwice, BeforeRelease, BeforeArrival, AfterDue}
use Rattle.fp_model.specs.declared.parts.Leg.{Leg}
use Rattle.fp_model.specs.declared.parts.Shipment.{Shipment}
use Rattle.fp_model.specs.Problem.{Problem, arc_at}
use Rattle.fp_model.specs.Routes.{step}
use Rattle.fp_model.specs.Numbered.{leg_at, route_at, shipment_at}

-- where a shipment is before it leaves by the leg with a number: at its origin, and later at the
-- end of the leg before
abbrev pub place_before : Problem → (origin : ℕ) → List Leg → ℕ → ℕ
place_before p origin legs zero = origin
place_before p origin legs (suc i) = (arc_at p (leg_at legs i).arc).to

-- a leg goes by no arc, or by one that does not leave where its shipment is, or it is the last and
-- does not enter the destination
abbrev pub BreaksOff : Problem → Shipment → List Leg → ℕ → Type 0
BreaksOff p s legs i =
    (length p.arcs ≤ (leg_at legs i).arc)
    ⊎ ((arc_at p (leg_at legs i).arc).from ≢ place_before p s.from legs i)
    ⊎ ((i + 1 ≡ length legs) × ((arc_at p (leg_at legs i).arc).to ≢ s.to))

-- a leg enters a terminal where its shipment has been: the origin, or the end of an earlier leg
abbrev pub Returns : Problem → Shipment → List Leg → ℕ → Type 0
Returns p s legs i =
    (j : ℕ) × (j ≤ i) × (place_before p s.from legs j ≡ (arc_at p (leg_at legs i).arc).to)

-- a leg leaves before the leg before it has arrived and its shipment was held at the terminal
-- between them
abbrev pub LeavesEarly : Problem → List Leg → ℕ → Type 0
LeavesEarly p legs zero = ⊥
LeavesEarly p legs (suc i) = (leg_at legs (suc i)).depart < (leg_at legs i).depart + step p (leg_at legs i).arc

-- a leg is the last one and arrives after the due time
abbrev pub ArrivesLate : Problem → Shipment → List Leg → ℕ → Type 0
ArrivesLate p s legs i =
    (i + 1 ≡ length legs) × (s.due < (leg_at legs i).depart + (arc_at p (leg_at legs i).arc).time)

-- the legs of a shipment have the fault of a kind at the leg with a number
abbrev pub HasLegFault : Problem → Shipment → List Leg → PlanKind → ℕ → Type 0
HasLegFault p s legs Count i = ⊥
HasLegFault p s legs NotRoute i =
    ((length legs ≡ 0) × (i ≡ 0)) ⊎ ((i < length legs) × BreaksOff p s legs i)
HasLegFault p s legs TerminalTwice i = (i < length legs) × Returns p s legs i
HasLegFault p s legs BeforeRelease i =
    (i < length legs) × (i ≡ 0) × ((leg_at legs i).depart < s.release)
HasLegFault p s legs BeforeArrival i = (i < length legs) × LeavesEarly p legs i
HasLegFault p s legs AfterDue i = (i < length legs) × ArrivesLate p s legs i

-- the legs of a shipment have no fault
abbrev pub AreFaultless : Problem → Shipment → List Leg → Type 0
AreFaultless p s legs = (kind : PlanKind) (i : ℕ) → HasLegFault p s legs kind i → ⊥

-- routes have the fault of a kind, at a shipment and a leg; a false count stands at the shipment 0
-- and the leg 0
abbrev pub HasFault : Problem → List (List Leg) → PlanKind → (shipment leg : ℕ) → Type 0
HasFault p routes Count k i = (length routes ≢ length p.shipments) × (k ≡ 0) × (i ≡ 0)
HasFault p routes kind k i =
    (k < length p.shipments) × (k < length routes) × HasLegFault p (shipment_at p k) (route_at routes k) kind i

-- the number of a kind of fault
abbrev pub kind_number : PlanKind → ℕ
kind_number Count = 1
kind_number NotRoute = 2
kind_number TerminalTwice = 3
kind_number BeforeRelease = 4
kind_number BeforeArrival = 5
kind_number AfterDue = 6

-- the legs of a shipment have a fault, and none at an earlier leg, nor one of a lesser number at
-- the same leg
pub record IsFirstLegFault (p : Problem) (s : Shipment) (legs : List Leg) (kind : PlanKind) (leg : ℕ) : Type 0 where
  pub there : HasLegFault p s legs kind leg
  pub earlier : (other : PlanKind) (i : ℕ) → i < leg → HasLegFault p s legs other i → ⊥
  pub lesser : (other : PlanKind) → kind_number other < kind_number kind → HasLegFault p s legs other leg → ⊥

-- routes have no fault
abbrev pub IsFaultless : Problem → List (List Leg) → Type 0
IsFaultless p routes = (kind : PlanKind) (k i : ℕ) → HasFault p routes kind k i → ⊥

-- of two faults one comes first: by the shipment, then by the leg, then by the number of the kind
abbrev pub FaultComesBefore : (k i : ℕ) → PlanKind → (l j : ℕ) → PlanKind → Type 0
FaultComesBefore k i kind l j other =
    (k < l) ⊎ ((k ≡ l) × ((i < j) ⊎ ((i ≡ j) × (kind_number kind < kind_number other))))

-- routes have a fault, and none that comes before it
pub record IsFirstFault (p : Problem) (routes : List (List Leg)) (kind : PlanKind) (shipment leg : ℕ) : Type 0 where
  pub there : HasFault p routes kind shipment leg
  pub first : (other : PlanKind) (k i : ℕ) → FaultComesBefore k i other shipment leg kind → HasFault p routes other k i → ⊥
