-- A plan exists exactly where each shipment is in time, and which shipment is blocked is certain.
use Rattle.std.proofs.Common.{◌≡◌, ◌≢◌, ℕ, suc, ◌+◌, ◌*◌, ◌<◌, ◌≤◌, Some, None, Option, List, [], ◌∷◌, length, refl, sym, ap, subst, arith, ⊎_elim}
use Rattle.std.specs.Prelude.{slice_index_or, IfSome}
use Rattle.std.specs.List.{AllZip}
use Rattle.std.proofs.Math.Nat.{le_of_mul-le-mul_left}
use Rattle.std.proofs.lemmas.Bool.{cases_lt}
use Rattle.fp_model.specs.declared.parts.Leg.{Leg}
use Rattle.fp_model.specs.declared.parts.Shipment.{Shipment}
use Rattle.fp_model.specs.Numbered.{no_shipment, shipment_at}
use Rattle.fp_model.specs.Plans.{PlanExists}
use Rattle.fp_model.specs.Problem.{Problem, IsValid, IsShipment}
use Rattle.fp_model.specs.Routes.{Leads, LeavesReady, ArrivesBy, Carries, walk_time, step, arcs_of}
use Rattle.fp_model.specs.Times.{IsLeastTime, IsDistance}
use Rattle.fp_base_lists.proofs.Numbered.{AllZip-get_or}
use Rattle.fp_flatnet.specs.Verdicts.{IsInTime, AllInTime, IsBlocked}
use Rattle.fp_flatnet.proofs.LeastWalks.{IsLeastWalk-from_time, IsLeastTime-unique}
use Rattle.fp_flatnet.proofs.PromptLegs.{at_once, carries-at_once}

-- a shipment in time can be carried
carries_in-time : (p : Problem) (s : Shipment) → IsValid p → s.from ≢ s.to → IsInTime p s → (legs : List Leg) × Carries p 1 s legs
carries_in-time p s valid ends in_time =
    let least : IsLeastTime p s.from s.to in_time.0 = in_time.1 in (
      at_once p s.release least.arcs,
      carries-at_once p s least.arcs valid ends (IsLeastWalk-from_time p s.from s.to in_time.0 valid least) (omega (arith, least.time, in_time.2)),
    )

-- the legs of each shipment, one by one
carried-all : (p : Problem) (n : ℕ) → IsValid p → (ss : List Shipment) →
    ((k : ℕ) → k < length ss → IsShipment n (slice_index_or ss k no_shipment)) → ((k : ℕ) → k < length ss → IsInTime p (slice_index_or ss k no_shipment)) →
    (routes : List (List Leg)) × AllZip (Carries p 1) ss routes
carried-all p n valid [] shipments in_time = ([], tt)
carried-all p n valid (s ∷ ss) shipments in_time =
    let first = carries_in-time p s valid (shipments 0 (omega arith)).ends (in_time 0 (omega arith)) in
    let later = carried-all p n valid ss (λ k lt. shipments (suc k) (omega (arith, lt))) (λ k lt. in_time (suc k) (omega (arith, lt))) in
    (first.0 ∷ later.0, (first.1, later.1))

pub PlanExists-from_in_time : (p : Problem) → IsValid p → AllInTime p → PlanExists p
PlanExists-from_in_time p valid in_time =
    let plan = carried-all p (length p.terminals) valid p.shipments (λ k lt. valid.parts.shipments k no_shipment lt) (λ k lt. in_time k no_shipment lt) in
    (1, plan.0, omega arith, plan.1)

-- what leaves ready and arrives by the due time has the time of its walk
pub arrives-after : (p : Problem) (d due ready : ℕ) (l : Leg) (legs : List Leg) → LeavesReady p d ready (l ∷ legs) → ArrivesBy p d due (l ∷ legs) →
    l.depart + d * walk_time p (arcs_of (l ∷ legs)) ≤ d * due
arrives-after p d due ready l [] leaves arrives = arrives
arrives-after p d due ready l (m ∷ legs) leaves arrives =
    omega (arith, arrives-after p d due (l.depart + d * step p l.arc) m legs leaves.1 arrives, leaves.1.0)

-- over whatever denominator, what carries a shipment takes the time of its walk between release and
-- due time
pub carried_time : (p : Problem) (d : ℕ) (s : Shipment) (legs : List Leg) → 1 ≤ d → Carries p d s legs → s.release + walk_time p (arcs_of legs) ≤ s.due
carried_time p d s [] h carries = absurd (carries.route.some refl)
carried_time p d s (l ∷ legs) h carries =
    let after : l.depart + d * walk_time p (arcs_of (l ∷ legs)) ≤ d * s.due = arrives-after p d s.due (d * s.release) l legs carries.ready carries.due in
    let whole : d * (s.release + walk_time p (arcs_of (l ∷ legs))) ≤ d * s.due = omega (arith, after, carries.ready.0) in
    le_of_mul-le-mul_left whole (omega (arith, h))

pub no_plan-blocked : (p : Problem) (k : ℕ) (o : Option ℕ) → IsBlocked p k o → PlanExists p → ⊥
no_plan-blocked p k o blocked plan =
    let carries : Carries p plan.0 (shipment_at p k) (slice_index_or plan.1 k []) =
    AllZip-get_or (Carries p plan.0) p.shipments plan.1 k no_shipment [] plan.3 blocked.exists in
    late o blocked.fastest blocked.late (slice_index_or plan.1 k []) carries.route.leads
    (carried_time p plan.0 (shipment_at p k) (slice_index_or plan.1 k []) plan.2 carries)
  where
    late : (o : Option ℕ) → IsDistance p (shipment_at p k).from (shipment_at p k).to o → IfSome o (λ t. (shipment_at p k).due < (shipment_at p k).release + t) →
        (legs : List Leg) → Leads p (shipment_at p k).from (arcs_of legs) (shipment_at p k).to → (shipment_at p k).release + walk_time p (arcs_of legs) ≤ (shipment_at p k).due → ⊥
    late None none too_long legs leads within = none (arcs_of legs) leads
    late (Some t) least too_long legs leads within = omega (arith, too_long, within, least.least (arcs_of legs) leads)

-- there is only one distance
pub IsDistance-unique : (p : Problem) (here there : ℕ) (o q : Option ℕ) → IsDistance p here there o → IsDistance p here there q → o ≡ q
IsDistance-unique p here there None None one two = refl
IsDistance-unique p here there None (Some u) one two = absurd (one two.arcs two.leads)
IsDistance-unique p here there (Some t) None one two = absurd (two one.arcs one.leads)
IsDistance-unique p here there (Some t) (Some u) one two = ap Some (IsLeastTime-unique p here there t u one two)

-- a shipment that is in time is not late
in_time-late : (p : Problem) (s : Shipment) (o : Option ℕ) → IsInTime p s → IsDistance p s.from s.to o → IfSome o (λ t. s.due < s.release + t) → ⊥
in_time-late p s None in_time none late = none in_time.1.arcs in_time.1.leads
in_time-late p s (Some t) in_time least late =
    omega (arith, late, in_time.2, IsLeastTime-unique p s.from s.to in_time.0 t in_time.1 least)

-- only one shipment is the first that is blocked, and its fastest time is certain
pub IsBlocked-unique : (p : Problem) (k l : ℕ) (o q : Option ℕ) → IsBlocked p k o → IsBlocked p l q → (k ≡ l) × (o ≡ q)
IsBlocked-unique p k l o q one two =
    let same : k ≡ l =
    ⊎_elim
    (λ (lt : k < l). absurd (in_time-late p (shipment_at p k) o (two.earlier k lt) one.fastest one.late))
    (λ (ge : l ≤ k).
    ⊎_elim
    (λ (lt : l < k). absurd (in_time-late p (shipment_at p l) q (one.earlier l lt) two.fastest two.late))
    (λ (le : k ≤ l). omega arith)
    (cases_lt l k))
    (cases_lt k l) in (
      same,
      IsDistance-unique p (shipment_at p k).from (shipment_at p k).to o q one.fastest
          (subst (λ (n : ℕ). IsDistance p (shipment_at p n).from (shipment_at p n).to q) (sym same) two.fastest),
    )
