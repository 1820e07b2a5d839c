-- A shipment that is underway along its direct route.
use Rattle.std.proofs.Common.{◌≡◌, ◌≢◌, ℕ, ◌+◌, ◌<◌, ◌≤◌, Some, None, Option, List, [], ◌∷◌, ◌++◌, length, refl, arith, append_assoc, append-nil}
use Rattle.std.specs.Prelude.{unwrap_or}
use Rattle.fp_model.specs.declared.parts.Leg.{Leg}
use Rattle.fp_model.specs.declared.parts.Shipment.{Shipment}
use Rattle.fp_model.specs.Problem.{Problem, IsValid, IsShipment, arc_at}
use Rattle.fp_model.specs.Routes.{Leads, walk_time, step}
use Rattle.fp_model.specs.Times.{IsLeastTime}
use Rattle.fp_flatnet.specs.Directs.{BeginsLeast, BeginsFirst, IsDirectRoute, IsFirstBelow}
use Rattle.fp_flatnet.specs.Distances.{AreTimesTo, time_at}
use Rattle.fp_flatnet.proofs.DirectRoutes.{direct-more}
use Rattle.fp_flatnet.proofs.PlanExistence.{IsDistance-unique}
use Rattle.fp_flatnet.proofs.OnwardTimes.{GoesOnWithin, begun-next}
use Rattle.fp_flatnet.proofs.LeastWalks.{first-time}
use Rattle.fp_model.proofs.Validity.{hold_at-le, IsArc-valid}

-- the shipment is here and ready, can still be in time, and what is a direct route from here on is
-- one with the legs before it
pub record IsUnderway (p : Problem) (s : Shipment) (here ready : ℕ) (legs : List Leg) : Type 0 where
  pub inside : here < length p.terminals
  pub left : ℕ
  pub least : IsLeastTime p here s.to left
  pub in_time : here ≢ s.to → ready + left ≤ s.due
  pub so_far : (rest : List Leg) → IsDirectRoute p s.to here ready rest → IsDirectRoute p s.to s.from s.release (legs ++ rest)

-- an arc that begins a least walk to there does not leave from there
begins-away : (p : Problem) (here there a : ℕ) → IsValid p → BeginsLeast p here there a → here ≢ there
begins-away p here there a valid begins =
    λ same.
    let within : 1 ≤ (arc_at p a).time = (IsArc-valid p a valid begins.leads.0).within.time.0 in
    omega (arith, within, first-time p a begins.rest, begins.least [] same)

pub underway-more : (p : Problem) (s : Shipment) (here ready a : ℕ) (legs : List Leg) (l : Leg) → IsValid p → IsUnderway p s here ready legs → BeginsFirst p here s.to a →
    l ≡ record { arc = a; depart = ready } → IsUnderway p s (arc_at p a).to (ready + step p a) (legs ++ (l ∷ []))
underway-more p s here ready a legs l valid under first same =
    let next : GoesOnWithin p s.to a under.left (walk_time p first.begins.rest) = begun-next p here s.to a under.left valid under.least first.begins in
    let away : here ≢ s.to = begins-away p here s.to a valid first.begins in
    let leg : Leg = record { arc = a; depart = ready } in record {
      inside = (IsArc-valid p a valid first.begins.leads.0).to;
      left = walk_time p first.begins.rest;
      least = next.least;
      in_time = λ onward. omega (arith, under.in_time away, next.within onward);
      so_far = λ rest direct.
          rw (same, append_assoc) (direct-more p s.to s.from s.release here ready legs leg under.so_far away first refl rest direct);
    }

-- where no arc begins a least walk the shipment has arrived
pub underway-end : (p : Problem) (s : Shipment) (here ready : ℕ) (legs : List Leg) → IsUnderway p s here ready legs → ((a : ℕ) → a < length p.arcs → BeginsLeast p here s.to a → ⊥) →
    IsDirectRoute p s.to s.from s.release legs
underway-end p s here ready legs under none =
    let arrived : here ≡ s.to = stay under.least.arcs under.least.leads under.least.time in
    rw (← append-nil legs) (under.so_far [] arrived)
  where
    stay : (arcs : List ℕ) → Leads p here arcs s.to → walk_time p arcs ≡ under.left → here ≡ s.to
    stay [] leads time = leads
    stay (a ∷ arcs) leads time = absurd (none a leads.0 (record { rest = arcs; leads = leads; least = λ others there. omega (arith, time, under.least.least others there) }))

-- while it is underway the times stay small
pub ready-small : (p : Problem) (s : Shipment) (here ready a : ℕ) (legs : List Leg) → IsValid p → IsShipment (length p.terminals) s → IsUnderway p s here ready legs → BeginsFirst p here s.to a →
    ready + step p a ≤ 201000
ready-small p s here ready a legs valid shipment under first =
    omega (
      arith,
      under.in_time (begins-away p here s.to a valid first.begins),
      shipment.within.due,
      (IsArc-valid p a valid first.begins.leads.0).within.time.1,
      hold_at-le p (arc_at p a).to valid,
    )

-- a table with no arc for a terminal says that none begins a least walk there
pub none-begins : (p : Problem) (there n here : ℕ) (o : Option ℕ) → ((a : ℕ) → o ≡ Some a → ⊥) → IsFirstBelow p there n here o → (a : ℕ) → a < n → BeginsLeast p here there a → ⊥
none-begins p there n here None none first = first
none-begins p there n here (Some a) none first = absurd (none a refl)

-- how much time is left
time-left : (p : Problem) (s : Shipment) (here ready : ℕ) (legs : List Leg) (times : List (Option ℕ)) → AreTimesTo p s.to times → (under : IsUnderway p s here ready legs) →
    time_at times here ≡ Some under.left
time-left p s here ready legs times are under = IsDistance-unique p here s.to (time_at times here) (Some under.left) (are.exact here under.inside) under.least

-- it falls, leg by leg
pub time-falls : (p : Problem) (s : Shipment) (here ready a : ℕ) (legs : List Leg) (times : List (Option ℕ)) → IsValid p → AreTimesTo p s.to times → IsUnderway p s here ready legs →
    BeginsFirst p here s.to a → unwrap_or (time_at times (arc_at p a).to) 0 < unwrap_or (time_at times here) 0
time-falls p s here ready a legs times valid are under first =
    let next : GoesOnWithin p s.to a under.left (walk_time p first.begins.rest) = begun-next p here s.to a under.left valid under.least first.begins in
    let head : (arc_at p a).to < length p.terminals = (IsArc-valid p a valid first.begins.leads.0).to in
    let now : time_at times here ≡ Some under.left = time-left p s here ready legs times are under in
    let then : time_at times (arc_at p a).to ≡ Some (walk_time p first.begins.rest) =
    IsDistance-unique p (arc_at p a).to s.to (time_at times (arc_at p a).to) (Some (walk_time p first.begins.rest)) (are.exact (arc_at p a).to head) next.least in
    rw (now, then) next.less
