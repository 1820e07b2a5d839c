-- Where a shipment stands, by its settled legs and the way on.
use Rattle.std.proofs.Common.{◌≡◌, ◌≢◌, ℕ, ◌+◌, ◌*◌, ◌<◌, ◌≤◌, true, false, List, [], ◌∷◌, ◌++◌, length, map, refl, sym, ap, ◌∙◌, subst, arith, eq-eqb}
use Rattle.std.proofs.Math.Nat.{le_of_mul-le-mul_left}
use Rattle.std.proofs.lemmas.Bool.{ne_eqb}
use Rattle.fp_base_lists.proofs.Elements.{AllByRecursion-from_map, AllByRecursion-get_or}
use Rattle.fp_base_lists.specs.Distinct.{AreDistinct}
use Rattle.fp_model.specs.declared.parts.Leg.{Leg}
use Rattle.fp_model.specs.declared.parts.Shipment.{Shipment}
use Rattle.fp_model.specs.Numbered.{no_shipment, shipment_at}
use Rattle.fp_model.specs.Problem.{IsShipment, IsValid, Problem}
use Rattle.fp_model.specs.Routes.{ArcsExist, Carries, arcs_of, ends_of, walk_time}
use Rattle.fp_model.proofs.Bounds.{Leads-exist}
use Rattle.fp_flatnet.proofs.PlanExistence.{arrives-after}
use Rattle.fp_replan.specs.Beginnings.{IsBeginning}
use Rattle.fp_replan.specs.KeptLegs.{place_after, places_seen, scaled}
use Rattle.fp_replan.specs.Starts.{Avoids, GoesOnPast, HasLegsPast}
use Rattle.fp_replan.proofs.BegunPlans.{scaled-one}
use Rattle.fp_replan.proofs.BegunRoutes.{avoids-begun, distinct-parts, seen-append}
use Rattle.fp_replan.proofs.KeptBeginnings.{arcs-exist}
use Rattle.fp_replan.proofs.OnwardWalks.{place-inside}
use Rattle.fp_replan_present.specs.declared.presents.Tracked.{Tracked}
use Rattle.fp_replan_present.specs.Arrivals.{AllExist}
use Rattle.fp_replan_present.specs.Days.{AreInOrder, AreTracked, Day, HasArrivedBy, legs_of, tracked_leg}
use Rattle.fp_replan_present.specs.Plans.{HasLegsUnderway, gone_of, place_of, promised_of, ready_of, settled_legs, settled_of}
use Rattle.fp_replan_present.specs.Rests.{IsSettled, is_left, moved}
use Rattle.fp_replan_present.specs.Standings.{IsWayOn}
use Rattle.fp_replan_present.proofs.Beginnings.{arcs-parts, begin-later}
use Rattle.fp_replan_present.proofs.PromisedLegs.{begin-tracked}
use Rattle.fp_replan_present.proofs.RestRoutes.{GoesOnward, begin-settled, delivered-none, left-away, onward-from_underway, underway-from_onward}

-- the settled legs of a shipment are by arcs of the instance
pub settled-exist : (p : Problem) (day : Day) (k : ℕ) → AreTracked p day → AllExist p (settled_of day k)
settled-exist p day k are i d lt =
    AllByRecursion-get_or (λ (x : Tracked). x.kept.arc < length p.arcs) (settled_of day k) i d
    (AllByRecursion-from_map (λ (l : Leg). l.arc < length p.arcs) tracked_leg (settled_of day k)
    (AllByRecursion-from_map (λ a. a < length p.arcs) (λ (l : Leg). l.arc) (settled_legs day k)
    (Leads-exist p (shipment_at p k).from (arcs_of (settled_legs day k)) (place_of p day k) (begin-settled p day k are).leads))) lt

-- and so are they as legs
pub settled_legs-exist : (p : Problem) (day : Day) (k : ℕ) → AreTracked p day → ArcsExist p (settled_legs day k)
settled_legs-exist p day k are = arcs-exist p (shipment_at p k) (settled_legs day k) (begin-settled p day k are)

-- where a shipment is tells whether it is left
pub left-from_away : (p : Problem) (day : Day) (k : ℕ) → place_of p day k ≢ (shipment_at p k).to → is_left p day k ≡ true
left-from_away p day k away = rw (ne_eqb (place_of p day k) (shipment_at p k).to away) refl

pub delivered-from_there : (p : Problem) (day : Day) (k : ℕ) → place_of p day k ≡ (shipment_at p k).to → is_left p day k ≡ false
delivered-from_there p day k there = rw (eq-eqb (place_of p day k) (shipment_at p k).to there) refl

-- a shipment is stuck whose settled legs are out of order
pub stuck-disordered : (p : Problem) (day : Day) (k : ℕ) → (AreInOrder p (shipment_at p k).release (settled_of day k) → ⊥) → HasLegsUnderway p day k → ⊥
stuck-disordered p day k disordered (d, legs, some, under) = disordered under.order

-- that is delivered too late
pub stuck-late : (p : Problem) (day : Day) (k : ℕ) → is_left p day k ≡ false → (HasArrivedBy p (shipment_at p k).due (settled_of day k) → ⊥) → HasLegsUnderway p day k → ⊥
stuck-late p day k delivered late (d, legs, some, under) = late (under.there (delivered-none p day d k legs delivered under))

-- that can go on after its due time only
pub stuck-after : (p : Problem) (day : Day) (k : ℕ) → is_left p day k ≡ true → (shipment_at p k).due < ready_of p day k → HasLegsUnderway p day k → ⊥
stuck-after p day k left after (d, legs, some, under) = by under.rest (onward-from_underway p day d k legs left under).carries
  where
    by : (rest : List Leg) → Carries p d (moved p day k) rest → ⊥
    by [] carries = carries.route.some refl
    by (l ∷ rest) carries =
        let due : ℕ = (shipment_at p k).due in
        let ready : ℕ = ready_of p day k in
        let time : ℕ = walk_time p (arcs_of (l ∷ rest)) in
        let arrives : l.depart + d * time ≤ d * due = arrives-after p d due (d * ready) l rest carries.ready carries.due in
        let whole : d * ready ≤ d * due = omega (arith, arrives, carries.ready.0) in
        let le : ready ≤ due = le_of_mul-le-mul_left whole (omega (arith, some)) in
        omega (arith, le, after)

-- or from whose promised legs none goes on
pub stuck-past : (p : Problem) (day : Day) (k : ℕ) → is_left p day k ≡ true → (HasLegsPast p (gone_of p day k) (moved p day k) (legs_of (promised_of day k)) → ⊥) → HasLegsUnderway p day k → ⊥
stuck-past p day k left none (d, legs, some, under) =
    let on : GoesOnward p day d k under.rest = onward-from_underway p day d k legs left under in
    none (d, under.rest, some, on.carries, on.keeps, on.avoids)

-- what is left of a shipment is one as instances have them
pub moved-within : (p : Problem) (day : Day) (k : ℕ) → IsValid p → AreTracked p day → k < length p.shipments → is_left p day k ≡ true → ready_of p day k ≤ (shipment_at p k).due →
    place_of p day k ≢ (shipment_at p k).to → IsShipment (length p.terminals) (moved p day k)
moved-within p day k valid are lt left in_time away =
    let is : IsShipment (length p.terminals) (shipment_at p k) = valid.parts.shipments k no_shipment lt in
    record {
      within = record { size = is.within.size; due = is.within.due };
      from = place-inside p (shipment_at p k).from (settled_legs day k) (place_of p day k) valid is.from (begin-settled p day k are).leads;
      to = is.to;
      ends = away;
      window = in_time;
    }

-- its route may begin with the promised legs
pub begin-promised : (p : Problem) (day : Day) (k : ℕ) → AreTracked p day → IsBeginning p (moved p day k) (legs_of (promised_of day k))
begin-promised p day k are = begin-later p (shipment_at p k) (moved p day k) (settled_legs day k) (legs_of (promised_of day k)) refl refl (begin-tracked p day k are)

-- which enter no terminal where it was
promised-away : (p : Problem) (day : Day) (k : ℕ) → AreTracked p day → Avoids p (gone_of p day k) (arcs_of (legs_of (promised_of day k)))
promised-away p day k are =
    let s : Shipment = shipment_at p k in
    let front : List Leg = settled_legs day k in
    let later : List Leg = legs_of (promised_of day k) in
    distinct-parts (places_seen p s.from front) (ends_of p (arcs_of later))
    (subst AreDistinct (ap (λ (walk : List ℕ). s.from ∷ ends_of p walk) (arcs-parts front later) ∙ seen-append p s.from front (arcs_of later))
    (begin-tracked p day k are).once)

-- a route that begins with them and goes on from them
pub way-on : (p : Problem) (day : Day) (k : ℕ) (legs : List Leg) → IsValid p → AreTracked p day → Carries p 1 (moved p day k) legs →
    GoesOnPast p (gone_of p day k ++ places_seen p (moved p day k).from (legs_of (promised_of day k))) (moved p day k) (legs_of (promised_of day k)) legs → IsWayOn p day k legs
way-on p day k legs valid are carries goes = record {
  carries = carries;
  goes = goes;
  avoids = avoids-begun p (gone_of p day k) (moved p day k) (legs_of (promised_of day k)) legs valid (promised-away p day k are) goes;
}

-- such a route goes onward
pub onward-way : (p : Problem) (day : Day) (k : ℕ) (legs : List Leg) → IsWayOn p day k legs → GoesOnward p day 1 k legs
onward-way p day k legs way = record {
  carries = way.carries;
  keeps = (way.goes.0, way.goes.1 ∙ ap (λ (ls : List Leg). ls ++ way.goes.0) (sym (scaled-one (legs_of (promised_of day k)))));
  avoids = way.avoids;
}

-- so the shipment has legs under way
pub underway-way : (p : Problem) (day : Day) (k : ℕ) (legs : List Leg) → AreTracked p day → IsSettled p day k → IsWayOn p day k legs → HasLegsUnderway p day k
underway-way p day k legs are settled way =
    (1, map (scaled 1) (settled_legs day k) ++ legs, omega arith, underway-from_onward p day 1 k legs are settled (onward-way p day k legs way))

-- where a shipment is, as it is found
pub place-is : (p : Problem) (day : Day) (k : ℕ) (s : Shipment) (here : ℕ) (legs : List Leg) → s ≡ shipment_at p k → legs ≡ settled_legs day k → here ≡ place_after p s.from legs → here ≡ place_of p day k
place-is p day k s here legs same own there =
    there ∙ ap (λ (ls : List Leg). place_after p s.from ls) own ∙ ap (λ (t : Shipment). place_after p t.from (settled_legs day k)) same

-- what is left of a shipment, as it is made
pub moved-is : (p : Problem) (day : Day) (k : ℕ) (s left : Shipment) (here ready : ℕ) (legs : List Leg) → s ≡ shipment_at p k → legs ≡ settled_legs day k → here ≡ place_after p s.from legs →
    ready ≡ ready_of p day k → left ≡ record s { from = here; release = ready } → left ≡ moved p day k
moved-is p day k s left here ready legs same own there when made =
    let at : here ≡ place_of p day k = place-is p day k s here legs same own there in
    made
    ∙ ap (λ (t : Shipment). record t { from = here; release = ready }) same
    ∙ ap (λ (n : ℕ). record (shipment_at p k) { from = n; release = ready }) at
    ∙ ap (λ (n : ℕ). record (shipment_at p k) { from = place_of p day k; release = n }) when

pub moved-ready : (p : Problem) (day : Day) (k ready : ℕ) → IsValid p → AreTracked p day → k < length p.shipments → is_left p day k ≡ true → ready ≡ ready_of p day k →
    ready ≤ (shipment_at p k).due → IsShipment (length p.terminals) (moved p day k)
moved-ready p day k ready valid are lt left when in_time =
    moved-within p day k valid are lt left (subst (λ n. n ≤ (shipment_at p k).due) when in_time) (left-away p day k left)

-- what the call for a way on is given
pub record IsRead (p : Problem) (day : Day) (k : ℕ) (left : Shipment) (promised : List Leg) (gone : List ℕ) : Type 0 where
  pub same : left ≡ moved p day k
  pub later : promised ≡ legs_of (promised_of day k)
  pub seen : gone ≡ gone_of p day k

pub way-read : (p : Problem) (day : Day) (k : ℕ) (left : Shipment) (promised : List Leg) (gone : List ℕ) (route : List Leg) → IsValid p → AreTracked p day → IsRead p day k left promised gone →
    Carries p 1 left route → GoesOnPast p (gone ++ places_seen p left.from promised) left promised route → IsWayOn p day k route
way-read p day k left promised gone route valid are read carries goes =
    let later : List Leg = legs_of (promised_of day k) in
    way-on p day k route valid are (subst (λ (s : Shipment). Carries p 1 s route) read.same carries)
    (subst (λ (s : Shipment). GoesOnPast p (gone_of p day k ++ places_seen p s.from later) s later route) read.same
    (subst (λ (ls : List Leg). GoesOnPast p (gone_of p day k ++ places_seen p left.from ls) left ls route) read.later
    (subst (λ (ts : List ℕ). GoesOnPast p (ts ++ places_seen p left.from promised) left promised route) read.seen goes)))

pub HasLegsPast-same : (p : Problem) (day : Day) (k : ℕ) (left : Shipment) (promised : List Leg) (gone : List ℕ) → IsRead p day k left promised gone →
    HasLegsPast p (gone_of p day k) (moved p day k) (legs_of (promised_of day k)) → HasLegsPast p gone left promised
HasLegsPast-same p day k left promised gone read has =
    subst (λ (ts : List ℕ). HasLegsPast p ts left promised) (sym read.seen)
    (subst (λ (ls : List Leg). HasLegsPast p (gone_of p day k) left ls) (sym read.later)
    (subst (λ (s : Shipment). HasLegsPast p (gone_of p day k) s (legs_of (promised_of day k))) (sym read.same) has))
