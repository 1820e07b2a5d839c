-- Direct routes are walks of least time, driven at once, so they carry shipments that are in time.
use Rattle.std.proofs.Common.{◌≡◌, ◌≢◌, ℕ, suc, ◌+◌, ◌<◌, List, [], ◌∷◌, ◌++◌, length, refl, sym, ap, ap₂, subst, arith}
use Rattle.std.specs.Prelude.{slice_index_or}
use Rattle.std.specs.List.{AllZip}
use Rattle.fp_model.specs.declared.parts.Leg.{Leg}
use Rattle.fp_model.specs.declared.parts.Shipment.{Shipment}
use Rattle.fp_model.specs.Numbered.{no_shipment}
use Rattle.fp_model.specs.Plans.{IsPlan}
use Rattle.fp_model.specs.Problem.{Problem, IsValid, IsShipment, arc_at}
use Rattle.fp_model.specs.Routes.{Carries, walk_time, step, arcs_of}
use Rattle.fp_flatnet.specs.Directs.{BeginsFirst, IsDirect, IsDirectRoute, IsDirectPlan}
use Rattle.fp_flatnet.specs.Verdicts.{IsInTime, AllInTime}
use Rattle.fp_flatnet.proofs.PromptLegs.{at_once, carries-at_once}
use Rattle.fp_flatnet.proofs.OnwardTimes.{begun-least}
use Rattle.fp_flatnet.proofs.LeastWalks.{IsLeastWalk, IsLeastTime-from_walk, IsLeastTime-unique}

-- a direct route goes along a least walk
direct-least : (p : Problem) (there here ready : ℕ) (legs : List Leg) → IsValid p → IsDirectRoute p there here ready legs → IsLeastWalk p here there (arcs_of legs)
direct-least p there here ready [] valid direct = record { leads = direct; least = λ others leads. omega arith }
direct-least p there here ready (l ∷ legs) valid direct =
    let later : IsLeastWalk p (arc_at p l.arc).to there (arcs_of legs) = direct-least p there (arc_at p l.arc).to (ready + step p l.arc) legs valid direct.3 in
    let begun : IsLeastWalk p here there (l.arc ∷ direct.1.begins.rest) = begun-least p here there l.arc valid direct.1.begins in record {
      leads = (begun.leads.0, begun.leads.1, later.leads);
      least = λ others leads. omega (arith, begun.least others leads, later.least direct.1.begins.rest begun.leads.2);
    }

-- its legs leave at once
direct-at_once : (p : Problem) (there here ready : ℕ) (legs : List Leg) → IsDirectRoute p there here ready legs → at_once p ready (arcs_of legs) ≡ legs
direct-at_once p there here ready [] direct = refl
direct-at_once p there here ready (l ∷ legs) direct =
    let leg : ℕ → ℕ → Leg = λ a n. record { arc = a; depart = n } in
    let first : leg l.arc ready ≡ leg l.arc l.depart = ap (leg l.arc) (sym direct.2) in
    ap₂ (λ (k : Leg) (ks : List Leg). k ∷ ks) first (direct-at_once p there (arc_at p l.arc).to (ready + step p l.arc) legs direct.3)

-- a direct route carries a shipment that is in time
direct-carries : (p : Problem) (s : Shipment) (legs : List Leg) → IsValid p → s.from ≢ s.to → IsInTime p s → IsDirectRoute p s.to s.from s.release legs → Carries p 1 s legs
direct-carries p s legs valid ends in_time direct =
    let along : IsLeastWalk p s.from s.to (arcs_of legs) = direct-least p s.to s.from s.release legs valid direct in
    let time : walk_time p (arcs_of legs) ≡ in_time.0 =
    IsLeastTime-unique p s.from s.to (walk_time p (arcs_of legs)) in_time.0 (IsLeastTime-from_walk p s.from s.to (arcs_of legs) valid along) in_time.1 in
    subst (λ (ls : List Leg). Carries p 1 s ls) (direct-at_once p s.to s.from s.release legs direct)
    (carries-at_once p s (arcs_of legs) valid ends along (omega (arith, time, in_time.2)))

-- direct routes of shipments that are in time are a plan
pub IsPlan-from_direct : (p : Problem) (routes : List (List Leg)) → IsValid p → AllInTime p → IsDirectPlan p routes → IsPlan p 1 routes
IsPlan-from_direct p routes valid in_time direct =
    each p.shipments routes (λ k lt. valid.parts.shipments k no_shipment lt) (λ k lt. in_time k no_shipment lt) direct
  where
    each : (ss : List Shipment) (routes : List (List Leg)) → ((k : ℕ) → k < length ss → IsShipment (length p.terminals) (slice_index_or ss k no_shipment)) →
        ((k : ℕ) → k < length ss → IsInTime p (slice_index_or ss k no_shipment)) → AllZip (IsDirect p) ss routes → AllZip (Carries p 1) ss routes
    each [] [] shipments in_time direct = tt
    each [] (r ∷ routes) shipments in_time direct = absurd direct
    each (s ∷ ss) [] shipments in_time direct = absurd direct
    each (s ∷ ss) (r ∷ routes) shipments in_time direct = (
      direct-carries p s r valid (shipments 0 (omega arith)).ends (in_time 0 (omega arith)) direct.0,
      each ss routes (λ k lt. shipments (suc k) (omega (arith, lt))) (λ k lt. in_time (suc k) (omega (arith, lt))) direct.1,
    )

-- one more leg of a direct route, seen from the legs before it
pub direct-more : (p : Problem) (there origin release here ready : ℕ) (legs : List Leg) (l : Leg) →
    ((rest : List Leg) → IsDirectRoute p there here ready rest → IsDirectRoute p there origin release (legs ++ rest)) →
    here ≢ there → BeginsFirst p here there l.arc → l.depart ≡ ready →
    (rest : List Leg) → IsDirectRoute p there (arc_at p l.arc).to (ready + step p l.arc) rest → IsDirectRoute p there origin release (legs ++ (l ∷ rest))
direct-more p there origin release here ready legs l before away first depart rest direct = before (l ∷ rest) (away, first, depart, direct)
