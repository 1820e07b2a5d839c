-- Plans within windows of kept legs from which those of arcs that enter a terminal were taken.
use Rattle.std.proofs.Common.{◌≡◌, ℕ, ◌<◌, true, false, List, [], ◌∷◌, length, sym, ap, ◌∙◌, subst, arith, ⊎_elim}
use Rattle.std.specs.Prelude.{cond, Option, None, IsSomeAnd}
use Rattle.std.specs.List.{AllByRecursion}
use Rattle.std.proofs.lemmas.Bool.{cases_Bool}
use Rattle.std.proofs.lemmas.Slice.Zip.{AllZip-long}
use Rattle.fp_base_lists.specs.Membership.{list_has}
use Rattle.fp_base_lists.proofs.Elements.{AllByRecursion-from_map}
use Rattle.fp_base_lists.proofs.Numbered.{AllFrom-get_or_zero, AllZip-get_or}
use Rattle.fp_model.specs.declared.parts.Leg.{Leg}
use Rattle.fp_model.specs.Numbered.{no_shipment, route_at, shipment_at}
use Rattle.fp_model.specs.Problem.{Problem, arc_at}
use Rattle.fp_model.specs.Routes.{Carries, arcs_of}
use Rattle.fp_model.proofs.Bounds.{Leads-exist}
use Rattle.fp_flatnet.specs.declared.window_tables.Window.{Window}
use Rattle.fp_flatnet.specs.Windows.{IsInside, LiesWithin, PlanLiesWithin}
use Rattle.fp_replan.specs.declared.kept.Kept.{Kept}
use Rattle.fp_replan.specs.KeptLegs.{Keeps}
use Rattle.fp_replan.specs.KeptWindows.{TellKept}
use Rattle.fp_replan.specs.Starts.{Avoids}
use Rattle.fp_replan.proofs.KeptRoutes.{AllFrom-from_zero}
use Rattle.fp_replan_present.specs.Rests.{StayAway, gone_at}
use Rattle.fp_replan_present.specs.Windows.{TellRest}

-- windows are others, but that those of arcs into some terminals are taken away
abbrev pub AreShut : Problem → (gone : List (List ℕ)) → (base windows : ℕ → ℕ → Option Window) → Type 0
AreShut p gone base windows = (k a : ℕ) → k < length p.shipments → a < length p.arcs → windows k a ≡ cond (list_has (gone_at gone k) (arc_at p a).to) None (base k a)

-- legs lie within them exactly where they lie within the others and enter none of the terminals
shut-apart : (p : Problem) (gone : List ℕ) (base windows : ℕ → ℕ → Option Window) (d k : ℕ) (legs : List Leg) → AllByRecursion (λ (l : Leg). l.arc < length p.arcs) legs →
    ((a : ℕ) → a < length p.arcs → windows k a ≡ cond (list_has gone (arc_at p a).to) None (base k a)) → LiesWithin windows d k legs → LiesWithin base d k legs × Avoids p gone (arcs_of legs)
shut-apart p gone base windows d k [] exist shut within = (tt, tt)
shut-apart p gone base windows d k (l ∷ legs) exist shut within =
    let later = shut-apart p gone base windows d k legs exist.1 shut within.1 in
    let inside : IsSomeAnd (cond (list_has gone (arc_at p l.arc).to) None (base k l.arc)) (IsInside d l.depart) =
    subst (λ (o : Option Window). IsSomeAnd o (IsInside d l.depart)) (shut l.arc exist.0) within.0 in
    ⊎_elim
    (λ (barred : list_has gone (arc_at p l.arc).to ≡ true).
    absurd (subst (λ b. IsSomeAnd (cond b None (base k l.arc)) (IsInside d l.depart)) barred inside))
    (λ (free : list_has gone (arc_at p l.arc).to ≡ false).
    ((subst (λ b. IsSomeAnd (cond b None (base k l.arc)) (IsInside d l.depart)) free inside, later.0), (free, later.1)))
    (cases_Bool (list_has gone (arc_at p l.arc).to))

shut-together : (p : Problem) (gone : List ℕ) (base windows : ℕ → ℕ → Option Window) (d k : ℕ) (legs : List Leg) → AllByRecursion (λ (l : Leg). l.arc < length p.arcs) legs →
    ((a : ℕ) → a < length p.arcs → windows k a ≡ cond (list_has gone (arc_at p a).to) None (base k a)) → LiesWithin base d k legs → Avoids p gone (arcs_of legs) → LiesWithin windows d k legs
shut-together p gone base windows d k [] exist shut within avoids = tt
shut-together p gone base windows d k (l ∷ legs) exist shut within avoids =
    let same : windows k l.arc ≡ base k l.arc = shut l.arc exist.0 ∙ ap (λ b. cond b None (base k l.arc)) avoids.0 in
    (subst (λ (o : Option Window). IsSomeAnd o (IsInside d l.depart)) (sym same) within.0, shut-together p gone base windows d k legs exist.1 shut within.1 avoids.1)

-- so it is of plans
pub TellRest-shut : (p : Problem) (kept : List Kept) (gone : List (List ℕ)) (base windows : ℕ → ℕ → Option Window) → TellKept p kept base → AreShut p gone base windows → TellRest p kept gone windows
TellRest-shut p kept gone base windows tell shut d routes some plan = (apart, together)
  where
    long : length routes ≡ length p.shipments
    long = AllZip-long (Carries p d) p.shipments routes plan

    exist : (k : ℕ) → k < length p.shipments → AllByRecursion (λ (l : Leg). l.arc < length p.arcs) (route_at routes k)
    exist k lt =
        let carries : Carries p d (shipment_at p k) (route_at routes k) = AllZip-get_or (Carries p d) p.shipments routes k no_shipment [] plan lt in
        AllByRecursion-from_map (λ a. a < length p.arcs) (λ (l : Leg). l.arc) (route_at routes k)
        (Leads-exist p (shipment_at p k).from (arcs_of (route_at routes k)) (shipment_at p k).to carries.route.leads)

    apart : PlanLiesWithin windows d routes → Keeps kept d routes × StayAway p gone routes
    apart within =
        let parts : (k : ℕ) → k < length routes → LiesWithin base d k (route_at routes k) × Avoids p (gone_at gone k) (arcs_of (route_at routes k)) =
        λ k lt.
        let there : k < length p.shipments = omega (arith, lt, long) in
        shut-apart p (gone_at gone k) base windows d k (route_at routes k) (exist k there) (λ a. shut k a there) (AllFrom-get_or_zero (LiesWithin windows d) routes [] k within lt) in (
          (tell d routes some plan).0 (AllFrom-from_zero (LiesWithin base d) routes [] (λ k lt. (parts k lt).0)),
          AllFrom-from_zero (λ k legs. Avoids p (gone_at gone k) (arcs_of legs)) routes [] (λ k lt. (parts k lt).1),
        )

    together : Keeps kept d routes × StayAway p gone routes → PlanLiesWithin windows d routes
    together both =
        let within : PlanLiesWithin base d routes = (tell d routes some plan).1 both.0 in
        AllFrom-from_zero (LiesWithin windows d) routes []
        (λ k lt.
        let there : k < length p.shipments = omega (arith, lt, long) in
        shut-together p (gone_at gone k) base windows d k (route_at routes k) (exist k there) (λ a. shut k a there) (AllFrom-get_or_zero (LiesWithin base d) routes [] k within lt)
        (AllFrom-get_or_zero (λ i legs. Avoids p (gone_at gone i) (arcs_of legs)) routes [] k both.1 lt))
