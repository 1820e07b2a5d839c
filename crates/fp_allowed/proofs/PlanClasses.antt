-- The classes of the legs of a plan that lies within the windows by its whole moments and obeys the sides
-- are allowed walks by each shipment's heads, and so timed walks.
use Rattle.std.proofs.Common.{◌≡◌, ℕ, ◌+◌, ◌*◌, ◌/◌, ◌<◌, ◌≤◌, true, max, List, [], ◌∷◌, length, map, ⊎_elim, refl, sym, ap, subst, arith}
use Rattle.std.specs.Prelude.{Option, Some, None, IsSomeAnd, slice_index_or}
use Rattle.std.specs.List.{AllByRecursion, AllZip}
use Rattle.std.proofs.lemmas.Bool.{cases_lt}
use Rattle.fp_model.specs.declared.parts.Leg.{Leg}
use Rattle.fp_model.specs.declared.parts.Shipment.{Shipment}
use Rattle.fp_model.specs.Numbered.{no_shipment, route_at, shipment_at}
use Rattle.fp_base_lists.specs.Numbered.{AllZipFrom, AllFrom}
use Rattle.fp_model.specs.Plans.{IsPlan}
use Rattle.fp_model.specs.Problem.{Problem, arc_at}
use Rattle.fp_model.specs.Routes.{Carries, Leads, LeavesReady, arcs_of, step}
use Rattle.fp_model.proofs.Bounds.{Leads-exist}
use Rattle.fp_base_lists.proofs.Maps.{get_or-map_default}
use Rattle.fp_base_lists.proofs.Numbered.{AllZipFrom-get_or, AllZipFrom-weaker}
use Rattle.fp_timenodes.specs.Floor.{floor_point}
use Rattle.fp_timenodes.proofs.Floors.{floor_le, floor_mono}
use Rattle.fp_flatnet.specs.declared.window_tables.Window.{Window}
use Rattle.fp_flatnet.specs.Windows.{IsInside, LiesWithin, LiesWithinWhole, PlanLiesWithinWhole, whole_legs}
use Rattle.fp_flatnet.proofs.WholeMoments.{whole-after}
use Rattle.fp_longestarcs.specs.Classes.{class_of}
use Rattle.fp_tree.specs.declared.sides.Side.{Side}
use Rattle.fp_tree.specs.Sides.{MeetsAll}
use Rattle.fp_allowed.specs.Allowed.{PlanObeys, exit_of, is_allowed, tails_of}
use Rattle.fp_allowed.specs.Heads.{head_within, heads_within}
use Rattle.fp_allowed.specs.Walks.{FollowsHeads, IsTimedWalk, IsWalkBy}
use Rattle.fp_allowed.proofs.AllowedClasses.{class_allowed}
use Rattle.fp_allowed.proofs.Heads.{FollowsHeads-earlier, walk-timed}

-- the head of a leg's class for the shipment is the greatest point that is not after some time, and that time isn't after the true
-- arrival and the hold
leg-head : (p : Problem) (points : ℕ → List ℕ) (d : ℕ) (l : Leg) (o : Option Window) → 0 < d → IsSomeAnd o (IsInside 1 (l.depart / d)) →
    (a : ℕ) × (d * a ≤ l.depart + d * step p l.arc) × (head_within p points o (class_of p points d l) ≡ floor_point (points (arc_at p l.arc).to) 1 a)
leg-head p points d l None some inside = absurd inside
leg-head p points d l (Some w) some inside =
    let qs : List ℕ = points (tails_of p l.arc) in
    let q : ℕ = floor_point qs d l.depart in
    let left : d * max q w.lo ≤ l.depart =
    ⊎_elim
    (λ (h : q < w.lo). let e : max q w.lo ≡ w.lo = omega (arith, h) in rw e (whole-after d l.depart w some inside))
    (λ (h : w.lo ≤ q). let e : max q w.lo ≡ q = omega (arith, h) in rw e (floor_le qs d l.depart))
    (cases_lt q w.lo) in
    (max q w.lo + step p l.arc, omega (arith, left), refl)

-- so the classes of legs that leave when they can, inside the windows, follow the heads for the shipment
classes_follow : (p : Problem) (windows : ℕ → ℕ → Option Window) (points : ℕ → List ℕ) (d k here there : ℕ) (legs : List Leg) (a ready : ℕ) → 0 < d → Leads p here (arcs_of legs) there →
    LeavesReady p d ready legs → LiesWithinWhole windows d k legs → d * a ≤ ready → FollowsHeads (heads_within p windows points k) (floor_point (points here) 1 a) (map (class_of p points d) legs)
classes_follow p windows points d k here there [] a ready some leads leaves within h = tt
classes_follow p windows points d k here there (l ∷ legs) a ready some leads leaves within h =
    let qs : List ℕ = points (tails_of p l.arc) in
    let first : floor_point qs 1 a ≤ floor_point qs d l.depart = floor_mono qs d a l.depart (omega (arith, leaves.0, h)) in
    let next = leg-head p points d l (windows k l.arc) some within.0 in
    let rest = classes_follow p windows points d k (arc_at p l.arc).to there legs next.0 (l.depart + d * step p l.arc) some leads.2 leaves.1 within.1 next.1 in (
      subst (λ (t : ℕ). floor_point (points t) 1 a ≤ floor_point qs d l.depart) leads.1 first,
      subst (λ (n : ℕ). FollowsHeads (heads_within p windows points k) n (map (class_of p points d) legs)) (sym next.2) rest,
    )

pub arcs_of-classes : (p : Problem) (points : ℕ → List ℕ) (d : ℕ) (legs : List Leg) → arcs_of (map (class_of p points d) legs) ≡ arcs_of legs
arcs_of-classes p points d [] = refl
arcs_of-classes p points d (l ∷ legs) = ap (λ (xs : List ℕ). l.arc ∷ xs) (arcs_of-classes p points d legs)

classes-allowed : (p : Problem) (windows : ℕ → ℕ → Option Window) (points : ℕ → List ℕ) (sides : List Side) (d k : ℕ) (legs : List Leg) → 0 < d →
    AllByRecursion (λ a. a < length p.arcs) (arcs_of legs) → LiesWithinWhole windows d k legs → AllByRecursion (λ (l : Leg). MeetsAll d k sides (exit_of p l)) legs →
    AllByRecursion (λ c. is_allowed p windows points sides k c ≡ true) (map (class_of p points d) legs)
classes-allowed p windows points sides d k [] h exist within meets = tt
classes-allowed p windows points sides d k (l ∷ legs) h exist within meets =
    (class_allowed p windows points sides d k l h exist.0 within.0 meets.0, classes-allowed p windows points sides d k legs h exist.1 within.1 meets.1)

-- the classes of one shipment's legs
classes_walk : (p : Problem) (windows : ℕ → ℕ → Option Window) (points : ℕ → List ℕ) (sides : List Side) (d k : ℕ) (s : Shipment) (legs : List Leg) → 0 < d → Carries p d s legs →
    LiesWithinWhole windows d k legs → AllByRecursion (λ (l : Leg). MeetsAll d k sides (exit_of p l)) legs →
    IsWalkBy p (heads_within p windows points k) (is_allowed p windows points sides k) s (map (class_of p points d) legs)
classes_walk p windows points sides d k s legs h carries within meets =
    let leads : Leads p s.from (arcs_of legs) s.to = carries.route.leads in
    let heads : Leg → ℕ = heads_within p windows points k in
    record {
      leads = subst (λ (arcs : List ℕ). Leads p s.from arcs s.to) (sym (arcs_of-classes p points d legs)) leads;
      allowed_all = classes-allowed p windows points sides d k legs h (Leads-exist p s.from (arcs_of legs) s.to leads) within meets;
      follows = FollowsHeads-earlier heads heads (λ c. omega arith) 0 (floor_point (points s.from) 1 0) (map (class_of p points d) legs) (omega arith)
          (classes_follow p windows points d k s.from s.to legs 0 (d * s.release) h leads carries.ready within (omega arith));
    }

walks-from : (p : Problem) (windows : ℕ → ℕ → Option Window) (points : ℕ → List ℕ) (sides : List Side) (d k : ℕ) (ss : List Shipment) (plan : List (List Leg)) → 0 < d →
    AllZip (Carries p d) ss plan → AllFrom (LiesWithin windows 1) k (map (whole_legs d) plan) → AllFrom (λ j r. AllByRecursion (λ (l : Leg). MeetsAll d j sides (exit_of p l)) r) k plan →
    AllZipFrom (λ j (s : Shipment) r. IsWalkBy p (heads_within p windows points j) (is_allowed p windows points sides j) s r) k ss (map (map (class_of p points d)) plan)
walks-from p windows points sides d k [] [] h is within obeys = tt
walks-from p windows points sides d k [] (r ∷ plan) h is within obeys = absurd is
walks-from p windows points sides d k (s ∷ ss) [] h is within obeys = absurd is
walks-from p windows points sides d k (s ∷ ss) (r ∷ plan) h is within obeys =
    (classes_walk p windows points sides d k s r h is.0 within.0 obeys.0, walks-from p windows points sides d (k + 1) ss plan h is.1 within.1 obeys.1)

-- the classes of a plan are an allowed walk of each shipment by its heads
pub plan_walks : (p : Problem) (windows : ℕ → ℕ → Option Window) (points : ℕ → List ℕ) (sides : List Side) (d : ℕ) (plan : List (List Leg)) → 1 ≤ d → IsPlan p d plan →
    PlanLiesWithinWhole windows d plan → PlanObeys p d sides plan →
    AllZipFrom (λ k (s : Shipment) r. IsWalkBy p (heads_within p windows points k) (is_allowed p windows points sides k) s r) 0 p.shipments (map (map (class_of p points d)) plan)
plan_walks p windows points sides d plan h is within obeys = walks-from p windows points sides d 0 p.shipments plan (omega (arith, h)) is within obeys.legs

-- so they are an allowed timed walk
pub plan_timed : (p : Problem) (windows : ℕ → ℕ → Option Window) (points : ℕ → List ℕ) (sides : List Side) (d : ℕ) (plan : List (List Leg)) → 1 ≤ d → IsPlan p d plan →
    PlanLiesWithinWhole windows d plan → PlanObeys p d sides plan →
    AllZipFrom (λ k (s : Shipment) r. IsTimedWalk p points (is_allowed p windows points sides k) s r) 0 p.shipments (map (map (class_of p points d)) plan)
plan_timed p windows points sides d plan h is within obeys =
    AllZipFrom-weaker (λ k (s : Shipment) r. IsWalkBy p (heads_within p windows points k) (is_allowed p windows points sides k) s r)
    (λ k (s : Shipment) r. IsTimedWalk p points (is_allowed p windows points sides k) s r) (λ k s r. walk-timed p windows points k (is_allowed p windows points sides k) s r) 0 p.shipments
    (map (map (class_of p points d)) plan) (plan_walks p windows points sides d plan h is within obeys)

-- the classes of the route of the shipment with a number are an allowed walk by its heads
pub route_walk : (p : Problem) (windows : ℕ → ℕ → Option Window) (points : ℕ → List ℕ) (sides : List Side) (d k : ℕ) (plan : List (List Leg)) → 1 ≤ d → k < length p.shipments → IsPlan p d plan →
    PlanLiesWithinWhole windows d plan → PlanObeys p d sides plan →
    IsWalkBy p (heads_within p windows points k) (is_allowed p windows points sides k) (shipment_at p k) (map (class_of p points d) (route_at plan k))
route_walk p windows points sides d k plan h exists is within obeys =
    let f : List Leg → List Leg = map (class_of p points d) in
    let Walks : ℕ → Shipment → List Leg → Type 0 = λ j s r. IsWalkBy p (heads_within p windows points j) (is_allowed p windows points sides j) s r in
    let there : Walks (0 + k) (shipment_at p k) (slice_index_or (map f plan) k []) = AllZipFrom-get_or Walks p.shipments (map f plan) no_shipment [] 0 k (plan_walks p windows points sides d plan h is within obeys) exists in
    let number : 0 + k ≡ k = omega arith in
    subst (λ (r : List Leg). Walks k (shipment_at p k) r) (get_or-map_default f plan k []) (subst (λ (n : ℕ). Walks n (shipment_at p k) (slice_index_or (map f plan) k [])) number there)

-- and so an allowed timed walk
pub route_timed : (p : Problem) (windows : ℕ → ℕ → Option Window) (points : ℕ → List ℕ) (sides : List Side) (d k : ℕ) (plan : List (List Leg)) → 1 ≤ d → k < length p.shipments → IsPlan p d plan →
    PlanLiesWithinWhole windows d plan → PlanObeys p d sides plan → IsTimedWalk p points (is_allowed p windows points sides k) (shipment_at p k) (map (class_of p points d) (route_at plan k))
route_timed p windows points sides d k plan h exists is within obeys =
    walk-timed p windows points k (is_allowed p windows points sides k) (shipment_at p k) (map (class_of p points d) (route_at plan k))
    (route_walk p windows points sides d k plan h exists is within obeys)
