-- A plan lies within kept windows exactly where it keeps the legs.
use Rattle.std.proofs.Common.{◌≡◌, ◌≢◌, ℕ, ◌+◌, ◌*◌, ◌<◌, true, false, List, [], ◌∷◌, ◌++◌, length, map, ⊎_elim, refl, sym, ap, ap₂, ◌∙◌, subst, arith, le_refl}
use Rattle.std.specs.Prelude.{nat_eq, Option, Some, None, IsSomeAnd, slice_index_or}
use Rattle.std.specs.List.{AllByRecursion}
use Rattle.std.proofs.lemmas.Bool.Decides.{eqb_tells}
use Rattle.std.proofs.lemmas.List.{map-append}
use Rattle.std.proofs.lemmas.Slice.Zip.{AllZip-long}
use Rattle.fp_base_lists.specs.Distinct.{AreDistinct}
use Rattle.fp_base_lists.specs.Membership.{list_has}
use Rattle.fp_base_lists.specs.Numbered.{AllFrom}
use Rattle.fp_base_lists.proofs.Elements.{AllByRecursion-append, AllByRecursion-both, AllByRecursion-from_map, AllByRecursion-weaker}
use Rattle.fp_base_lists.proofs.Numbered.{AllFrom-from_get_or, AllFrom-get_or_zero, AllZip-get_or}
use Rattle.fp_model.specs.declared.parts.Leg.{Leg}
use Rattle.fp_model.specs.declared.parts.Shipment.{Shipment}
use Rattle.fp_model.specs.Numbered.{no_shipment, route_at, shipment_at}
use Rattle.fp_model.specs.Problem.{Problem, arc_at}
use Rattle.fp_model.specs.Routes.{Carries, Leads, arcs_of, ends_of}
use Rattle.fp_model.proofs.Bounds.{Leads-exist}
use Rattle.fp_flatnet.specs.declared.window_tables.Window.{Window}
use Rattle.fp_flatnet.specs.Windows.{CoverPlans, IsInside, LiesWithin, PlanLiesWithin}
use Rattle.fp_replan.specs.declared.kept.Kept.{Kept}
use Rattle.fp_replan.specs.Beginnings.{IsBeginning}
use Rattle.fp_replan.specs.KeptLegs.{AreKept, BeginWith, Keeps, kept_of, place_after, scaled}
use Rattle.fp_replan.specs.KeptWindows.{StaysOff, TellKept, window_at}
use Rattle.fp_replan.proofs.KeptBeginnings.{IsBeginning-kept}
use Rattle.fp_replan.proofs.ListParts.{AllByRecursion-right}
use Rattle.fp_replan.proofs.RoutesOff.{off-tails}

-- windows of a shipment, made of others by its kept legs
pub record IsRowFrom (p : Problem) (legs : List Leg) (base windows : ℕ → Option Window) : Type 0 where
  pub kept : AllByRecursion (λ (l : Leg). windows l.arc ≡ Some (window_at l.depart)) legs
  pub leaving : (a : ℕ) → a < length p.arcs → AllByRecursion (λ (l : Leg). (arc_at p a).from ≡ (arc_at p l.arc).from → a ≢ l.arc → windows a ≡ None) legs
  pub entering : (a : ℕ) → a < length p.arcs → list_has (arcs_of legs) a ≡ false →
      AllByRecursion (λ (l : Leg). (arc_at p a).to ≡ (arc_at p l.arc).from → windows a ≡ None) legs
  pub other : (a : ℕ) → a < length p.arcs → AllByRecursion (StaysOff p a) legs → windows a ≡ base a

-- the arcs of legs over another denominator
pub arcs-scaled : (d : ℕ) (legs : List Leg) → arcs_of (map (scaled d) legs) ≡ arcs_of legs
arcs-scaled d [] = refl
arcs-scaled d (l ∷ legs) = ap (λ (xs : List ℕ). l.arc ∷ xs) (arcs-scaled d legs)

-- the arcs of legs that begin with kept legs
pub arcs-begin : (d : ℕ) (front rest : List Leg) → arcs_of (map (scaled d) front ++ rest) ≡ arcs_of front ++ arcs_of rest
arcs-begin d front rest =
    map-append (λ (l : Leg). l.arc) (map (scaled d) front) rest ∙ ap (λ (xs : List ℕ). xs ++ arcs_of rest) (arcs-scaled d front)

-- legs that lie within windows that are alike for each of them
within-alike : (windows base : ℕ → ℕ → Option Window) (d k : ℕ) (legs : List Leg) → AllByRecursion (λ (m : Leg). windows k m.arc ≡ base k m.arc) legs → LiesWithin base d k legs →
    LiesWithin windows d k legs
within-alike windows base d k [] alike within = tt
within-alike windows base d k (m ∷ legs) alike within =
    (subst (λ (o : Option Window). IsSomeAnd o (IsInside d m.depart)) (sym alike.0) within.0, within-alike windows base d k legs alike.1 within.1)

-- kept legs lie within their windows
kept-within : (windows : ℕ → ℕ → Option Window) (d k : ℕ) (legs : List Leg) → AllByRecursion (λ (l : Leg). windows k l.arc ≡ Some (window_at l.depart)) legs →
    LiesWithin windows d k (map (scaled d) legs)
kept-within windows d k [] kept = tt
kept-within windows d k (l ∷ legs) kept =
    (subst (λ (o : Option Window). IsSomeAnd o (IsInside d (d * l.depart))) (sym kept.0) (le_refl (d * l.depart), le_refl (d * l.depart)), kept-within windows d k legs kept.1)

-- what keeps the legs lies within
pub within-from_kept : (p : Problem) (d k : ℕ) (s : Shipment) (base windows : ℕ → ℕ → Option Window) (front legs : List Leg) → IsRowFrom p front (base k) (windows k) →
    Carries p d s legs → LiesWithin base d k legs → BeginWith d front legs → LiesWithin windows d k legs
within-from_kept p d k s base windows front legs row carries within begin =
    subst (LiesWithin windows d k) (sym begin.1)
    (AllByRecursion-append (λ (l : Leg). IsSomeAnd (windows k l.arc) (IsInside d l.depart)) (map (scaled d) front) begin.0
    (kept-within windows d k front row.kept)
    (within-alike windows base d k begin.0 alike (AllByRecursion-right (λ (l : Leg). IsSomeAnd (base k l.arc) (IsInside d l.depart)) (map (scaled d) front) begin.0 whole)))
  where
    rest : List Leg
    rest = begin.0

    whole : LiesWithin base d k (map (scaled d) front ++ begin.0)
    whole = subst (LiesWithin base d k) begin.1 within

    arcs : arcs_of legs ≡ arcs_of front ++ arcs_of begin.0
    arcs = ap arcs_of begin.1 ∙ arcs-begin d front begin.0

    leads : Leads p s.from (arcs_of front ++ arcs_of begin.0) s.to
    leads = subst (λ (xs : List ℕ). Leads p s.from xs s.to) arcs carries.route.leads

    off : AllByRecursion (λ (m : Leg). AllByRecursion (StaysOff p m.arc) front) begin.0
    off = off-tails p s.from front begin.0 s.to leads (subst (λ (xs : List ℕ). AreDistinct (s.from ∷ ends_of p xs)) arcs carries.route.once)

    exist : AllByRecursion (λ (m : Leg). m.arc < length p.arcs) begin.0
    exist =
        AllByRecursion-from_map (λ a. a < length p.arcs) (λ (m : Leg). m.arc) begin.0
        (AllByRecursion-right (λ a. a < length p.arcs) (arcs_of front) (arcs_of begin.0) (Leads-exist p s.from (arcs_of front ++ arcs_of begin.0) s.to leads))

    alike : AllByRecursion (λ (m : Leg). windows k m.arc ≡ base k m.arc) begin.0
    alike =
        AllByRecursion-weaker (λ (m : Leg). (m.arc < length p.arcs) × AllByRecursion (StaysOff p m.arc) front) (λ (m : Leg). windows k m.arc ≡ base k m.arc)
        (λ m both. row.other m.arc both.0 both.1) begin.0
        (AllByRecursion-both (λ (m : Leg). m.arc < length p.arcs) (λ (m : Leg). AllByRecursion (StaysOff p m.arc) front) begin.0 exist off)

-- a leg inside the window of a moment leaves at that moment
inside-moment : (d n time : ℕ) (o : Option Window) → o ≡ Some (window_at time) → IsSomeAnd o (IsInside d n) → n ≡ d * time
inside-moment d n time o is inside =
    let both : IsInside d n (window_at time) = subst (λ (x : Option Window). IsSomeAnd x (IsInside d n)) is inside in
    omega (arith, both.0, both.1)

-- what lies within keeps the legs
pub kept-from_within : (p : Problem) (d k to : ℕ) (windows : ℕ → ℕ → Option Window) (here : ℕ) (front : List Leg) (there : ℕ) (legs : List Leg) →
    Leads p here (arcs_of front) there → AllByRecursion (λ (l : Leg). (arc_at p l.arc).from ≢ to) front → Leads p here (arcs_of legs) to →
    AllByRecursion (λ (l : Leg). windows k l.arc ≡ Some (window_at l.depart)) front →
    ((a : ℕ) → a < length p.arcs → AllByRecursion (λ (l : Leg). (arc_at p a).from ≡ (arc_at p l.arc).from → a ≢ l.arc → windows k a ≡ None) front) →
    LiesWithin windows d k legs → BeginWith d front legs
kept-from_within p d k to windows here [] there legs leads onward along kept leaving within = (legs, refl)
kept-from_within p d k to windows here (l ∷ front) there [] leads onward along kept leaving within = absurd (onward.0 (leads.1 ∙ along))
kept-from_within p d k to windows here (l ∷ front) there (m ∷ legs) leads onward along kept leaving within =
    ⊎_elim
    (λ (same : (nat_eq m.arc l.arc ≡ true) × (m.arc ≡ l.arc)).
    let leg : ℕ → ℕ → Leg = λ a n. record { arc = a; depart = n } in
    let time : m.depart ≡ d * l.depart = inside-moment d m.depart l.depart (windows k m.arc) (ap (windows k) same.1 ∙ kept.0) within.0 in
    let next : Leads p (arc_at p l.arc).to (arcs_of legs) to = subst (λ a. Leads p (arc_at p a).to (arcs_of legs) to) same.1 along.2 in
    let later : BeginWith d front legs = kept-from_within p d k to windows (arc_at p l.arc).to front there legs leads.2 onward.1 next kept.1 (λ a lt. (leaving a lt).1) within.1 in
    (later.0, ap₂ (λ (x : Leg) (xs : List Leg). x ∷ xs) (ap₂ leg same.1 time) later.1))
    (λ (other : (nat_eq m.arc l.arc ≡ false) × (m.arc ≢ l.arc)).
    let none : windows k m.arc ≡ None = (leaving m.arc along.0).0 (along.1 ∙ sym leads.1) other.1 in
    absurd (subst (λ (o : Option Window). IsSomeAnd o (IsInside d m.depart)) none within.0))
    (eqb_tells m.arc l.arc)

-- what holds at each number of a list that is numbered from 0
pub AllFrom-from_zero : {X : Type 0} (P : ℕ → X → Type 0) (xs : List X) (d : X) → ((k : ℕ) → k < length xs → P k (slice_index_or xs k d)) → AllFrom P 0 xs
AllFrom-from_zero {X} P xs d each =
    AllFrom-from_get_or P xs d 0 (λ k lt. let same : k ≡ 0 + k = omega arith in subst (λ n. P n (slice_index_or xs k d)) same (each k lt))

-- so it is of plans
pub TellKept-from_rows : (p : Problem) (kept : List Kept) (base windows : ℕ → ℕ → Option Window) → AreKept p kept → CoverPlans p base →
    ((k : ℕ) → k < length p.shipments → IsRowFrom p (kept_of kept k) (base k) (windows k)) → TellKept p kept windows
TellKept-from_rows p kept base windows are covers rows d routes some plan = (keeps, lies)
  where
    long : length routes ≡ length p.shipments
    long = AllZip-long (Carries p d) p.shipments routes plan

    carries : (k : ℕ) → k < length p.shipments → Carries p d (shipment_at p k) (route_at routes k)
    carries k lt = AllZip-get_or (Carries p d) p.shipments routes k no_shipment [] plan lt

    keeps : PlanLiesWithin windows d routes → Keeps kept d routes
    keeps within = AllFrom-from_zero (λ k legs. BeginWith d (kept_of kept k) legs) routes [] (λ k lt.
        let s : Shipment = shipment_at p k in
        let exists : k < length p.shipments = omega (arith, lt, long) in
        let begin : IsBeginning p s (kept_of kept k) = IsBeginning-kept p kept k are in
        let row = rows k exists in
        kept-from_within p d k s.to windows s.from (kept_of kept k) (place_after p s.from (kept_of kept k)) (route_at routes k) begin.leads begin.onward (carries k exists).route.leads
        row.kept row.leaving (AllFrom-get_or_zero (LiesWithin windows d) routes [] k within lt))

    lies : Keeps kept d routes → PlanLiesWithin windows d routes
    lies kept_so = AllFrom-from_zero (LiesWithin windows d) routes [] (λ k lt.
        let exists : k < length p.shipments = omega (arith, lt, long) in
        within-from_kept p d k (shipment_at p k) base windows (kept_of kept k) (route_at routes k) (rows k exists) (carries k exists)
        (AllFrom-get_or_zero (LiesWithin base d) routes [] k (covers d routes some plan) lt)
        (AllFrom-get_or_zero (λ i legs. BeginWith d (kept_of kept i) legs) routes [] k kept_so lt))
