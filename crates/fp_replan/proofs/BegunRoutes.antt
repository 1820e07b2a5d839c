-- Routes of a shipment that begin with kept legs: what every such route has, over any denominator,
-- and that a route that goes on from them in time carries the shipment.
use Rattle.std.proofs.Common.{◌≡◌, ◌≢◌, ℕ, ◌+◌, ◌*◌, ◌≤◌, true, false, Some, None, Option, List, [], ◌∷◌, ◌++◌, map, refl, sym, ap, ◌∙◌, subst, arith, append-nil, eq-eqb}
use Rattle.std.specs.Prelude.{IsSomeAnd, ◌==◌}
use Rattle.std.specs.List.{AllByRecursion}
use Rattle.std.proofs.Math.Nat.{le_of_mul-le-mul_left}
use Rattle.std.proofs.lemmas.Bool.{false≢true, ne_eqb, or_parts}
use Rattle.std.proofs.lemmas.List.{map-append}
use Rattle.fp_base_lists.specs.Distinct.{AreDistinct}
use Rattle.fp_base_lists.specs.Membership.{list_has}
use Rattle.fp_base_lists.proofs.Distinct.{AreDistinct-cons, AreDistinct-head, AreDistinct-tail}
use Rattle.fp_base_lists.proofs.Elements.{AllByRecursion-always, AllByRecursion-append, AllByRecursion-both, AllByRecursion-weaker}
use Rattle.fp_base_lists.proofs.Membership.{list_has-append, list_has-first, list_has-rest}
use Rattle.fp_model.specs.declared.parts.Leg.{Leg}
use Rattle.fp_model.specs.declared.parts.Shipment.{Shipment}
use Rattle.fp_model.specs.Problem.{IsValid, Problem, arc_at, hold_at}
use Rattle.fp_model.specs.Routes.{ArrivesBy, Carries, Leads, LeavesReady, arcs_of, ends_of, step, walk_time}
use Rattle.fp_flatnet.proofs.LeastWalks.{Leads-append, time-steps}
use Rattle.fp_flatnet.proofs.PlanExistence.{arrives-after}
use Rattle.fp_replan.specs.Beginnings.{IsBeginning}
use Rattle.fp_replan.specs.KeptLegs.{BeginWith, place_after, places_seen, scaled}
use Rattle.fp_replan.specs.Starts.{Avoids, GoesOnPast, HasLegsFrom, HasLegsPast, IsOnward, ready_after}
use Rattle.fp_replan.proofs.KeptRoutes.{arcs-begin}
use Rattle.fp_replan.proofs.ListParts.{AllByRecursion-right}
use Rattle.fp_replan.proofs.OnwardWalks.{IsLeastPast, IsLeastPast-begins, IsPastDistance, ends-append, past-apart}

-- legs that leave ready: the first ones do, and the later ones after those
ready-parts : (p : Problem) (d r : ℕ) (front rest : List Leg) → 1 ≤ d → LeavesReady p d (d * r) (map (scaled d) front ++ rest) →
    LeavesReady p 1 r front × LeavesReady p d (d * ready_after p r front) rest
ready-parts p d r [] rest some leaves = (tt, leaves)
ready-parts p d r (l ∷ front) rest some leaves =
    let le : r ≤ l.depart = le_of_mul-le-mul_left leaves.0 (omega (arith, some)) in
    let next : d * l.depart + d * step p l.arc ≡ d * (l.depart + step p l.arc) = omega arith in
    let one : l.depart + step p l.arc ≡ l.depart + 1 * step p l.arc = omega arith in
    let later = ready-parts p d (l.depart + step p l.arc) front rest some (subst (λ n. LeavesReady p d n (map (scaled d) front ++ rest)) next leaves.1) in
    ((le, subst (λ n. LeavesReady p 1 n front) one later.0), later.1)

ready-join : (p : Problem) (r : ℕ) (front rest : List Leg) → LeavesReady p 1 r front → LeavesReady p 1 (ready_after p r front) rest → LeavesReady p 1 r (front ++ rest)
ready-join p r [] rest first later = later
ready-join p r (l ∷ front) rest first later =
    let one : l.depart + 1 * step p l.arc ≡ l.depart + step p l.arc = omega arith in
    (first.0, subst (λ n. LeavesReady p 1 n (front ++ rest)) (sym one) (ready-join p (l.depart + step p l.arc) front rest (subst (λ n. LeavesReady p 1 n front) one first.1) later))

-- a walk after legs
pub leads-after : (p : Problem) (origin : ℕ) (front : List Leg) (arcs : List ℕ) (there : ℕ) → Leads p origin (arcs_of front ++ arcs) there → Leads p (place_after p origin front) arcs there
leads-after p origin [] arcs there leads = leads
leads-after p origin (l ∷ front) arcs there leads = leads-after p (arc_at p l.arc).to front arcs there leads.2

-- of two lists without a number twice, the second has none of the first
pub distinct-parts : (xs ys : List ℕ) → AreDistinct (xs ++ ys) → AllByRecursion (λ y. list_has xs y ≡ false) ys
distinct-parts [] ys once = AllByRecursion-always (λ y. list_has [] y ≡ false) (λ y. refl) ys
distinct-parts (x ∷ xs) ys once =
    let apart : AllByRecursion (λ y. y ≢ x) ys = AllByRecursion-right (λ y. y ≢ x) xs ys (AreDistinct-head x (xs ++ ys) once) in
    let later : AllByRecursion (λ y. list_has xs y ≡ false) ys = distinct-parts xs ys (AreDistinct-tail x (xs ++ ys) once) in
    AllByRecursion-weaker (λ y. (y ≢ x) × (list_has xs y ≡ false)) (λ y. list_has (x ∷ xs) y ≡ false)
    (λ y both. rw (ne_eqb x y (λ e. both.0 (sym e)), both.1) refl) ys
    (AllByRecursion-both (λ y. y ≢ x) (λ y. list_has xs y ≡ false) ys apart later)

pub distinct-join : (xs ys : List ℕ) → AreDistinct xs → AreDistinct ys → AllByRecursion (λ y. list_has xs y ≡ false) ys → AreDistinct (xs ++ ys)
distinct-join [] ys first second apart = second
distinct-join (x ∷ xs) ys first second apart =
    let from_x : AllByRecursion (λ y. y ≢ x) ys =
    AllByRecursion-weaker (λ y. list_has (x ∷ xs) y ≡ false) (λ y. y ≢ x)
    (λ y none e. false≢true (sym (or_parts (x == y) (list_has xs y) none).0 ∙ eq-eqb x y (sym e))) ys apart in
    let from_xs : AllByRecursion (λ y. list_has xs y ≡ false) ys =
    AllByRecursion-weaker (λ y. list_has (x ∷ xs) y ≡ false) (λ y. list_has xs y ≡ false) (λ y none. (or_parts (x == y) (list_has xs y) none).1) ys apart in
    AreDistinct-cons x (xs ++ ys) (AllByRecursion-append (λ y. y ≢ x) xs ys (AreDistinct-head x xs first) from_x)
    (distinct-join xs ys (AreDistinct-tail x xs first) second from_xs)

-- the terminals of one walk after another
pub seen-append : (p : Problem) (origin : ℕ) (front : List Leg) (arcs : List ℕ) → origin ∷ ends_of p (arcs_of front ++ arcs) ≡ places_seen p origin front ++ ends_of p arcs
seen-append p origin front arcs = ap (λ (xs : List ℕ). origin ∷ xs) (map-append (λ a. (arc_at p a).to) (arcs_of front) arcs)

-- where a shipment is after legs it was
pub place-seen : (p : Problem) (origin : ℕ) (front : List Leg) → list_has (places_seen p origin front) (place_after p origin front) ≡ true
place-seen p origin [] = list_has-first origin []
place-seen p origin (l ∷ front) =
    list_has-rest origin (places_seen p (arc_at p l.arc).to front) (place_after p (arc_at p l.arc).to front) (place-seen p (arc_at p l.arc).to front)

-- a walk that avoids terminals ends at none of them
pub end-avoids : (p : Problem) (gone : List ℕ) (here a : ℕ) (arcs : List ℕ) (there : ℕ) → Leads p here (a ∷ arcs) there → Avoids p gone (a ∷ arcs) → list_has gone there ≡ false
end-avoids p gone here a [] there leads avoids = subst (λ t. list_has gone t ≡ false) leads.2 avoids.0
end-avoids p gone here a (b ∷ arcs) there leads avoids = end-avoids p gone (arc_at p a).to b arcs there leads.2 avoids.1

-- the last legs arrive in time exactly where all do
arrives-last : (p : Problem) (d due : ℕ) (front : List Leg) (l : Leg) (rest : List Leg) → ArrivesBy p d due (front ++ (l ∷ rest)) → ArrivesBy p d due (l ∷ rest)
arrives-last p d due [] l rest arrives = arrives
arrives-last p d due (m ∷ []) l rest arrives = arrives
arrives-last p d due (m ∷ n ∷ front) l rest arrives = arrives-last p d due (n ∷ front) l rest arrives

arrives-join : (p : Problem) (d due : ℕ) (front : List Leg) (l : Leg) (rest : List Leg) → ArrivesBy p d due (l ∷ rest) → ArrivesBy p d due (front ++ (l ∷ rest))
arrives-join p d due [] l rest arrives = arrives
arrives-join p d due (m ∷ []) l rest arrives = arrives
arrives-join p d due (m ∷ n ∷ front) l rest arrives = arrives-join p d due (n ∷ front) l rest arrives

-- legs that arrive in time over a denominator
arrives-scaled : (p : Problem) (d due : ℕ) (front : List Leg) → 1 ≤ d → ArrivesBy p d due (map (scaled d) front) → ArrivesBy p 1 due front
arrives-scaled p d due [] some arrives = tt
arrives-scaled p d due (l ∷ []) some arrives =
    let whole : d * (l.depart + (arc_at p l.arc).time) ≤ d * due = omega (arith, arrives) in
    let le : l.depart + (arc_at p l.arc).time ≤ due = le_of_mul-le-mul_left whole (omega (arith, some)) in
    omega (arith, le)
arrives-scaled p d due (l ∷ m ∷ front) some arrives = arrives-scaled p d due (m ∷ front) some arrives

-- what avoids terminals avoids some of them, and what avoids some and others avoids all
pub avoids-later : (p : Problem) (xs ys arcs : List ℕ) → Avoids p (xs ++ ys) arcs → Avoids p ys arcs
avoids-later p xs ys [] avoids = tt
avoids-later p xs ys (a ∷ arcs) avoids =
    let t : ℕ = (arc_at p a).to in
    ((or_parts (list_has xs t) (list_has ys t) (sym (list_has-append xs ys t) ∙ avoids.0)).1, avoids-later p xs ys arcs avoids.1)

pub avoids-first : (p : Problem) (xs ys arcs : List ℕ) → Avoids p (xs ++ ys) arcs → Avoids p xs arcs
avoids-first p xs ys [] avoids = tt
avoids-first p xs ys (a ∷ arcs) avoids =
    let t : ℕ = (arc_at p a).to in
    ((or_parts (list_has xs t) (list_has ys t) (sym (list_has-append xs ys t) ∙ avoids.0)).0, avoids-first p xs ys arcs avoids.1)

pub avoids-both : (p : Problem) (xs ys arcs : List ℕ) → Avoids p xs arcs → Avoids p ys arcs → Avoids p (xs ++ ys) arcs
avoids-both p xs ys [] first later = tt
avoids-both p xs ys (a ∷ arcs) first later =
    let t : ℕ = (arc_at p a).to in
    (list_has-append xs ys t ∙ rw (first.0, later.0) refl, avoids-both p xs ys arcs first.1 later.1)

-- the later arcs of a walk that avoids terminals avoid them
pub avoids-rest : (p : Problem) (gone xs ys : List ℕ) → Avoids p gone (xs ++ ys) → Avoids p gone ys
avoids-rest p gone [] ys avoids = avoids
avoids-rest p gone (a ∷ xs) ys avoids = avoids-rest p gone xs ys avoids.1

-- what every route has that begins with the legs
pub record IsBegun (p : Problem) (d : ℕ) (s : Shipment) (front rest : List Leg) : Type 0 where
  pub ready : LeavesReady p 1 s.release front
  pub leaves : LeavesReady p d (d * ready_after p s.release front) rest
  pub leads : Leads p (place_after p s.from front) (arcs_of rest) s.to
  pub avoids : Avoids p (places_seen p s.from front) (arcs_of rest)
  pub due : ArrivesBy p d s.due (map (scaled d) front ++ rest)

begun : (p : Problem) (d : ℕ) (s : Shipment) (front legs : List Leg) → 1 ≤ d → Carries p d s legs → (begin : BeginWith d front legs) → IsBegun p d s front begin.0
begun p d s front legs some carries begin =
    let parts = ready-parts p d s.release front begin.0 some (subst (LeavesReady p d (d * s.release)) begin.1 carries.ready) in
    let arcs : arcs_of legs ≡ arcs_of front ++ arcs_of begin.0 = ap arcs_of begin.1 ∙ arcs-begin d front begin.0 in
    record {
      ready = parts.0;
      leaves = parts.1;
      leads = leads-after p s.from front (arcs_of begin.0) s.to (subst (λ (xs : List ℕ). Leads p s.from xs s.to) arcs carries.route.leads);
      avoids =
          distinct-parts (places_seen p s.from front) (ends_of p (arcs_of begin.0))
          (subst AreDistinct (ap (λ (xs : List ℕ). s.from ∷ ends_of p xs) arcs ∙ seen-append p s.from front (arcs_of begin.0)) carries.route.once);
      due = subst (ArrivesBy p d s.due) begin.1 carries.due;
    }

-- no legs begin with those of which one leaves before it can
pub none-unready : (p : Problem) (gone : List ℕ) (s : Shipment) (front : List Leg) → (LeavesReady p 1 s.release front → ⊥) → HasLegsPast p gone s front → ⊥
none-unready p gone s front unready (d, legs, some, carries, begin, avoids) = unready (begun p d s front legs some carries begin).ready

-- nor with those that end at the destination too late
pub none-late : (p : Problem) (gone : List ℕ) (s : Shipment) (front : List Leg) → place_after p s.from front ≡ s.to → (ArrivesBy p 1 s.due front → ⊥) → HasLegsPast p gone s front → ⊥
none-late p gone s front there late (d, legs, some, carries, begin, avoids) = by_rest begin.0 (begun p d s front legs some carries begin)
  where
    by_rest : (rest : List Leg) → IsBegun p d s front rest → ⊥
    by_rest [] is = late (arrives-scaled p d s.due front some (subst (ArrivesBy p d s.due) (append-nil (map (scaled d) front)) is.due))
    by_rest (l ∷ rest) is =
        false≢true
        (sym (end-avoids p (places_seen p s.from front) (place_after p s.from front) l.arc (arcs_of rest) s.to is.leads is.avoids)
        ∙ subst (λ t. list_has (places_seen p s.from front) t ≡ true) there (place-seen p s.from front))

-- nor with those from which no walk that avoids the terminals is in time
pub none-far : (p : Problem) (gone : List ℕ) (s : Shipment) (front : List Leg) (o : Option ℕ) → place_after p s.from front ≢ s.to →
    IsPastDistance p (gone ++ places_seen p s.from front) (place_after p s.from front) s.to o →
    (IsSomeAnd o (λ n. ready_after p s.release front + n ≤ s.due + hold_at p s.to) → ⊥) → HasLegsPast p gone s front → ⊥
none-far p gone s front o away is far (d, legs, some, carries, begin, avoids) =
    let arcs : arcs_of legs ≡ arcs_of front ++ arcs_of begin.0 = ap arcs_of begin.1 ∙ arcs-begin d front begin.0 in
    let on = begun p d s front legs some carries begin in
    let past : Avoids p gone (arcs_of begin.0) = avoids-rest p gone (arcs_of front) (arcs_of begin.0) (subst (Avoids p gone) arcs avoids) in
    by_rest begin.0 on (avoids-both p gone (places_seen p s.from front) (arcs_of begin.0) past on.avoids) o is far
  where
    by_rest : (rest : List Leg) → IsBegun p d s front rest → Avoids p (gone ++ places_seen p s.from front) (arcs_of rest) → (q : Option ℕ) → IsPastDistance p (gone ++ places_seen p s.from front) (place_after p s.from front) s.to q →
        (IsSomeAnd q (λ n. ready_after p s.release front + n ≤ s.due + hold_at p s.to) → ⊥) → ⊥
    by_rest rest on past None none too_far = none (arcs_of rest) on.leads past
    by_rest [] on past (Some n) least too_far = away on.leads
    by_rest (l ∷ rest) on past (Some n) least too_far =
        let ready : ℕ = ready_after p s.release front in
        let time : ℕ = walk_time p (arcs_of (l ∷ rest)) in
        let after : l.depart + d * time ≤ d * s.due =
        arrives-after p d s.due (d * ready) l rest on.leaves (arrives-last p d s.due (map (scaled d) front) l rest on.due) in
        let whole : d * (ready + time) ≤ d * s.due = omega (arith, after, on.leaves.0) in
        let le : ready + time ≤ s.due = le_of_mul-le-mul_left whole (omega (arith, some)) in
        too_far (omega (
          arith,
          le,
          least.2,
          least.1.least (arcs_of (l ∷ rest)) on.leads past,
          time-steps p (place_after p s.from front) s.to (arcs_of (l ∷ rest)) away on.leads,
        ))

-- legs that go on from here are a walk of least steps
onward-least : (p : Problem) (gone : List ℕ) (there here ready : ℕ) (legs : List Leg) → IsValid p → IsOnward p gone there here ready legs → IsLeastPast p gone here there (arcs_of legs)
onward-least p gone there here ready [] valid on = record { leads = on; avoids = tt; least = λ others leads avoids. omega arith }
onward-least p gone there here ready (l ∷ legs) valid on =
    let later : IsLeastPast p gone (arc_at p l.arc).to there (arcs_of legs) = onward-least p gone there (arc_at p l.arc).to (ready + step p l.arc) legs valid on.3 in
    let whole : IsLeastPast p gone here there (l.arc ∷ on.1.begins.rest) = IsLeastPast-begins p gone here there l.arc valid on.1.begins in record {
      leads = (whole.leads.0, whole.leads.1, later.leads);
      avoids = (whole.avoids.0, later.avoids);
      least = λ others leads avoids. omega (arith, whole.least others leads avoids, later.least on.1.begins.rest whole.leads.2 whole.avoids.1);
    }

onward-ready : (p : Problem) (gone : List ℕ) (there here ready : ℕ) (legs : List Leg) → IsOnward p gone there here ready legs → LeavesReady p 1 ready legs
onward-ready p gone there here ready [] on = tt
onward-ready p gone there here ready (l ∷ legs) on =
    let same : ready + step p l.arc ≡ l.depart + 1 * step p l.arc = omega (arith, on.2) in (
      omega (arith, on.2),
      subst (λ n. LeavesReady p 1 n legs) same (onward-ready p gone there (arc_at p l.arc).to (ready + step p l.arc) legs on.3),
    )

onward-arrives : (p : Problem) (gone : List ℕ) (there here ready due : ℕ) (legs : List Leg) → IsOnward p gone there here ready legs → ready + walk_time p (arcs_of legs) ≤ due → ArrivesBy p 1 due legs
onward-arrives p gone there here ready due [] on within = tt
onward-arrives p gone there here ready due (l ∷ []) on within = omega (arith, on.2, within)
onward-arrives p gone there here ready due (l ∷ m ∷ legs) on within =
    onward-arrives p gone there (arc_at p l.arc).to (ready + step p l.arc) due (m ∷ legs) on.3 (omega (arith, within))

-- legs that go on from those with which a route begins carry the shipment where they arrive in time
carries-join : (p : Problem) (gone : List ℕ) (s : Shipment) (front rest : List Leg) → IsValid p → s.from ≢ s.to → IsBeginning p s front → LeavesReady p 1 s.release front →
    IsOnward p (gone ++ places_seen p s.from front) s.to (place_after p s.from front) (ready_after p s.release front) rest → ArrivesBy p 1 s.due (front ++ rest) → Carries p 1 s (front ++ rest)
carries-join p gone s front rest valid ends begin ready on arrives =
    let here : ℕ = place_after p s.from front in
    let seen : List ℕ = places_seen p s.from front in
    let least : IsLeastPast p (gone ++ seen) here s.to (arcs_of rest) = onward-least p (gone ++ seen) s.to here (ready_after p s.release front) rest valid on in
    let arcs : arcs_of (front ++ rest) ≡ arcs_of front ++ arcs_of rest = map-append (λ (l : Leg). l.arc) front rest in
    let along : Leads p s.from (arcs_of (front ++ rest)) s.to =
    subst (λ (xs : List ℕ). Leads p s.from xs s.to) (sym arcs) (Leads-append p s.from here s.to (arcs_of front) (arcs_of rest) begin.leads least.leads) in
    let once : AreDistinct (seen ++ ends_of p (arcs_of rest)) =
    distinct-join seen (ends_of p (arcs_of rest)) begin.once
    (AreDistinct-tail here (ends_of p (arcs_of rest)) (past-apart p (gone ++ seen) here s.to (arcs_of rest) valid least)) (avoids-later p gone seen (arcs_of rest) least.avoids) in
    let start : 1 * s.release ≡ s.release = omega arith in
    record {
      route = record {
        some = λ e. ends (subst (λ (xs : List ℕ). Leads p s.from xs s.to) e along);
        leads = along;
        once = subst AreDistinct (sym (ap (λ (xs : List ℕ). s.from ∷ ends_of p xs) arcs ∙ seen-append p s.from front (arcs_of rest))) once;
      };
      ready =
          subst (λ n. LeavesReady p 1 n (front ++ rest)) (sym start)
          (ready-join p s.release front rest ready (onward-ready p (gone ++ seen) s.to here (ready_after p s.release front) rest on));
      due = arrives;
    }

-- legs that end at the destination in time
pub carries-there : (p : Problem) (gone : List ℕ) (s : Shipment) (front : List Leg) → IsValid p → s.from ≢ s.to → IsBeginning p s front → LeavesReady p 1 s.release front →
    place_after p s.from front ≡ s.to → ArrivesBy p 1 s.due front → Carries p 1 s front × GoesOnPast p (gone ++ places_seen p s.from front) s front front
carries-there p gone s front valid ends begin ready there arrives = (
  subst (Carries p 1 s) (append-nil front) (carries-join p gone s front [] valid ends begin ready there (subst (ArrivesBy p 1 s.due) (sym (append-nil front)) arrives)),
  ([], sym (append-nil front), there),
)

-- and legs that go on to it in time
pub carries-onward : (p : Problem) (gone : List ℕ) (s : Shipment) (front legs : List Leg) (o : Option ℕ) → IsValid p → s.from ≢ s.to → IsBeginning p s front → LeavesReady p 1 s.release front →
    place_after p s.from front ≢ s.to → IsPastDistance p (gone ++ places_seen p s.from front) (place_after p s.from front) s.to o →
    IsSomeAnd o (λ n. ready_after p s.release front + n ≤ s.due + hold_at p s.to) → GoesOnPast p (gone ++ places_seen p s.from front) s front legs → Carries p 1 s legs
carries-onward p gone s front legs None valid ends begin ready away is in_time goes = absurd in_time
carries-onward p gone s front legs (Some n) valid ends begin ready away is in_time goes =
    subst (Carries p 1 s) (sym goes.1) (carries-join p gone s front goes.0 valid ends begin ready goes.2 (arrives goes.0 goes.2))
  where
    arrives : (rest : List Leg) → IsOnward p (gone ++ places_seen p s.from front) s.to (place_after p s.from front) (ready_after p s.release front) rest → ArrivesBy p 1 s.due (front ++ rest)
    arrives [] on = absurd (away on)
    arrives (l ∷ rest) on =
        let past : List ℕ = gone ++ places_seen p s.from front in
        let here : ℕ = place_after p s.from front in
        let least : IsLeastPast p past here s.to (arcs_of (l ∷ rest)) = onward-least p past s.to here (ready_after p s.release front) (l ∷ rest) valid on in
        arrives-join p 1 s.due front l rest
        (onward-arrives p past s.to here (ready_after p s.release front) s.due (l ∷ rest) on
        (omega (arith, in_time, is.2, least.least is.0 is.1.leads is.1.avoids, time-steps p here s.to (arcs_of (l ∷ rest)) away least.leads)))

-- what goes on past terminals by legs after those that enter none of them enters none of them
pub avoids-begun : (p : Problem) (gone : List ℕ) (s : Shipment) (front legs : List Leg) → IsValid p → Avoids p gone (arcs_of front) →
    GoesOnPast p (gone ++ places_seen p s.from front) s front legs → Avoids p gone (arcs_of legs)
avoids-begun p gone s front legs valid first goes =
    let past : List ℕ = gone ++ places_seen p s.from front in
    let least : IsLeastPast p past (place_after p s.from front) s.to (arcs_of goes.0) =
    onward-least p past s.to (place_after p s.from front) (ready_after p s.release front) goes.0 valid goes.2 in
    let arcs : arcs_of legs ≡ arcs_of front ++ arcs_of goes.0 = ap arcs_of goes.1 ∙ map-append (λ (l : Leg). l.arc) front goes.0 in
    subst (Avoids p gone) (sym arcs)
    (ends-append p gone (arcs_of front) (arcs_of goes.0) first (avoids-first p gone (places_seen p s.from front) (arcs_of goes.0) least.avoids))

-- legs that begin with others enter none of no terminals
pub HasLegsPast-none : (p : Problem) (s : Shipment) (front : List Leg) → HasLegsFrom p s front → HasLegsPast p [] s front
HasLegsPast-none p s front (d, legs, some, carries, begin) =
    (d, legs, some, carries, begin, AllByRecursion-always (λ t. list_has [] t ≡ false) (λ t. refl) (ends_of p (arcs_of legs)))
