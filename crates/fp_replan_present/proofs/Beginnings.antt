-- Legs with which routes may begin, in two parts.
use Rattle.std.proofs.Common.{◌≡◌, ◌≢◌, ℕ, ◌+◌, ◌<◌, true, false, List, [], ◌∷◌, ◌++◌, length, take, drop, map, refl, sym, ap, ◌∙◌, subst, eq-eqb}
use Rattle.std.specs.Prelude.{cond, filter, ◌==◌, slice_index_or}
use Rattle.std.specs.List.{AllByRecursion}
use Rattle.std.proofs.lemmas.Bool.{ne_eqb}
use Rattle.std.proofs.lemmas.List.{drop_more, map-append, take-append-drop}
use Rattle.std.proofs.lemmas.List.Elements.{filter-append}
use Rattle.fp_base_lists.specs.Distinct.{AreDistinct}
use Rattle.fp_base_lists.specs.Membership.{list_has}
use Rattle.fp_base_lists.proofs.Distinct.{AreDistinct-cons, AreDistinct-head, AreDistinct-nil, AreDistinct-tail}
use Rattle.fp_base_lists.proofs.Elements.{AllByRecursion-get_or}
use Rattle.fp_model.specs.declared.parts.Leg.{Leg}
use Rattle.fp_model.specs.declared.parts.Shipment.{Shipment}
use Rattle.fp_model.specs.Numbered.{shipment_at}
use Rattle.fp_model.specs.Problem.{Problem, arc_at}
use Rattle.fp_model.specs.Routes.{Leads, arcs_of, ends_of}
use Rattle.fp_replan.specs.declared.kept.Kept.{Kept}
use Rattle.fp_replan.specs.Beginnings.{IsBeginning}
use Rattle.fp_replan.specs.KeptLegs.{AreKept, goes_on, kept_of, leg_of, no_kept, place_after, places_seen}
use Rattle.fp_replan.proofs.BegunRoutes.{distinct-parts, leads-after, seen-append}
use Rattle.fp_replan.proofs.ListParts.{AllByRecursion-left, AllByRecursion-right}
use Rattle.fp_replan.proofs.PlansWithout.{leads-same}

-- the arcs of legs in two parts
pub arcs-parts : (xs ys : List Leg) → arcs_of (xs ++ ys) ≡ arcs_of xs ++ arcs_of ys
arcs-parts xs ys = map-append (λ (l : Leg). l.arc) xs ys

-- a walk goes on where its first legs end, and those lead there
pub leads-first : (p : Problem) (origin : ℕ) (xs : List Leg) (arcs : List ℕ) (there : ℕ) → Leads p origin (arcs_of xs ++ arcs) there → Leads p origin (arcs_of xs) (place_after p origin xs)
leads-first p origin [] arcs there leads = refl
leads-first p origin (l ∷ xs) arcs there leads = (leads.0, leads.1, leads-first p (arc_at p l.arc).to xs arcs there leads.2)

pub place-parts : (p : Problem) (origin : ℕ) (xs ys : List Leg) → place_after p origin (xs ++ ys) ≡ place_after p (place_after p origin xs) ys
place-parts p origin [] ys = refl
place-parts p origin (l ∷ xs) ys = place-parts p (arc_at p l.arc).to xs ys

-- what enters no terminal twice doesn't from a later place on, nor up to it
pub distinct-after : (p : Problem) (origin : ℕ) (xs : List Leg) (arcs : List ℕ) → AreDistinct (origin ∷ ends_of p (arcs_of xs ++ arcs)) → AreDistinct (place_after p origin xs ∷ ends_of p arcs)
distinct-after p origin [] arcs once = once
distinct-after p origin (l ∷ xs) arcs once = distinct-after p (arc_at p l.arc).to xs arcs (AreDistinct-tail origin (ends_of p (l.arc ∷ (arcs_of xs ++ arcs))) once)

distinct-first : (xs ys : List ℕ) → AreDistinct (xs ++ ys) → AreDistinct xs
distinct-first [] ys once = AreDistinct-nil
distinct-first (x ∷ xs) ys once =
    AreDistinct-cons x xs (AllByRecursion-left (λ y. y ≢ x) xs ys (AreDistinct-head x (xs ++ ys) once)) (distinct-first xs ys (AreDistinct-tail x (xs ++ ys) once))

-- legs with which a route may begin, in two parts: it may begin with the first, and the route of a
-- shipment that is where those end may begin with the later
pub begin-first : (p : Problem) (s : Shipment) (xs ys : List Leg) → IsBeginning p s (xs ++ ys) → IsBeginning p s xs
begin-first p s xs ys begin =
    let there : ℕ = place_after p s.from (xs ++ ys) in
    let along : Leads p s.from (arcs_of xs ++ arcs_of ys) there = subst (λ (walk : List ℕ). Leads p s.from walk there) (arcs-parts xs ys) begin.leads in
    let seen : places_seen p s.from (xs ++ ys) ≡ places_seen p s.from xs ++ ends_of p (arcs_of ys) =
    ap (λ (walk : List ℕ). s.from ∷ ends_of p walk) (arcs-parts xs ys) ∙ seen-append p s.from xs (arcs_of ys) in
    record {
      leads = leads-first p s.from xs (arcs_of ys) there along;
      once = distinct-first (places_seen p s.from xs) (ends_of p (arcs_of ys)) (subst AreDistinct seen begin.once);
      onward = AllByRecursion-left (λ (l : Leg). (arc_at p l.arc).from ≢ s.to) xs ys begin.onward;
    }

pub begin-later : (p : Problem) (s t : Shipment) (xs ys : List Leg) → t.from ≡ place_after p s.from xs → t.to ≡ s.to → IsBeginning p s (xs ++ ys) → IsBeginning p t ys
begin-later p s t xs ys from to begin =
    let here : ℕ = place_after p s.from xs in
    let there : ℕ = place_after p s.from (xs ++ ys) in
    let along : Leads p s.from (arcs_of xs ++ arcs_of ys) there = subst (λ (walk : List ℕ). Leads p s.from walk there) (arcs-parts xs ys) begin.leads in
    let later : Leads p here (arcs_of ys) there = leads-after p s.from xs (arcs_of ys) there along in
    let once : AreDistinct (here ∷ ends_of p (arcs_of ys)) =
    distinct-after p s.from xs (arcs_of ys) (subst (λ (walk : List ℕ). AreDistinct (s.from ∷ ends_of p walk)) (arcs-parts xs ys) begin.once) in
    record {
      leads =
          subst (λ o. Leads p o (arcs_of ys) (place_after p o ys)) (sym from) (subst (λ e. Leads p here (arcs_of ys) e) (place-parts p s.from xs ys) later);
      once = subst (λ o. AreDistinct (o ∷ ends_of p (arcs_of ys))) (sym from) once;
      onward = subst (λ e. AllByRecursion (λ (l : Leg). (arc_at p l.arc).from ≢ e) ys) (sym to) (AllByRecursion-right (λ (l : Leg). (arc_at p l.arc).from ≢ s.to) xs ys begin.onward);
    }

-- each of the legs goes on from those before it
pub record GoesOn (p : Problem) (s : Shipment) (front : List Leg) (a : ℕ) : Type 0 where
  pub exists : a < length p.arcs
  pub away : place_after p s.from front ≢ s.to
  pub on : goes_on p s front a ≡ true

pub begin-goes : (p : Problem) (s : Shipment) (front : List Leg) (l : Leg) (rest : List Leg) → IsBeginning p s (front ++ (l ∷ rest)) → GoesOn p s front l.arc
begin-goes p s front l rest begin =
    let here : ℕ = place_after p s.from front in
    let there : ℕ = place_after p s.from (front ++ (l ∷ rest)) in
    let arcs : arcs_of (front ++ (l ∷ rest)) ≡ arcs_of front ++ arcs_of (l ∷ rest) = arcs-parts front (l ∷ rest) in
    let leads : Leads p here (arcs_of (l ∷ rest)) there =
    leads-after p s.from front (arcs_of (l ∷ rest)) there (subst (λ (walk : List ℕ). Leads p s.from walk there) arcs begin.leads) in
    let onward : (arc_at p l.arc).from ≢ s.to = (AllByRecursion-right (λ (m : Leg). (arc_at p m.arc).from ≢ s.to) front (l ∷ rest) begin.onward).0 in
    let seen : places_seen p s.from (front ++ (l ∷ rest)) ≡ places_seen p s.from front ++ ends_of p (arcs_of (l ∷ rest)) =
    ap (λ (walk : List ℕ). s.from ∷ ends_of p walk) arcs ∙ seen-append p s.from front (arcs_of (l ∷ rest)) in
    let new : list_has (places_seen p s.from front) (arc_at p l.arc).to ≡ false =
    (distinct-parts (places_seen p s.from front) (ends_of p (arcs_of (l ∷ rest))) (subst AreDistinct seen begin.once)).0 in
    let away : here ≢ s.to = λ e. onward (leads.1 ∙ e) in
    record {
      exists = leads.0;
      away = away;
      on = rw (eq-eqb (arc_at p l.arc).from here leads.1, ne_eqb here s.to away, new) refl;
    }

-- the kept legs of a shipment, in two parts, and where the first is its own
pub kept_of-parts : (xs ys : List Kept) (k : ℕ) → kept_of (xs ++ ys) k ≡ kept_of xs k ++ kept_of ys k
kept_of-parts xs ys k =
    ap (map leg_of) (filter-append (λ (x : Kept). x.shipment == k) xs ys) ∙ map-append leg_of (filter (λ (x : Kept). x.shipment == k) xs) (filter (λ (x : Kept). x.shipment == k) ys)

kept_of-own : (x : Kept) (ys : List Kept) → kept_of (x ∷ ys) x.shipment ≡ leg_of x ∷ kept_of ys x.shipment
kept_of-own x ys =
    ap (λ b. map leg_of (cond b (x ∷ filter (λ (y : Kept). y.shipment == x.shipment) ys) (filter (λ (y : Kept). y.shipment == x.shipment) ys))) (eq-eqb x.shipment x.shipment refl)

-- legs can be kept where a route of each shipment may begin with its own
pub AreKept-from_beginnings : (p : Problem) (kept : List Kept) → AllByRecursion (λ (x : Kept). x.shipment < length p.shipments) kept →
    ((k : ℕ) → k < length p.shipments → IsBeginning p (shipment_at p k) (kept_of kept k)) → AreKept p kept
AreKept-from_beginnings p kept exist begins i lt =
    let x : Kept = slice_index_or kept i no_kept in
    let k : ℕ = x.shipment in
    let front : List Leg = kept_of (take i kept) k in
    let rest : List Leg = kept_of (drop (i + 1) kept) k in
    let there : k < length p.shipments = AllByRecursion-get_or (λ (y : Kept). y.shipment < length p.shipments) kept i no_kept exist lt in
    let whole : kept ≡ take i kept ++ (x ∷ drop (i + 1) kept) = sym (take-append-drop i kept) ∙ ap (λ (ys : List Kept). take i kept ++ ys) (drop_more kept i no_kept lt) in
    let parts : kept_of kept k ≡ front ++ (leg_of x ∷ rest) =
    ap (λ (ks : List Kept). kept_of ks k) whole ∙ kept_of-parts (take i kept) (x ∷ drop (i + 1) kept) k ∙ ap (λ (ls : List Leg). front ++ ls) (kept_of-own x (drop (i + 1) kept)) in
    let goes : GoesOn p (shipment_at p k) front x.arc = begin-goes p (shipment_at p k) front (leg_of x) rest (subst (IsBeginning p (shipment_at p k)) parts (begins k there)) in
    record { shipment = there; arc = goes.exists; on = goes.on }

-- a route may begin with legs whatever the shipments of the instance are
place-same : (p : Problem) (ss : List Shipment) (origin : ℕ) (legs : List Leg) → place_after (record p { shipments = ss }) origin legs ≡ place_after p origin legs
place-same p ss origin [] = refl
place-same p ss origin (l ∷ legs) = place-same p ss (arc_at p l.arc).to legs

pub begin-same : (p : Problem) (ss : List Shipment) (s : Shipment) (legs : List Leg) → IsBeginning p s legs → IsBeginning (record p { shipments = ss }) s legs
begin-same p ss s legs begin = record {
  leads =
      subst (λ e. Leads (record p { shipments = ss }) s.from (arcs_of legs) e) (sym (place-same p ss s.from legs))
      (leads-same p ss s.from (arcs_of legs) (place_after p s.from legs) begin.leads);
  once = begin.once;
  onward = begin.onward;
}
