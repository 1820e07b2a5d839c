-- The kept legs of each shipment, as legs are kept one after the other.
use Rattle.std.proofs.Common.{◌≡◌, ◌≢◌, ℕ, zero, suc, ◌+◌, ◌<◌, ◌≤◌, true, false, List, [], ◌∷◌, ◌++◌, length, map, take, refl, sym, ap, ◌∙◌, subst, arith, append-nil, eq-eqb, eqb-true, length-set, get_or-set_same, get_or-set_other, length-append, ⊎_elim}
use Rattle.std.specs.Prelude.{filter, slice_index_or, slice_set, nat_eq, not, cond, ◌==◌, ◌&&◌}
use Rattle.std.proofs.lemmas.Bool.{and_parts, cases_lt, false≢true, not-true}
use Rattle.std.proofs.lemmas.Bool.Decides.{eqb_tells}
use Rattle.std.proofs.lemmas.List.{get_or_append_left, get_or_push, map-append, take_more, take-append-le, take_all, take_at}
use Rattle.std.proofs.lemmas.List.Elements.{filter-append}
use Rattle.fp_base_lists.specs.Distinct.{AreDistinct}
use Rattle.fp_base_lists.specs.Membership.{list_has}
use Rattle.fp_base_lists.proofs.Distinct.{AreDistinct-cons, AreDistinct-nil, AreDistinct-push}
use Rattle.fp_base_lists.proofs.Elements.{AllByRecursion-push}
use Rattle.fp_model.specs.declared.parts.Leg.{Leg}
use Rattle.fp_model.specs.declared.parts.Shipment.{Shipment}
use Rattle.fp_model.specs.Numbered.{route_at, shipment_at}
use Rattle.fp_model.specs.Problem.{Problem, arc_at}
use Rattle.fp_model.specs.Routes.{ArcsExist, arcs_of, ends_of}
use Rattle.fp_model.proofs.Bounds.{Leads-exist, legs-exist}
use Rattle.fp_flatnet.proofs.LeastWalks.{Leads-append}
use Rattle.fp_replan.specs.declared.kept.Kept.{Kept}
use Rattle.fp_replan.specs.Beginnings.{AreBeginnings, IsBeginning}
use Rattle.fp_replan.specs.KeptLegs.{AreKept, CanKeep, goes_on, kept_of, leg_of, no_kept, place_after, places_seen}
use Rattle.fp_base_lists.proofs.Membership.{list_has-apart}

-- one more kept leg of a shipment, and of another one
pub kept_of-push : (kept : List Kept) (x : Kept) (k : ℕ) → kept_of (kept ++ (x ∷ [])) k ≡ kept_of kept k ++ map leg_of (cond (x.shipment == k) (x ∷ []) [])
kept_of-push kept x k =
    ap (map leg_of) (filter-append (λ (y : Kept). y.shipment == k) kept (x ∷ []))
    ∙ map-append leg_of (filter (λ (y : Kept). y.shipment == k) kept) (cond (x.shipment == k) (x ∷ []) [])

pub kept_of-same : (kept : List Kept) (x : Kept) (k : ℕ) → x.shipment ≡ k → kept_of (kept ++ (x ∷ [])) k ≡ kept_of kept k ++ (leg_of x ∷ [])
kept_of-same kept x k same =
    kept_of-push kept x k ∙ ap (λ b. kept_of kept k ++ map leg_of (cond b (x ∷ []) [])) (eq-eqb x.shipment k same)

pub kept_of-other : (kept : List Kept) (x : Kept) (k : ℕ) → (x.shipment == k) ≡ false → kept_of (kept ++ (x ∷ [])) k ≡ kept_of kept k
kept_of-other kept x k other =
    kept_of-push kept x k ∙ ap (λ b. kept_of kept k ++ map leg_of (cond b (x ∷ []) [])) other ∙ append-nil (kept_of kept k)

-- the lists of all shipments with one more kept leg
pub AreBeginnings-push : (kept : List Kept) (count : ℕ) (beginnings : List (List Leg)) (x : Kept) → x.shipment < length beginnings → AreBeginnings kept count beginnings →
    AreBeginnings (kept ++ (x ∷ [])) count (slice_set beginnings x.shipment (route_at beginnings x.shipment ++ (leg_of x ∷ [])))
AreBeginnings-push kept count beginnings x there are = record {
  one_each = length-set beginnings x.shipment (route_at beginnings x.shipment ++ (leg_of x ∷ [])) ∙ are.one_each;
  exact = each;
}
  where
    more : List Leg
    more = route_at beginnings x.shipment ++ (leg_of x ∷ [])

    each : (k : ℕ) → k < count → route_at (slice_set beginnings x.shipment (route_at beginnings x.shipment ++ (leg_of x ∷ []))) k ≡ kept_of (kept ++ (x ∷ [])) k
    each k lt =
        ⊎_elim
        (λ (same : (nat_eq x.shipment k ≡ true) × (x.shipment ≡ k)).
        let legs : List Leg = route_at beginnings x.shipment ++ (leg_of x ∷ []) in
        ap (λ n. route_at (slice_set beginnings x.shipment legs) n) (sym same.1)
        ∙ get_or-set_same beginnings x.shipment legs [] there
        ∙ ap (λ n. route_at beginnings n ++ (leg_of x ∷ [])) same.1
        ∙ ap (λ (ls : List Leg). ls ++ (leg_of x ∷ [])) (are.exact k lt)
        ∙ sym (kept_of-same kept x k same.1))
        (λ (other : (nat_eq x.shipment k ≡ false) × (x.shipment ≢ k)).
        get_or-set_other beginnings x.shipment k (route_at beginnings x.shipment ++ (leg_of x ∷ [])) [] (λ e. other.1 (sym e))
        ∙ are.exact k lt ∙ sym (kept_of-other kept x k other.0))
        (eqb_tells x.shipment k)

-- where a shipment is after one more leg
pub place_after-push : (p : Problem) (origin : ℕ) (legs : List Leg) (l : Leg) → place_after p origin (legs ++ (l ∷ [])) ≡ (arc_at p l.arc).to
place_after-push p origin [] l = refl
place_after-push p origin (m ∷ legs) l = place_after-push p (arc_at p m.arc).to legs l

pub arcs_of-push : (legs : List Leg) (l : Leg) → arcs_of (legs ++ (l ∷ [])) ≡ arcs_of legs ++ (l.arc ∷ [])
arcs_of-push legs l = map-append (λ (m : Leg). m.arc) legs (l ∷ [])

pub places_seen-push : (p : Problem) (origin : ℕ) (legs : List Leg) (l : Leg) → places_seen p origin (legs ++ (l ∷ [])) ≡ places_seen p origin legs ++ ((arc_at p l.arc).to ∷ [])
places_seen-push p origin legs l =
    ap (λ xs. origin ∷ xs) (ap (ends_of p) (arcs_of-push legs l) ∙ map-append (λ a. (arc_at p a).to) (arcs_of legs) (l.arc ∷ []))

-- legs with which a route may begin, and an arc that goes on
pub IsBeginning-nil : (p : Problem) (s : Shipment) → IsBeginning p s []
IsBeginning-nil p s = record { leads = refl; once = AreDistinct-cons s.from [] tt AreDistinct-nil; onward = tt }

pub IsBeginning-push : (p : Problem) (s : Shipment) (legs : List Leg) (l : Leg) → IsBeginning p s legs → l.arc < length p.arcs → goes_on p s legs l.arc ≡ true →
    IsBeginning p s (legs ++ (l ∷ []))
IsBeginning-push p s legs l begin exists on =
    let here : ℕ = place_after p s.from legs in
    let to : ℕ = (arc_at p l.arc).to in
    let parts = and_parts (((arc_at p l.arc).from == here) && not (here == s.to)) (not (list_has (places_seen p s.from legs) to)) on in
    let first = and_parts ((arc_at p l.arc).from == here) (not (here == s.to)) parts.0 in
    let from : (arc_at p l.arc).from ≡ here = eqb-true (arc_at p l.arc).from here first.0 in
    let away : (here == s.to) ≡ false = not-true (here == s.to) first.1 in
    let new : list_has (places_seen p s.from legs) to ≡ false = not-true (list_has (places_seen p s.from legs) to) parts.1 in
    record {
      leads =
          rw (place_after-push p s.from legs l, arcs_of-push legs l)
          (Leads-append p s.from here to (arcs_of legs) (l.arc ∷ []) begin.leads (exists, from, refl));
      once = subst AreDistinct (sym (places_seen-push p s.from legs l)) (AreDistinct-push (places_seen p s.from legs) to begin.once (list_has-apart (places_seen p s.from legs) to new));
      onward =
          AllByRecursion-push (λ (m : Leg). (arc_at p m.arc).from ≢ s.to) legs l begin.onward
          (λ e. false≢true (sym away ∙ eq-eqb here s.to (sym from ∙ e)));
    }

-- the kept legs of a shipment, up to and without a kept leg
begins_up_to : (p : Problem) (kept : List Kept) (k n : ℕ) → AreKept p kept → n ≤ length kept → IsBeginning p (shipment_at p k) (kept_of (take n kept) k)
begins_up_to p kept k zero are le = IsBeginning-nil p (shipment_at p k)
begins_up_to p kept k (suc n) are le =
    let x : Kept = slice_index_or kept n no_kept in
    let lt : n < length kept = omega (arith, le) in
    let before = begins_up_to p kept k n are (omega (arith, le)) in
    let can : CanKeep p (take n kept) x = are n lt in
    let more : take (suc n) kept ≡ take n kept ++ (x ∷ []) = ap (λ m. take m kept) (let e : suc n ≡ n + 1 = omega arith in e) ∙ take_more kept n no_kept lt in
    subst (λ ks. IsBeginning p (shipment_at p k) (kept_of ks k)) (sym more)
    (⊎_elim
    (λ (same : (nat_eq x.shipment k ≡ true) × (x.shipment ≡ k)).
    let on : goes_on p (shipment_at p k) (kept_of (take n kept) k) x.arc ≡ true =
    subst (λ m. goes_on p (shipment_at p m) (kept_of (take n kept) m) x.arc ≡ true) same.1 can.on in
    subst (IsBeginning p (shipment_at p k)) (sym (kept_of-same (take n kept) x k same.1))
    (IsBeginning-push p (shipment_at p k) (kept_of (take n kept) k) (leg_of x) before can.arc on))
    (λ (other : (nat_eq x.shipment k ≡ false) × (x.shipment ≢ k)).
    subst (IsBeginning p (shipment_at p k)) (sym (kept_of-other (take n kept) x k other.0)) before)
    (eqb_tells x.shipment k))

-- a route of a shipment may begin with its kept legs
pub IsBeginning-kept : (p : Problem) (kept : List Kept) (k : ℕ) → AreKept p kept → IsBeginning p (shipment_at p k) (kept_of kept k)
IsBeginning-kept p kept k are =
    let all : take (length kept) kept ≡ kept = take_all (length kept) kept (omega arith) in
    subst (λ ks. IsBeginning p (shipment_at p k) (kept_of ks k)) all (begins_up_to p kept k (length kept) are (omega arith))

-- the arcs of legs with which a route may begin exist
pub arcs-exist : (p : Problem) (s : Shipment) (legs : List Leg) → IsBeginning p s legs → ArcsExist p legs
arcs-exist p s legs begin = legs-exist p legs (Leads-exist p s.from (arcs_of legs) (place_after p s.from legs) begin.leads)

pub beginning-arcs : (p : Problem) (kept : List Kept) (count k : ℕ) (beginnings : List (List Leg)) → AreKept p kept → AreBeginnings kept count beginnings → k < count →
    ArcsExist p (route_at beginnings k)
beginning-arcs p kept count k beginnings kept_are are lt =
    subst (ArcsExist p) (sym (are.exact k lt)) (arcs-exist p (shipment_at p k) (kept_of kept k) (IsBeginning-kept p kept k kept_are))

-- one more leg that can be kept
pub AreKept-push : (p : Problem) (kept : List Kept) (x : Kept) → AreKept p kept → CanKeep p kept x → AreKept p (kept ++ (x ∷ []))
AreKept-push p kept x are can i lt =
    ⊎_elim
    (λ (before : i < length kept).
    rw (take-append-le i kept (x ∷ []) (omega (arith, before)), get_or_append_left kept (x ∷ []) no_kept i before) (are i before))
    (λ (after : length kept ≤ i).
    let same : length kept ≡ i = omega (arith, lt, after, length-append kept (x ∷ [])) in
    rw (take_at kept (x ∷ []) i same, get_or_push kept x no_kept i same) can)
    (cases_lt i (length kept))
