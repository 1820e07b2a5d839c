-- The legs of a shipment that is under way, and those of what is left of it.
use Rattle.std.proofs.Common.{◌≡◌, ◌≢◌, ℕ, true, false, List, [], ◌∷◌, ◌++◌, length, map, drop, refl, sym, ap, ◌∙◌, subst, arith, append-nil, eq-eqb, eqb-true}
use Rattle.std.specs.Prelude.{◌==◌}
use Rattle.std.proofs.Math.Seq.{drop-append_seam}
use Rattle.std.proofs.lemmas.Bool.{false≢true, not-false, not_from_true}
use Rattle.std.proofs.lemmas.List.{length-map}
use Rattle.fp_base_lists.specs.Distinct.{AreDistinct}
use Rattle.fp_base_lists.specs.Membership.{list_has}
use Rattle.fp_base_lists.proofs.Distinct.{AreDistinct-tail}
use Rattle.fp_model.specs.declared.parts.Leg.{Leg}
use Rattle.fp_model.specs.declared.parts.Shipment.{Shipment}
use Rattle.fp_model.specs.Numbered.{shipment_at}
use Rattle.fp_model.specs.Problem.{Problem}
use Rattle.fp_model.specs.Routes.{Carries, Leads, arcs_of, ends_of}
use Rattle.fp_flatnet.proofs.LeastWalks.{Leads-append}
use Rattle.fp_replan.specs.Beginnings.{IsBeginning}
use Rattle.fp_replan.specs.KeptLegs.{BeginWith, places_seen, scaled}
use Rattle.fp_replan.specs.Starts.{Avoids}
use Rattle.fp_replan.proofs.BegunRoutes.{distinct-join, distinct-parts, end-avoids, leads-after, place-seen, seen-append}
use Rattle.fp_replan.proofs.KeptRoutes.{arcs-begin}
use Rattle.fp_replan_present.specs.declared.presents.Tracked.{Tracked}
use Rattle.fp_replan_present.specs.Days.{AreTracked, Day, legs_of}
use Rattle.fp_replan_present.specs.Plans.{GoesUnderway, gone_of, place_of, promised_of, settled_legs}
use Rattle.fp_replan_present.specs.Rests.{IsSettled, is_left, moved}
use Rattle.fp_replan_present.proofs.Beginnings.{begin-first, distinct-after}
use Rattle.fp_replan_present.proofs.PromisedLegs.{begin-tracked, left-promised}

-- what is left of a shipment that isn't delivered: legs that carry it from where it is, begin with the
-- promised legs, and enter no terminal where it was
pub record GoesOnward (p : Problem) (day : Day) (d k : ℕ) (rest : List Leg) : Type 0 where
  pub carries : Carries p d (moved p day k) rest
  pub keeps : BeginWith d (legs_of (promised_of day k)) rest
  pub avoids : Avoids p (gone_of p day k) (arcs_of rest)

-- a shipment that isn't delivered isn't at its destination, and one that is delivered is there
pub left-away : (p : Problem) (day : Day) (k : ℕ) → is_left p day k ≡ true → place_of p day k ≢ (shipment_at p k).to
left-away p day k left there = false≢true (sym (not_from_true (place_of p day k == (shipment_at p k).to) (eq-eqb (place_of p day k) (shipment_at p k).to there)) ∙ left)

pub delivered-there : (p : Problem) (day : Day) (k : ℕ) → is_left p day k ≡ false → place_of p day k ≡ (shipment_at p k).to
delivered-there p day k not_left = eqb-true (place_of p day k) (shipment_at p k).to (not-false (place_of p day k == (shipment_at p k).to) not_left)

-- the route may begin with the settled legs
pub begin-settled : (p : Problem) (day : Day) (k : ℕ) → AreTracked p day → IsBeginning p (shipment_at p k) (settled_legs day k)
begin-settled p day k are = begin-first p (shipment_at p k) (settled_legs day k) (legs_of (promised_of day k)) (begin-tracked p day k are)

-- the settled legs and such a rest are under way
pub underway-from_onward : (p : Problem) (day : Day) (d k : ℕ) (rest : List Leg) → AreTracked p day → IsSettled p day k → GoesOnward p day d k rest →
    GoesUnderway p day d k (map (scaled d) (settled_legs day k) ++ rest)
underway-from_onward p day d k rest are settled on =
    let s : Shipment = shipment_at p k in
    let front : List Leg = settled_legs day k in
    let here : ℕ = place_of p day k in
    let begin : IsBeginning p s front = begin-settled p day k are in
    let arcs : arcs_of (map (scaled d) front ++ rest) ≡ arcs_of front ++ arcs_of rest = arcs-begin d front rest in
    let along : Leads p s.from (arcs_of front ++ arcs_of rest) s.to = Leads-append p s.from here s.to (arcs_of front) (arcs_of rest) begin.leads on.carries.route.leads in
    let once : AreDistinct (places_seen p s.from front ++ ends_of p (arcs_of rest)) =
    distinct-join (places_seen p s.from front) (ends_of p (arcs_of rest)) begin.once (AreDistinct-tail here (ends_of p (arcs_of rest)) on.carries.route.once) on.avoids in
    record {
      rest = rest;
      begins = refl;
      route = record {
        some = λ e. on.carries.route.some (later-none (arcs_of front) (arcs_of rest) (sym arcs ∙ e));
        leads = subst (λ (walk : List ℕ). Leads p s.from walk s.to) (sym arcs) along;
        once = subst AreDistinct (sym (ap (λ (walk : List ℕ). s.from ∷ ends_of p walk) arcs ∙ seen-append p s.from front (arcs_of rest))) once;
      };
      order = settled.order;
      keeps = on.keeps;
      ready = on.carries.ready;
      due = on.carries.due;
      there = λ e. absurd (on.carries.route.some (ap arcs_of e));
    }
  where
    later-none : (xs ys : List ℕ) → xs ++ ys ≡ [] → ys ≡ []
    later-none [] ys e = e
    later-none (x ∷ xs) ys e = let long : length (x ∷ (xs ++ ys)) ≡ 0 = ap (λ (zs : List ℕ). length zs) e in absurd (omega (arith, long))

-- and what is under way has such a rest
pub onward-from_underway : (p : Problem) (day : Day) (d k : ℕ) (legs : List Leg) → is_left p day k ≡ true → (under : GoesUnderway p day d k legs) → GoesOnward p day d k under.rest
onward-from_underway p day d k legs left under =
    let s : Shipment = shipment_at p k in
    let front : List Leg = settled_legs day k in
    let here : ℕ = place_of p day k in
    let rest : List Leg = under.rest in
    let arcs : arcs_of legs ≡ arcs_of front ++ arcs_of rest = ap arcs_of under.begins ∙ arcs-begin d front rest in
    let leads : Leads p here (arcs_of rest) s.to = leads-after p s.from front (arcs_of rest) s.to (subst (λ (walk : List ℕ). Leads p s.from walk s.to) arcs under.route.leads) in
    let once : AreDistinct (s.from ∷ ends_of p (arcs_of front ++ arcs_of rest)) = subst (λ (walk : List ℕ). AreDistinct (s.from ∷ ends_of p walk)) arcs under.route.once in
    record {
      carries = record {
        route = record {
          some = λ e. left-away p day k left (subst (λ (walk : List ℕ). Leads p here walk s.to) e leads);
          leads = leads;
          once = distinct-after p s.from front (arcs_of rest) once;
        };
        ready = under.ready;
        due = under.due;
      };
      keeps = under.keeps;
      avoids = distinct-parts (places_seen p s.from front) (ends_of p (arcs_of rest)) (subst AreDistinct (seen-append p s.from front (arcs_of rest)) once);
    }

-- the settled legs of a delivered shipment are under way by themselves
pub underway-delivered : (p : Problem) (day : Day) (d k : ℕ) → AreTracked p day → IsSettled p day k → (shipment_at p k).from ≢ (shipment_at p k).to → is_left p day k ≡ false →
    GoesUnderway p day d k (map (scaled d) (settled_legs day k) ++ [])
underway-delivered p day d k are settled ends delivered =
    let s : Shipment = shipment_at p k in
    let front : List Leg = settled_legs day k in
    let begin : IsBeginning p s front = begin-settled p day k are in
    let there : place_of p day k ≡ s.to = delivered-there p day k delivered in
    let arcs : arcs_of (map (scaled d) front ++ []) ≡ arcs_of front = arcs-begin d front [] ∙ append-nil (arcs_of front) in
    let along : Leads p s.from (arcs_of front) s.to = subst (λ e. Leads p s.from (arcs_of front) e) there begin.leads in
    record {
      rest = [];
      begins = refl;
      route = record {
        some = λ e. ends (subst (λ (walk : List ℕ). Leads p s.from walk s.to) (sym arcs ∙ e) along);
        leads = subst (λ (walk : List ℕ). Leads p s.from walk s.to) (sym arcs) along;
        once = subst (λ (walk : List ℕ). AreDistinct (s.from ∷ ends_of p walk)) (sym arcs) begin.once;
      };
      order = settled.order;
      keeps = subst (λ (ls : List Leg). BeginWith d ls []) (sym (none (promised_of day k) refl)) ([], refl);
      ready = tt;
      due = tt;
      there = λ e. settled.there delivered;
    }
  where
    none : (xs : List Tracked) → promised_of day k ≡ xs → legs_of (promised_of day k) ≡ []
    none [] e = ap legs_of e
    none (x ∷ xs) e = absurd (false≢true (sym delivered ∙ left-promised p day k are (λ empty. some x xs (sym e ∙ empty))))
      where
        some : (y : Tracked) (ys : List Tracked) → y ∷ ys ≡ [] → ⊥
        some y ys same = let long : length (y ∷ ys) ≡ 0 = ap (λ (zs : List Tracked). length zs) same in omega (arith, long)

-- and nothing is left of it
pub delivered-none : (p : Problem) (day : Day) (d k : ℕ) (legs : List Leg) → is_left p day k ≡ false → (under : GoesUnderway p day d k legs) → under.rest ≡ []
delivered-none p day d k legs delivered under = by under.rest refl
  where
    by : (rest : List Leg) → under.rest ≡ rest → under.rest ≡ []
    by [] e = e
    by (l ∷ rest) e =
        let s : Shipment = shipment_at p k in
        let front : List Leg = settled_legs day k in
        let arcs : arcs_of legs ≡ arcs_of front ++ arcs_of (l ∷ rest) =
        ap arcs_of under.begins ∙ arcs-begin d front under.rest ∙ ap (λ (ls : List Leg). arcs_of front ++ arcs_of ls) e in
        let leads : Leads p (place_of p day k) (arcs_of (l ∷ rest)) s.to =
        leads-after p s.from front (arcs_of (l ∷ rest)) s.to (subst (λ (walk : List ℕ). Leads p s.from walk s.to) arcs under.route.leads) in
        let once : AreDistinct (places_seen p s.from front ++ ends_of p (arcs_of (l ∷ rest))) =
        subst AreDistinct (ap (λ (walk : List ℕ). s.from ∷ ends_of p walk) arcs ∙ seen-append p s.from front (arcs_of (l ∷ rest))) under.route.once in
        let avoids : Avoids p (places_seen p s.from front) (arcs_of (l ∷ rest)) = distinct-parts (places_seen p s.from front) (ends_of p (arcs_of (l ∷ rest))) once in
        absurd
        (false≢true
        (sym (end-avoids p (places_seen p s.from front) (place_of p day k) l.arc (arcs_of rest) s.to leads avoids)
        ∙ subst (λ t. list_has (places_seen p s.from front) t ≡ true) (delivered-there p day k delivered) (place-seen p s.from front)))

-- legs after settled ones
pub drop-scaled : (d : ℕ) (front rest : List Leg) → drop (length front) (map (scaled d) front ++ rest) ≡ rest
drop-scaled d front rest =
    ap (λ n. drop n (map (scaled d) front ++ rest)) (sym (length-map front (scaled d))) ∙ drop-append_seam (map (scaled d) front) rest

-- what legs under way have after the settled ones
pub rest-drop : (p : Problem) (day : Day) (d k : ℕ) (legs : List Leg) → (under : GoesUnderway p day d k legs) → drop (length (settled_legs day k)) legs ≡ under.rest
rest-drop p day d k legs under = ap (λ (ls : List Leg). drop (length (settled_legs day k)) ls) under.begins ∙ drop-scaled d (settled_legs day k) under.rest
