-- Routes are a plan under way exactly where they are the settled legs and a plan of what is left.
use Rattle.std.proofs.Common.{◌≡◌, ℕ, ◌+◌, ◌<◌, true, false, List, [], ◌++◌, length, get_or, map, drop, refl, sym, ap, ◌∙◌, subst, arith, ⊎_elim}
use Rattle.std.specs.Prelude.{cond, Option}
use Rattle.std.proofs.lemmas.Bool.{cases_Bool}
use Rattle.std.proofs.lemmas.List.{ext_get_or, get_or-map, length-map}
use Rattle.std.proofs.lemmas.Slice.Zip.{AllZip-long}
use Rattle.fp_base_lists.specs.Ascending.{place_in}
use Rattle.fp_base_lists.proofs.Elements.{AllByRecursion-get_or}
use Rattle.fp_base_lists.proofs.Numbered.{AllFrom-get_or_zero, AllZip-from_get_or, AllZip-get_or}
use Rattle.fp_base_lists.proofs.Places.{get_or-place_in, place_in-get_or}
use Rattle.fp_base_lists.specs.Vectors.{lists_of}
use Rattle.fp_model.specs.declared.parts.Leg.{Leg}
use Rattle.fp_model.specs.declared.parts.Shipment.{Shipment}
use Rattle.fp_model.specs.Costs.{cost}
use Rattle.fp_model.specs.Numbered.{no_shipment, route_at, shipment_at}
use Rattle.fp_model.specs.Plans.{IsPlan}
use Rattle.fp_model.specs.Problem.{IsValid, Problem}
use Rattle.fp_model.specs.Routes.{Carries, arcs_of}
use Rattle.fp_flatnet.specs.declared.window_tables.Window.{Window}
use Rattle.fp_replan.specs.declared.kept.Kept.{Kept}
use Rattle.fp_replan.specs.KeptLegs.{BeginWith, Keeps, kept_of, scaled}
use Rattle.fp_replan.specs.Starts.{Avoids}
use Rattle.fp_replan.proofs.KeptRoutes.{AllFrom-from_zero}
use Rattle.fp_replan.proofs.PlansWithout.{carries-same}
use Rattle.fp_replan_present.specs.declared.rests.Rest.{Rest}
use Rattle.fp_replan_present.specs.Days.{AreTracked, Day, legs_of}
use Rattle.fp_replan_present.specs.Plans.{GoesUnderway, IsPlanUnderway, NoneUnderwayCheaper, cost_underway, gone_of, listed, promised_of, rests_in, settled_legs, settled_lists}
use Rattle.fp_replan_present.specs.Rests.{IsRest, IsOpen, StayAway, gone_at, is_left, joined, left_gone, left_kept, left_numbers, left_problem, moved, rest_of, whole_of}
use Rattle.fp_replan_present.specs.Windows.{HasRests, NoneWithinCheaper, TellCheaper, TellRest, TellUnderway}
use Rattle.fp_replan_present.proofs.Numbers.{PassesBelow, get_or-listed, length-listed, listed-same, passing-each, passing-has, passing-up}
use Rattle.fp_replan_present.proofs.PromisedLegs.{kept_of-left, shipment-left}
use Rattle.fp_replan_present.proofs.RestCosts.{AreThinned, cost-thinned}
use Rattle.fp_replan_present.proofs.RestRoutes.{GoesOnward, delivered-none, drop-scaled, onward-from_underway, rest-drop, underway-delivered, underway-from_onward}

-- the number of a shipment that isn't delivered, and its place among those
pub record IsPlaced (p : Problem) (day : Day) (k j : ℕ) : Type 0 where
  pub within : j < length (left_numbers p day)
  pub is : get_or (left_numbers p day) j 0 ≡ k
  pub exists : k < length p.shipments
  pub left : is_left p day k ≡ true
  pub place : place_in (left_numbers p day) k ≡ j

pub placed-at : (p : Problem) (day : Day) (j : ℕ) → j < length (left_numbers p day) → IsPlaced p day (get_or (left_numbers p day) j 0) j
placed-at p day j lt =
    let numbers : List ℕ = left_numbers p day in
    let passes = AllByRecursion-get_or (PassesBelow (is_left p day) (length p.shipments)) numbers j 0 (passing-each (is_left p day) (length p.shipments)) lt in
    record { within = lt; is = refl; exists = passes.0; left = passes.1; place = place_in-get_or numbers j 0 (passing-up (is_left p day) (length p.shipments)) lt }

pub placed-left : (p : Problem) (day : Day) (k : ℕ) → k < length p.shipments → is_left p day k ≡ true → IsPlaced p day k (place_in (left_numbers p day) k)
placed-left p day k lt left =
    let numbers : List ℕ = left_numbers p day in
    let there = get_or-place_in numbers k (passing-up (is_left p day) (length p.shipments)) (passing-has (is_left p day) (length p.shipments) k lt left) in
    record { within = there.0; is = there.1 0; exists = lt; left = left; place = refl }

-- routes of what is left that are a plan, keep the promised legs and enter no terminal where the
-- shipment was
pub record AreOnward (p : Problem) (day : Day) (d : ℕ) (rests : List (List Leg)) : Type 0 where
  pub plan : IsPlan (left_problem p day) d rests
  pub keeps : Keeps (left_kept p day) d rests
  pub away : StayAway (left_problem p day) (left_gone p day) rests

-- where a shipment was, under its new number
gone-left : (p : Problem) (day : Day) (k j : ℕ) → IsPlaced p day k j → gone_at (left_gone p day) j ≡ gone_of p day k
gone-left p day k j placed = get_or-map (gone_of p day) (left_numbers p day) j 0 [] placed.within ∙ ap (gone_of p day) placed.is

-- are legs that go onward
onward-at : (p : Problem) (day : Day) (d k j : ℕ) (rests : List (List Leg)) → IsOpen p day → AreOnward p day d rests → IsPlaced p day k j → GoesOnward p day d k (route_at rests j)
onward-at p day d k j rests opened are placed =
    let ss : List Shipment = map (moved p day) (left_numbers p day) in
    let long : length rests ≡ length ss = AllZip-long (Carries (left_problem p day) d) ss rests are.plan in
    let all : length ss ≡ length (left_numbers p day) = length-map (left_numbers p day) (moved p day) in
    let there : j < length ss = omega (arith, placed.within, all) in
    let has : j < length rests = omega (arith, there, long) in
    let legs : List Leg = route_at rests j in
    let shipment : shipment_at (left_problem p day) j ≡ moved p day k = shipment-left p day j placed.within ∙ ap (moved p day) placed.is in
    let carries : Carries (left_problem p day) d (moved p day k) legs =
    subst (λ (s : Shipment). Carries (left_problem p day) d s legs) shipment (AllZip-get_or (Carries (left_problem p day) d) ss rests j no_shipment [] are.plan there) in
    let begins : BeginWith d (kept_of (left_kept p day) j) legs = AllFrom-get_or_zero (λ i ls. BeginWith d (kept_of (left_kept p day) i) ls) rests [] j are.keeps has in
    let promised : kept_of (left_kept p day) j ≡ legs_of (promised_of day k) =
    kept_of-left p day j opened.tracked placed.within ∙ ap (λ i. legs_of (promised_of day i)) placed.is in
    let away : Avoids (left_problem p day) (gone_at (left_gone p day) j) (arcs_of legs) =
    AllFrom-get_or_zero (λ i ls. Avoids (left_problem p day) (gone_at (left_gone p day) i) (arcs_of ls)) rests [] j are.away has in
    record {
      carries = carries-same (left_problem p day) p.shipments d (moved p day k) legs carries;
      keeps = subst (λ (ls : List Leg). BeginWith d ls legs) promised begins;
      avoids = subst (λ (gone : List ℕ). Avoids p gone (arcs_of legs)) (gone-left p day k j placed) away;
    }

-- routes of what is left are such where each goes onward
pub onward-each : (p : Problem) (day : Day) (d : ℕ) (rests : List (List Leg)) → AreTracked p day → length rests ≡ length (left_numbers p day) →
    ((j : ℕ) → j < length (left_numbers p day) → GoesOnward p day d (get_or (left_numbers p day) j 0) (route_at rests j)) → AreOnward p day d rests
onward-each p day d rests tracked long each = record {
  plan =
      AllZip-from_get_or (Carries (left_problem p day) d) (map (moved p day) (left_numbers p day)) rests no_shipment [] (long ∙ sym all)
      (λ j lt.
      let there : j < length (left_numbers p day) = omega (arith, lt, all) in
      let k : ℕ = get_or (left_numbers p day) j 0 in
      subst (λ (s : Shipment). Carries (left_problem p day) d s (route_at rests j)) (sym (shipment-left p day j there))
      (carries-same p (map (moved p day) (left_numbers p day)) d (moved p day k) (route_at rests j) (each j there).carries));
  keeps = AllFrom-from_zero (λ j ls. BeginWith d (kept_of (left_kept p day) j) ls) rests [] (λ j lt.
      let there : j < length (left_numbers p day) = omega (arith, lt, long) in
      subst (λ (ls : List Leg). BeginWith d ls (route_at rests j)) (sym (kept_of-left p day j tracked there)) (each j there).keeps);
  away = AllFrom-from_zero (λ j ls. Avoids (left_problem p day) (gone_at (left_gone p day) j) (arcs_of ls)) rests [] (λ j lt.
      let there : j < length (left_numbers p day) = omega (arith, lt, long) in
      let k : ℕ = get_or (left_numbers p day) j 0 in
      subst (λ (gone : List ℕ). Avoids p gone (arcs_of (route_at rests j))) (sym (gone-left p day k j (placed-at p day j there))) (each j there).avoids);
}
  where
    all : length (map (moved p day) (left_numbers p day)) ≡ length (left_numbers p day)
    all = length-map (left_numbers p day) (moved p day)

-- what is left of routes under way
abbrev pub onward_rests : Problem → Day → List (List Leg) → List (List Leg)
onward_rests p day routes = map (λ k. drop (length (settled_legs day k)) (route_at routes k)) (left_numbers p day)

rests-long : (p : Problem) (day : Day) (routes : List (List Leg)) → length (onward_rests p day routes) ≡ length (left_numbers p day)
rests-long p day routes = length-map (left_numbers p day) (λ k. drop (length (settled_legs day k)) (route_at routes k))

-- at its place stands what the route of the shipment has after its settled legs
rest-at : (p : Problem) (day : Day) (d k j : ℕ) (routes : List (List Leg)) → IsPlaced p day k j → (under : GoesUnderway p day d k (route_at routes k)) →
    route_at (onward_rests p day routes) j ≡ under.rest
rest-at p day d k j routes placed under =
    get_or-map (λ i. drop (length (settled_legs day i)) (route_at routes i)) (left_numbers p day) j 0 [] placed.within
    ∙ ap (λ i. drop (length (settled_legs day i)) (route_at routes i)) placed.is
    ∙ rest-drop p day d k (route_at routes k) under

-- it goes onward
rest-onward : (p : Problem) (day : Day) (d j : ℕ) (routes : List (List Leg)) → IsPlanUnderway p day d routes → j < length (left_numbers p day) →
    GoesOnward p day d (get_or (left_numbers p day) j 0) (route_at (onward_rests p day routes) j)
rest-onward p day d j routes under lt =
    let k : ℕ = get_or (left_numbers p day) j 0 in
    let placed : IsPlaced p day k j = placed-at p day j lt in
    let each : GoesUnderway p day d k (route_at routes k) = under.each k placed.exists in
    subst (GoesOnward p day d k) (sym (rest-at p day d k j routes placed each)) (onward-from_underway p day d k (route_at routes k) placed.left each)

-- so it is a plan of what is left, keeps the promised legs and stays away from where the shipments were
pub onward-from : (p : Problem) (day : Day) (d : ℕ) (routes : List (List Leg)) → IsOpen p day → IsPlanUnderway p day d routes → AreOnward p day d (onward_rests p day routes)
onward-from p day d routes opened under =
    onward-each p day d (onward_rests p day routes) opened.tracked (rests-long p day routes) (λ j lt. rest-onward p day d j routes under lt)

-- and the routes are the settled legs with it
rest_of-left : (p : Problem) (day : Day) (rests : List (List Leg)) (k : ℕ) → is_left p day k ≡ true → rest_of p day rests k ≡ route_at rests (place_in (left_numbers p day) k)
rest_of-left p day rests k left = ap (λ b. cond b (route_at rests (place_in (left_numbers p day) k)) []) left

rest_of-delivered : (p : Problem) (day : Day) (rests : List (List Leg)) (k : ℕ) → is_left p day k ≡ false → rest_of p day rests k ≡ []
rest_of-delivered p day rests k delivered = ap (λ b. cond b (route_at rests (place_in (left_numbers p day) k)) []) delivered

pub joined-from : (p : Problem) (day : Day) (d : ℕ) (routes : List (List Leg)) → IsPlanUnderway p day d routes → routes ≡ joined p day d (onward_rests p day routes)
joined-from p day d routes under =
    ext_get_or [] routes (joined p day d (onward_rests p day routes)) (under.one_each ∙ sym (length-listed (whole_of p day d (onward_rests p day routes)) (length p.shipments)))
    (λ k lt. each k (omega (arith, lt, under.one_each)) ∙ sym (get_or-listed (whole_of p day d (onward_rests p day routes)) (length p.shipments) k [] (omega (arith, lt, under.one_each))))
  where
    each : (k : ℕ) → k < length p.shipments → route_at routes k ≡ map (scaled d) (settled_legs day k) ++ rest_of p day (onward_rests p day routes) k
    each k lt =
        let goes : GoesUnderway p day d k (route_at routes k) = under.each k lt in
        let front : List Leg = map (scaled d) (settled_legs day k) in
        goes.begins
        ∙ ap (λ (ls : List Leg). front ++ ls)
        (⊎_elim
        (λ (left : is_left p day k ≡ true).
        sym (rest_of-left p day (onward_rests p day routes) k left ∙ rest-at p day d k (place_in (left_numbers p day) k) routes (placed-left p day k lt left) goes))
        (λ (delivered : is_left p day k ≡ false).
        delivered-none p day d k (route_at routes k) delivered goes ∙ sym (rest_of-delivered p day (onward_rests p day routes) k delivered))
        (cases_Bool (is_left p day k)))

-- the whole routes of such routes are a plan under way
pub underway-from : (p : Problem) (day : Day) (d : ℕ) (rests : List (List Leg)) → IsValid p → IsOpen p day → AreOnward p day d rests → IsPlanUnderway p day d (joined p day d rests)
underway-from p day d rests valid opened are = record {
  one_each = length-listed (whole_of p day d rests) (length p.shipments);
  each = λ k lt. subst (GoesUnderway p day d k) (sym (get_or-listed (whole_of p day d rests) (length p.shipments) k [] lt)) (each k lt);
}
  where
    each : (k : ℕ) → k < length p.shipments → GoesUnderway p day d k (map (scaled d) (settled_legs day k) ++ rest_of p day rests k)
    each k lt =
        let front : List Leg = map (scaled d) (settled_legs day k) in
        ⊎_elim
        (λ (left : is_left p day k ≡ true).
        let j : ℕ = place_in (left_numbers p day) k in
        subst (λ (ls : List Leg). GoesUnderway p day d k (front ++ ls)) (sym (rest_of-left p day rests k left))
        (underway-from_onward p day d k (route_at rests j) opened.tracked (opened.settled k lt) (onward-at p day d k j rests opened are (placed-left p day k lt left))))
        (λ (delivered : is_left p day k ≡ false).
        subst (λ (ls : List Leg). GoesUnderway p day d k (front ++ ls)) (sym (rest_of-delivered p day rests k delivered))
        (underway-delivered p day d k opened.tracked (opened.settled k lt) (valid.parts.shipments k no_shipment lt).ends delivered))
        (cases_Bool (is_left p day k))

-- they cost as much more as the settled legs do
pub costs-joined : (p : Problem) (day : Day) (d : ℕ) (rests : List (List Leg)) → IsPlan (left_problem p day) d rests →
    cost_underway p day (joined p day d rests) ≡ cost p (settled_lists p day) + cost (left_problem p day) rests
costs-joined p day d rests plan = ap (λ n. cost p (settled_lists p day) + n) (ap (cost p) after ∙ sym (ap (cost (left_problem p day)) each ∙ cost-thinned p (is_left p day) (moved p day) (rest_of p day rests) thinned))
  where
    after : rests_in p day (joined p day d rests) ≡ listed (rest_of p day rests) (length p.shipments)
    after =
        listed-same (λ k. drop (length (settled_legs day k)) (route_at (joined p day d rests) k)) (rest_of p day rests) (length p.shipments)
        (λ k lt.
        ap (λ (ls : List Leg). drop (length (settled_legs day k)) ls) (get_or-listed (whole_of p day d rests) (length p.shipments) k [] lt) ∙ drop-scaled d (settled_legs day k) (rest_of p day rests k))

    long : length rests ≡ length (left_numbers p day)
    long = AllZip-long (Carries (left_problem p day) d) (map (moved p day) (left_numbers p day)) rests plan ∙ length-map (left_numbers p day) (moved p day)

    each : rests ≡ map (rest_of p day rests) (left_numbers p day)
    each =
        ext_get_or [] rests (map (rest_of p day rests) (left_numbers p day)) (long ∙ sym (length-map (left_numbers p day) (rest_of p day rests)))
        (λ j lt.
        let there : j < length (left_numbers p day) = omega (arith, lt, long) in
        let k : ℕ = get_or (left_numbers p day) j 0 in
        let placed : IsPlaced p day k j = placed-at p day j there in
        sym (get_or-map (rest_of p day rests) (left_numbers p day) j 0 [] there ∙ rest_of-left p day rests k placed.left ∙ ap (route_at rests) placed.place))

    thinned : AreThinned (is_left p day) (moved p day) (shipment_at p) (rest_of p day rests) (length p.shipments)
    thinned = record { sizes = λ k lt. refl; none = λ k lt delivered. rest_of-delivered p day rests k delivered }

-- what windows tell of a rest they tell of what is left
pub TellRest-left : (p : Problem) (day : Day) (rest : Rest) (windows : ℕ → ℕ → Option Window) → IsRest p day rest → TellRest rest.instance rest.kept.items (lists_of rest.gone.items) windows →
    TellRest (left_problem p day) (left_kept p day) (left_gone p day) windows
TellRest-left p day rest windows is tell =
    subst (λ (gone : List (List ℕ)). TellRest (left_problem p day) (left_kept p day) gone windows) is.gone
    (subst (λ (kept : List Kept). TellRest (left_problem p day) kept (lists_of rest.gone.items) windows) is.kept
    (subst (λ (q : Problem). TellRest q rest.kept.items (lists_of rest.gone.items) windows) is.instance tell))

-- windows in which the plans lie that keep the promised legs and stay away tell plans under way
pub TellUnderway-rest : (p : Problem) (day : Day) (windows : ℕ → ℕ → Option Window) → IsValid p → IsOpen p day → TellRest (left_problem p day) (left_kept p day) (left_gone p day) windows →
    TellUnderway p day windows
TellUnderway-rest p day windows valid opened tell d routes some = (apart, together)
  where
    apart : IsPlanUnderway p day d routes → HasRests p day windows d routes
    apart under =
        let rests : List (List Leg) = onward_rests p day routes in
        let are : AreOnward p day d rests = onward-from p day d routes opened under in
        let same : routes ≡ joined p day d rests = joined-from p day d routes under in
        record {
          rests = rests;
          same = same;
          plan = are.plan;
          within = (tell d rests some are.plan).1 (are.keeps, are.away);
          costs = ap (cost_underway p day) same ∙ costs-joined p day d rests are.plan;
        }

    together : HasRests p day windows d routes → IsPlanUnderway p day d routes
    together has =
        let told = (tell d has.rests some has.plan).0 has.within in
        subst (IsPlanUnderway p day d) (sym has.same) (underway-from p day d has.rests valid opened (record { plan = has.plan; keeps = told.0; away = told.1 }))

-- and so what they cost
pub TellCheaper-rest : (p : Problem) (day : Day) (windows : ℕ → ℕ → Option Window) → TellUnderway p day windows → TellCheaper p day windows
TellCheaper-rest p day windows tell c = (fewer, more)
  where
    fewer : NoneUnderwayCheaper p day (cost p (settled_lists p day) + c) → NoneWithinCheaper (left_problem p day) windows c
    fewer none d rests some plan within =
        let costs = costs-joined p day d rests plan in
        let has : HasRests p day windows d (joined p day d rests) = record { rests = rests; same = refl; plan = plan; within = within; costs = costs } in
        omega (arith, none d (joined p day d rests) some ((tell d (joined p day d rests) some).1 has), costs)

    more : NoneWithinCheaper (left_problem p day) windows c → NoneUnderwayCheaper p day (cost p (settled_lists p day) + c)
    more none d routes some under =
        let has = (tell d routes some).0 under in
        omega (arith, none d has.rests some has.plan has.within, has.costs)
