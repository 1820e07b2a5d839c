-- Parts of what is left, gathered shipment by shipment.
use Rattle.std.proofs.Common.{◌≡◌, ℕ, ◌+◌, ◌<◌, ◌≤◌, true, false, List, [], ◌∷◌, ◌++◌, length, get_or, map, sym, ap, ◌∙◌, subst, arith, append-nil, ⊎_elim}
use Rattle.std.specs.Prelude.{cond, AllPairs}
use Rattle.std.specs.List.{AllByRecursion, AllZip}
use Rattle.std.proofs.lemmas.Bool.{cases_lt}
use Rattle.std.proofs.lemmas.List.{length-map, map-append}
use Rattle.std.proofs.lemmas.Slice.Zip.{AllZip-long}
use Rattle.std.specs.declared.alloc.Global.{Global}
use Rattle.std.specs.declared.vec.Vec.{Vec}
use Rattle.fp_base_lists.specs.Vectors.{lists_of}
use Rattle.fp_base_lists.proofs.Elements.{AllByRecursion-push}
use Rattle.fp_base_lists.proofs.Numbered.{AllZip-get_or}
use Rattle.fp_model.specs.declared.parts.Leg.{Leg}
use Rattle.fp_model.specs.declared.parts.Shipment.{Shipment}
use Rattle.fp_model.specs.Problem.{IsShipment, IsValid, Problem}
use Rattle.fp_replan.specs.declared.kept.Kept.{Kept}
use Rattle.fp_replan.specs.declared.kept.TheConstants.{MOST_KEPT}
use Rattle.fp_replan.specs.KeptLegs.{AreKept, scaled}
use Rattle.fp_replan.specs.KeptWindows.{CanBeKept}
use Rattle.fp_replan_present.specs.declared.rests.Rest.{Rest}
use Rattle.fp_replan_present.specs.declared.parts.Parts.{Parts}
use Rattle.fp_replan_present.specs.declared.standings.Going.{Going}
use Rattle.fp_replan_present.specs.Days.{AreTracked, Day}
use Rattle.fp_replan_present.specs.Parts.{AreParts, CanGoOn, IsStart}
use Rattle.fp_replan_present.specs.Plans.{HasLegsUnderway, IsStuckUnderway, UnderwayExists, gone_of, listed, settled_legs}
use Rattle.fp_replan_present.specs.Rests.{IsOpen, IsRest, IsSettled, is_left, left_numbers, left_problem, moved, passing, promised_among, renumbered}
use Rattle.fp_replan_present.specs.Standings.{IsGoing, IsWayOn}
use Rattle.fp_replan_present.proofs.Numbers.{length-listed, listed-more, passing-few, passing-more, passing-up}
use Rattle.fp_replan_present.proofs.PromisedLegs.{AreKept-left, among-few}
use Rattle.fp_replan_present.proofs.RestPlans.{AreOnward, onward-each}
use Rattle.fp_replan_present.proofs.RestRoutes.{underway-delivered}
use Rattle.fp_replan_present.proofs.ShipmentWays.{onward-way, underway-way}
use Rattle.fp_model.specs.Numbered.{no_shipment, route_at}

-- what holds of each number below a bound, and of the bound
each-more : (P : ℕ → Type 0) (n : ℕ) → ((k : ℕ) → k < n → P k) → P n → (k : ℕ) → k < n + 1 → P k
each-more P n each last k lt =
    ⊎_elim (λ (before : k < n). each k before) (λ (after : n ≤ k). let same : n ≡ k = omega (arith, lt, after) in subst P same last) (cases_lt k n)

-- one more pair of elements
pairs-more : (R : ℕ → List Leg → Type 0) (ks : List ℕ) (routes : List (List Leg)) (k : ℕ) (legs : List Leg) → AllZip R ks routes → R k legs → AllZip R (ks ++ (k ∷ [])) (routes ++ (legs ∷ []))
pairs-more R [] [] k legs all last = (last, tt)
pairs-more R [] (r ∷ routes) k legs all last = absurd all
pairs-more R (j ∷ ks) [] k legs all last = absurd all
pairs-more R (j ∷ ks) (r ∷ routes) k legs all last = (all.0, pairs-more R ks routes k legs all.1 last)

-- the settled legs of one more shipment
settled-more : (day : Day) (n : ℕ) (before after : List (Vec Leg Global)) (legs : Vec Leg Global) → lists_of before ≡ listed (settled_legs day) n → legs.items ≡ settled_legs day n →
    after ≡ before ++ (legs ∷ []) → lists_of after ≡ listed (settled_legs day) (n + 1)
settled-more day n before after legs are own pushed =
    ap lists_of pushed
    ∙ map-append (λ (v : Vec Leg Global). v.items) before (legs ∷ [])
    ∙ ap (λ (ls : List (List Leg)). ls ++ (legs.items ∷ [])) are
    ∙ ap (λ (ls : List Leg). listed (settled_legs day) n ++ (ls ∷ [])) own
    ∙ sym (listed-more (settled_legs day) n)

-- one more shipment that is delivered
pub AreParts-delivered : (p : Problem) (day : Day) (n : ℕ) (parts more : Parts) (legs : Vec Leg Global) → IsValid p → AreTracked p day → n < length p.shipments → AreParts p day n parts →
    legs.items ≡ settled_legs day n → IsSettled p day n → is_left p day n ≡ false → more.numbers.items ≡ parts.numbers.items → more.shipments.items ≡ parts.shipments.items →
    more.gone.items ≡ parts.gone.items → more.routes.items ≡ parts.routes.items → more.settled.items ≡ parts.settled.items ++ (legs ∷ []) → AreParts p day (n + 1) more
AreParts-delivered p day n parts more legs valid tracked lt are own settled delivered numbers shipments gone routes pushed =
    let same : passing (is_left p day) (n + 1) ≡ passing (is_left p day) n =
    passing-more (is_left p day) n ∙ ap (λ b. passing (is_left p day) n ++ cond b (n ∷ []) []) delivered ∙ append-nil (passing (is_left p day) n) in
    record {
      numbers = numbers ∙ are.numbers ∙ sym same;
      shipments = shipments ∙ are.shipments ∙ ap (map (moved p day)) (sym same);
      gone = ap lists_of gone ∙ are.gone ∙ ap (map (gone_of p day)) (sym same);
      settled = settled-more day n parts.settled.items more.settled.items legs are.settled own pushed;
      routes = subst (λ (ks : List ℕ). AllZip (IsWayOn p day) ks (lists_of more.routes.items)) (sym same) (subst (λ (vs : List (Vec Leg Global)). AllZip (IsWayOn p day) (passing (is_left p day) n) (lists_of vs)) (sym routes) are.routes);
      within = subst (AllByRecursion (λ k. IsShipment (length p.terminals) (moved p day k))) (sym same) are.within;
      are = each-more (IsSettled p day) n are.are settled;
      under = each-more (HasLegsUnderway p day) n are.under
          (1, map (scaled 1) (settled_legs day n) ++ [], omega arith, underway-delivered p day 1 n tracked settled (valid.parts.shipments n no_shipment lt).ends delivered);
    }

-- one more that goes on
pub AreParts-left : (p : Problem) (day : Day) (n : ℕ) (parts more : Parts) (legs : Vec Leg Global) (going : Going) → AreTracked p day → AreParts p day n parts →
    legs.items ≡ settled_legs day n → IsSettled p day n → is_left p day n ≡ true → IsGoing p day n going → more.numbers.items ≡ parts.numbers.items ++ (n ∷ []) →
    more.shipments.items ≡ parts.shipments.items ++ (going.shipment ∷ []) → more.gone.items ≡ parts.gone.items ++ (going.gone ∷ []) → more.routes.items ≡ parts.routes.items ++ (going.route ∷ []) →
    more.settled.items ≡ parts.settled.items ++ (legs ∷ []) → AreParts p day (n + 1) more
AreParts-left p day n parts more legs going tracked are own settled left is numbers shipments gone routes pushed =
    let so_far : List ℕ = passing (is_left p day) n in
    let same : passing (is_left p day) (n + 1) ≡ so_far ++ (n ∷ []) = passing-more (is_left p day) n ∙ ap (λ b. so_far ++ cond b (n ∷ []) []) left in
    record {
      numbers = numbers ∙ ap (λ (ks : List ℕ). ks ++ (n ∷ [])) are.numbers ∙ sym same;
      shipments =
          shipments
          ∙ ap (λ (ss : List Shipment). ss ++ (going.shipment ∷ [])) are.shipments
          ∙ ap (λ (s : Shipment). map (moved p day) so_far ++ (s ∷ [])) is.shipment
          ∙ sym (map-append (moved p day) so_far (n ∷ []))
          ∙ ap (map (moved p day)) (sym same);
      gone =
          ap lists_of gone
          ∙ map-append (λ (v : Vec ℕ Global). v.items) parts.gone.items (going.gone ∷ [])
          ∙ ap (λ (ls : List (List ℕ)). ls ++ (going.gone.items ∷ [])) are.gone
          ∙ ap (λ (ts : List ℕ). map (gone_of p day) so_far ++ (ts ∷ [])) is.gone
          ∙ sym (map-append (gone_of p day) so_far (n ∷ []))
          ∙ ap (map (gone_of p day)) (sym same);
      settled = settled-more day n parts.settled.items more.settled.items legs are.settled own pushed;
      routes =
          subst (λ (ks : List ℕ). AllZip (IsWayOn p day) ks (lists_of more.routes.items)) (sym same)
          (subst (λ (ls : List (List Leg)). AllZip (IsWayOn p day) (so_far ++ (n ∷ [])) ls) (sym (ap lists_of routes ∙ map-append (λ (v : Vec Leg Global). v.items) parts.routes.items (going.route ∷ [])))
          (pairs-more (IsWayOn p day) so_far (lists_of parts.routes.items) n going.route.items are.routes is.route));
      within =
          subst (AllByRecursion (λ k. IsShipment (length p.terminals) (moved p day k))) (sym same)
          (AllByRecursion-push (λ k. IsShipment (length p.terminals) (moved p day k)) so_far n are.within is.within);
      are = each-more (IsSettled p day) n are.are settled;
      under = each-more (HasLegsUnderway p day) n are.under (underway-way p day n going.route.items tracked settled is.route);
    }

-- where a shipment is stuck no plan is under way
pub none-underway : (p : Problem) (day : Day) (k : ℕ) → IsStuckUnderway p day k → UnderwayExists p day → ⊥
none-underway p day k stuck (d, routes, some, under) = stuck.none (d, route_at routes k, some, under.each k stuck.exists)

-- what is left of all shipments, with its kept legs, and a plan of it
pub IsStart-parts : (p : Problem) (day : Day) (parts : Parts) → AreTracked p day → AreParts p day (length p.shipments) parts → IsStart p day (lists_of parts.routes.items)
IsStart-parts p day parts tracked are =
    let routes : List (List Leg) = lists_of parts.routes.items in
    let long : length routes ≡ length (left_numbers p day) = AllZip-long (IsWayOn p day) (left_numbers p day) routes are.routes in
    let on : AreOnward p day 1 routes =
    onward-each p day 1 routes tracked long
    (λ j lt. onward-way p day (get_or (left_numbers p day) j 0) (route_at routes j) (AllZip-get_or (IsWayOn p day) (left_numbers p day) routes j 0 [] are.routes lt)) in
    record { plan = on.plan; keeps = on.keeps; away = on.away; go_on = are.routes }

pub IsOpen-parts : (p : Problem) (day : Day) (parts : Parts) → AreTracked p day → AreParts p day (length p.shipments) parts → IsOpen p day
IsOpen-parts p day parts tracked are = record { tracked = tracked; settled = are.are }

pub CanGoOn-rest : (p : Problem) (day : Day) (rest : Rest) (start : List (List Leg)) → IsValid p → AreTracked p day → length day.legs ≤ MOST_KEPT → IsRest p day rest → IsStart p day start → CanGoOn rest
CanGoOn-rest p day rest start valid tracked few is from = record {
  kept = subst (λ (q : Problem). AreKept q rest.kept.items) (sym is.instance) (subst (AreKept (left_problem p day)) (sym is.kept) (AreKept-left p day tracked));
  few = omega (
    arith,
    few,
    ap (λ (ks : List Kept). length ks) is.kept,
    length-map (promised_among day.time day.legs) (renumbered (left_numbers p day)),
    among-few day.time day.legs,
  );
  can =
      subst (λ (q : Problem). CanBeKept q rest.kept.items) (sym is.instance)
      (subst (CanBeKept (left_problem p day)) (sym is.kept) (1, start, omega arith, from.plan, from.keeps));
  gone = sym (length-map rest.gone.items (λ (v : Vec ℕ Global). v.items)) ∙ ap (λ (ls : List (List ℕ)). length ls) is.gone ∙ length-map (left_numbers p day) (gone_of p day) ∙ all;
  numbers = ap (λ (ks : List ℕ). length ks) is.numbers ∙ all;
  few_numbers = omega (
    arith,
    ap (λ (ks : List ℕ). length ks) is.numbers,
    passing-few (is_left p day) (length p.shipments),
    valid.parts.few_shipments,
  );
  ascend = subst (AllPairs (λ a b. a < b)) (sym is.numbers) (passing-up (is_left p day) (length p.shipments));
  few_settled = omega (
    arith,
    ap (λ (ls : List (List Leg)). length ls) is.settled,
    length-listed (settled_legs day) (length p.shipments),
    valid.parts.few_shipments,
  );
}
  where
    all : length (left_numbers p day) ≡ length rest.instance.shipments
    all = sym (length-map (left_numbers p day) (moved p day)) ∙ ap (λ (q : Problem). length q.shipments) (sym is.instance)
