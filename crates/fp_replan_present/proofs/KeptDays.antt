-- A plan of a day of which kept legs alone are told is a plan that keeps them.
use Rattle.std.proofs.Common.{◌≡◌, ℕ, zero, suc, ◌*◌, true, false, List, [], ◌∷◌, ◌++◌, length, map, drop, refl, sym, ap, ◌∙◌, subst, arith, ⊎_elim}
use Rattle.std.specs.Prelude.{Option, None, ◌↔◌}
use Rattle.std.specs.List.{AllByRecursion, list_any}
use Rattle.std.proofs.lemmas.Bool.{cases_Bool}
use Rattle.std.proofs.lemmas.List.{ext_get_or}
use Rattle.std.proofs.lemmas.Slice.Zip.{AllZip-long}
use Rattle.fp_base_lists.proofs.Elements.{AllByRecursion-push}
use Rattle.fp_base_lists.proofs.Numbered.{AllFrom-get_or_zero, AllZip-from_get_or, AllZip-get_or}
use Rattle.fp_model.specs.declared.parts.Leg.{Leg}
use Rattle.fp_model.specs.declared.parts.Shipment.{Shipment}
use Rattle.fp_model.specs.Costs.{all_legs, cost, departures_cost, flow_cost, flow_total}
use Rattle.fp_model.specs.Numbered.{no_shipment, route_at, shipment_at}
use Rattle.fp_model.specs.Plans.{IsPlan}
use Rattle.fp_model.specs.Problem.{Problem}
use Rattle.fp_model.specs.Routes.{ArrivesBy, Carries, LeavesReady}
use Rattle.fp_replan.specs.declared.kept.Kept.{Kept}
use Rattle.fp_replan.specs.KeptLegs.{BeginWith, Keeps, kept_of, scaled}
use Rattle.fp_replan.proofs.KeptRoutes.{AllFrom-from_zero}
use Rattle.fp_replan_present.specs.declared.presents.Tracked.{Tracked}
use Rattle.fp_replan_present.specs.Days.{AreInOrder, HasArrivedBy, is_fixed, is_of, kept_in_tracked, legs_of, settled, settled_ready, tracked_of}
use Rattle.fp_replan_present.specs.KeptDays.{kept_day}
use Rattle.fp_replan_present.specs.Plans.{GoesUnderway, IsPlanUnderway, cost_underway, listed, promised_of, ready_of, rests_in, settled_legs, settled_of, sunk_cost}
use Rattle.fp_replan_present.specs.Records.{only_kept}
use Rattle.fp_replan_present.proofs.Numbers.{get_or-listed, length-listed, listed-same}
use Rattle.fp_replan_present.proofs.RestCosts.{all_legs-append}
use Rattle.fp_replan_present.proofs.SettledLegs.{kept_of-tracked, promised-all}

-- no leg of such a day is settled by itself
none-fixed : (kept : List Kept) (k : ℕ) → list_any (is_fixed None) (tracked_of (map only_kept kept) k) ≡ false
none-fixed [] k = refl
none-fixed (x ∷ kept) k =
    let later : list_any (is_fixed None) (tracked_of (map only_kept kept) k) ≡ false = none-fixed kept k in
    ⊎_elim (λ (own : is_of k (only_kept x) ≡ true). rw own later) (λ (other : is_of k (only_kept x) ≡ false). rw other later) (cases_Bool (is_of k (only_kept x)))

settled-none : (now : Option ℕ) (legs : List Tracked) → list_any (is_fixed now) legs ≡ false → settled now legs ≡ []
settled-none now [] none = refl
settled-none now (x ∷ legs) none = rw none refl

-- so none is settled, and all are promised
none-settled : (kept : List Kept) (k : ℕ) → settled_of (kept_day kept) k ≡ []
none-settled kept k = settled-none None (tracked_of (map only_kept kept) k) (none-fixed kept k)

kept-back : (kept : List Kept) → map kept_in_tracked (map only_kept kept) ≡ kept
kept-back [] = refl
kept-back (x ∷ kept) = ap (λ (xs : List Kept). x ∷ xs) (kept-back kept)

all-promised : (kept : List Kept) (k : ℕ) → legs_of (promised_of (kept_day kept) k) ≡ kept_of kept k
all-promised kept k =
    ap legs_of (promised-all None (tracked_of (map only_kept kept) k) (none-fixed kept k))
    ∙ sym (kept_of-tracked (map only_kept kept) k)
    ∙ ap (λ (xs : List Kept). kept_of xs k) (kept-back kept)

ready-kept : (p : Problem) (kept : List Kept) (k : ℕ) → ready_of p (kept_day kept) k ≡ (shipment_at p k).release
ready-kept p kept k = ap (λ (xs : List Tracked). settled_ready p (shipment_at p k).release xs) (none-settled kept k)

-- the legs of a shipment are under way where they carry it and begin with its kept legs
pub record CarryKept (p : Problem) (kept : List Kept) (d k : ℕ) (legs : List Leg) : Type 0 where
  pub carries : Carries p d (shipment_at p k) legs
  pub begin : BeginWith d (kept_of kept k) legs

kept-from_underway : (p : Problem) (kept : List Kept) (d k : ℕ) (legs : List Leg) → GoesUnderway p (kept_day kept) d k legs → CarryKept p kept d k legs
kept-from_underway p kept d k legs under =
    let s : Shipment = shipment_at p k in
    let same : legs ≡ under.rest = under.begins ∙ ap (λ (xs : List Tracked). map (scaled d) (legs_of xs) ++ under.rest) (none-settled kept k) in
    record {
      carries = record {
        route = under.route;
        ready = subst (LeavesReady p d (d * s.release)) (sym same) (subst (λ n. LeavesReady p d (d * n) under.rest) (ready-kept p kept k) under.ready);
        due = subst (ArrivesBy p d s.due) (sym same) under.due;
      };
      begin = subst (BeginWith d (kept_of kept k)) (sym same) (subst (λ (ls : List Leg). BeginWith d ls under.rest) (all-promised kept k) under.keeps);
    }

underway-from_kept : (p : Problem) (kept : List Kept) (d k : ℕ) (legs : List Leg) → CarryKept p kept d k legs → GoesUnderway p (kept_day kept) d k legs
underway-from_kept p kept d k legs carry =
    let s : Shipment = shipment_at p k in
    let none : settled_of (kept_day kept) k ≡ [] = none-settled kept k in
    record {
      rest = legs;
      begins = ap (λ (xs : List Tracked). map (scaled d) (legs_of xs) ++ legs) (sym none);
      route = carry.carries.route;
      order = subst (AreInOrder p s.release) (sym none) tt;
      keeps = subst (λ (ls : List Leg). BeginWith d ls legs) (sym (all-promised kept k)) carry.begin;
      ready = subst (λ n. LeavesReady p d (d * n) legs) (sym (ready-kept p kept k)) carry.carries.ready;
      due = carry.carries.due;
      there = λ e. subst (HasArrivedBy p s.due) (sym none) (omega arith);
    }

pub underway-kept : (p : Problem) (kept : List Kept) (d : ℕ) (routes : List (List Leg)) → (IsPlanUnderway p (kept_day kept) d routes ↔ (IsPlan p d routes × Keeps kept d routes))
underway-kept p kept d routes = (apart, together)
  where
    apart : IsPlanUnderway p (kept_day kept) d routes → IsPlan p d routes × Keeps kept d routes
    apart under = (
      AllZip-from_get_or (Carries p d) p.shipments routes no_shipment [] under.one_each (λ k lt. (kept-from_underway p kept d k (route_at routes k) (under.each k lt)).carries),
      AllFrom-from_zero (λ k legs. BeginWith d (kept_of kept k) legs) routes [] (λ k lt.
          (kept-from_underway p kept d k (route_at routes k) (under.each k (omega (arith, lt, under.one_each)))).begin),
    )

    together : IsPlan p d routes × Keeps kept d routes → IsPlanUnderway p (kept_day kept) d routes
    together both =
        let long : length routes ≡ length p.shipments = AllZip-long (Carries p d) p.shipments routes both.0 in
        record {
          one_each = long;
          each = λ k lt. underway-from_kept p kept d k (route_at routes k) (record {
            carries = AllZip-get_or (Carries p d) p.shipments routes k no_shipment [] both.0 lt;
            begin = AllFrom-get_or_zero (λ i legs. BeginWith d (kept_of kept i) legs) routes [] k both.1 (omega (arith, lt, long));
          });
        }

-- no legs cost nothing
abbrev no_legs : ℕ → List Leg
no_legs k = []

none-legs : (n : ℕ) → all_legs (listed no_legs n) ≡ []
none-legs zero = refl
none-legs (suc n) = all_legs-append (listed no_legs n) ([] ∷ []) ∙ ap (λ (ls : List Leg). ls ++ []) (none-legs n)

each-none : (n : ℕ) → AllByRecursion (λ (ls : List Leg). ls ≡ []) (listed no_legs n)
each-none zero = tt
each-none (suc n) = AllByRecursion-push (λ (ls : List Leg). ls ≡ []) (listed no_legs n) [] (each-none n) refl

flow-none : (p : Problem) (ss : List Shipment) (routes : List (List Leg)) → AllByRecursion (λ (ls : List Leg). ls ≡ []) routes → flow_total p ss routes ≡ 0
flow-none p [] routes none = refl
flow-none p (s ∷ ss) [] none = refl
flow-none p (s ∷ ss) (r ∷ routes) none =
    let first : flow_cost p s.size r ≡ 0 = ap (flow_cost p s.size) none.0 in
    omega (arith, first, flow-none p ss routes none.1)

cost-nothing : (p : Problem) (n : ℕ) → cost p (listed no_legs n) ≡ 0
cost-nothing p n =
    let departures : departures_cost p (listed no_legs n) (all_legs (listed no_legs n)) ≡ 0 = ap (departures_cost p (listed no_legs n)) (none-legs n) in
    omega (arith, departures, flow-none p p.shipments (listed no_legs n) (each-none n))

-- so such a plan costs what it does as a plan
pub cost-kept : (p : Problem) (kept : List Kept) (routes : List (List Leg)) → length routes ≡ length p.shipments → cost_underway p (kept_day kept) routes ≡ cost p routes
cost-kept p kept routes long =
    let n : ℕ = length p.shipments in
    let sunk : sunk_cost p (kept_day kept) ≡ 0 =
    ap (cost p) (listed-same (settled_legs (kept_day kept)) no_legs n (λ k lt. ap legs_of (none-settled kept k))) ∙ cost-nothing p n in
    let rests : rests_in p (kept_day kept) routes ≡ routes =
    listed-same (λ k. drop (length (settled_legs (kept_day kept) k)) (route_at routes k)) (route_at routes) n
    (λ k lt. ap (λ (xs : List Tracked). drop (length (legs_of xs)) (route_at routes k)) (none-settled kept k))
    ∙ ext_get_or [] (listed (route_at routes) n) routes (length-listed (route_at routes) n ∙ sym long)
    (λ k lt. get_or-listed (route_at routes) n k [] (omega (arith, lt, length-listed (route_at routes) n))) in
    omega (arith, sunk, ap (cost p) rests)
