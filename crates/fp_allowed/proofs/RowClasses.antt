-- A row under sides allows exactly the allowed classes.
use Rattle.std.proofs.Common.{◌≡◌, ℕ, ◌<◌, Bool, true, false, ◌&&◌, List, length, map, ⊎_elim, sym, ap, ◌∙◌, subst, arith}
use Rattle.std.specs.Prelude.{nat_lt, Option, Some, None, IsSomeAnd, IfOk, Result, Ok, Err}
use Rattle.std.specs.declared.alloc.AllocError.{AllocError}
use Rattle.std.proofs.lemmas.Bool.{and_from, and_parts, cases_Bool, both_ways, false_from_ne_true, lt-ltb, ltb-true}
use Rattle.fp_model.specs.declared.parts.Leg.{Leg}
use Rattle.fp_model.specs.Numbered.{route_at, shipment_at}
use Rattle.fp_timenodes.specs.Floor.{floor_point}
use Rattle.fp_base_lists.specs.Membership.{list_has}
use Rattle.fp_timenodes.proofs.Floors.{IsFloorPoint-floor_point}
use Rattle.fp_flatnet.specs.declared.window_tables.Window.{Window}
use Rattle.fp_flatnet.specs.Tables.{windows_in}
use Rattle.fp_longestarcs.specs.Classes.{class_of}
use Rattle.fp_longestarcs.specs.Networks.{IsClass, TimedNetwork, class_number, points_in, tail_in}
use Rattle.fp_longestarcs.proofs.ClassNumbers.{tail-points}
use Rattle.fp_longestarcs.proofs.HeadLists.{arc-count, tail-of}
use Rattle.fp_tree.specs.declared.sides.Side.{Side}
use Rattle.fp_allowed.specs.Allowed.{tails_of}
use Rattle.fp_allowed.specs.Bits.{AllowsPlans, IsRowUnder, allowed_in, bit_of, row_allows}
use Rattle.fp_allowed.specs.Settings.{IsSetting, Setting}
use Rattle.fp_allowed.specs.Walks.{IsTimedWalk}
use Rattle.fp_allowed.proofs.AllowedClasses.{HasMoment, is_allowed_parts}
use Rattle.fp_allowed.proofs.PlanClasses.{route_timed}

-- an allowed class is a class of the network: its point is one of its tail's
pub allowed_in-IsClass : (s : Setting) (sides : List Side) (k : ℕ) (c : Leg) → IsSetting s → allowed_in s sides k c ≡ true → IsClass s.network c
allowed_in-IsClass s sides k c is h =
    let parts = is_allowed_parts s.problem (windows_in s.windows) (points_in s.network) sides k c h in
    let net : TimedNetwork = s.network in
    let exists : c.arc < length net.tails = omega (arith, parts.0, arc-count s.problem net is.whole.arcs) in
    let tail : tail_in net c.arc ≡ tails_of s.problem c.arc = tail-of s.problem net c.arc is.whole.arcs parts.0 in
    let qs : List ℕ = points_in net (tail_in net c.arc) in
    (exists, point (windows_in s.windows k c.arc) parts.1 qs (tail-points net c.arc is.whole.valid exists).zero (ap (points_in net) (sym tail)))
  where
    point : (o : Option Window) → IsSomeAnd o (HasMoment s.problem (points_in s.network) sides k c) → (qs : List ℕ) → list_has qs 0 ≡ true →
        points_in s.network (tails_of s.problem c.arc) ≡ qs → list_has qs c.depart ≡ true
    point None has qs zero same = absurd has
    point (Some w) has qs zero same =
        subst (λ (q : ℕ). list_has qs q ≡ true) (ap (λ (l : List ℕ). floor_point l 1 has.moment) (sym same) ∙ has.falls) (IsFloorPoint-floor_point qs has.moment zero).0

is_class_true : (net : TimedNetwork) (c : Leg) → IsClass net c → (nat_lt c.arc (length net.tails) && list_has (points_in net (tail_in net c.arc)) c.depart) ≡ true
is_class_true net c is = and_from (nat_lt c.arc (length net.tails)) (list_has (points_in net (tail_in net c.arc)) c.depart) (lt-ltb c.arc (length net.tails) is.0) is.1

pub is_class_parts : (net : TimedNetwork) (row : List Bool) (c : Leg) → row_allows net row c ≡ true → IsClass net c × (bit_of row (class_number net c) ≡ true)
is_class_parts net row c h =
    let outer = and_parts (nat_lt c.arc (length net.tails) && list_has (points_in net (tail_in net c.arc)) c.depart) (bit_of row (class_number net c)) h in
    let inner = and_parts (nat_lt c.arc (length net.tails)) (list_has (points_in net (tail_in net c.arc)) c.depart) outer.0 in
    ((ltb-true c.arc (length net.tails) inner.0, inner.1), outer.1)

pub row_allows_from : (net : TimedNetwork) (row : List Bool) (c : Leg) → IsClass net c → bit_of row (class_number net c) ≡ true → row_allows net row c ≡ true
row_allows_from net row c is set =
    and_from (nat_lt c.arc (length net.tails) && list_has (points_in net (tail_in net c.arc)) c.depart) (bit_of row (class_number net c)) (is_class_true net c is) set

-- at each leg the row tells
row_tells : (s : Setting) (sides : List Side) (k : ℕ) (row : List Bool) → IsSetting s → IsRowUnder s sides k row → (c : Leg) → row_allows s.network row c ≡ allowed_in s sides k c
row_tells s sides k row is under c =
    ⊎_elim
    (λ (set : allowed_in s sides k c ≡ true).
    let class : IsClass s.network c = allowed_in-IsClass s sides k c is set in
    row_allows_from s.network row c class (under.exact c class ∙ set) ∙ sym set)
    (λ (unset : allowed_in s sides k c ≡ false).
    false_from_ne_true (row_allows s.network row c)
    (λ set.
    let parts = is_class_parts s.network row c set in
    both_ways (allowed_in s sides k c) unset (sym (under.exact c parts.0) ∙ parts.1))
    ∙ sym unset)
    (cases_Bool (allowed_in s sides k c))

-- so the row's test is that of the sides
pub row_allows_under : (s : Setting) (sides : List Side) (k : ℕ) (row : List Bool) → IsSetting s → IsRowUnder s sides k row → row_allows s.network row ≡ allowed_in s sides k
row_allows_under s sides k row is under = λ i c. row_tells s sides k row is under c i

-- a row under sides allows the classes of plans
IsRowUnder-AllowsPlans : (s : Setting) (sides : List Side) (k : ℕ) (row : List Bool) → IsSetting s → k < length s.problem.shipments → IsRowUnder s sides k row → AllowsPlans s sides k row
IsRowUnder-AllowsPlans s sides k row is exists under d routes h plan within obeys =
    subst (λ (allowed : Leg → Bool). IsTimedWalk s.problem (points_in s.network) allowed (shipment_at s.problem k) (map (class_of s.problem (points_in s.network) d) (route_at routes k)))
    (sym (row_allows_under s sides k row is under))
    (route_timed s.problem (windows_in s.windows) (points_in s.network) sides d k routes h exists plan within obeys)

pub row_AllowsPlans : (s v : Setting) (sides : List Side) (k : ℕ) (r : Result (List Bool) AllocError) → s ≡ v → IsSetting s → k < length s.problem.shipments → IfOk r (IsRowUnder s sides k) →
    IfOk r (AllowsPlans v sides k)
row_AllowsPlans s v sides k (Err e) same is exists under = tt
row_AllowsPlans s v sides k (Ok row) same is exists under = subst (λ (x : Setting). AllowsPlans x sides k row) same (IsRowUnder-AllowsPlans s sides k row is exists under)
