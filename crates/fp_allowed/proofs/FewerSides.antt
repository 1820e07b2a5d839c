-- What is allowed under sides is so under fewer of them, and so is a timed walk; without sides all routes obey.
use Rattle.std.proofs.Common.{◌≡◌, ℕ, Bool, true, List, [], ◌∷◌, ◌++◌, get_or, ◌∙◌, subst, arith, length-append, ◌+◌}
use Rattle.std.specs.Prelude.{Contains, IsSomeAnd, Option, Some, None}
use Rattle.std.specs.List.{AllByRecursion}
use Rattle.std.proofs.lemmas.List.{get_or_append_left, get_or_default}
use Rattle.std.proofs.lemmas.List.Sums.{AllPass-from_list_all, list_all-from_AllPass}
use Rattle.fp_model.specs.declared.parts.Leg.{Leg}
use Rattle.fp_model.specs.declared.parts.Shipment.{Shipment}
use Rattle.fp_model.specs.Problem.{Problem}
use Rattle.fp_flatnet.specs.declared.window_tables.Window.{Window}
use Rattle.fp_tree.specs.declared.sides.Side.{Side}
use Rattle.fp_tree.specs.Sides.{Exit, MeetsAll}
use Rattle.fp_allowed.specs.Allowed.{AreAmong, exit_of, is_allowed, meets, meets_all, PlanObeys}
use Rattle.fp_allowed.specs.Walks.{IsTimedWalk}
use Rattle.fp_allowed.proofs.AllowedClasses.{HasMoment, is_allowed_from, is_allowed_parts}
use Rattle.fp_base_lists.specs.Numbered.{AllFrom}

-- no sides are among any
pub AreAmong_none : (sides : List Side) → AreAmong [] sides
AreAmong_none sides = λ i d h. absurd (omega (arith, h))

-- sides are among themselves and more
pub AreAmong_append : (sides more : List Side) → AreAmong sides (sides ++ more)
AreAmong_append sides more = λ i d h. (i, omega (arith, h, length-append sides more), get_or_append_left sides more (get_or sides i d) i h ∙ get_or_default sides i (get_or sides i d) d h)

-- what meets all of the sides meets fewer
pub meets_all_fewer : (k : ℕ) (fewer sides : List Side) (e : Exit) → AreAmong fewer sides → meets_all k sides e ≡ true → meets_all k fewer e ≡ true
meets_all_fewer k fewer sides e among met =
    list_all-from_AllPass (meets k e) fewer (λ i d h.
    let own : Contains sides (get_or fewer i d) = among i d h in
    subst (λ (side : Side). meets k e side ≡ true) own.2 (AllPass-from_list_all (meets k e) sides met own.0 (get_or fewer i d) own.1))

-- an allowed class is allowed under fewer sides
pub is_allowed_fewer : (p : Problem) (windows : ℕ → ℕ → Option Window) (points : ℕ → List ℕ) (fewer sides : List Side) (k : ℕ) (c : Leg) → AreAmong fewer sides →
    is_allowed p windows points sides k c ≡ true → is_allowed p windows points fewer k c ≡ true
is_allowed_fewer p windows points fewer sides k c among allowed =
    let parts = is_allowed_parts p windows points sides k c allowed in
    is_allowed_from p windows points fewer k c parts.0 (has (windows k c.arc) parts.1)
  where
    has : (o : Option Window) → IsSomeAnd o (HasMoment p points sides k c) → IsSomeAnd o (HasMoment p points fewer k c)
    has None h = absurd h
    has (Some w) h = record {
      moment = h.moment;
      falls = h.falls;
      after = h.after;
      before = h.before;
      met = meets_all_fewer k fewer sides (exit_of p (record { arc = c.arc; depart = h.moment })) among h.met;
    }

-- a timed walk over classes is one wherever those are allowed
pub IsTimedWalk_wider : (p : Problem) (points : ℕ → List ℕ) (allowed wider : Leg → Bool) (s : Shipment) (walk : List Leg) → ((c : Leg) → allowed c ≡ true → wider c ≡ true) →
    IsTimedWalk p points allowed s walk → IsTimedWalk p points wider s walk
IsTimedWalk_wider p points allowed wider s walk widens timed = record { leads = timed.leads; allowed_all = each walk timed.allowed_all; follows = timed.follows }
  where
    each : (legs : List Leg) → AllByRecursion (λ c. allowed c ≡ true) legs → AllByRecursion (λ c. wider c ≡ true) legs
    each [] all = tt
    each (c ∷ legs) all = (widens c all.0, each legs all.1)

-- so a timed walk under sides is one under fewer
pub IsTimedWalk_fewer : (p : Problem) (windows : ℕ → ℕ → Option Window) (points : ℕ → List ℕ) (fewer sides : List Side) (k : ℕ) (s : Shipment) (walk : List Leg) → AreAmong fewer sides →
    IsTimedWalk p points (is_allowed p windows points sides k) s walk → IsTimedWalk p points (is_allowed p windows points fewer k) s walk
IsTimedWalk_fewer p windows points fewer sides k s walk among =
    IsTimedWalk_wider p points (is_allowed p windows points sides k) (is_allowed p windows points fewer k) s walk (λ c. is_allowed_fewer p windows points fewer sides k c among)

-- and without sides
pub IsTimedWalk_without_sides : (p : Problem) (windows : ℕ → ℕ → Option Window) (points : ℕ → List ℕ) (sides : List Side) (k : ℕ) (s : Shipment) (walk : List Leg) →
    IsTimedWalk p points (is_allowed p windows points sides k) s walk → IsTimedWalk p points (is_allowed p windows points [] k) s walk
IsTimedWalk_without_sides p windows points sides k s walk = IsTimedWalk_fewer p windows points [] sides k s walk (AreAmong_none sides)

legs-obey : (p : Problem) (d k : ℕ) (legs : List Leg) → AllByRecursion (λ (l : Leg). MeetsAll d k [] (exit_of p l)) legs
legs-obey p d k [] = tt
legs-obey p d k (l ∷ legs) = (tt, legs-obey p d k legs)

obey-from : (p : Problem) (d k : ℕ) (routes : List (List Leg)) → AllFrom (λ j r. AllByRecursion (λ (l : Leg). MeetsAll d j [] (exit_of p l)) r) k routes
obey-from p d k [] = tt
obey-from p d k (r ∷ routes) = (legs-obey p d k r, obey-from p d (k + 1) routes)

-- routes over any denominator obey no sides
pub PlanObeys-none : (p : Problem) (d : ℕ) (routes : List (List Leg)) → PlanObeys p d [] routes
PlanObeys-none p d routes = record { legs = obey-from p d 0 routes; trucks = tt; ways = tt }
