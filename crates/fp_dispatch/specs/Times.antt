-- Times of routes and groups: a number for each leg, which over the denominator d stands for the
-- moment `n / d`.
-- The source of the problem, in which shipments that share a truck leave at one moment: Boland,
-- Hewitt, Marshall and Savelsbergh, "The Continuous-Time Service Network Design Problem",
-- Operations Research 65, 2017.
use Rattle.std.specs.Prelude.{ℕ, ◌+◌, ◌*◌, ◌≤◌, ◌<◌, ◌≡◌, List, All, Contains, Option, IfSome, IsSomeAnd, option_map}
use Rattle.fp_model.specs.declared.parts.Leg.{Leg}
use Rattle.fp_model.specs.declared.parts.Member.{Member}
use Rattle.fp_model.specs.Members.{IsMemberOf, member_arc, member_leg}
use Rattle.fp_model.specs.Problem.{Problem}
use Rattle.fp_model.specs.Routes.{step}
use Rattle.fp_flatnet.specs.declared.window_tables.Window.{Window}

-- the member that names the next leg of a route
abbrev pub next : Member → Member
next m = record { shipment = m.shipment; leg = m.leg + 1 }

-- the window of a member's leg
abbrev pub window_of : (ℕ → ℕ → Option Window) → List (List ℕ) → Member → Option Window
window_of windows routes m = windows m.shipment (member_arc routes m)

-- all members of a group have one number
abbrev pub HaveOneTime : (Member → ℕ) → List Member → Type 0
HaveOneTime times group = (m n : Member) → Contains group m → Contains group n → times m ≡ times n

-- over the denominator d, a choice meets the lower rules: no leg leaves before its window, each
-- next leg of a route leaves a step after the one before or later, and all of a group leave at one
-- moment
pub record MeetsLowerRules (p : Problem) (windows : ℕ → ℕ → Option Window) (routes : List (List ℕ)) (groups : List (List Member)) (d : ℕ) (times : Member → ℕ) : Type 0 where
  pub start : (m : Member) → IsMemberOf routes m → IfSome (window_of windows routes m) (λ w. d * w.lo ≤ times m)
  pub onward : (m : Member) → IsMemberOf routes (next m) → times m + d * step p (member_arc routes m) ≤ times (next m)
  pub together : All (HaveOneTime times) groups

-- over the denominator d, a choice meets the upper rule: each leg has a window and leaves by its
-- end
abbrev pub MeetsUpperRule : (ℕ → ℕ → Option Window) → List (List ℕ) → ℕ → (Member → ℕ) → Type 0
MeetsUpperRule windows routes d times =
    (m : Member) → IsMemberOf routes m → IsSomeAnd (window_of windows routes m) (λ w. times m ≤ d * w.hi)

-- a choice over the denominator d meets the lower and the upper rules
pub record AreTimes (p : Problem) (windows : ℕ → ℕ → Option Window) (routes : List (List ℕ)) (groups : List (List Member)) (d : ℕ) (times : Member → ℕ) : Type 0 where
  pub lower : MeetsLowerRules p windows routes groups d times
  pub upper : MeetsUpperRule windows routes d times

-- the routes and groups have times, over some denominator
abbrev pub HaveTimes : Problem → (ℕ → ℕ → Option Window) → List (List ℕ) → List (List Member) → Type 0
HaveTimes p windows routes groups = (d : ℕ) × (times : Member → ℕ) × (1 ≤ d) × AreTimes p windows routes groups d times

-- the least whole times: in no others does a leg leave earlier
pub record AreLeastTimes (p : Problem) (windows : ℕ → ℕ → Option Window) (routes : List (List ℕ)) (groups : List (List Member)) (times : Member → ℕ) : Type 0 where
  pub are : AreTimes p windows routes groups 1 times
  pub least : (others : Member → ℕ) → AreTimes p windows routes groups 1 others → (m : Member) → IsMemberOf routes m → times m ≤ others m

-- in each choice that meets the lower rules, over each denominator, a leg leaves at the moment
-- `value` or later; and it has no window, or its window ends at `latest`, before that moment
pub record IsClash (p : Problem) (windows : ℕ → ℕ → Option Window) (routes : List (List ℕ)) (groups : List (List Member)) (m : Member) (value : ℕ) (latest : Option ℕ) : Type 0 where
  pub member : IsMemberOf routes m
  pub lower : (d : ℕ) (times : Member → ℕ) → MeetsLowerRules p windows routes groups d times → d * value ≤ times m
  pub latest_is : latest ≡ option_map (λ (w : Window). w.hi) (window_of windows routes m)
  pub past : IfSome latest (λ hi. hi < value)

-- when the leg of a member departs
abbrev pub departure : List (List Leg) → Member → ℕ
departure plan m = (member_leg plan m).depart
