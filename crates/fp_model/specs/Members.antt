-- Legs that are named by their shipment and their place in its route, and groups of them.
use Rattle.std.specs.Prelude.{ℕ, ◌+◌, ◌<◌, ◌≡◌, ◌⊎◌, List, [], ◌∷◌, ◌++◌, map, filter, All, AllPairs, Contains, length, slice_index_or}
use Rattle.fp_model.specs.declared.parts.Leg.{Leg}
use Rattle.fp_model.specs.declared.parts.Member.{Member}
use Rattle.fp_model.specs.Costs.{same_leg}
use Rattle.fp_model.specs.Numbered.{leg_at, route_at}
use Rattle.fp_model.specs.Routes.{arcs_of}

-- a member comes before another: by its shipment, and then by its leg
abbrev pub MemberComesBefore : Member → Member → Type 0
MemberComesBefore m n = (m.shipment < n.shipment) ⊎ ((m.shipment ≡ n.shipment) × (m.leg < n.leg))

-- a member names a leg of the routes, which are lists of legs or of arcs
pub record IsMemberOf {X : Type 0} (routes : List (List X)) (m : Member) : Type 0 where
  pub shipment : m.shipment < length routes
  pub leg : m.leg < length (slice_index_or routes m.shipment [])

-- routes of legs, each as the list of its arcs
abbrev pub arc_lists : List (List Leg) → List (List ℕ)
arc_lists routes = map arcs_of routes

-- the leg of a member
abbrev pub member_leg : List (List Leg) → Member → Leg
member_leg routes m = leg_at (route_at routes m.shipment) m.leg

-- the arc of a member, where the routes are lists of arcs
abbrev pub member_arc : List (List ℕ) → Member → ℕ
member_arc routes m = slice_index_or (slice_index_or routes m.shipment []) m.leg 0

-- all members of a group go by one arc
abbrev pub GoByOneArc : List (List ℕ) → List Member → Type 0
GoByOneArc routes group = AllPairs (λ m n. member_arc routes m ≡ member_arc routes n) group

-- two groups have no member in common
abbrev pub AreDisjoint : List Member → List Member → Type 0
AreDisjoint group other = (m : Member) → Contains group m → Contains other m → ⊥

-- groups of legs of the routes, which are lists of arcs: each leg is in at most one group, and all
-- of a group go by one arc
pub record AreGroupsOf (routes : List (List ℕ)) (groups : List (List Member)) : Type 0 where
  pub members : All (All (IsMemberOf routes)) groups
  pub one_arc : All (GoByOneArc routes) groups
  pub apart : AllPairs AreDisjoint groups

-- a leg with the member that names it
pub record NamedLeg : Type 0 where
  pub member : Member
  pub leg : Leg

-- the legs of the route of the shipment with the number k, where the first leg has the number i
abbrev pub named_on : ℕ → ℕ → List Leg → List NamedLeg
named_on k i [] = []
named_on k i (l ∷ legs) = record { member = record { shipment = k; leg = i }; leg = l } ∷ named_on k (i + 1) legs

-- the legs of routes, by shipment and then leg, where the first route is that of the shipment with
-- the number k
abbrev pub named_from : ℕ → List (List Leg) → List NamedLeg
named_from k [] = []
named_from k (legs ∷ routes) = named_on k 0 legs ++ named_from (k + 1) routes

-- those among named legs that are the leg, in their order
abbrev pub members_among : List NamedLeg → Leg → List Member
members_among legs l = map (λ (x : NamedLeg). x.member) (filter (λ (x : NamedLeg). same_leg l x.leg) legs)

-- all members that are the leg, by shipment and then by their place
abbrev pub members_in : List (List Leg) → Leg → List Member
members_in routes l = members_among (named_from 0 routes) l

-- all members of a group leave at one moment
abbrev pub LeaveAsOne : List (List Leg) → List Member → Type 0
LeaveAsOne routes group = AllPairs (λ m n. (member_leg routes m).depart ≡ (member_leg routes n).depart) group

-- legs of the routes that are one leg in the others leave together
abbrev pub LeaveTogether : (others routes : List (List Leg)) → Type 0
LeaveTogether others routes = (m n : Member) → IsMemberOf others m → IsMemberOf others n → member_leg others m ≡ member_leg others n →
    (member_leg routes m).depart ≡ (member_leg routes n).depart
