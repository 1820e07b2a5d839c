-- Legs of a relaxed plan whose timed arcs are too short. A relaxed plan has for each shipment a walk
-- over classes, each written as a leg that leaves at its point.
-- The source of arcs that are too short, and of how they are lengthened: Boland, Hewitt, Marshall and
-- Savelsbergh, "The Continuous-Time Service Network Design Problem", Operations Research 65, 2017.
use Rattle.std.specs.Prelude.{ℕ, ◌+◌, ◌<◌, ◌≤◌, ◌≡◌, false, List, length, All, AllPairs, Contains}
use Rattle.fp_base_lists.specs.Membership.{list_has}
use Rattle.fp_model.specs.declared.parts.Leg.{Leg}
use Rattle.fp_model.specs.declared.parts.Member.{Member}
use Rattle.fp_model.specs.Members.{IsMemberOf, MemberComesBefore, member_leg}
use Rattle.fp_model.specs.Problem.{Problem, arc_at, horizon}
use Rattle.fp_model.specs.Routes.{step}
use Rattle.fp_longestarcs.specs.Classes.{head_of}
use Rattle.fp_dispatch.specs.Times.{next}
use Rattle.fp_shortarcs.specs.declared.shorts.Short.{Short}

-- the time at which a shipment that leaves at the point of a class can go on from the arc's head
abbrev pub reach_of : Problem → Leg → ℕ
reach_of p c = c.depart + step p c.arc

-- a leg of walks is too short: there is a next one on its walk, and the head of its class lies
-- before the time at which the shipment can go on
pub record IsTooShort (p : Problem) (points : ℕ → List ℕ) (walks : List (List Leg)) (m : Member) : Type 0 where
  pub onward : IsMemberOf walks (next m)
  pub short : head_of p points (member_leg walks m) < reach_of p (member_leg walks m)

-- the leg that is named
abbrev pub member_of : Short → Member
member_of s = record { shipment = s.shipment; leg = s.leg }

-- a leg of walks, with the place that its class does not reach where it is too short
abbrev pub short_of : Problem → List (List Leg) → Member → Short
short_of p walks m = record {
  shipment = m.shipment;
  leg = m.leg;
  terminal = (arc_at p (member_leg walks m).arc).to;
  at = reach_of p (member_leg walks m);
}

-- a too short leg of walks, with its place
pub record IsShort (p : Problem) (points : ℕ → List ℕ) (walks : List (List Leg)) (s : Short) : Type 0 where
  pub leg : IsTooShort p points walks (member_of s)
  pub place : s ≡ short_of p walks (member_of s)

-- the first is named before the other
abbrev pub ComesBefore : Short → Short → Type 0
ComesBefore s t = MemberComesBefore (member_of s) (member_of t)

-- the too short legs of walks: each that is listed is one, they ascend by shipment and then leg, and
-- each that there is is listed
pub record AreTooShort (p : Problem) (points : ℕ → List ℕ) (walks : List (List Leg)) (shorts : List Short) : Type 0 where
  pub each : All (IsShort p points walks) shorts
  pub ascending : AllPairs ComesBefore shorts
  pub every : (m : Member) → IsTooShort p points walks m → Contains shorts (short_of p walks m)

-- its place can be made a point: it is at a terminal, where it is no point yet, after 0 and by the
-- horizon
pub record CanBePoint (p : Problem) (points : ℕ → List ℕ) (s : Short) : Type 0 where
  pub terminal : s.terminal < length p.terminals
  pub new : list_has (points s.terminal) s.at ≡ false
  pub after : 1 ≤ s.at
  pub before : s.at ≤ horizon p.shipments
