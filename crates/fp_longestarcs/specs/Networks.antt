-- A partially time-expanded network: the points of each terminal, and a timed copy of each arc from
-- each point of its tail. The source: Boland, Hewitt, Marshall and Savelsbergh, "The
-- Continuous-Time Service Network Design Problem", Operations Research 65, 2017.
use Rattle.std.specs.Prelude.{ℕ, ◌+◌, ◌<◌, ◌≤◌, ◌≡◌, true, List, [], length, take, sum_by, slice_index, slice_index_or, All}
use Rattle.fp_model.specs.declared.limits.TheConstants.{MOST_ARCS}
use Rattle.fp_model.specs.declared.parts.Leg.{Leg}
use Rattle.fp_base_lists.specs.Membership.{list_has}
use Rattle.fp_longestarcs.specs.Ascending.{ArePoints}
use Rattle.fp_base_lists.specs.Ascending.{place_in}

-- the tail of each arc, the points of each terminal, and for each arc the heads of its timed copies
-- in the order of its tail's points
pub record TimedNetwork : Type 0 where
  pub tails : List ℕ
  pub points : List (List ℕ)
  pub heads : List (List ℕ)

-- the points of a terminal, none where there is no such terminal
abbrev pub points_in : TimedNetwork → ℕ → List ℕ
points_in net terminal = slice_index_or net.points terminal []

-- the tail of an arc
abbrev pub tail_in : TimedNetwork → ℕ → ℕ
tail_in net arc = slice_index net.tails arc

-- the heads of an arc's timed copies
abbrev pub heads_in : TimedNetwork → ℕ → List ℕ
heads_in net arc = slice_index_or net.heads arc []

-- a leg is a class of the network: its arc is there, and it leaves at a point of the arc's tail
abbrev pub IsClass : TimedNetwork → Leg → Type 0
IsClass net c = (c.arc < length net.tails) × (list_has (points_in net (tail_in net c.arc)) c.depart ≡ true)

-- the head that the network keeps for a class
abbrev pub kept_head : TimedNetwork → Leg → ℕ
kept_head net c = slice_index (heads_in net c.arc) (place_in (points_in net (tail_in net c.arc)) c.depart)

-- how many timed copies arcs with these tails have
abbrev pub copy_count : List (List ℕ) → List ℕ → ℕ
copy_count points tails = sum_by (λ tail. length (slice_index_or points tail [])) tails

-- how many classes there are
abbrev pub class_count : TimedNetwork → ℕ
class_count net = copy_count net.points net.tails

-- how many classes the arcs before an arc have
abbrev pub first_class : TimedNetwork → ℕ → ℕ
first_class net arc = copy_count net.points (take arc net.tails)

-- the number of a class: by arc, and then by point
abbrev pub class_number : TimedNetwork → Leg → ℕ
class_number net c = first_class net c.arc + place_in (points_in net (tail_in net c.arc)) c.depart

-- the class with a number is one of an arc's
pub record IsArcOfClass (net : TimedNetwork) (class arc : ℕ) : Type 0 where
  pub exists : arc < length net.tails
  pub from : first_class net arc ≤ class
  pub before : class < first_class net arc + length (points_in net (tail_in net arc))

-- how many points there are at all terminals
abbrev pub point_count : TimedNetwork → ℕ
point_count net = sum_by (λ (qs : List ℕ). length qs) net.points

-- what is true of every network: few arcs whose tails are terminals, and per arc as many heads as
-- its tail has points
pub record IsNetwork (net : TimedNetwork) : Type 0 where
  pub points : All ArePoints net.points
  pub few : length net.tails ≤ MOST_ARCS
  pub tails : All (λ tail. tail < length net.points) net.tails
  pub arcs : length net.heads ≡ length net.tails
  pub copies : (arc : ℕ) → arc < length net.tails → length (heads_in net arc) ≡ length (points_in net (tail_in net arc))
