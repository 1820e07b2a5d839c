-- Rows with one bit per class.
use Rattle.std.specs.Prelude.{ℕ, ◌≡◌, ◌≤◌, List, length, map, Bool, false, ◌&&◌, ◌||◌, nat_eq, nat_lt, slice_index_or}
use Rattle.fp_model.specs.declared.parts.Leg.{Leg}
use Rattle.fp_model.specs.Numbered.{route_at, shipment_at}
use Rattle.fp_model.specs.Plans.{IsPlan}
use Rattle.fp_base_lists.specs.Membership.{list_has}
use Rattle.fp_flatnet.specs.Tables.{windows_in}
use Rattle.fp_flatnet.specs.Windows.{PlanLiesWithinWhole}
use Rattle.fp_longestarcs.specs.Classes.{class_of}
use Rattle.fp_longestarcs.specs.Networks.{TimedNetwork, points_in, tail_in, IsClass, class_count, class_number}
use Rattle.fp_tree.specs.declared.sides.Side.{Side}
use Rattle.fp_allowed.specs.Allowed.{is_allowed, PlanObeys}
use Rattle.fp_allowed.specs.Settings.{Setting}
use Rattle.fp_allowed.specs.Walks.{IsTimedWalk}

-- the bit of a row at a place
abbrev pub bit_of : List Bool → ℕ → Bool
bit_of row n = slice_index_or row n false

-- a row grown by the classes of an arc at which a test is true
pub record FillsArc (net : TimedNetwork) (arc : ℕ) (test : Leg → Bool) (old new : List Bool) : Type 0 where
  pub long : length new ≡ length old
  pub bits : (c : Leg) → IsClass net c → bit_of new (class_number net c) ≡ (bit_of old (class_number net c) || (nat_eq c.arc arc && test c))

-- whether a leg is a class of the network whose bit is set
abbrev pub row_allows : TimedNetwork → List Bool → Leg → Bool
row_allows net row c =
    nat_lt c.arc (length net.tails) && list_has (points_in net (tail_in net c.arc)) c.depart && bit_of row (class_number net c)

-- whether a class is allowed in a setting
abbrev pub allowed_in : Setting → List Side → ℕ → Leg → Bool
allowed_in s sides k c = is_allowed s.problem (windows_in s.windows) (points_in s.network) sides k c

-- the row of the shipment with the number k under sides: one bit per class, set exactly where the
-- class is allowed
pub record IsRowUnder (s : Setting) (sides : List Side) (k : ℕ) (row : List Bool) : Type 0 where
  pub long : length row ≡ class_count s.network
  pub exact : (c : Leg) → IsClass s.network c → bit_of row (class_number s.network c) ≡ allowed_in s sides k c

-- for every plan over any denominator that lies within the windows by its whole moments and obeys the
-- sides, the classes of the shipment's legs are a timed walk over classes whose bits are set
abbrev pub AllowsPlans : Setting → List Side → ℕ → List Bool → Type 0
AllowsPlans s sides k row =
    (d : ℕ) (routes : List (List Leg)) → 1 ≤ d → IsPlan s.problem d routes → PlanLiesWithinWhole (windows_in s.windows) d routes → PlanObeys s.problem d sides routes →
    IsTimedWalk s.problem (points_in s.network) (row_allows s.network row) (shipment_at s.problem k) (map (class_of s.problem (points_in s.network) d) (route_at routes k))
