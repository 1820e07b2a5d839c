-- What the sides of a split ask of the legs of shipments, and of the trucks that leave by an arc in
-- a run of times. One side, `Outside`, no split makes. A leg leaves at n / d, over any denominator d.
use Rattle.std.specs.Prelude.{ℕ, ◌*◌, ◌<◌, ◌≤◌, ◌≡◌, ◌≢◌, Bool, false, nat_eq, List, [], Option, None, Some, slice_index_or, if◌then◌else◌}
use Rattle.std.specs.List.{AllByRecursion, filter_map}
use Rattle.fp_base_lists.specs.Elements.{AnyByRecursion}
use Rattle.fp_tree.specs.declared.sides.Split.{Split}
use Rattle.fp_tree.specs.declared.sides.Split.TheVariants.{ByArc, ByTime, ByTrucks, ByWay}
use Rattle.fp_tree.specs.declared.sides.Side.{Side}
use Rattle.fp_tree.specs.declared.sides.Side.TheVariants.{Without, Only, Before, From, AtMost, MoreThan, Through, Outside}

-- A leg as a tree sees it: its arc, the terminal that it leaves, and the numerator of its moment; and
-- of which arcs its own is a rival: another arc that leaves the same terminal, or enters the same one.
pub record Exit : Type 0 where
  pub arc : ℕ
  pub tail : ℕ
  pub moment : ℕ
  pub is_rival : ℕ → Bool

-- Over the denominator d, a leg does not leave by the arc at `point` or later and before `until`.
abbrev pub IsOutside : ℕ → ℕ → ℕ → ℕ → Exit → Type 0
IsOutside d arc point until e = e.arc ≡ arc → d * point ≤ e.moment → d * until ≤ e.moment

-- Over the denominator d, a leg of the shipment with the number k meets the side. Of a number of
-- trucks this speaks only where there is to be none.
abbrev pub Meets : ℕ → ℕ → Exit → Side → Type 0
Meets d k e (Without shipment arc) = k ≡ shipment → e.arc ≢ arc
Meets d k e (Only shipment arc tail) = k ≡ shipment → e.tail ≡ tail → e.arc ≡ arc
Meets d k e (Before shipment terminal at) = k ≡ shipment → e.tail ≡ terminal → e.moment < d * at
Meets d k e (From shipment terminal at) = k ≡ shipment → e.tail ≡ terminal → d * at ≤ e.moment
Meets d k e (AtMost arc point until trucks) = trucks ≡ 0 → IsOutside d arc point until e
Meets d k e (MoreThan arc point until trucks) = Unit {0}
Meets d k e (Through shipment arc) = k ≡ shipment → e.is_rival arc ≡ false
Meets d k e (Outside shipment arc point until) = k ≡ shipment → IsOutside d arc point until e

-- The leg meets all of the sides.
abbrev pub MeetsAll : ℕ → ℕ → List Side → Exit → Type 0
MeetsAll d k sides e = AllByRecursion (Meets d k e) sides

-- Each leg of each shipment meets all of the sides, where `routes` has the legs of each shipment.
abbrev pub Obeys : ℕ → List (List Exit) → List Side → Type 0
Obeys d routes sides = (k : ℕ) → AllByRecursion (MeetsAll d k sides) (slice_index_or routes k [])

-- How many trucks leave by an arc at a time or later and before another.
abbrev pub Counts : Type 0
Counts = ℕ → ℕ → ℕ → ℕ

-- Where no truck is counted, no leg leaves: over the denominator d, where `routes` has the legs of
-- each shipment.
abbrev pub AreCounts : ℕ → List (List Exit) → Counts → Type 0
AreCounts d routes counts =
    (arc point until : ℕ) → counts arc point until ≡ 0 → (k : ℕ) → AllByRecursion (IsOutside d arc point until) (slice_index_or routes k [])

-- So many trucks leave as a side asks, if it asks for a number of trucks.
abbrev pub HasCount : Counts → Side → Type 0
HasCount counts (Without shipment arc) = Unit {0}
HasCount counts (Only shipment arc tail) = Unit {0}
HasCount counts (Before shipment terminal at) = Unit {0}
HasCount counts (From shipment terminal at) = Unit {0}
HasCount counts (AtMost arc point until trucks) = counts arc point until ≤ trucks
HasCount counts (MoreThan arc point until trucks) = trucks < counts arc point until
HasCount counts (Through shipment arc) = Unit {0}
HasCount counts (Outside shipment arc point until) = Unit {0}

-- So many trucks leave as each of the sides asks.
abbrev pub HasCounts : Counts → List Side → Type 0
HasCounts counts sides = AllByRecursion (HasCount counts) sides

-- A leg of the shipment goes by the arc, if a side asks that it goes by one.
abbrev pub HasWay : List (List Exit) → Side → Type 0
HasWay routes (Without shipment arc) = Unit {0}
HasWay routes (Only shipment arc tail) = Unit {0}
HasWay routes (Before shipment terminal at) = Unit {0}
HasWay routes (From shipment terminal at) = Unit {0}
HasWay routes (AtMost arc point until trucks) = Unit {0}
HasWay routes (MoreThan arc point until trucks) = Unit {0}
HasWay routes (Through shipment arc) = AnyByRecursion (λ (e : Exit). e.arc ≡ arc) (slice_index_or routes shipment [])
HasWay routes (Outside shipment arc point until) = Unit {0}

-- Each shipment goes by the arcs that the sides ask it to go by.
abbrev pub HasWays : List (List Exit) → List Side → Type 0
HasWays routes sides = AllByRecursion (HasWay routes) sides

-- The arc that a side asks the shipment with the number k to go by, if it asks it for one.
abbrev pub way_of : ℕ → Side → Option ℕ
way_of k (Without shipment arc) = None
way_of k (Only shipment arc tail) = None
way_of k (Before shipment terminal at) = None
way_of k (From shipment terminal at) = None
way_of k (AtMost arc point until trucks) = None
way_of k (MoreThan arc point until trucks) = None
way_of k (Through shipment arc) = if nat_eq shipment k then Some arc else None
way_of k (Outside shipment arc point until) = None

-- The arcs that sides ask it to go by, in their order.
abbrev pub ways_of : ℕ → List Side → List ℕ
ways_of k sides = filter_map (way_of k) sides

-- A split, with the terminal that its arc leaves where it is one by an arc.
pub record Fork : Type 0 where
  pub split : Split
  pub tail : ℕ

-- The first side of a split: without the arc, before the time, or at most so many trucks.
abbrev pub first_of_split : Split → Side
first_of_split (ByArc shipment arc) = Without shipment arc
first_of_split (ByTime shipment terminal at) = Before shipment terminal at
first_of_split (ByTrucks arc point until most) = AtMost arc point until most
first_of_split (ByWay shipment arc) = Without shipment arc

-- The second side of a split: only by the arc where its tail is left, from the time on, more trucks,
-- or by the arc and so by no rival of it.
abbrev pub second_of_split : Split → ℕ → Side
second_of_split (ByArc shipment arc) tail = Only shipment arc tail
second_of_split (ByTime shipment terminal at) tail = From shipment terminal at
second_of_split (ByTrucks arc point until most) tail = MoreThan arc point until most
second_of_split (ByWay shipment arc) tail = Through shipment arc

-- The first side of a fork.
abbrev pub first : Fork → Side
first f = first_of_split f.split

-- The second side of a fork.
abbrev pub second : Fork → Side
second f = second_of_split f.split f.tail

-- The tail is that of the split's arc, where `tails` tells which terminal an arc leaves.
abbrev pub IsTailOfSplit : (ℕ → ℕ) → Split → ℕ → Type 0
IsTailOfSplit tails (ByArc shipment arc) tail = tail ≡ tails arc
IsTailOfSplit tails (ByTime shipment terminal at) tail = Unit {0}
IsTailOfSplit tails (ByTrucks arc point until most) tail = Unit {0}
IsTailOfSplit tails (ByWay shipment arc) tail = Unit {0}

-- The fork's tail is that of its arc.
abbrev pub HasTail : (ℕ → ℕ) → Fork → Type 0
HasTail tails f = IsTailOfSplit tails f.split f.tail
