-- The way to a leaf, with the sides on it less those that others imply.
use Rattle.std.specs.Prelude.{ℕ, ◌≡◌, ◌<◌, ◌≤◌, ◌+◌, ◌*◌, ◌-◌, List, [], ◌∷◌, ◌++◌, None, get_or, length, map, take, ◌&&◌, slice_set}
use Rattle.std.specs.declared.alloc.Global.{Global}
use Rattle.std.specs.declared.vec.Vec.{Vec}
use Rattle.fp_tree.specs.declared.sides.Side.{Side}
use Rattle.fp_tree.specs.declared.ways.Step.{Step}
use Rattle.fp_tree.specs.Sides.{Exit, way_of, ways_of}
use Rattle.fp_tree.specs.Ways.{side_of, way_sides}
use Rattle.fp_allowed.specs.Allowed.{meets, meets_all}
use Rattle.fp_prices_gifts.specs.declared.gifts.Gift.{Gift}
use Rattle.fp_prices_gifts.specs.GiftNumbers.{better, gift_number, number_by}
use Rattle.fp_checker.specs.declared.rules.leaf_ways.Entry.{Entry}
use Rattle.fp_checker.specs.declared.rules.leaf_ways.LeafWay.{LeafWay}
use Rattle.fp_checker.specs.declared.rules.leaf_ways.TheConstants.{SPACING}
use Rattle.fp_checker.specs.declared.rules.narrow_sides.Change.{Change}
use Rattle.fp_checker.specs.declared.rules.narrow_sides.Change.TheVariants.{Added, Replaced}

-- what meets one side meets another, the other tells no gift a better number of trucks, and neither asks a shipment to go by an arc
pub record Implies (one other : Side) : Type 0 where
  pub legs : (k : ℕ) (e : Exit) → (meets k e one && meets k e other) ≡ meets k e one
  pub numbers : (gift : Gift) → better gift.least (number_by gift one) (number_by gift other) ≡ number_by gift one
  pub asks_none : (k : ℕ) → way_of k one ≡ None
  pub nor_other : (k : ℕ) → way_of k other ≡ None

-- the same legs meet all of some sides as of others, both tell each gift the same number of trucks, and ask each shipment to go by the
-- same arcs
pub record AskAlike (sides others : List Side) : Type 0 where
  pub legs : (k : ℕ) (e : Exit) → meets_all k sides e ≡ meets_all k others e
  pub numbers : (gift : Gift) → gift_number sides gift ≡ gift_number others gift
  pub ways : (k : ℕ) → ways_of k sides ≡ ways_of k others

-- the place of a change is one of the sides
abbrev pub IsInside : Change → List Side → Type 0
IsInside Added sides = Unit {0}
IsInside (Replaced place side) sides = place < length sides

-- the sides before a change
abbrev pub undone : Change → List Side → List Side
undone Added sides = take (length sides - 1) sides
undone (Replaced place side) sides = slice_set sides place side

-- sides that ask what others and one more ask, and the change that leads back to these
pub record IsAdded (old : List Side) (side : Side) (new : List Side) (change : Change) : Type 0 where
  pub inside : IsInside change new
  pub back : undone change new ≡ old
  pub legs : (k : ℕ) (e : Exit) → meets_all k new e ≡ (meets_all k old e && meets k e side)
  pub numbers : (gift : Gift) → gift_number new gift ≡ better gift.least (gift_number old gift) (number_by gift side)
  pub ways : (k : ℕ) → ways_of k new ≡ ways_of k old ++ ways_of k (side ∷ [])

-- sides that come of others as the entries tell
abbrev pub ComesBy : List Side → List Entry → List Side → Type 0
ComesBy old [] new = new ≡ old
ComesBy old (e ∷ entries) new = (next : List Side) × IsAdded old (side_of e.step) next e.change × ComesBy next entries new

-- the steps of a way
abbrev pub steps_of : LeafWay → List Step
steps_of way = map (λ (e : Entry). e.step) way.entries.items

-- each checkpoint has sides that ask what those of the steps up to it do
abbrev pub AreCheckpoints : List (Vec Side Global) → List Step → Type 0
AreCheckpoints checkpoints steps = (i : ℕ) (d : Vec Side Global) → i < length checkpoints → AskAlike (get_or checkpoints i d).items (take ((i + 1) * SPACING) (way_sides steps))

-- the sides are those of the way's steps, less those that others imply, and the checkpoints are such
pub record IsKept (way : LeafWay) : Type 0 where
  pub comes : ComesBy [] way.entries.items way.sides.items
  pub few : length way.checkpoints.items * SPACING ≤ length way.entries.items
  pub each : AreCheckpoints way.checkpoints.items (steps_of way)
