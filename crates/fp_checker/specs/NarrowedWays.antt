-- The way to a node, with the bars of the narrowings on it, and the trees that are to come.
use Rattle.std.specs.Prelude.{ℕ, ◌≡◌, ◌≤◌, List, [], ◌∷◌, length, map, reverse, take}
use Rattle.fp_tree.specs.declared.sides.Side.{Side}
use Rattle.fp_tree.specs.Ways.{pending_on, way_sides}
use Rattle.fp_certificate_rules.specs.Accepted.{claim_of}
use Rattle.fp_certificate_rules.specs.Leaves.{AreBarsAfter, PendingTree, PlacedNarrowing}
use Rattle.fp_checker.specs.declared.rules.narrowed_ways.NarrowedWay.{NarrowedWay}
use Rattle.fp_checker.specs.Cases.{Tested}
use Rattle.fp_checker.specs.LeafWays.{steps_of}

-- bars are those of narrowings, one after the other, by what the certificate claims
abbrev pub AreBars : Tested → List PlacedNarrowing → List Side → Type 0
AreBars t narrowings bars = AreBarsAfter t.problem t.windows t.told (claim_of t.told.answer) [] narrowings bars

-- for each tree that is to come, the next one first: so many of the bars, from the first on, are those of its narrowings
abbrev pub HoldBars : Tested → (bars : List Side) → (counts : List ℕ) → List PendingTree → Type 0
HoldBars t bars [] [] = Unit {0}
HoldBars t bars [] (tree ∷ pending) = ⊥
HoldBars t bars (n ∷ counts) [] = ⊥
HoldBars t bars (n ∷ counts) (tree ∷ pending) = (n ≤ length bars) × AreBars t tree.narrowings (take n bars) × HoldBars t (take n bars) counts pending

-- a way leads to a tree's first node, with the bars of its narrowings, and keeps how many of these hold in each of the trees that are to
-- come
pub record StandsBefore (t : Tested) (way : NarrowedWay) (tree : PendingTree) (pending : List PendingTree) : Type 0 where
  pub sides : way_sides (steps_of way.way) ≡ tree.sides
  pub bars : AreBars t tree.narrowings way.bars.items
  pub others : pending_on (steps_of way.way) ≡ map (λ (other : PendingTree). other.sides) pending
  pub counts : HoldBars t way.bars.items (reverse way.counts.items) pending

-- it does so to the first of the trees
abbrev pub StandsAt : Tested → NarrowedWay → List PendingTree → Type 0
StandsAt t way [] = ⊥
StandsAt t way (tree ∷ pending) = StandsBefore t way tree pending
