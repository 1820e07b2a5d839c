-- What the definitions say of small trees and ways.
use Rattle.std.proofs.Common.{◌≡◌, ℕ, ◌≤◌, Bool, true, false, List, [], ◌∷◌, length, map, refl, lit≤, lit<, arith}
use Rattle.std.specs.Prelude.{nat_eq, Option, Some, None}
use Rattle.fp_tree.specs.declared.sides.Split.TheVariants.{ByArc, ByTime, ByTrucks, ByWay}
use Rattle.fp_tree.specs.declared.sides.Side.TheVariants.{Without, Only, Before, From, AtMost, MoreThan, Through, Outside}
use Rattle.fp_tree.specs.declared.ways.Step.{Step}
use Rattle.fp_tree.specs.Sides.{Exit, Fork, HasCount, Meets}
use Rattle.fp_tree.specs.Trees.{Leaf, IsTree, splits_before, tree_branches, tree_leaves, tree_splits, with_leaf}
use Rattle.fp_tree.specs.Ways.{way_sides, pending_on}

-- A node is its fork, if it has one.
abbrev itself : Option Fork → Option Fork
itself o = o

-- A split by the arc 4, which leaves the terminal 9.
abbrev by_arc : ℕ → Option Fork
by_arc shipment = Some (record { split = ByArc shipment 4; tail = 9 })

-- Three shipments, one after the other: each uses the arc or not.
abbrev eight : List (Option Fork)
eight =
    by_arc 0 ∷ by_arc 1 ∷ by_arc 2 ∷ None ∷ None ∷ by_arc 2 ∷ None ∷ None ∷ by_arc 1 ∷ by_arc 2 ∷ None ∷ None ∷ by_arc 2 ∷ None ∷ None ∷ []

eight_is_tree : IsTree itself eight
eight_is_tree = refl

eight_leaves : length (tree_leaves itself eight) ≡ 8
eight_leaves = refl

seven_splits : length (tree_splits itself eight) ≡ 7
seven_splits = refl

eight_sides : map (λ (l : Leaf (Option Fork)). l.sides) (tree_leaves itself eight)
    ≡ (Without 0 4 ∷ Without 1 4 ∷ Without 2 4 ∷ []) ∷ (Without 0 4 ∷ Without 1 4 ∷ Only 2 4 9 ∷ []) ∷ (Without 0 4 ∷ Only 1 4 9 ∷ Without 2 4 ∷ []) ∷ (Without 0 4 ∷ Only 1 4 9 ∷ Only 2 4 9 ∷ [])
    ∷ (Only 0 4 9 ∷ Without 1 4 ∷ Without 2 4 ∷ []) ∷ (Only 0 4 9 ∷ Without 1 4 ∷ Only 2 4 9 ∷ []) ∷ (Only 0 4 9 ∷ Only 1 4 9 ∷ Without 2 4 ∷ []) ∷ (Only 0 4 9 ∷ Only 1 4 9 ∷ Only 2 4 9 ∷ []) ∷ []
eight_sides = refl

-- The second leaf of a tree of two becomes a split by a time, the first stays.
by_time : tree_leaves itself (with_leaf itself (λ x. Some (record { split = ByTime 1 7 30; tail = 0 }) ∷ None ∷ None ∷ []) 1 (by_arc 0 ∷ None ∷ None ∷ []))
    ≡ (record { node = None; sides = Without 0 4 ∷ [] }) ∷ (record { node = None; sides = Only 0 4 9 ∷ Before 1 7 30 ∷ [] }) ∷ (record { node = None; sides = Only 0 4 9 ∷ From 1 7 30 ∷ [] }) ∷ []
by_time = refl

-- A split by trucks has the sides of at most so many trucks, and of more.
by_trucks : tree_leaves itself (Some (record { split = ByTrucks 4 10 20 2; tail = 0 }) ∷ None ∷ None ∷ [])
    ≡ (record { node = None; sides = AtMost 4 10 20 2 ∷ [] }) ∷ (record { node = None; sides = MoreThan 4 10 20 2 ∷ [] }) ∷ []
by_trucks = refl

-- A split by a way has the sides without the arc, and by no rival of it.
by_way : tree_leaves itself (Some (record { split = ByWay 1 4; tail = 9 }) ∷ None ∷ None ∷ [])
    ≡ (record { node = None; sides = Without 1 4 ∷ [] }) ∷ (record { node = None; sides = Through 1 4 ∷ [] }) ∷ []
by_way = refl

-- The two splits of the tree with the split by a time: the first at the root, the new one below its second side.
by_time_splits : tree_branches itself (with_leaf itself (λ x. Some (record { split = ByTime 1 7 30; tail = 0 }) ∷ None ∷ None ∷ []) 1 (by_arc 0 ∷ None ∷ None ∷ []))
    ≡ (record { node = by_arc 0; sides = [] }) ∷ (record { node = Some (record { split = ByTime 1 7 30; tail = 0 }); sides = Only 0 4 9 ∷ [] }) ∷ []
by_time_splits = refl

-- The new one stands after the one split before the leaf.
one_before : splits_before itself 1 (by_arc 0 ∷ None ∷ None ∷ []) ≡ 1
one_before = refl

-- A step at the split by the arc.
abbrev step_by : ℕ → Bool → Step
step_by shipment later = record { split = ByArc shipment 4; tail = 9; later = later }

-- First side, second side, first side: the nearest tree to come is under the last step, the other
-- under the first.
abbrev mixed : List Step
mixed = step_by 0 false ∷ step_by 1 true ∷ step_by 2 false ∷ []

mixed_sides : way_sides mixed ≡ Without 0 4 ∷ Only 1 4 9 ∷ Without 2 4 ∷ []
mixed_sides = refl

mixed_pending : pending_on mixed ≡ (Without 0 4 ∷ Only 1 4 9 ∷ Only 2 4 9 ∷ []) ∷ (Only 0 4 9 ∷ []) ∷ []
mixed_pending = refl

all_later : pending_on (step_by 0 true ∷ step_by 1 true ∷ []) ≡ []
all_later = refl

-- A leg of the shipment 0 that leaves the terminal 7 at 9 / 2 by the arc 4.
abbrev leg : Exit
leg = record { arc = 4; tail = 7; moment = 9; is_rival = λ a. nat_eq a 5 }

-- `Only` asks nothing of a leg that leaves another terminal.
elsewhere : Meets 2 0 leg (Only 0 5 8)
elsewhere = λ own left. cc left

-- `From` holds at the time itself.
at_the_time : Meets 2 0 (record leg { moment = 10 }) (From 0 7 5)
at_the_time = λ own left. lit≤ tt

-- `Before` holds up to it.
before_the_time : Meets 2 0 leg (Before 0 7 5)
before_the_time = λ own left. lit< tt

-- The sides of one shipment ask nothing of another.
another : Meets 2 1 leg (Without 0 4)
another = λ own. cc own

-- At most 0 trucks from 3 until 5 forbid the leg at 9 / 2, whosever it is; until 4 they don't, nor
-- by another arc, and at most 1 forbids no leg.
in_the_run : Meets 2 0 leg (AtMost 4 3 5 0) → ⊥
in_the_run is = let late : 10 ≤ 9 = is refl refl (lit≤ tt) in absurd (omega (arith, late))

after_the_run : Meets 2 0 leg (AtMost 4 3 4 0)
after_the_run = λ none own begun. lit≤ tt

by_another_arc : Meets 2 0 leg (AtMost 5 3 5 0)
by_another_arc = λ none own. cc own

one_is_left : Meets 2 0 leg (AtMost 4 3 5 1)
one_is_left = λ none. cc none

-- By a way the shipment goes by no rival of its arc, and another shipment as it likes.
by_a_rival : Meets 2 0 leg (Through 0 5) → ⊥
by_a_rival meets = let rival : true ≡ false = meets refl in cc rival

by_no_rival : Meets 2 0 leg (Through 0 6)
by_no_rival = λ own. refl

by_another : Meets 2 1 leg (Through 0 5)
by_another = λ own. cc own

-- Outside the run from 3 until 5 a shipment doesn't leave at 9 / 2 by the arc; until 4 it does, and another shipment does.
inside_the_run : Meets 2 0 leg (Outside 0 4 3 5) → ⊥
inside_the_run is = let late : 10 ≤ 9 = is refl refl (lit≤ tt) in absurd (omega (arith, late))

outside_the_run : Meets 2 0 leg (Outside 0 4 3 4)
outside_the_run = λ shipment own begun. lit≤ tt

of_another_shipment : Meets 2 1 leg (Outside 0 4 3 5)
of_another_shipment = λ own. cc own

-- Of two trucks at most 2 and more than 1 leave, and not more than 2.
abbrev two_trucks : ℕ → ℕ → ℕ → ℕ
two_trucks arc point until = 2

two_at_most : HasCount two_trucks (AtMost 4 3 5 2)
two_at_most = lit≤ tt

more_than_one : HasCount two_trucks (MoreThan 4 3 5 1)
more_than_one = lit< tt

not_more_than_two : HasCount two_trucks (MoreThan 4 3 5 2) → ⊥
not_more_than_two is = absurd (omega (arith, is))
