-- The definitions at two arcs in a line: the step of the first is 4, with a hold of 1, that of the
-- second 5, and the last terminal has the points 8 and 9 too.
use Rattle.std.proofs.Common.{◌≡◌, ℕ, List, [], ◌∷◌, refl}
use Rattle.fp_model.specs.declared.parts.Arc.{Arc}
use Rattle.fp_model.specs.declared.parts.Leg.{Leg}
use Rattle.fp_model.specs.Problem.{Problem}
use Rattle.fp_longestarcs.specs.Classes.{class_of, head_of}
use Rattle.fp_longestarcs.specs.Networks.{TimedNetwork, class_count, class_number, kept_head, point_count, points_in}
use Rattle.fp_longestarcs.specs.Whole.{heads_of}
use Rattle.fp_longestarcs.specs.Changes.{refined, restored}

-- an arc with these ends and this time
abbrev arc_of : ℕ → ℕ → ℕ → Arc
arc_of from to time = record { from = from; to = to; time = time; capacity = 10; truck = 100; freight = 0 }

-- three terminals in a line, two arcs, and a hold of 1 in the middle
abbrev line : Problem
line = record {
  terminals = (65 ∷ []) ∷ (66 ∷ []) ∷ (67 ∷ []) ∷ [];
  holds = 0 ∷ 1 ∷ 0 ∷ [];
  arcs = arc_of 0 1 3 ∷ arc_of 1 2 5 ∷ [];
  shipments = [];
  scale = 1000000;
}

-- a network of the line
abbrev network : List ℕ → List ℕ → List ℕ → TimedNetwork
network middle first second = record {
  tails = 0 ∷ 1 ∷ [];
  points = (0 ∷ []) ∷ middle ∷ (0 ∷ 8 ∷ 9 ∷ []) ∷ [];
  heads = first ∷ second ∷ [];
}

-- the class of an arc and a point
abbrev leg : ℕ → ℕ → Leg
leg arc depart = record { arc = arc; depart = depart }

-- the network of the start, and with the middle terminal's point 4, is as worked by hand
start : heads_of line (points_in (network (0 ∷ []) (0 ∷ []) (0 ∷ []))) ≡ (0 ∷ []) ∷ (0 ∷ []) ∷ []
start = refl

with-point : heads_of line (points_in (network (0 ∷ 4 ∷ []) [] [])) ≡ (4 ∷ []) ∷ (0 ∷ 9 ∷ []) ∷ []
with-point = refl

-- refining leaves the head of the first arc, and restoring moves it
refined_line : refined line (network (0 ∷ []) (0 ∷ []) (0 ∷ [])) 1 4 ≡ network (0 ∷ 4 ∷ []) (0 ∷ []) (0 ∷ 9 ∷ [])
refined_line = refl

restored_line : restored line (network (0 ∷ 4 ∷ []) (0 ∷ []) (0 ∷ 9 ∷ [])) 1 4 ≡ network (0 ∷ 4 ∷ []) (4 ∷ []) (0 ∷ 9 ∷ [])
restored_line = refl

-- a point that the copy from 0 can't reach in time moves nothing
late_point : restored line (network (0 ∷ 5 ∷ []) (0 ∷ []) (0 ∷ 9 ∷ [])) 1 5 ≡ network (0 ∷ 5 ∷ []) (0 ∷ []) (0 ∷ 9 ∷ [])
late_point = refl

-- classes are numbered by arc and then by point
numbered : class_number (network (0 ∷ 4 ∷ []) (4 ∷ []) (0 ∷ 9 ∷ [])) (leg 1 4) ≡ 2
numbered = refl

counted : class_count (network (0 ∷ 4 ∷ []) (4 ∷ []) (0 ∷ 9 ∷ [])) ≡ 3
counted = refl

points_counted : point_count (network (0 ∷ 4 ∷ []) (4 ∷ []) (0 ∷ 9 ∷ [])) ≡ 6
points_counted = refl

head_kept : kept_head (network (0 ∷ 4 ∷ []) (4 ∷ []) (0 ∷ 9 ∷ [])) (leg 1 4) ≡ 9
head_kept = refl

-- the moment 11 / 2 on the second arc falls into the class of 4
class_there : class_of line (points_in (network (0 ∷ 4 ∷ []) (4 ∷ []) (0 ∷ 9 ∷ []))) 2 (leg 1 11) ≡ leg 1 4
class_there = refl

head_there : head_of line (points_in (network (0 ∷ 4 ∷ []) (4 ∷ []) (0 ∷ 9 ∷ []))) (leg 0 0) ≡ 4
head_there = refl
