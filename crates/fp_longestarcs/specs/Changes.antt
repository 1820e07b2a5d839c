-- What a new point changes in a network.
use Rattle.std.specs.Prelude.{ℕ, ◌+◌, ◌<◌, ◌≡◌, List, [], ◌∷◌, length, map, slice_set, insert, if◌then◌else◌, ◌==◌, ◌&&◌, ◌||◌, nat_lt, nat_le}
use Rattle.std.specs.List.{range_with_len}
use Rattle.fp_model.specs.Problem.{Problem, arc_at}
use Rattle.fp_model.specs.Routes.{step}
use Rattle.fp_base_lists.specs.Membership.{list_has}
use Rattle.fp_timenodes.specs.Points.{TimePoints, points_at}
use Rattle.fp_longestarcs.specs.Classes.{head_of}
use Rattle.fp_base_lists.specs.Ascending.{place_in}
use Rattle.fp_longestarcs.specs.Networks.{TimedNetwork, points_in, tail_in, heads_in}

-- the points of the terminals, with one more at a terminal
abbrev pub extended_points : TimedNetwork → ℕ → ℕ → List (List ℕ)
extended_points net terminal at = slice_set net.points terminal (insert (points_in net terminal) (place_in (points_in net terminal) at) at)

-- the heads of an arc, with a copy from the new point at its greatest head where the arc leaves the
-- terminal
abbrev pub heads_with : Problem → TimedNetwork → ℕ → ℕ → ℕ → List ℕ
heads_with p net terminal at arc =
    if tail_in net arc == terminal
    then insert (heads_in net arc) (place_in (points_in net terminal) at) (head_of p (points_in net) (record { arc = arc; depart = at }))
    else heads_in net arc

-- the network with a new point and its outgoing copies, where all other heads stay
abbrev pub refined : Problem → TimedNetwork → ℕ → ℕ → TimedNetwork
refined p net terminal at = record {
  tails = net.tails;
  points = extended_points net terminal at;
  heads = map (heads_with p net terminal at) (range_with_len 0 (length net.tails));
}

-- the head of a copy that leaves at q, lifted to a time that it lies before and that the copy can
-- reach with the arc's step
abbrev pub lifted_head : ℕ → ℕ → ℕ → ℕ → ℕ
lifted_head step at q head = if nat_lt head at && nat_le at (q + step) then at else head

-- the heads of an arc's copies, each lifted to the time
abbrev pub lifted : ℕ → ℕ → List ℕ → List ℕ → List ℕ
lifted step at (q ∷ qs) (head ∷ heads) = lifted_head step at q head ∷ lifted step at qs heads
lifted step at qs heads = []

-- the heads of an arc, lifted to a point of the terminal where the arc enters it
abbrev pub heads_to : Problem → TimedNetwork → ℕ → ℕ → ℕ → List ℕ
heads_to p net terminal at arc =
    if (arc_at p arc).to == terminal
    then lifted (step p arc) at (points_in net (tail_in net arc)) (heads_in net arc)
    else heads_in net arc

-- the network whose heads at a terminal are lifted to a point of it, where all else stays
abbrev pub restored : Problem → TimedNetwork → ℕ → ℕ → TimedNetwork
restored p net terminal at = record {
  tails = net.tails;
  points = net.points;
  heads = map (heads_to p net terminal at) (range_with_len 0 (length net.tails));
}

-- the points as of a round are those of the network and one more at a terminal
abbrev pub HasAlso : TimedNetwork → ℕ → ℕ → TimePoints → ℕ → Type 0
HasAlso net terminal at v round =
    (t q : ℕ) → t < length net.points →
    list_has (points_at v t round) q ≡ (t == terminal && at == q || list_has (points_in net t) q)
