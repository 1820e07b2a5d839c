-- Networks of an instance: those that have the timed copies of its arcs, those whose heads are the
-- greatest, and those with the points as of a round.
use Rattle.std.specs.Prelude.{ℕ, ◌<◌, ◌≡◌, List, length, map}
use Rattle.std.specs.List.{range_with_len}
use Rattle.fp_model.specs.declared.parts.Arc.{Arc}
use Rattle.fp_model.specs.Problem.{Problem, arc_at}
use Rattle.fp_timenodes.specs.Floor.{HaveSamePoints}
use Rattle.fp_timenodes.specs.Points.{TimePoints, points_at}
use Rattle.fp_longestarcs.specs.Classes.{head_of}
use Rattle.fp_longestarcs.specs.Networks.{TimedNetwork, points_in, IsNetwork}

-- the tails of arcs
abbrev pub arc_tails : List Arc → List ℕ
arc_tails arcs = map (λ (a : Arc). a.from) arcs

-- the heads of an arc's timed copies, one for each point of its tail
abbrev pub heads_from : Problem → (ℕ → List ℕ) → ℕ → List ℕ
heads_from p points arc = map (λ q. head_of p points (record { arc = arc; depart = q })) (points (arc_at p arc).from)

-- the heads of all arcs' timed copies
abbrev pub heads_of : Problem → (ℕ → List ℕ) → List (List ℕ)
heads_of p points = map (heads_from p points) (range_with_len 0 (length p.arcs))

-- a network has the timed copies of the instance's arcs, at the instance's terminals
pub record HasArcsOf (p : Problem) (net : TimedNetwork) : Type 0 where
  pub tails : net.tails ≡ arc_tails p.arcs
  pub terminals : length net.points ≡ length p.terminals

-- a network is whole for an instance: it has the timed copies of its arcs, and each head is the
-- greatest
pub record IsWholeNetwork (p : Problem) (net : TimedNetwork) : Type 0 where
  pub valid : IsNetwork net
  pub arcs : HasArcsOf p net
  pub heads : net.heads ≡ heads_of p (points_in net)

-- the whole network of an instance with the points as of a round
pub record IsNetworkOf (p : Problem) (v : TimePoints) (round : ℕ) (net : TimedNetwork) : Type 0 where
  pub whole : IsWholeNetwork p net
  pub points : (terminal : ℕ) → terminal < length p.terminals → HaveSamePoints (points_in net terminal) (points_at v terminal round)
