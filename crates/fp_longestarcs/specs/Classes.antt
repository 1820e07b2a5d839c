-- Classes of moments, and their heads. The class of a moment on an arc is the arc with the greatest
-- point of its tail that is not after the moment. It is written as a leg that leaves at that point.
-- The source of timed arcs: Boland, Hewitt, Marshall and Savelsbergh, "The Continuous-Time Service
-- Network Design Problem", Operations Research 65, 2017.
use Rattle.std.specs.Prelude.{ℕ, ◌+◌, List}
use Rattle.fp_model.specs.declared.parts.Leg.{Leg}
use Rattle.fp_model.specs.Problem.{Problem, arc_at}
use Rattle.fp_model.specs.Routes.{step}
use Rattle.fp_timenodes.specs.Floor.{floor_point}

-- the class of a leg that leaves at the moment `depart / d`, where `points` gives the points of
-- each terminal
abbrev pub class_of : Problem → (ℕ → List ℕ) → ℕ → Leg → Leg
class_of p points d l = record {
  arc = l.arc;
  depart = floor_point (points (arc_at p l.arc).from) d l.depart;
}

-- the head of a class: the greatest point of the arc's head that is not after the class's point and
-- the arc's step
abbrev pub head_of : Problem → (ℕ → List ℕ) → Leg → ℕ
head_of p points c = floor_point (points (arc_at p c.arc).to) 1 (c.depart + step p c.arc)
