-- Where a shipment goes, and when.
-- A plan over the denominator d has each leg leave at the moment `depart / d`.
-- The source of the problem: Boland, Hewitt, Marshall and Savelsbergh, "The Continuous-Time Service
-- Network Design Problem", Operations Research 65, 2017. The hold at a terminal is this project's
-- own.
use Rattle.std.specs.Prelude.{ℕ, ◌+◌, ◌*◌, ◌<◌, ◌≤◌, ◌≡◌, ◌≢◌, List, [], ◌∷◌, length, map, All}
use Rattle.fp_base_lists.specs.Distinct.{AreDistinct}
use Rattle.fp_model.specs.declared.parts.Shipment.{Shipment}
use Rattle.fp_model.specs.declared.parts.Leg.{Leg}
use Rattle.fp_model.specs.Problem.{Problem, arc_at, hold_at}

-- the arcs exist and lead from one terminal to another, each from where the last one ended
abbrev pub Leads : Problem → ℕ → List ℕ → ℕ → Type 0
Leads p here [] there = here ≡ there
Leads p here (a ∷ arcs) there =
    (a < length p.arcs) × ((arc_at p a).from ≡ here) × Leads p (arc_at p a).to arcs there

-- the terminals that arcs enter
abbrev pub ends_of : Problem → List ℕ → List ℕ
ends_of p arcs = map (λ a. (arc_at p a).to) arcs

-- a route of a shipment: not empty, from its origin to its destination, and no terminal twice
pub record IsRoute (p : Problem) (s : Shipment) (arcs : List ℕ) : Type 0 where
  pub some : arcs ≢ []
  pub leads : Leads p s.from arcs s.to
  pub once : AreDistinct (s.from ∷ ends_of p arcs)

-- the step of an arc, its time and the hold of its head: so long after it left by the arc a
-- shipment can leave the next terminal
abbrev pub step : Problem → ℕ → ℕ
step p a = (arc_at p a).time + hold_at p (arc_at p a).to

-- the time of a walk of arcs: their times, and the holds of the terminals between them
abbrev pub walk_time : Problem → List ℕ → ℕ
walk_time p [] = 0
walk_time p (a ∷ []) = (arc_at p a).time
walk_time p (a ∷ b ∷ arcs) = step p a + walk_time p (b ∷ arcs)

-- over the denominator d, the first leg leaves at `ready` or later, and each next one a step after
-- the one before or later
abbrev pub LeavesReady : Problem → ℕ → ℕ → List Leg → Type 0
LeavesReady p d ready [] = Unit {0}
LeavesReady p d ready (leg ∷ legs) =
    (ready ≤ leg.depart) × LeavesReady p d (leg.depart + d * step p leg.arc) legs

-- over the denominator d, the last leg arrives by the due time
abbrev pub ArrivesBy : Problem → ℕ → ℕ → List Leg → Type 0
ArrivesBy p d due [] = Unit {0}
ArrivesBy p d due (leg ∷ []) = leg.depart + d * (arc_at p leg.arc).time ≤ d * due
ArrivesBy p d due (leg ∷ next ∷ legs) = ArrivesBy p d due (next ∷ legs)

-- the arcs of legs
abbrev pub arcs_of : List Leg → List ℕ
arcs_of legs = map (λ (l : Leg). l.arc) legs

-- the legs go by arcs of the problem
abbrev pub ArcsExist : Problem → List Leg → Type 0
ArcsExist p legs = All (λ (l : Leg). l.arc < length p.arcs) legs

-- legs that carry a shipment from its origin to its destination within its times
pub record Carries (p : Problem) (d : ℕ) (s : Shipment) (legs : List Leg) : Type 0 where
  pub route : IsRoute p s (arcs_of legs)
  pub ready : LeavesReady p d (d * s.release) legs
  pub due : ArrivesBy p d s.due legs
