-- The direct route of a shipment: always onward by the arc of least number that begins a walk of
-- least time.
use Rattle.std.specs.Prelude.{ℕ, ◌+◌, ◌≤◌, ◌<◌, ◌≡◌, ◌≢◌, List, [], ◌∷◌, length, Option, None, MatchOption, slice_index_or}
use Rattle.std.specs.List.{AllZip}
use Rattle.fp_model.specs.declared.parts.Leg.{Leg}
use Rattle.fp_model.specs.declared.parts.Shipment.{Shipment}
use Rattle.fp_model.specs.Problem.{Problem, arc_at}
use Rattle.fp_model.specs.Routes.{Leads, walk_time, step}

-- some walk of least time from here to there begins with the arc
pub record BeginsLeast (p : Problem) (here there a : ℕ) : Type 0 where
  pub rest : List ℕ
  pub leads : Leads p here (a ∷ rest) there
  pub least : (others : List ℕ) → Leads p here others there → walk_time p (a ∷ rest) ≤ walk_time p others

-- the arc begins a walk of least time, and no arc of a lower number does
pub record BeginsFirst (p : Problem) (here there a : ℕ) : Type 0 where
  pub begins : BeginsLeast p here there a
  pub first : (b : ℕ) → b < a → BeginsLeast p here there b → ⊥

-- the first arc below a number that begins a walk of least time, or that there is none
abbrev pub IsFirstBelow : Problem → (there number here : ℕ) → Option ℕ → Type 0
IsFirstBelow p there number here o = MatchOption o ((a : ℕ) → a < number → BeginsLeast p here there a → ⊥) (BeginsFirst p here there)

-- for each terminal the first arc that begins a walk of least time from it to there, or that there
-- is none
pub record AreOnwardArcs (p : Problem) (there : ℕ) (onward : List (Option ℕ)) : Type 0 where
  pub one_each : length onward ≡ length p.terminals
  pub exact : (here : ℕ) → here < length p.terminals → IsFirstBelow p there (length p.arcs) here (slice_index_or onward here None)

-- legs from here to there, each by the first arc that begins a walk of least time: the first leaves
-- when ready, each next one a step after the one before
abbrev pub IsDirectRoute : Problem → (there here ready : ℕ) → List Leg → Type 0
IsDirectRoute p there here ready [] = here ≡ there
IsDirectRoute p there here ready (l ∷ legs) =
    (here ≢ there) × BeginsFirst p here there l.arc × (l.depart ≡ ready) × IsDirectRoute p there (arc_at p l.arc).to (ready + step p l.arc) legs

-- the direct route of a shipment, which leaves at its release
abbrev pub IsDirect : Problem → Shipment → List Leg → Type 0
IsDirect p s legs = IsDirectRoute p s.to s.from s.release legs

-- each shipment has its direct route
abbrev pub IsDirectPlan : Problem → List (List Leg) → Type 0
IsDirectPlan p routes = AllZip (IsDirect p) p.shipments routes
