-- The slack of sides: how often departures that are left can still be divided.
use Rattle.std.specs.Prelude.{ℕ, ◌-◌, ◌<◌, ◌≡◌, List, length, Option}
use Rattle.fp_base_lists.specs.Below.{sum_below}
use Rattle.fp_model.specs.Problem.{Problem}
use Rattle.fp_flatnet.specs.declared.window_tables.Window.{Window}
use Rattle.fp_tree.specs.declared.sides.Side.{Side}
use Rattle.fp_tree.specs.Sides.{Fork, second, second_of_split}
use Rattle.fp_allowed.specs.Departures.{DividesDepartures, departures_left}

-- the departures left at a terminal less one, and 0 where none is left
abbrev pub slack_at : Problem → (ℕ → ℕ → Option Window) → List Side → ℕ → ℕ → ℕ
slack_at p windows sides k terminal = departures_left p windows sides k terminal - 1

-- the slack of sides: that of all shipments at all terminals together; without sides it is the
-- instance's
abbrev pub slack : Problem → (ℕ → ℕ → Option Window) → List Side → ℕ
slack p windows sides = sum_below (length p.shipments) (λ k. sum_below (length p.terminals) (slack_at p windows sides k))

-- a fork divides the departures that a shipment has left at a terminal under sides
pub record DividesSome (p : Problem) (windows : ℕ → ℕ → Option Window) (sides : List Side) (f : Fork) : Type 0 where
  pub shipment : ℕ
  pub terminal : ℕ
  pub exists : shipment < length p.shipments
  pub tail : second f ≡ second_of_split f.split terminal
  pub divides : DividesDepartures p windows sides shipment terminal f.split
