-- The departures that a shipment has left at a terminal, and splits that divide them.
use Rattle.std.specs.Prelude.{ℕ, zero, suc, ◌+◌, ◌≡◌, ◌<◌, ◌≤◌, List, [], ◌∷◌, ◌++◌, length, Bool, ◌&&◌, nat_eq, nat_le, Option, Some, None, if◌then◌else◌}
use Rattle.fp_base_lists.specs.Below.{count_below}
use Rattle.fp_model.specs.Problem.{Problem}
use Rattle.fp_timenodes.specs.declared.places.TheConstants.{LATEST}
use Rattle.fp_flatnet.specs.declared.window_tables.Window.{Window}
use Rattle.fp_tree.specs.declared.sides.Side.{Side}
use Rattle.fp_tree.specs.declared.sides.Split.{Split}
use Rattle.fp_tree.specs.declared.sides.Split.TheVariants.{ByArc, ByTime, ByTrucks, ByWay}
use Rattle.fp_tree.specs.Sides.{first_of_split, second_of_split}
use Rattle.fp_allowed.specs.Allowed.{exit_of, meets_all, tails_of}

-- whether a leg of the shipment with the number k by an arc can leave at a whole moment: the window
-- has begun, and no side forbids it
abbrev pub is_departure : Problem → List Side → ℕ → ℕ → Window → ℕ → Bool
is_departure p sides k arc w m = nat_le w.lo m && meets_all k sides (exit_of p (record { arc = arc; depart = m }))

-- the number of whole moments in a window, if there is one, at which a leg by the arc can leave
abbrev pub departures_in : Problem → List Side → ℕ → ℕ → Option Window → ℕ
departures_in p sides k arc None = 0
departures_in p sides k arc (Some w) = count_below (w.hi + 1) (is_departure p sides k arc w)

-- the same over all arcs below a number that leave the terminal
abbrev pub departures_below : Problem → (ℕ → ℕ → Option Window) → List Side → ℕ → ℕ → ℕ → ℕ
departures_below p windows sides k terminal zero = 0
departures_below p windows sides k terminal (suc a) =
    (if nat_eq (tails_of p a) terminal then departures_in p sides k a (windows k a) else 0) + departures_below p windows sides k terminal a

-- the departures left: the number of pairs of an arc that leaves the terminal and a whole moment in
-- its window that no side forbids
abbrev pub departures_left : Problem → (ℕ → ℕ → Option Window) → List Side → ℕ → ℕ → ℕ
departures_left p windows sides k terminal = departures_below p windows sides k terminal (length p.arcs)

-- a split of the shipment with the number k at a terminal: by an arc that leaves it or the way by it, or by a time; one by trucks is of no
-- shipment
abbrev pub IsSplitAt : Problem → ℕ → ℕ → Split → Type 0
IsSplitAt p k terminal (ByArc shipment arc) = (shipment ≡ k) × (arc < length p.arcs) × (tails_of p arc ≡ terminal)
IsSplitAt p k terminal (ByTime shipment place at) = (shipment ≡ k) × (place ≡ terminal) × (at ≤ LATEST)
IsSplitAt p k terminal (ByTrucks arc point until most) = ⊥
IsSplitAt p k terminal (ByWay shipment arc) = (shipment ≡ k) × (arc < length p.arcs) × (tails_of p arc ≡ terminal)

-- a split divides the departures left: each side, added to the sides, leaves some of them, and
-- together they leave all
pub record DividesDepartures (p : Problem) (windows : ℕ → ℕ → Option Window) (sides : List Side) (k terminal : ℕ) (split : Split) : Type 0 where
  pub first : 1 ≤ departures_left p windows (sides ++ (first_of_split split ∷ [])) k terminal
  pub second : 1 ≤ departures_left p windows (sides ++ (second_of_split split terminal ∷ [])) k terminal
  pub together : departures_left p windows (sides ++ (first_of_split split ∷ [])) k terminal
      + departures_left p windows (sides ++ (second_of_split split terminal ∷ [])) k terminal
      ≡ departures_left p windows sides k terminal
