-- Allowed timed walks of the shipments at a leaf, and how far a shipment comes on a walk of classes. The source of timed arcs, here
-- classes: Boland, Hewitt, Marshall and Savelsbergh, "The Continuous-Time Service Network Design Problem", Operations Research 65, 2017.
use Rattle.std.specs.Prelude.{ℕ, List, Bool, ◌&&◌, nat_eq, nat_le, Option, None, Some, if◌then◌else◌}
use Rattle.fp_base_lists.specs.Numbered.{AllZipFrom}
use Rattle.fp_model.specs.declared.parts.Leg.{Leg}
use Rattle.fp_model.specs.declared.parts.Shipment.{Shipment}
use Rattle.fp_model.specs.Problem.{Problem, arc_at}
use Rattle.fp_flatnet.specs.Tables.{windows_in}
use Rattle.fp_longestarcs.specs.Classes.{head_of}
use Rattle.fp_longestarcs.specs.Networks.{TimedNetwork, points_in}
use Rattle.fp_allowed.specs.Allowed.{is_allowed}
use Rattle.fp_allowed.specs.Bits.{row_allows}
use Rattle.fp_allowed.specs.Walks.{IsTimedWalk}
use Rattle.fp_prices.specs.Rounds.{LeafModel}
use Rattle.fp_duals_walks.specs.declared.row_walks.Standing.{Standing}

-- an allowed timed walk at the leaf of the shipment with the number k
abbrev pub IsAllowedWalk : LeafModel → ℕ → Shipment → List Leg → Type 0
IsAllowedWalk leaf k s walk =
    IsTimedWalk leaf.setting.problem (points_in leaf.setting.network)
    (is_allowed leaf.setting.problem (windows_in leaf.setting.windows) (points_in leaf.setting.network) leaf.sides k) s walk

-- for each shipment an allowed timed walk at the leaf
abbrev pub AreAllowedWalks : LeafModel → List (List Leg) → Type 0
AreAllowedWalks leaf walks = AllZipFrom (λ k. IsAllowedWalk leaf k) 0 leaf.setting.problem.shipments walks

-- whether a shipment can go on by a class: its row allows it, and it leaves where the shipment stands, not before it is ready
abbrev pub can_take : Problem → TimedNetwork → List Bool → Standing → Leg → Bool
can_take p net row here c = row_allows net row c && (nat_eq (arc_at p c.arc).from here.terminal && nat_le here.ready c.depart)

-- where it stands after a class
abbrev pub standing_after : Problem → TimedNetwork → Leg → Standing
standing_after p net c = record { terminal = (arc_at p c.arc).to; ready = head_of p (points_in net) c }

-- where it stands after a class by which it can go on
abbrev pub after_class : Problem → TimedNetwork → List Bool → Standing → Leg → Option Standing
after_class p net row here c = if can_take p net row here c then Some (standing_after p net c) else None
