-- What a leaf takes for a class, shipment by shipment, in parts of a unit of money, of which the scale makes one.
-- Prices that share out a truck's cost are this project's own; they are multipliers in the sense of Lagrangian relaxation.
use Rattle.std.specs.Prelude.{ℕ, ◌+◌, ◌*◌, ◌/◌, ◌-◌, ◌≤◌, List, [], ◌∷◌, Bool, ◌&&◌, cond, nat_eq, nat_le, sum_by, slice_index_or, Option, Some, None, if◌then◌else◌}
use Rattle.std.specs.List.{AllByRecursion}
use Rattle.fp_model.specs.declared.parts.Arc.{Arc}
use Rattle.fp_model.specs.declared.parts.Leg.{Leg}
use Rattle.fp_model.specs.declared.parts.Shipment.{Shipment}
use Rattle.fp_model.specs.Problem.{Problem, arc_at}
use Rattle.fp_prices.specs.declared.leaf_prices.Kind.{Kind}
use Rattle.fp_prices.specs.declared.leaf_prices.Kind.TheVariants.{Linear, Even, Table}
use Rattle.fp_prices.specs.declared.tables.Weight.{Weight}
use Rattle.fp_prices.specs.Shares.{ClassShare}

-- the weight of the shipment with the number k, and 0 where it has none
abbrev pub weight_in : List Weight → ℕ → ℕ
weight_in [] k = 0
weight_in (w ∷ weights) k = cond (nat_eq w.shipment k) w.w (weight_in weights k)

-- the price rule of a share: its weights and what a full truck pays by size are together at most the cost of the arc's truck
abbrev pub KeepsRule : ℕ → Arc → ClassShare → Type 0
KeepsRule scale arc share = sum_by (λ (w : Weight). w.w) share.weights + arc.capacity * share.v ≤ scale * arc.truck

-- each share of each table keeps the price rule
abbrev pub AllKeepRule : Problem → List (List ClassShare) → Type 0
AllKeepRule p tables = AllByRecursion (λ table. AllByRecursion (λ (share : ClassShare). KeepsRule p.scale (arc_at p share.arc) share) table) tables

-- the share of a class in a table, if there is one
abbrev pub share_for : List ClassShare → Leg → Option ClassShare
share_for [] c = None
share_for (share ∷ table) c = if nat_eq share.arc c.arc && nat_eq share.point c.depart then Some share else share_for table c

-- the linear price for a shipment of a size: its part of a full truck
abbrev pub linear_price : ℕ → Arc → ℕ → ℕ
linear_price scale arc size = size * (scale * arc.truck / arc.capacity)

-- the even price, where so many shipments of so much size in all are allowed: an equal part of one truck where it holds them all
abbrev pub even_price : ℕ → Arc → (count all : ℕ) → ℕ → ℕ
even_price scale arc count all size = cond (nat_le all arc.capacity) (scale * arc.truck / count) (linear_price scale arc size)

-- the price by a share for the shipment with the number k
abbrev pub share_price : ClassShare → (k size : ℕ) → ℕ
share_price share k size = weight_in share.weights k + size * share.v

-- the price by a table: by the class's share, and the linear price where it has none
abbrev pub table_price : ℕ → Arc → Option ClassShare → (k size : ℕ) → ℕ
table_price scale arc None k size = linear_price scale arc size
table_price scale arc (Some share) k size = share_price share k size

-- for how many of the shipments, numbered from i, a class is allowed
abbrev pub allowed_count : (ℕ → Bool) → ℕ → List Shipment → ℕ
allowed_count allowed i [] = 0
allowed_count allowed i (s ∷ shipments) = (if allowed i then 1 else 0) + allowed_count allowed (i + 1) shipments

-- the sizes of these shipments in all
abbrev pub allowed_size : (ℕ → Bool) → ℕ → List Shipment → ℕ
allowed_size allowed i [] = 0
allowed_size allowed i (s ∷ shipments) = (if allowed i then s.size else 0) + allowed_size allowed (i + 1) shipments

-- the table with a number, counted from 1, and an empty one where there is none
abbrev pub table_at : List (List ClassShare) → ℕ → List ClassShare
table_at tables id = slice_index_or tables (id - 1) []

-- the truck price of a class for the shipment with the number k and a size, where `allowed` tells which classes are allowed for whom
abbrev pub truck_price : Problem → List (List ClassShare) → (ℕ → Leg → Bool) → Kind → Leg → (k size : ℕ) → ℕ
truck_price p tables allowed Linear c k size = linear_price p.scale (arc_at p c.arc) size
truck_price p tables allowed Even c k size =
    even_price p.scale (arc_at p c.arc) (allowed_count (λ j. allowed j c) 0 p.shipments) (allowed_size (λ j. allowed j c) 0 p.shipments) size
truck_price p tables allowed (Table id) c k size = table_price p.scale (arc_at p c.arc) (share_for (table_at tables id) c) k size
