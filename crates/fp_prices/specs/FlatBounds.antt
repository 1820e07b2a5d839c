-- A bound of all plans that needs no points: each shipment goes its own cheapest way through the arcs, and pays for each arc its
-- part of a full truck. The relaxation by parts of trucks is that of the service network design literature: T. G. Crainic, "Service
-- network design in freight transportation", European Journal of Operational Research 122, 2000.
use Rattle.std.specs.Prelude.{ℕ, ◌+◌, ◌*◌, ◌≤◌, ◌≡◌, List, sum_by}
use Rattle.fp_base_lists.specs.Numbered.{AllZipFrom}
use Rattle.fp_model.specs.declared.parts.Shipment.{Shipment}
use Rattle.fp_model.specs.Problem.{Problem, arc_at}
use Rattle.fp_model.specs.Routes.{Leads}
use Rattle.fp_prices.specs.Prices.{linear_price}

-- what an arc costs a shipment of a size: the linear price, and the flow
abbrev pub arc_price : Problem → (size : ℕ) → ℕ → ℕ
arc_price p size a = linear_price p.scale (arc_at p a) size + p.scale * (arc_at p a).freight * size

-- what a walk of arcs costs it
abbrev pub arcs_price : Problem → ℕ → List ℕ → ℕ
arcs_price p size arcs = sum_by (arc_price p size) arcs

-- the least that a walk of arcs from a shipment's origin to its destination costs it
pub record IsLeastArcsPrice (p : Problem) (s : Shipment) (n : ℕ) : Type 0 where
  pub arcs : List ℕ
  pub leads : Leads p s.from arcs s.to
  pub price : arcs_price p s.size arcs ≡ n
  pub least : (others : List ℕ) → Leads p s.from others s.to → n ≤ arcs_price p s.size others

-- the flat bound: the sum of these over all shipments
pub record IsFlatBound (p : Problem) (value : ℕ) : Type 0 where
  pub prices : List ℕ
  pub least : AllZipFrom (λ (k : ℕ) (s : Shipment) n. IsLeastArcsPrice p s n) 0 p.shipments prices
  pub is : value ≡ sum_by (λ (n : ℕ). n) prices
