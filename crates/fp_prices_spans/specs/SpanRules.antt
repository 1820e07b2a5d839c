-- What is asked of spans, so that what shipments pay by them is within what trucks cost.
use Rattle.std.specs.Prelude.{ℕ, ◌+◌, ◌*◌, ◌≡◌, ◌≢◌, ◌≤◌, ◌<◌, List, [], map, true, sum_by, AllPairs, Option}
use Rattle.std.specs.List.{AllByRecursion, AllZip}
use Rattle.std.specs.Int.{div_ceil}
use Rattle.fp_base_lists.specs.Distinct.{AreDistinct}
use Rattle.fp_base_lists.specs.Membership.{list_has}
use Rattle.fp_model.specs.Numbered.{shipment_at}
use Rattle.fp_model.specs.Problem.{Problem, arc_at}
use Rattle.fp_flatnet.specs.declared.window_tables.Window.{Window}
use Rattle.fp_prices.specs.declared.tables.Weight.{Weight}
use Rattle.fp_prices.specs.Prices.{weight_in}
use Rattle.fp_prices_spans.specs.MomentRuns.{group_weights, runs_of}
use Rattle.fp_prices_spans.specs.Spans.{ClassSpan}
use Rattle.fp_prices_spans.specs.SpanPrices.{money_at}

-- the money rule of a span: at its point, the spans that hold there have together at most the cost of the arc's truck
abbrev pub KeepsMoneyRule : Problem → List ClassSpan → ClassSpan → Type 0
KeepsMoneyRule p spans span = money_at spans (record { arc = span.arc; depart = span.point }) ≤ p.scale * (arc_at p span.arc).truck

-- the shipments that have weights
abbrev pub shipments_of : List Weight → List ℕ
shipments_of weights = map (λ (w : Weight). w.shipment) weights

-- a set of these shipments that isn't empty: no number stands twice, and each has a weight
pub record IsSetOf (weights : List Weight) (set : List ℕ) : Type 0 where
  pub some : set ≢ []
  pub apart : AreDistinct set
  pub among : AllByRecursion (λ k. list_has (shipments_of weights) k ≡ true) set

-- the size of shipments together
abbrev pub size_of : Problem → List ℕ → ℕ
size_of p set = sum_by (λ k. (shipment_at p k).size) set

-- the trucks that hold shipments on an arc
abbrev pub trucks_for : Problem → ℕ → List ℕ → ℕ
trucks_for p arc set = div_ceil (size_of p set) (arc_at p arc).capacity

-- the weights of every set of shipments that isn't empty sum to at most the money for the trucks that hold the set on an arc, and a part
-- of a charge
abbrev pub KeepWithin : Problem → (arc money : ℕ) → List Weight → (part : ℕ) → Type 0
KeepWithin p arc money weights part = (set : List ℕ) → IsSetOf weights set → sum_by (weight_in weights) set ≤ money * trucks_for p arc set + part

-- the set rule of a span: its charge has a part for each run of its moments, within which the weights of those shipments keep that can
-- leave in the run
pub record KeepsSetRule (p : Problem) (windows : ℕ → ℕ → Option Window) (first : ℕ → List ℕ) (span : ClassSpan) : Type 0 where
  pub parts : List ℕ
  pub enough : sum_by (λ (n : ℕ). n) parts ≤ span.charge
  pub keep : AllZip (λ run part. KeepWithin p span.arc span.money (group_weights windows span run) part) (runs_of p first span) parts

-- weights ascend strictly by shipment
abbrev pub WeightsAscend : List Weight → Type 0
WeightsAscend weights = AllPairs (λ (v w : Weight). v.shipment < w.shipment) weights

-- all spans keep both rules
pub record KeepSpanRules (p : Problem) (windows : ℕ → ℕ → Option Window) (first : ℕ → List ℕ) (spans : List ClassSpan) : Type 0 where
  pub money : AllByRecursion (KeepsMoneyRule p spans) spans
  pub sets : AllByRecursion (KeepsSetRule p windows first) spans
