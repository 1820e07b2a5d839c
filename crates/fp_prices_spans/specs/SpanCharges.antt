-- Whether the charge of a span pays for its weights, as the knapsack of fp_prices_knapsack tells it.
use Rattle.std.specs.Prelude.{ℕ, ◌<◌, ◌≤◌, List, length, map, sum_by, take, All, Option}
use Rattle.std.specs.List.{AllByRecursion, AllZip}
use Rattle.fp_prices_knapsack.specs.declared.items.Item.{Item}
use Rattle.fp_prices_knapsack.specs.Charges.{Pays}
use Rattle.fp_model.specs.Numbered.{shipment_at}
use Rattle.fp_model.specs.Problem.{Problem, IsValid, arc_at}
use Rattle.fp_flatnet.specs.declared.window_tables.Window.{Window}
use Rattle.fp_prices.specs.declared.tables.Weight.{Weight}
use Rattle.fp_prices_spans.specs.MomentRuns.{group_weights, runs_of}
use Rattle.fp_prices_spans.specs.Spans.{ClassSpan}
use Rattle.fp_prices_spans.specs.SpanRules.{KeepSpanRules, KeepsSetRule}
use Rattle.fp_prices_spans.specs.SpanLists.{AreSpansInOrder, IsSpanList, IsSpanOf, span_at}

-- a weight as an item: it has the size of its shipment
abbrev pub item_of : Problem → Weight → Item
item_of p w = record { size = (shipment_at p w.shipment).size; weight = w.w }

-- weights as items
abbrev pub items_of : Problem → List Weight → List Item
items_of p weights = map (item_of p) weights

-- the charge of a span pays for its weights, in trucks of its arc: it has a part for each run of the span's moments that pays for the
-- weights of those shipments that can leave in the run
pub record ChargePays (p : Problem) (windows : ℕ → ℕ → Option Window) (first : ℕ → List ℕ) (span : ClassSpan) : Type 0 where
  pub parts : List ℕ
  pub enough : sum_by (λ (n : ℕ). n) parts ≤ span.charge
  pub pay : AllZip (λ run part. Pays (items_of p (group_weights windows span run)) (arc_at p span.arc).capacity span.money part) (runs_of p first span) parts

-- the span with the number is the first whose charge doesn't pay
pub record IsFirstUnpaid (p : Problem) (windows : ℕ → ℕ → Option Window) (first : ℕ → List ℕ) (spans : List ClassSpan) (n : ℕ) : Type 0 where
  pub exists : n < length spans
  pub unpaid : ChargePays p windows first (span_at spans n) → ⊥
  pub before : All (ChargePays p windows first) (take n spans)

-- spans in order whose charges pay keep the set rule, whatever their money
abbrev pub ChargesKeepSetRule : Type 0
ChargesKeepSetRule =
    (p : Problem) (windows : ℕ → ℕ → Option Window) (first : ℕ → List ℕ) (spans : List ClassSpan) → IsValid p → All (IsSpanOf p) spans → AreSpansInOrder spans →
    All (ChargePays p windows first) spans → AllByRecursion (KeepsSetRule p windows first) spans

-- spans in order keep both rules, where they keep the money rule and their charges pay
abbrev pub SoundSpansKeepRules : Type 0
SoundSpansKeepRules =
    (p : Problem) (windows : ℕ → ℕ → Option Window) (first : ℕ → List ℕ) (spans : List ClassSpan) → IsValid p → All (IsSpanOf p) spans → IsSpanList p spans →
    All (ChargePays p windows first) spans → KeepSpanRules p windows first spans

-- spans that are in order and light, keep the money rule, and whose charges pay
pub record ArePaidSpans (p : Problem) (windows : ℕ → ℕ → Option Window) (first : ℕ → List ℕ) (spans : List ClassSpan) : Type 0 where
  pub list : IsSpanList p spans
  pub paid : All (ChargePays p windows first) spans
