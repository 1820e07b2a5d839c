-- Spans in order that keep the money rule, and whose charges pay, keep both rules of spans.
use Rattle.std.proofs.Common.{◌≡◌, ℕ, ◌+◌, ◌*◌, ◌<◌, ◌≤◌, Bool, true, List, [], ◌∷◌, Option, length, sym, ap, ◌∙◌, subst, arith}
use Rattle.std.specs.Prelude.{All, if◌then◌else◌}
use Rattle.std.specs.List.{AllZip}
use Rattle.std.proofs.lemmas.List.{get_or-map, length-map}
use Rattle.std.proofs.lemmas.List.Elements.{All-filter, All-get_or, recursion_from_All}
use Rattle.std.proofs.lemmas.List.Kept.{AllPairs-filter}
use Rattle.fp_base_lists.specs.Below.{some_below, sum_below}
use Rattle.fp_base_lists.proofs.Elements.{AllByRecursion-get_or}
use Rattle.fp_base_lists.proofs.SumsBelow.{sum_below-same}
use Rattle.fp_prices_knapsack.specs.declared.items.Item.{Item}
use Rattle.fp_prices_knapsack.specs.Charges.{Pays}
use Rattle.fp_prices_knapsack.specs.Sets.{HasSome, item_at, no_item, size_of, weight_of}
use Rattle.fp_prices_knapsack.proofs.TrueSizes.{true_sizes-paid}
use Rattle.std.specs.Int.{div_ceil}
use Rattle.fp_model.specs.Numbered.{no_shipment, shipment_at}
use Rattle.fp_model.specs.Problem.{Problem, IsArc, IsShipment, IsValid, arc_at, no_arc}
use Rattle.fp_flatnet.specs.declared.window_tables.Window.{Window}
use Rattle.fp_prices.specs.declared.tables.Weight.{Weight}
use Rattle.fp_prices_spans.specs.declared.rules.moment_runs.MomentRun.{MomentRun}
use Rattle.fp_prices_spans.specs.MomentRuns.{can_leave, group_weights, runs_of}
use Rattle.fp_prices_spans.specs.PaidLeaves.{ChargedPayKeepSetRule}
use Rattle.fp_prices_spans.specs.Spans.{ClassSpan}
use Rattle.fp_prices_spans.specs.SpanCharges.{ChargePays, ChargesKeepSetRule, SoundSpansKeepRules, item_of, items_of}
use Rattle.fp_prices_spans.specs.SpanLeaves.{IsCharged}
use Rattle.fp_prices_spans.specs.SpanLists.{IsSpanOf}
use Rattle.fp_prices_spans.specs.SpanRules.{KeepWithin, KeepsSetRule, WeightsAscend}
use Rattle.fp_prices_spans.proofs.PlaceSets.{KeepPlaceRule, no_weight, set_rule-by_places, weight_at}

-- the capacity of an arc that exists
capacity-some : (p : Problem) (a : ℕ) → IsValid p → a < length p.arcs → 0 < (arc_at p a).capacity
capacity-some p a valid exists = (All-get_or (IsArc (length p.terminals)) p.arcs a no_arc exists valid.parts.arcs).within.capacity.0

-- the sizes of shipments that exist
items-some : (p : Problem) (weights : List Weight) → IsValid p → All (λ (w : Weight). w.shipment < length p.shipments) weights → All (λ (item : Item). 0 < item.size) (items_of p weights)
items-some p weights valid exist k d lt =
    let inside : k < length weights = omega (arith, lt, length-map weights (item_of p)) in
    let w : Weight = weight_at weights k in
    let some : 0 < (shipment_at p w.shipment).size =
    (All-get_or (IsShipment (length p.terminals)) p.shipments w.shipment no_shipment (exist k no_weight inside) valid.parts.shipments).within.size.0 in
    subst (λ (item : Item). 0 < item.size) (sym (get_or-map (item_of p) weights k no_weight d inside)) some

-- what the items at chosen places add is what the weights there add
items-at_places : (p : Problem) (weights : List Weight) (chosen : ℕ → Bool) (f : Item → ℕ) →
    sum_below (length (items_of p weights)) (λ place. if chosen place then f (item_at (items_of p weights) place) else 0)
    ≡ sum_below (length weights) (λ place. if chosen place then f (item_of p (weight_at weights place)) else 0)
items-at_places p weights chosen f =
    ap (λ (n : ℕ). sum_below n (λ place. if chosen place then f (item_at (items_of p weights) place) else 0)) (length-map weights (item_of p))
    ∙ sum_below-same (length weights) (λ place. if chosen place then f (item_at (items_of p weights) place) else 0) (λ place. if chosen place then f (item_of p (weight_at weights place)) else 0)
    (λ place lt. ap (λ (item : Item). if chosen place then f item else 0) (get_or-map (item_of p) weights place no_weight no_item lt))

-- weights keep within a charge that pays for them
part-keeps : (p : Problem) (arc money : ℕ) (weights : List Weight) (part : ℕ) → IsValid p → arc < length p.arcs → All (λ (w : Weight). w.shipment < length p.shipments) weights → WeightsAscend weights →
    Pays (items_of p weights) (arc_at p arc).capacity money part → KeepWithin p arc money weights part
part-keeps p arc money weights part valid exists exist ascend pays = set_rule-by_places p arc money weights part ascend by_places
  where
    items : List Item
    items = items_of p weights

    capacity : ℕ
    capacity = (arc_at p arc).capacity

    by_places : KeepPlaceRule p arc money weights part
    by_places chosen some =
        let has : HasSome items chosen = subst (λ (n : ℕ). some_below n chosen ≡ true) (sym (length-map weights (item_of p))) some in
        let fits : weight_of items chosen ≤ money * div_ceil (size_of items chosen) capacity + part =
        true_sizes-paid items capacity money part (capacity-some p arc valid exists) pays (items-some p weights valid exist) chosen has in
        let sizes : div_ceil (size_of items chosen) capacity
        ≡ div_ceil (sum_below (length weights) (λ place. if chosen place then (shipment_at p (weight_at weights place).shipment).size else 0)) capacity =
        ap (λ (n : ℕ). div_ceil n capacity) (items-at_places p weights chosen (λ item. item.size)) in
        omega (arith, fits, items-at_places p weights chosen (λ item. item.weight), ap (λ (n : ℕ). money * n) sizes)

-- so a charge that pays in parts keeps the set rule
charge-keeps : (p : Problem) (windows : ℕ → ℕ → Option Window) (first : ℕ → List ℕ) (span : ClassSpan) → IsValid p → IsSpanOf p span → WeightsAscend span.weights →
    ChargePays p windows first span → KeepsSetRule p windows first span
charge-keeps p windows first span valid of ascend pays = record { parts = pays.parts; enough = pays.enough; keep = by_runs (runs_of p first span) pays.parts pays.pay }
  where
    by_runs : (runs : List MomentRun) (parts : List ℕ) → AllZip (λ run part. Pays (items_of p (group_weights windows span run)) (arc_at p span.arc).capacity span.money part) runs parts →
        AllZip (λ run part. KeepWithin p span.arc span.money (group_weights windows span run) part) runs parts
    by_runs [] [] pay = tt
    by_runs [] (part ∷ parts) pay = absurd pay
    by_runs (run ∷ runs) [] pay = absurd pay
    by_runs (run ∷ runs) (part ∷ parts) pay =
        let can : Weight → Bool = λ w. can_leave windows run span.arc w.shipment in (
          part-keeps p span.arc span.money (group_weights windows span run) part valid of.arc (All-filter can (λ w. w.shipment < length p.shipments) span.weights of.shipments)
              (AllPairs-filter (λ v w. v.shipment < w.shipment) can span.weights ascend) pay.0,
          by_runs runs parts pay.1,
        )

pub charges-keep_set_rule : ChargesKeepSetRule
charges-keep_set_rule p windows first spans valid of ordered pay =
    recursion_from_All (KeepsSetRule p windows first) spans (λ k d lt. charge-keeps p windows first _ valid (of k d lt) (ordered.weights k d lt) (pay k d lt))

-- and so do those that are charged at a leaf, where theirs pay
pub charged_pay-keep_set_rule : ChargedPayKeepSetRule
charged_pay-keep_set_rule p windows points allowed chains spans valid of ordered pay =
    recursion_from_All (λ span. IsCharged p allowed chains span → KeepsSetRule p windows points span) spans
    (λ k d lt charged. charge-keeps p windows points _ valid (of k d lt) (ordered.weights k d lt) (AllByRecursion-get_or (λ span. IsCharged p allowed chains span → ChargePays p windows points span) spans k d pay lt charged))

pub sound_spans-keep_rules : SoundSpansKeepRules
sound_spans-keep_rules p windows first spans valid of sound pay = record { money = sound.money; sets = charges-keep_set_rule p windows first spans valid of sound.ordered pay }
