use Rattle.std.proofs.Common.{◌≡◌, ◌<◌, ◌≤◌, ◌⊎◌, ℕ, ltb, length, get_or, ⊎_elim, sym, subst, arith, rules}
use Rattle.std.proofs.lemmas.Bool.{cases_lt, cases_order, ltb-true, ltb-false}
use Rattle.std.proofs.lemmas.List.Sorted.{IsPartitionPoint-from_clause, IsPartitionedBy-ltb}
use Rattle.fp_prices.specs.declared.tables.Weight.{Weight}
use Rattle.fp_prices.proofs.ShareSearches.{weight_in-at, weight_in-none, weights-rise}
use Rattle.fp_prices_spans.proofs.values.span_prices.weight_of.Goals as goal
use Rattle.fp_prices_spans.proofs.values.span_prices.weight_of.Goals.{else-place-weights-via-then-place-weights+else-weights-place, else-place-weights-via-else-place-weights}

no_weight : Weight
no_weight = record { shipment = 0; w = 0 }

pub returns-then-weights-place : goal.returns-then-weights-place
unfolding no_weight
returns-then-weights-place c =
    let weights = c.args.weights.now in
    let place = c.partition_point-place.result in
    let point = IsPartitionPoint-from_clause (λ (w : Weight). ltb w.shipment c.args.shipment) weights place c.partition_point-place.ensures.partitioned
    (IsPartitionedBy-ltb (λ (w : Weight). w.shipment) weights c.args.shipment (weights-rise weights c.requires)) (λ a r q k. search rules) in
    sym (weight_in-at weights c.args.shipment place no_weight c.if-place-weights.true (λ i h. ltb-true _ c.args.shipment (point.0 i no_weight (omega arith) h)) c.if-weights-place.true)

pub returns-else-place-weights : goal.returns-else-place-weights
unfolding no_weight
returns-else-place-weights c =
    let weights = c.args.weights.now in
    let place = c.partition_point-place.result in
    let k = c.args.shipment in
    let point = IsPartitionPoint-from_clause (λ (w : Weight). ltb w.shipment k) weights place c.partition_point-place.ensures.partitioned
    (IsPartitionedBy-ltb (λ (w : Weight). w.shipment) weights k (weights-rise weights c.requires)) (λ a r q k. search rules) in
    let other = elim c.else-place-weights.branch as (λ _. place < length weights → (get_or weights place no_weight).shipment ≡ k → ⊥) [
      | else-place-weights-via-then-place-weights+else-weights-place w ↦ λ h same. w.if-weights-place.false same
      | else-place-weights-via-else-place-weights w ↦ λ h same. absurd (omega arith)
    ] in
    sym (weight_in-none weights k no_weight (λ i h same.
    ⊎_elim
    (λ (before : i < place). let less : (get_or weights i no_weight).shipment < k = ltb-true _ k (point.0 i no_weight (omega arith) before) in absurd (omega arith))
    (λ (from : place ≤ i).
    ⊎_elim
    (λ (at : i ≡ place). other (omega arith) (subst (λ (n : ℕ). (get_or weights n no_weight).shipment ≡ k) at same))
    (λ (apart : (i < place) ⊎ (place < i)).
    ⊎_elim
    (λ (less : i < place). absurd (omega arith))
    (λ (more : place < i).
    let first : k ≤ (get_or weights place no_weight).shipment = ltb-false _ k (point.1 place no_weight (omega arith) (omega arith)) in
    let rise : (get_or weights place no_weight).shipment < (get_or weights i no_weight).shipment = c.requires place i no_weight more h in absurd (omega arith))
    apart)
    (cases_order i place))
    (cases_lt i place)))
