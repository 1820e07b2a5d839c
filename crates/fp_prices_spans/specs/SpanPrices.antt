-- For which classes a span holds, and what shipments pay by spans, in parts of a unit of money, of which the scale makes one.
use Rattle.std.specs.Prelude.{ℕ, ◌*◌, List, Bool, ◌&&◌, nat_eq, nat_le, nat_lt, sum_by, if◌then◌else◌}
use Rattle.std.specs.List.{list_any}
use Rattle.fp_model.specs.declared.parts.Leg.{Leg}
use Rattle.fp_model.specs.Costs.{all_legs, has_leg}
use Rattle.fp_model.specs.Problem.{Problem, arc_at}
use Rattle.fp_prices.specs.declared.leaf_prices.Kind.{Kind}
use Rattle.fp_prices.specs.Prices.{truck_price, weight_in}
use Rattle.fp_prices.specs.Shares.{ClassShare}
use Rattle.fp_prices_spans.specs.Spans.{ClassSpan}

-- whether a span holds for a class: the class is of the span's arc, and its point lies from `point` up to and without `until`
abbrev pub holds : ClassSpan → Leg → Bool
holds span c = nat_eq span.arc c.arc && (nat_le span.point c.depart && nat_lt c.depart span.until)

-- whether some span holds for a class
abbrev pub is_held : List ClassSpan → Leg → Bool
is_held spans c = list_any (λ span. holds span c) spans

-- the money that the spans have together that hold for a class
abbrev pub money_at : List ClassSpan → Leg → ℕ
money_at spans c = sum_by (λ (span : ClassSpan). if holds span c then span.money else 0) spans

-- what the shipment with the number k pays for a class by the spans that hold for it: the sum of its weights in them
abbrev pub span_price : List ClassSpan → (k : ℕ) → Leg → ℕ
span_price spans k c = sum_by (λ (span : ClassSpan). if holds span c then weight_in span.weights k else 0) spans

-- the price of a class for the shipment with the number k and a size: nothing for a class of the forced chains, what it pays by the
-- spans alone where some span holds for the class, and otherwise the truck price
abbrev pub leaf_span_price : Problem → List (List ClassShare) → List ClassSpan → (ℕ → Leg → Bool) → Kind → (chains : List (List Leg)) → (k size : ℕ) → Leg → ℕ
leaf_span_price p tables spans allowed kind chains k size c =
    if has_leg c (all_legs chains) then 0 else (if is_held spans c then span_price spans k c else truck_price p tables allowed kind c k size)

-- the most that shipments pay for a truck of a class: the money of the spans that hold for it where they price it, and otherwise what
-- the truck costs
abbrev pub most_paid : Problem → List ClassSpan → (chains : List (List Leg)) → Leg → ℕ
most_paid p spans chains c =
    if has_leg c (all_legs chains) then p.scale * (arc_at p c.arc).truck
    else (if is_held spans c then money_at spans c else p.scale * (arc_at p c.arc).truck)
