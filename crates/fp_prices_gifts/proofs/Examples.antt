-- Gifts on a small instance: an arc from A to B of time 5 with trucks of capacity 10 that cost 60, and three shipments of 6 from A to B,
-- from 0 to 9. They may leave at any time from 0 to 4, and A has the point 0 alone. No two of them share a truck.
use Rattle.std.proofs.Common.{◌≡◌, ℕ, zero, suc, Bool, true, false, List, [], ◌∷◌, inl, inr, refl, arith, lit<, lit≤}
use Rattle.std.specs.Prelude.{None, Option, Some}
use Rattle.std.specs.List.{AllZip}
use Rattle.std.proofs.lemmas.Option.{none-some}
use Rattle.fp_model.specs.declared.parts.Leg.{Leg}
use Rattle.fp_model.specs.declared.parts.Shipment.{Shipment}
use Rattle.fp_model.specs.Problem.{Problem}
use Rattle.fp_flatnet.specs.declared.window_tables.Window.{Window}
use Rattle.fp_tree.specs.declared.sides.Side.{Side}
use Rattle.fp_tree.specs.declared.sides.Side.TheVariants.{AtMost, MoreThan}
use Rattle.fp_allowed.specs.Allowed.{is_allowed}
use Rattle.fp_prices.specs.declared.leaf_prices.Kind.TheVariants.{Linear}
use Rattle.fp_prices_spans.specs.Spans.{ClassSpan}
use Rattle.fp_prices_spans.specs.SpanLeaves.{IsSpanLeafValue, leaf_heads}
use Rattle.fp_prices_spans.specs.Ways.{IsLeastCostVia, leaf_ways}
use Rattle.fp_prices_spans.specs.SpanPrices.{leaf_span_price}
use Rattle.fp_prices_gifts.specs.declared.gifts.Gift.{Gift}
use Rattle.fp_prices_gifts.specs.Gifts.{KeepMoneyRule, KeepsAt, KeepsAtEnds}
use Rattle.fp_prices_gifts.specs.GiftLeaves.{EndsAtPoints, IsGiftLeafValue, IsGiven}
use Rattle.fp_prices_gifts.specs.GiftNumbers.{gift_number}
use Rattle.fp_prices_gifts.proofs.RuleEnds.{keeps-arc}

abbrev parcel : ℕ → Shipment
parcel name = record { name = name ∷ []; from = 0; to = 1; size = 6; release = 0; due = 9 }

abbrev sixes : Problem
sixes = record {
  terminals = (65 ∷ []) ∷ (66 ∷ []) ∷ [];
  holds = 0 ∷ 0 ∷ [];
  arcs = (record { from = 0; to = 1; time = 5; capacity = 10; truck = 60; freight = 0 }) ∷ [];
  shipments = parcel 49 ∷ parcel 50 ∷ parcel 51 ∷ [];
  scale = 1000000;
}

abbrev windows : ℕ → ℕ → Option Window
windows k zero = Some (record { lo = 0; hi = 4 })
windows k (suc a) = None

abbrev points : ℕ → List ℕ
points t = 0 ∷ []

abbrev leg : ℕ → Leg
leg n = record { arc = 0; depart = n }

-- what a truck costs
abbrev truck : ℕ
truck = 60000000

-- a gift of a truck's cost over the whole day
abbrev whole : Bool → Gift
whole least = record { arc = 0; point = 0; until = 100; least = least; amount = truck }

-- a span over the whole day with this money, and without weights
abbrev span : ℕ → ClassSpan
span money = record { arc = 0; point = 0; until = 100; money = money; charge = 0; weights = []; groups = [] }

-- More than 2 trucks are at least 3, and of several sides the best counts; sides of other times or of the other kind tell nothing.
at_least_three : gift_number (MoreThan 0 0 100 0 ∷ AtMost 0 0 100 4 ∷ MoreThan 0 0 100 2 ∷ []) (whole true) ≡ Some 3
at_least_three = refl

at_most_three : gift_number (AtMost 0 0 100 4 ∷ MoreThan 0 0 100 2 ∷ AtMost 0 0 100 3 ∷ []) (whole false) ≡ Some 3
at_most_three = refl

other_times : gift_number (MoreThan 0 0 50 2 ∷ MoreThan 1 0 100 2 ∷ []) (whole true) ≡ None
other_times = refl

other_kind : gift_number (AtMost 0 0 100 2 ∷ []) (whole true) ≡ None
other_kind = refl

-- A gift of the whole truck for at least so many leaves nothing to pay, and one for at most so many lets shipments pay two trucks.
ends_by : (money : ℕ) (gifts : List Gift) → KeepsAt sixes (span money ∷ []) gifts (leg 0) → KeepsAt sixes (span money ∷ []) gifts (leg 100) → KeepsAtEnds sixes (span money ∷ []) gifts 0 0 100
ends_by money gifts first last = (first, first, last)

nothing_paid : KeepMoneyRule sixes (span 0 ∷ []) (whole true ∷ [])
nothing_paid c =
    let ends : KeepsAtEnds sixes (span 0 ∷ []) (whole true ∷ []) 0 0 100 = ends_by 0 (whole true ∷ []) (lit≤ tt) (lit≤ tt) in
    keeps-arc sixes (span 0 ∷ []) (whole true ∷ []) c.arc c.depart (ends, tt) (ends, tt)

one_more_paid : KeepMoneyRule sixes (span 1 ∷ []) (whole true ∷ []) → ⊥
one_more_paid rule = absurd (omega (arith, rule (leg 0)))

two_trucks_paid : KeepMoneyRule sixes (span 120000000 ∷ []) (whole false ∷ [])
two_trucks_paid c =
    let ends : KeepsAtEnds sixes (span 120000000 ∷ []) (whole false ∷ []) 0 0 100 = ends_by 120000000 (whole false ∷ []) (lit≤ tt) (lit≤ tt) in
    keeps-arc sixes (span 120000000 ∷ []) (whole false ∷ []) c.arc c.depart (ends, tt) (ends, tt)

-- Without a span shipments may pay the whole truck, so that nothing is left to give.
not_held : KeepMoneyRule sixes [] ((record (whole true) { amount = 1 }) ∷ []) → ⊥
not_held rule = absurd (omega (arith, rule (leg 0)))

-- At least three trucks, of which shipments pay nothing: the leaf is worth three trucks.
abbrev three_at_least : List Side
three_at_least = MoreThan 0 0 100 2 ∷ []

abbrev allows : ℕ → Leg → Bool
allows k = is_allowed sixes windows points three_at_least k

run_ends : (least : Bool) → EndsAtPoints sixes points (whole least)
run_ends least = record { point = refl; until = inr (lit< tt, (lit< tt, (lit< tt, tt))) }

-- a shipment pays nothing for the class that it goes by
free : (k name : ℕ) → allows k (leg 0) ≡ true →
    IsLeastCostVia sixes (leaf_heads sixes windows points (span 0 ∷ []) k) (leaf_ways sixes three_at_least (span 0 ∷ []) k) (allows k) (parcel name) (leaf_span_price sixes [] (span 0 ∷ []) allows Linear ([] ∷ [] ∷ [] ∷ []) k 6) 0
free k name allowed = record {
  walk = leg 0 ∷ [];
  is = record { by_heads = record { leads = (lit< tt, refl, refl); allowed_all = (allowed, tt); follows = (omega arith, tt) }; goes_by = tt };
  cost = omega arith;
  least = λ other is. omega arith;
}

by_spans : IsSpanLeafValue sixes windows points three_at_least [] (span 0 ∷ []) Linear false 0
by_spans = record {
  chains = [] ∷ [] ∷ [] ∷ [];
  costs = 0 ∷ 0 ∷ 0 ∷ [];
  charges = 0 ∷ [];
  are_chains = (refl, (refl, (refl, tt)));
  are_least = (free 0 49 refl, (free 1 50 refl, (free 2 51 refl, tt)));
  are_charges = (inl (record { class = leg 0; shipment = 0; exists = lit< tt; allowed_for_it = refl; held = refl; not_free = refl }, refl), tt);
  value_is = omega arith;
}

three_trucks : IsGiftLeafValue sixes windows points three_at_least [] (span 0 ∷ []) (whole true ∷ []) Linear false 180000000
three_trucks = record {
  before = 0;
  plain = inr refl;
  by_spans = by_spans;
  given = record { numbers = 3 ∷ []; ends = (run_ends true, tt); are_numbers = (refl, tt); value_is = refl };
}

-- At most one truck, for which shipments may pay two: of a value of four trucks three are left, and of one of half a truck nothing.
three_left : IsGiven sixes points (AtMost 0 0 100 1 ∷ []) (whole false ∷ []) 240000000 180000000
three_left = record { numbers = 1 ∷ []; ends = (run_ends false, tt); are_numbers = (refl, tt); value_is = refl }

nothing_left : IsGiven sixes points (AtMost 0 0 100 1 ∷ []) (whole false ∷ []) 30000000 0
nothing_left = record { numbers = 1 ∷ []; ends = (run_ends false, tt); are_numbers = (refl, tt); value_is = refl }

-- A leaf without a side of a gift's times has no value with it.
no_side : (v : ℕ) → IsGiven sixes points (AtMost 0 0 50 1 ∷ []) (whole false ∷ []) 0 v → ⊥
no_side v given = by_numbers given.numbers given.are_numbers
  where
    by_numbers : (numbers : List ℕ) → AllZip (λ gift n. gift_number (AtMost 0 0 50 1 ∷ []) gift ≡ Some n) (whole false ∷ []) numbers → ⊥
    by_numbers [] are = are
    by_numbers (n ∷ numbers) are = none-some n are.0
