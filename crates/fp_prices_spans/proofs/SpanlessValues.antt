-- Without spans a leaf is worth what it is worth by the tables.
use Rattle.std.proofs.Common.{◌≡◌, ℕ, Bool, List, [], ◌∷◌, refl, arith}
use Rattle.std.specs.Prelude.{Some, sum_by}
use Rattle.std.specs.List.{AllZip}
use Rattle.fp_base_lists.proofs.Numbered.{AllZipFrom-weaker}
use Rattle.fp_model.specs.declared.parts.Leg.{Leg}
use Rattle.fp_model.specs.declared.parts.Shipment.{Shipment}
use Rattle.fp_model.specs.Problem.{Problem}
use Rattle.fp_longestarcs.specs.Classes.{head_of}
use Rattle.fp_allowed.specs.Allowed.{is_allowed}
use Rattle.fp_prices.specs.Leaves.{IsLeafValue, IsLeastCostBy, leaf_price}
use Rattle.fp_prices_spans.specs.SpanLeaves.{IsChargeOf, IsSpanLeafValue, ValuesWithoutSpans}
use Rattle.fp_prices_spans.specs.Ways.{IsLeastCostVia}
use Rattle.fp_prices_spans.proofs.LeafWays.{least-by, least-none}

-- no spans take nothing off
nothing-off : (p : Problem) (allowed : ℕ → Leg → Bool) (chains : List (List Leg)) (charges : List ℕ) → AllZip (IsChargeOf p allowed chains) [] charges → sum_by (λ (n : ℕ). n) charges ≡ 0
nothing-off p allowed chains [] is = refl
nothing-off p allowed chains (n ∷ charges) is = absurd is

pub spanless-values : ValuesWithoutSpans
spanless-values p windows points sides tables kind forced v = (to, from)
  where
    price : List (List Leg) → ℕ → ℕ → Leg → ℕ
    price chains k size = leaf_price p tables (is_allowed p windows points sides) kind chains k size

    to : IsSpanLeafValue p windows points sides tables [] kind forced v → IsLeafValue p windows points sides tables kind forced v
    to is =
        let off : sum_by (λ (n : ℕ). n) is.charges ≡ 0 = nothing-off p (is_allowed p windows points sides) is.chains is.charges is.are_charges in
        record {
          chains = is.chains;
          costs = is.costs;
          are_chains = is.are_chains;
          are_least = AllZipFrom-weaker
              (λ k (s : Shipment) n. IsLeastCostVia p (head_of p points) [] (is_allowed p windows points sides k) s (price is.chains k s.size) n)
              (λ k (s : Shipment) n. IsLeastCostBy p (head_of p points) (is_allowed p windows points sides k) s (price is.chains k s.size) n)
              (λ k s n least. least-by p (head_of p points) (is_allowed p windows points sides k) s (price is.chains k s.size) n least) 0 p.shipments is.costs is.are_least;
          value_is = omega (arith, is.value_is, off);
        }

    from : IsLeafValue p windows points sides tables kind forced v → IsSpanLeafValue p windows points sides tables [] kind forced v
    from is = record {
      chains = is.chains;
      costs = is.costs;
      charges = [];
      are_chains = is.are_chains;
      are_least = AllZipFrom-weaker
          (λ k (s : Shipment) n. IsLeastCostBy p (head_of p points) (is_allowed p windows points sides k) s (price is.chains k s.size) n)
          (λ k (s : Shipment) n. IsLeastCostVia p (head_of p points) [] (is_allowed p windows points sides k) s (price is.chains k s.size) n)
          (λ k s n least. least-none p (head_of p points) (is_allowed p windows points sides k) s (price is.chains k s.size) (Some n) least) 0 p.shipments is.costs is.are_least;
      are_charges = tt;
      value_is = omega (arith, is.value_is);
    }
