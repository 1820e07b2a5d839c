-- A leaf that has a value by some prices can't lack one by linear prices, so a value at least as good as
-- those is at least the flat bound.
use Rattle.std.proofs.Common.{◌≡◌, ℕ, zero, suc, ◌+◌, ◌*◌, ◌<◌, ◌≤◌, Bool, false, List, [], ◌∷◌, refl, inl, inr, arith}
use Rattle.std.specs.Prelude.{Option, map, sum_by}
use Rattle.std.proofs.lemmas.Bool.{cases_lt}
use Rattle.fp_base_lists.specs.Numbered.{AllZipFrom}
use Rattle.fp_model.specs.declared.parts.Leg.{Leg}
use Rattle.fp_model.specs.declared.parts.Shipment.{Shipment}
use Rattle.fp_model.specs.Costs.{all_legs, departures_cost}
use Rattle.fp_model.specs.Problem.{Problem}
use Rattle.fp_flatnet.specs.declared.window_tables.Window.{Window}
use Rattle.fp_tree.specs.declared.sides.Side.{Side}
use Rattle.fp_allowed.specs.Allowed.{is_allowed}
use Rattle.fp_allowed.specs.Walks.{IsTimedWalk}
use Rattle.fp_prices.specs.declared.leaf_prices.Kind.{Kind}
use Rattle.fp_prices.specs.declared.leaf_prices.Kind.TheVariants.{Linear}
use Rattle.fp_prices.specs.FlatBounds.{IsFlatBound}
use Rattle.fp_prices.specs.Leaves.{IsChain, IsLeafValue, IsLeastCost, leaf_price, walk_cost}
use Rattle.fp_prices.specs.Shares.{ClassShare}
use Rattle.fp_prices.proofs.FlatBounds.{flat-le}
use Rattle.fp_prices_spans.specs.SpanLeaves.{IsSpanLeafValue, leaf_heads}
use Rattle.fp_prices_spans.specs.Ways.{IsLeastCostVia, leaf_ways}
use Rattle.fp_prices_spans.specs.SpanPrices.{leaf_span_price}
use Rattle.fp_prices_spans.proofs.LeafHeads.{leaf_walk-timed}
use Rattle.fp_prices_spans.specs.Spans.{ClassSpan}

-- where no number with a property is the least, none below any number has it
none-below : (P : ℕ → Type 0) → ((n : ℕ) → P n → ((m : ℕ) → P m → n ≤ m) → ⊥) → (n m : ℕ) → m < n → P m → ⊥
none-below P unleast zero m below has = absurd (omega arith)
none-below P unleast (suc n) m below has =
    unleast m has (λ k other. elim (cases_lt k m) [
      | inl less ↦ let lower : k < n = omega (arith, less, below) in absurd (none-below P unleast n k lower other)
      | inr no_less ↦ no_less
    ])

-- so none has it
none-unleast : (P : ℕ → Type 0) → ((n : ℕ) → P n → ((m : ℕ) → P m → n ≤ m) → ⊥) → (n : ℕ) → P n → ⊥
none-unleast P unleast n has = let below : n < suc n = omega arith in none-below P unleast (suc n) n below has

-- where a shipment has an allowed timed walk, it can't lack a least cost
least-not_none : (p : Problem) (points : ℕ → List ℕ) (allowed : Leg → Bool) (s : Shipment) (price : Leg → ℕ) (walk : List Leg) → IsTimedWalk p points allowed s walk →
    ((n : ℕ) → IsLeastCost p points allowed s price n → ⊥) → ⊥
least-not_none p points allowed s price walk timed none =
    none-unleast (λ (n : ℕ). (w : List Leg) × IsTimedWalk p points allowed s w × (walk_cost p price s.size w ≡ n))
    (λ n has least. none n (record { walk = has.0; timed = has.1; cost = has.2; least = λ other is. least (walk_cost p price s.size other) (other, is, refl) }))
    (walk_cost p price s.size walk) (walk, timed, refl)

-- nor can all of them, where each has a least cost by the heads of a leaf, of a walk that is a timed walk too
costs-not_none : (p : Problem) (windows : ℕ → ℕ → Option Window) (points : ℕ → List ℕ) (spans : List ClassSpan) (ways : ℕ → List ℕ) (allowed : ℕ → Leg → Bool) (price other : ℕ → Shipment → Leg → ℕ) (i : ℕ) (shipments : List Shipment) (costs : List ℕ) →
    AllZipFrom (λ k (s : Shipment) n. IsLeastCostVia p (leaf_heads p windows points spans k) (ways k) (allowed k) s (price k s) n) i shipments costs →
    ((others : List ℕ) → AllZipFrom (λ k (s : Shipment) n. IsLeastCost p points (allowed k) s (other k s) n) i shipments others → ⊥) → ⊥
costs-not_none p windows points spans ways allowed price other i [] [] least none = none [] tt
costs-not_none p windows points spans ways allowed price other i [] (n ∷ costs) least none = absurd least
costs-not_none p windows points spans ways allowed price other i (s ∷ shipments) [] least none = absurd least
costs-not_none p windows points spans ways allowed price other i (s ∷ shipments) (n ∷ costs) least none =
    least-not_none p points (allowed i) s (other i s) least.0.walk (leaf_walk-timed p windows points spans i (allowed i) s least.0.walk least.0.is.by_heads) (λ m is.
    costs-not_none p windows points spans ways allowed price other (i + 1) shipments costs least.1 (λ others are. none (m ∷ others) (is, are)))

-- a plain leaf counts no chains
abbrev no_chains : List Shipment → List (List Leg)
no_chains shipments = map (λ (s : Shipment). []) shipments

are_chains-none : (allowed : ℕ → Leg → Bool) (p : Problem) (i : ℕ) (shipments : List Shipment) → AllZipFrom (λ k. IsChain p (allowed k) false) i shipments (no_chains shipments)
are_chains-none allowed p i [] = tt
are_chains-none allowed p i (s ∷ shipments) = (refl, are_chains-none allowed p (i + 1) shipments)

-- so where a leaf has a value, the plain leaf can't lack one by linear prices
linear-not_none : (p : Problem) (windows : ℕ → ℕ → Option Window) (points : ℕ → List ℕ) (sides : List Side) (tables : List (List ClassShare)) (spans : List ClassSpan) (kind : Kind) (forced : Bool) (value : ℕ) →
    IsSpanLeafValue p windows points sides tables spans kind forced value → ((plain : ℕ) → IsLeafValue p windows points sides [] Linear false plain → ⊥) → ⊥
linear-not_none p windows points sides tables spans kind forced value is none =
    let allowed : ℕ → Leg → Bool = is_allowed p windows points sides in
    let chains : List (List Leg) = no_chains p.shipments in
    costs-not_none p windows points spans (leaf_ways p sides spans) allowed (λ k (s : Shipment). leaf_span_price p tables spans allowed kind is.chains k s.size) (λ k (s : Shipment). leaf_price p [] allowed Linear chains k s.size) 0 p.shipments is.costs is.are_least
    (λ others are. none (p.scale * departures_cost p chains (all_legs chains) + sum_by (λ (n : ℕ). n) others) (record {
      chains = chains;
      costs = others;
      are_chains = are_chains-none allowed p 0 p.shipments;
      are_least = are;
      value_is = refl;
    }))

-- so where a leaf has a value by spans, one at least as good as those by linear prices is at least the flat bound
pub flat-le_leaf : (p : Problem) (windows : ℕ → ℕ → Option Window) (points : ℕ → List ℕ) (sides : List Side) (tables : List (List ClassShare)) (spans : List ClassSpan) (kind : Kind) (forced : Bool) (flat before value : ℕ) → IsFlatBound p flat →
    IsSpanLeafValue p windows points sides tables spans kind forced before → ((f : Bool) (other : ℕ) → IsLeafValue p windows points sides [] Linear f other → other ≤ value) → flat ≤ value
flat-le_leaf p windows points sides tables spans kind forced flat before value is leaf linear =
    elim (cases_lt value flat) [
      | inl above ↦
          absurd (linear-not_none p windows points sides tables spans kind forced before leaf (λ plain other.
          omega (arith, above, flat-le p windows points sides [] flat plain is other, linear false plain other)))
      | inr no_less ↦ no_less
    ]
