-- Where each forced chain reaches its shipment's destination, the value of a leaf that pays forced classes whole is the scale
-- times what the chains cost.
use Rattle.std.proofs.Common.{◌≡◌, ℕ, ◌+◌, ◌*◌, Bool, true, List, [], ◌∷◌, refl, sym, ap, ◌∙◌, arith}
use Rattle.std.specs.Prelude.{Option, sum_by, ◌||◌}
use Rattle.std.specs.List.{AllByRecursion}
use Rattle.std.proofs.lemmas.Bool.{cond-true, or_left, or_right}
use Rattle.std.proofs.lemmas.List.Folds.{list_any-append}
use Rattle.std.proofs.lemmas.List.Sums.{sum_by-cons}
use Rattle.fp_base_lists.specs.Numbered.{AllZipFrom}
use Rattle.fp_base_lists.proofs.Elements.{AllByRecursion-weaker}
use Rattle.fp_model.specs.declared.parts.Leg.{Leg}
use Rattle.fp_model.specs.declared.parts.Shipment.{Shipment}
use Rattle.fp_model.specs.Costs.{all_legs, cost, flow_total, has_leg, same_leg}
use Rattle.fp_model.specs.Problem.{Problem}
use Rattle.fp_model.proofs.Distinct.{same_leg-refl}
use Rattle.fp_flatnet.specs.declared.window_tables.Window.{Window}
use Rattle.fp_tree.specs.declared.sides.Side.{Side}
use Rattle.fp_allowed.specs.declared.chain_ends.ChainEnd.TheVariants.{Reached}
use Rattle.fp_allowed.specs.Allowed.{is_allowed}
use Rattle.fp_allowed.specs.Chains.{EndsAs, NoneLeaves}
use Rattle.fp_allowed.proofs.ForcedWalks.{Reached-only_walk}
use Rattle.fp_prices.specs.declared.leaf_prices.Kind.{Kind}
use Rattle.fp_prices.specs.Leaves.{IsChain, IsLeafValue, IsLeastCost, leaf_price, walk_cost}
use Rattle.fp_prices.specs.Prices.{truck_price}
use Rattle.fp_prices.specs.Shares.{ClassShare}
use Rattle.fp_prices.proofs.LeafSums.{walk-parts}

-- a chain ends at the shipment's destination, which no allowed class leaves
abbrev pub IsReached : Problem → (Leg → Bool) → Shipment → List Leg → Type 0
IsReached p allowed s chain = EndsAs p allowed s chain Reached × NoneLeaves p allowed s.to

-- legs are among their own and those of others
own-legs : (all legs : List Leg) → ((c : Leg) → has_leg c legs ≡ true → has_leg c all ≡ true) → AllByRecursion (λ c. has_leg c all ≡ true) legs
own-legs all [] on = tt
own-legs all (c ∷ legs) on =
    (on c (or_left (same_leg c c) (has_leg c legs) (same_leg-refl c)), own-legs all legs (λ d h. on d (or_right (same_leg d c) (has_leg d legs) h)))

-- a walk whose classes are all free costs its flow alone
sum-free : (price : Leg → ℕ) (walk : List Leg) → AllByRecursion (λ c. price c ≡ 0) walk → sum_by price walk ≡ 0
sum-free price [] free = refl
sum-free price (c ∷ walk) free = omega (arith, sum_by-cons price c walk, free.0, sum-free price walk free.1)

module _ (p : Problem) (tables : List (List ClassShare)) (allowed : ℕ → Leg → Bool) (kind : Kind) (points : ℕ → List ℕ) (whole : List (List Leg)) where
  -- the least costs are the flows of the chains
  costs-flow : (i : ℕ) (shipments : List Shipment) (chains : List (List Leg)) (costs : List ℕ) → ((c : Leg) → has_leg c (all_legs chains) ≡ true → has_leg c (all_legs whole) ≡ true) →
      AllZipFrom (λ k. IsChain p (allowed k) true) i shipments chains → AllZipFrom (λ k. IsReached p (allowed k)) i shipments chains →
      AllZipFrom (λ k (s : Shipment) n. IsLeastCost p points (allowed k) s (leaf_price p tables allowed kind whole k s.size) n) i shipments costs →
      sum_by (λ (n : ℕ). n) costs ≡ p.scale * flow_total p shipments chains
  costs-flow i [] [] [] among are reached least = omega arith
  costs-flow i [] [] (n ∷ costs) among are reached least = absurd least
  costs-flow i [] (chain ∷ chains) costs among are reached least = absurd are
  costs-flow i (s ∷ shipments) [] costs among are reached least = absurd are
  costs-flow i (s ∷ shipments) (chain ∷ chains) [] among are reached least = absurd least
  costs-flow i (s ∷ shipments) (chain ∷ chains) (n ∷ costs) among are reached least =
      let price : Leg → ℕ = leaf_price p tables allowed kind whole i s.size in
      let walk : List Leg = least.0.walk in
      let only : walk ≡ chain = Reached-only_walk p (allowed i) s chain walk are.0 reached.0.0 reached.0.1 least.0.timed.leads least.0.timed.allowed_all in
      let parts : (c : Leg) → has_leg c (all_legs (chain ∷ chains)) ≡ (has_leg c chain || has_leg c (all_legs chains)) = λ c. list_any-append (same_leg c) chain (all_legs chains) in
      let own : AllByRecursion (λ c. has_leg c (all_legs whole) ≡ true) chain =
      own-legs (all_legs whole) chain (λ c h. among c (parts c ∙ or_left (has_leg c chain) (has_leg c (all_legs chains)) h)) in
      let free : AllByRecursion (λ c. price c ≡ 0) chain =
      AllByRecursion-weaker (λ (c : Leg). has_leg c (all_legs whole) ≡ true) (λ c. price c ≡ 0) (λ c h. cond-true (has_leg c (all_legs whole)) 0 (truck_price p tables allowed kind c i s.size) h) chain own in
      let here : walk_cost p price s.size chain ≡ n = ap (walk_cost p price s.size) (sym only) ∙ least.0.cost in
      let rest : sum_by (λ (m : ℕ). m) costs ≡ p.scale * flow_total p shipments chains =
      costs-flow (i + 1) shipments chains costs (λ c h. among c (parts c ∙ or_right (has_leg c chain) (has_leg c (all_legs chains)) h)) are.1 reached.1 least.1 in
      omega (arith, here, walk-parts p price s.size chain, sum-free price chain free, rest, sum_by-cons (λ (m : ℕ). m) n costs)

-- the value of a leaf whose forced chains all reach their destinations is the scale times what the chains cost
pub value-reached : (p : Problem) (windows : ℕ → ℕ → Option Window) (points : ℕ → List ℕ) (sides : List Side) (tables : List (List ClassShare)) (kind : Kind) (value : ℕ) →
    (leaf : IsLeafValue p windows points sides tables kind true value) → AllZipFrom (λ k. IsReached p (is_allowed p windows points sides k)) 0 p.shipments leaf.chains → value ≡ p.scale * cost p leaf.chains
value-reached p windows points sides tables kind value leaf reached =
    let flow = costs-flow p tables (is_allowed p windows points sides) kind points leaf.chains 0 p.shipments leaf.chains leaf.costs (λ c h. h) leaf.are_chains reached leaf.are_least in
    omega (arith, leaf.value_is, flow)
