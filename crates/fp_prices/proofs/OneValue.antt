-- A leaf has one value, and none where it is empty.
use Rattle.std.proofs.Common.{◌≡◌, ℕ, ◌+◌, ◌*◌, Bool, true, false, List, [], ◌∷◌, ◌++◌, refl, sym, ap₂, ◌∙◌, subst, arith}
use Rattle.std.specs.Prelude.{sum_by, slice_index_or, Option}
use Rattle.fp_model.specs.declared.parts.Leg.{Leg}
use Rattle.fp_model.specs.declared.parts.Shipment.{Shipment}
use Rattle.fp_model.specs.Numbered.{no_shipment, shipment_at}
use Rattle.fp_base_lists.specs.Numbered.{AllZipFrom}
use Rattle.fp_model.specs.Problem.{Problem, arc_at}
use Rattle.fp_model.specs.Costs.{all_legs, departures_cost}
use Rattle.fp_base_lists.proofs.Numbered.{AllZipFrom-get_or}
use Rattle.fp_flatnet.specs.declared.window_tables.Window.{Window}
use Rattle.fp_tree.specs.declared.sides.Side.{Side}
use Rattle.fp_allowed.specs.Allowed.{AreForced, is_allowed}
use Rattle.fp_allowed.specs.Walks.{IsTimedWalk}
use Rattle.fp_prices.specs.declared.leaf_prices.Kind.{Kind}
use Rattle.fp_prices.specs.Shares.{ClassShare}
use Rattle.fp_prices.specs.Leaves.{IsChain, IsLeafEmpty, IsLeafValue, IsLeastCost, LeavesHaveOneValue, leaf_price}

-- no class is forced after the chain
abbrev IsWhole : Problem → (Leg → Bool) → (there : ℕ) → (met : List ℕ) → (here : ℕ) → List Leg → Type 0
IsWhole p allowed there met here chain = (c : Leg) → AreForced p allowed there met here (chain ++ (c ∷ [])) → ⊥

-- two forced chains to which nothing can be added are one
forced-unique : (p : Problem) (allowed : Leg → Bool) (there : ℕ) (met : List ℕ) (here : ℕ) (a b : List Leg) → AreForced p allowed there met here a → IsWhole p allowed there met here a →
    AreForced p allowed there met here b → IsWhole p allowed there met here b → a ≡ b
forced-unique p allowed there met here [] [] fa wa fb wb = refl
forced-unique p allowed there met here [] (g ∷ b) fa wa fb wb = absurd (wa g (fb.0, fb.1, fb.2, tt))
forced-unique p allowed there met here (f ∷ a) [] fa wa fb wb = absurd (wb f (fa.0, fa.1, fa.2, tt))
forced-unique p allowed there met here (f ∷ a) (g ∷ b) fa wa fb wb =
    let same : g ≡ f = fa.2.alone g fb.2.is_allowed fb.2.leaves in
    let P : Leg → List Leg → Type 0 = λ l legs. AreForced p allowed there (here ∷ met) (arc_at p l.arc).to legs in
    let rest : a ≡ b =
    forced-unique p allowed there (here ∷ met) (arc_at p f.arc).to a b fa.3 (λ c h. wa c (fa.0, fa.1, fa.2, h))
    (subst (λ (l : Leg). P l b) same fb.3)
    (λ c h. wb c (fb.0, fb.1, fb.2, subst (λ (l : Leg). P l (b ++ (c ∷ []))) (sym same) h)) in
    ap₂ (λ (l : Leg) (legs : List Leg). l ∷ legs) (sym same) rest

-- a shipment has one chain at a leaf
pub chain-unique : (p : Problem) (allowed : Leg → Bool) (forced : Bool) (s : Shipment) (a b : List Leg) → IsChain p allowed forced s a → IsChain p allowed forced s b → a ≡ b
chain-unique p allowed true s a b is_a is_b = forced-unique p allowed s.to [] s.from a b is_a.forced is_a.whole is_b.forced is_b.whole
chain-unique p allowed false s a b is_a is_b = is_a ∙ sym is_b

pub chains-unique : (p : Problem) (allowed : ℕ → Leg → Bool) (forced : Bool) (i : ℕ) (shipments : List Shipment) (A B : List (List Leg)) →
    AllZipFrom (λ k. IsChain p (allowed k) forced) i shipments A → AllZipFrom (λ k. IsChain p (allowed k) forced) i shipments B → A ≡ B
chains-unique p allowed forced i [] [] [] are_a are_b = refl
chains-unique p allowed forced i [] [] (b ∷ B) are_a are_b = absurd are_b
chains-unique p allowed forced i [] (a ∷ A) B are_a are_b = absurd are_a
chains-unique p allowed forced i (s ∷ shipments) [] B are_a are_b = absurd are_a
chains-unique p allowed forced i (s ∷ shipments) (a ∷ A) [] are_a are_b = absurd are_b
chains-unique p allowed forced i (s ∷ shipments) (a ∷ A) (b ∷ B) are_a are_b =
    ap₂ (λ (chain : List Leg) (chains : List (List Leg)). chain ∷ chains) (chain-unique p (allowed i) forced s a b are_a.0 are_b.0)
    (chains-unique p allowed forced (i + 1) shipments A B are_a.1 are_b.1)

-- least costs under the same prices are the same
costs-unique : (p : Problem) (points : ℕ → List ℕ) (allowed : ℕ → Leg → Bool) (price : ℕ → Shipment → Leg → ℕ) (i : ℕ) (shipments : List Shipment) (A B : List ℕ) →
    AllZipFrom (λ k (s : Shipment) n. IsLeastCost p points (allowed k) s (price k s) n) i shipments A →
    AllZipFrom (λ k (s : Shipment) n. IsLeastCost p points (allowed k) s (price k s) n) i shipments B → A ≡ B
costs-unique p points allowed price i [] [] [] are_a are_b = refl
costs-unique p points allowed price i [] [] (b ∷ B) are_a are_b = absurd are_b
costs-unique p points allowed price i [] (a ∷ A) B are_a are_b = absurd are_a
costs-unique p points allowed price i (s ∷ shipments) [] B are_a are_b = absurd are_a
costs-unique p points allowed price i (s ∷ shipments) (a ∷ A) [] are_a are_b = absurd are_b
costs-unique p points allowed price i (s ∷ shipments) (a ∷ A) (b ∷ B) are_a are_b =
    let here : a ≡ b = omega (arith, are_a.0.least are_b.0.walk are_b.0.timed, are_a.0.cost, are_b.0.least are_a.0.walk are_a.0.timed, are_b.0.cost) in
    ap₂ (λ (n : ℕ) (costs : List ℕ). n ∷ costs) here (costs-unique p points allowed price (i + 1) shipments A B are_a.1 are_b.1)

-- a leaf has one value
pub leaf-value-unique : (p : Problem) (windows : ℕ → ℕ → Option Window) (points : ℕ → List ℕ) (sides : List Side) (tables : List (List ClassShare)) (kind : Kind) (forced : Bool) (v w : ℕ) →
    IsLeafValue p windows points sides tables kind forced v → IsLeafValue p windows points sides tables kind forced w → v ≡ w
leaf-value-unique p windows points sides tables kind forced v w is_v is_w =
    let allowed : ℕ → Leg → Bool = is_allowed p windows points sides in
    let chains : is_v.chains ≡ is_w.chains = chains-unique p allowed forced 0 p.shipments is_v.chains is_w.chains is_v.are_chains is_w.are_chains in
    let AreLeast : List (List Leg) → List ℕ → Type 0 = λ chains costs.
    AllZipFrom (λ k (s : Shipment) n. IsLeastCost p points (allowed k) s (leaf_price p tables allowed kind chains k s.size) n) 0 p.shipments costs in
    let costs : is_v.costs ≡ is_w.costs =
    costs-unique p points allowed (λ k s. leaf_price p tables allowed kind is_v.chains k s.size) 0 p.shipments is_v.costs is_w.costs is_v.are_least
    (subst (λ (R : List (List Leg)). AreLeast R is_w.costs) (sym chains) is_w.are_least) in
    is_v.value_is ∙ ap₂ (λ (R : List (List Leg)) (ns : List ℕ). p.scale * departures_cost p R (all_legs R) + sum_by (λ (n : ℕ). n) ns) chains costs ∙ sym is_w.value_is

-- an empty leaf has no value
pub leaf-value-some : (p : Problem) (windows : ℕ → ℕ → Option Window) (points : ℕ → List ℕ) (sides : List Side) (tables : List (List ClassShare)) (kind : Kind) (forced : Bool) (v : ℕ) →
    IsLeafValue p windows points sides tables kind forced v → IsLeafEmpty p windows points sides → ⊥
leaf-value-some p windows points sides tables kind forced v is empty =
    let allowed : ℕ → Leg → Bool = is_allowed p windows points sides in
    let k : ℕ = empty.shipment in
    let there : IsLeastCost p points (allowed (0 + k)) (shipment_at p k) (leaf_price p tables allowed kind is.chains (0 + k) (shipment_at p k).size) (slice_index_or is.costs k 0) =
    AllZipFrom-get_or (λ j (s : Shipment) n. IsLeastCost p points (allowed j) s (leaf_price p tables allowed kind is.chains j s.size) n) p.shipments is.costs no_shipment 0 0 k is.are_least empty.exists in
    let same : 0 + k ≡ k = omega arith in
    empty.none there.walk (subst (λ (j : ℕ). IsTimedWalk p points (allowed j) (shipment_at p k) there.walk) same there.timed)

pub leaves-have-one-value : LeavesHaveOneValue
leaves-have-one-value = record { one = leaf-value-unique; some = leaf-value-some }
