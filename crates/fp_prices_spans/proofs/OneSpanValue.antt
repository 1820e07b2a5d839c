-- A leaf has one value under prices by spans, and none where it is empty by its heads and ways.
use Rattle.std.proofs.Common.{◌≡◌, ℕ, ◌+◌, ◌*◌, Bool, List, [], ◌∷◌, ⊎_elim, refl, sym, ap, ap₂, ◌∙◌, subst, arith}
use Rattle.std.specs.Prelude.{sum_by, slice_index_or, Option}
use Rattle.std.specs.List.{AllZip}
use Rattle.fp_base_lists.specs.Numbered.{AllZipFrom}
use Rattle.fp_base_lists.proofs.Numbered.{AllZipFrom-get_or}
use Rattle.fp_model.specs.declared.parts.Leg.{Leg}
use Rattle.fp_model.specs.declared.parts.Shipment.{Shipment}
use Rattle.fp_model.specs.Costs.{all_legs, departures_cost}
use Rattle.fp_model.specs.Numbered.{no_shipment, shipment_at}
use Rattle.fp_model.specs.Problem.{Problem}
use Rattle.fp_flatnet.specs.declared.window_tables.Window.{Window}
use Rattle.fp_tree.specs.declared.sides.Side.{Side}
use Rattle.fp_allowed.specs.Allowed.{is_allowed}
use Rattle.fp_prices.specs.declared.leaf_prices.Kind.{Kind}
use Rattle.fp_prices.specs.Shares.{ClassShare}
use Rattle.fp_prices.proofs.OneValue.{chains-unique}
use Rattle.fp_prices_spans.specs.Spans.{ClassSpan}
use Rattle.fp_prices_spans.specs.SpanLeaves.{IsCharged, IsChargeOf, IsSpanLeafEmpty, IsSpanLeafValue, SpanLeavesHaveOneValue, leaf_heads}
use Rattle.fp_prices_spans.specs.SpanPrices.{leaf_span_price}
use Rattle.fp_prices_spans.specs.Ways.{IsLeastCostVia, IsWalkVia, leaf_ways}

-- where each element and its number decide the other one, they decide the other list
AllZipFrom-unique : {X Y : Type 0} (Q : ℕ → X → Y → Type 0) → ((k : ℕ) (x : X) (y z : Y) → Q k x y → Q k x z → y ≡ z) → (i : ℕ) (xs : List X) (ys zs : List Y) →
    AllZipFrom Q i xs ys → AllZipFrom Q i xs zs → ys ≡ zs
AllZipFrom-unique Q one i [] [] [] is_ys is_zs = refl
AllZipFrom-unique Q one i [] [] (z ∷ zs) is_ys is_zs = absurd is_zs
AllZipFrom-unique Q one i [] (y ∷ ys) zs is_ys is_zs = absurd is_ys
AllZipFrom-unique Q one i (x ∷ xs) [] zs is_ys is_zs = absurd is_ys
AllZipFrom-unique Q one i (x ∷ xs) (y ∷ ys) [] is_ys is_zs = absurd is_zs
AllZipFrom-unique {X} {Y} Q one i (x ∷ xs) (y ∷ ys) (z ∷ zs) is_ys is_zs =
    ap₂ (λ (w : Y) (ws : List Y). w ∷ ws) (one i x y z is_ys.0 is_zs.0) (AllZipFrom-unique Q one (i + 1) xs ys zs is_ys.1 is_zs.1)

-- a shipment has one least cost
cost-unique : (p : Problem) (heads : Leg → ℕ) (ways : List ℕ) (allowed : Leg → Bool) (s : Shipment) (price : Leg → ℕ) (a b : ℕ) →
    IsLeastCostVia p heads ways allowed s price a → IsLeastCostVia p heads ways allowed s price b → a ≡ b
cost-unique p heads ways allowed s price a b is_a is_b = omega (arith, is_a.least is_b.walk is_b.is, is_a.cost, is_b.least is_a.walk is_a.is, is_b.cost)

-- a span takes one number off
charges-unique : (p : Problem) (allowed : ℕ → Leg → Bool) (chains : List (List Leg)) (spans : List ClassSpan) (A B : List ℕ) →
    AllZip (IsChargeOf p allowed chains) spans A → AllZip (IsChargeOf p allowed chains) spans B → A ≡ B
charges-unique p allowed chains [] [] [] is_a is_b = refl
charges-unique p allowed chains [] [] (b ∷ B) is_a is_b = absurd is_b
charges-unique p allowed chains [] (a ∷ A) B is_a is_b = absurd is_a
charges-unique p allowed chains (span ∷ spans) [] B is_a is_b = absurd is_a
charges-unique p allowed chains (span ∷ spans) (a ∷ A) [] is_a is_b = absurd is_b
charges-unique p allowed chains (span ∷ spans) (a ∷ A) (b ∷ B) is_a is_b =
    ap₂ (λ (n : ℕ) (ns : List ℕ). n ∷ ns) same (charges-unique p allowed chains spans A B is_a.1 is_b.1)
  where
    same : a ≡ b
    same =
        ⊎_elim
        (λ (yes : IsCharged p allowed chains span × (a ≡ span.charge)).
        ⊎_elim
        (λ (too : IsCharged p allowed chains span × (b ≡ span.charge)). yes.1 ∙ sym too.1)
        (λ (no : (IsCharged p allowed chains span → ⊥) × (b ≡ 0)). absurd (no.0 yes.0))
        is_b.0)
        (λ (no : (IsCharged p allowed chains span → ⊥) × (a ≡ 0)).
        ⊎_elim
        (λ (yes : IsCharged p allowed chains span × (b ≡ span.charge)). absurd (no.0 yes.0))
        (λ (neither : (IsCharged p allowed chains span → ⊥) × (b ≡ 0)). no.1 ∙ sym neither.1)
        is_b.0)
        is_a.0

-- a leaf has one value
span_value-unique : (p : Problem) (windows : ℕ → ℕ → Option Window) (points : ℕ → List ℕ) (sides : List Side) (tables : List (List ClassShare)) (spans : List ClassSpan) (kind : Kind) (forced : Bool) (v w : ℕ) →
    IsSpanLeafValue p windows points sides tables spans kind forced v → IsSpanLeafValue p windows points sides tables spans kind forced w → v ≡ w
span_value-unique p windows points sides tables spans kind forced v w is_v is_w =
    let allowed : ℕ → Leg → Bool = is_allowed p windows points sides in
    let heads : ℕ → Leg → ℕ = leaf_heads p windows points spans in
    let IsLeast : List (List Leg) → ℕ → Shipment → ℕ → Type 0 = λ chains k s n.
    IsLeastCostVia p (heads k) (leaf_ways p sides spans k) (allowed k) s (leaf_span_price p tables spans allowed kind chains k s.size) n in
    let chains : is_v.chains ≡ is_w.chains = chains-unique p allowed forced 0 p.shipments is_v.chains is_w.chains is_v.are_chains is_w.are_chains in
    let costs : is_v.costs ≡ is_w.costs =
    AllZipFrom-unique (IsLeast is_v.chains)
    (λ k s a b. cost-unique p (heads k) (leaf_ways p sides spans k) (allowed k) s (leaf_span_price p tables spans allowed kind is_v.chains k s.size) a b) 0 p.shipments is_v.costs is_w.costs is_v.are_least
    (subst (λ (R : List (List Leg)). AllZipFrom (IsLeast R) 0 p.shipments is_w.costs) (sym chains) is_w.are_least) in
    let charges : is_v.charges ≡ is_w.charges =
    charges-unique p allowed is_v.chains spans is_v.charges is_w.charges is_v.are_charges
    (subst (λ (R : List (List Leg)). AllZip (IsChargeOf p allowed R) spans is_w.charges) (sym chains) is_w.are_charges) in
    let whole : List (List Leg) → List ℕ → ℕ = λ R ns. p.scale * departures_cost p R (all_legs R) + sum_by (λ (n : ℕ). n) ns in
    let before : whole is_v.chains is_v.costs ≡ whole is_w.chains is_w.costs = ap₂ whole chains costs in
    let off : sum_by (λ (n : ℕ). n) is_v.charges ≡ sum_by (λ (n : ℕ). n) is_w.charges = ap (sum_by (λ (n : ℕ). n)) charges in
    omega (arith, is_v.value_is, is_w.value_is, before, off)

-- a leaf that is empty by its heads and ways has no value
span_value-some : (p : Problem) (windows : ℕ → ℕ → Option Window) (points : ℕ → List ℕ) (sides : List Side) (tables : List (List ClassShare)) (spans : List ClassSpan) (kind : Kind) (forced : Bool) (v : ℕ) →
    IsSpanLeafValue p windows points sides tables spans kind forced v → IsSpanLeafEmpty p windows points sides spans → ⊥
span_value-some p windows points sides tables spans kind forced v is empty =
    let allowed : ℕ → Leg → Bool = is_allowed p windows points sides in
    let k : ℕ = empty.shipment in
    let heads : ℕ → Leg → ℕ = leaf_heads p windows points spans in
    let IsLeast : ℕ → Shipment → ℕ → Type 0 = λ j s n. IsLeastCostVia p (heads j) (leaf_ways p sides spans j) (allowed j) s (leaf_span_price p tables spans allowed kind is.chains j s.size) n in
    let there : IsLeast (0 + k) (shipment_at p k) (slice_index_or is.costs k 0) = AllZipFrom-get_or IsLeast p.shipments is.costs no_shipment 0 0 k is.are_least empty.exists in
    let same : 0 + k ≡ k = omega arith in
    empty.none there.walk (subst (λ (j : ℕ). IsWalkVia p (heads j) (leaf_ways p sides spans j) (allowed j) (shipment_at p k) there.walk) same there.is)

pub span_leaves-have-one-value : SpanLeavesHaveOneValue
span_leaves-have-one-value = record { one = span_value-unique; some = span_value-some }
