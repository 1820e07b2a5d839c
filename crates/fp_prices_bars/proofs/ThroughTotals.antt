-- What a leaf is worth where a shipment is made to go by a class: its value with what the shipment costs so in the place of its least cost.
use Rattle.std.proofs.Common.{◌≡◌, ℕ, zero, suc, ◌+◌, ◌-◌, ◌*◌, ◌<◌, Bool, true, false, List, [], ◌∷◌, length, ⊎_elim, refl, sym, ap, ap₂, ◌∙◌, subst, arith}
use Rattle.std.specs.Prelude.{MatchBool, Option, nat_eq, slice_index_or, sum_by}
use Rattle.std.specs.List.{AllZip}
use Rattle.std.proofs.lemmas.Bool.{eq-eqb, ne_eqb}
use Rattle.std.proofs.lemmas.List.Sums.{sum_by-cons}
use Rattle.fp_base_lists.specs.Numbered.{AllZipFrom}
use Rattle.fp_model.specs.declared.parts.Leg.{Leg}
use Rattle.fp_model.specs.declared.parts.Shipment.{Shipment}
use Rattle.fp_model.specs.Costs.{all_legs, departures_cost}
use Rattle.fp_model.specs.Numbered.{no_shipment, shipment_at}
use Rattle.fp_model.specs.Problem.{Problem}
use Rattle.fp_flatnet.specs.declared.window_tables.Window.{Window}
use Rattle.fp_tree.specs.declared.sides.Side.{Side}
use Rattle.fp_allowed.specs.Allowed.{is_allowed}
use Rattle.fp_prices.specs.declared.leaf_prices.Kind.{Kind}
use Rattle.fp_prices.specs.Leaves.{IsChain}
use Rattle.fp_prices.specs.Shares.{ClassShare}
use Rattle.fp_prices.proofs.OneValue.{chains-unique}
use Rattle.fp_prices_spans.specs.SpanBars.{IsLeastCostThrough, IsSpanValueThrough}
use Rattle.fp_prices_spans.specs.SpanLeaves.{IsCharged, IsChargeOf, leaf_heads}
use Rattle.fp_prices_spans.specs.SpanPrices.{leaf_span_price}
use Rattle.fp_prices_spans.specs.Spans.{ClassSpan}
use Rattle.fp_prices_spans.specs.Ways.{IsLeastCostVia, leaf_ways}

-- a list with another number at a place
abbrev pub replaced : List ℕ → ℕ → ℕ → List ℕ
replaced [] m n = []
replaced (y ∷ ys) zero n = n ∷ ys
replaced (y ∷ ys) (suc m) n = y ∷ replaced ys m n

-- its sum, with the number that stood there
pub replaced-sum : (ys : List ℕ) (m n : ℕ) → m < length ys → sum_by (λ (k : ℕ). k) (replaced ys m n) + slice_index_or ys m 0 ≡ sum_by (λ (k : ℕ). k) ys + n
replaced-sum [] m n lt = absurd (omega (arith, lt))
replaced-sum (y ∷ ys) zero n lt = omega (arith, sum_by-cons (λ (k : ℕ). k) y ys, sum_by-cons (λ (k : ℕ). k) n ys)
replaced-sum (y ∷ ys) (suc m) n lt = omega (arith, replaced-sum ys m n (omega (arith, lt)), sum_by-cons (λ (k : ℕ). k) y ys, sum_by-cons (λ (k : ℕ). k) y (replaced ys m n))

module _ {X : Type 0} (P Q : ℕ → X → ℕ → Type 0) where
  -- past a number nothing changes
  past : (t i : ℕ) (xs : List X) (ys : List ℕ) → t < i → AllZipFrom Q i xs ys → AllZipFrom (λ j x y. MatchBool (nat_eq j t) (P j x y) (Q j x y)) i xs ys
  past t i [] [] lt all = tt
  past t i [] (y ∷ ys) lt all = absurd all
  past t i (x ∷ xs) [] lt all = absurd all
  past t i (x ∷ xs) (y ∷ ys) lt all =
      (subst (λ (b : Bool). MatchBool b (P i x y) (Q i x y)) (sym (ne_eqb i t (λ same. absurd (omega (arith, same, lt))))) all.0, past t (i + 1) xs ys (omega (arith, lt)) all.1)

  -- and at it the other number has the other property
  pub replaced-all : (i m n : ℕ) (xs : List X) (ys : List ℕ) (d : X) → m < length xs → AllZipFrom Q i xs ys → P (i + m) (slice_index_or xs m d) n →
      AllZipFrom (λ j x y. MatchBool (nat_eq j (i + m)) (P j x y) (Q j x y)) i xs (replaced ys m n)
  replaced-all i m n [] ys d lt all new = absurd (omega (arith, lt))
  replaced-all i m n (x ∷ xs) [] d lt all new = absurd all
  replaced-all i zero n (x ∷ xs) (y ∷ ys) d lt all new =
      let here : i + 0 ≡ i = omega arith in
      subst (λ (t : ℕ). AllZipFrom (λ j z w. MatchBool (nat_eq j t) (P j z w) (Q j z w)) i (x ∷ xs) (n ∷ ys)) (sym here)
      (subst (λ (b : Bool). MatchBool b (P i x n) (Q i x n)) (sym (eq-eqb i i refl)) (subst (λ (t : ℕ). P t x n) here new), past i (i + 1) xs ys (omega arith) all.1)
  replaced-all i (suc m) n (x ∷ xs) (y ∷ ys) d lt all new =
      let on : i + suc m ≡ i + 1 + m = omega arith in
      subst (λ (t : ℕ). AllZipFrom (λ j z w. MatchBool (nat_eq j t) (P j z w) (Q j z w)) i (x ∷ xs) (y ∷ replaced ys m n)) (sym on) (
        subst (λ (b : Bool). MatchBool b (P i x y) (Q i x y)) (sym (ne_eqb i (i + 1 + m) (λ same. absurd (omega (arith, same))))) all.0,
        replaced-all (i + 1) m n xs ys d (omega (arith, lt)) all.1 (subst (λ (t : ℕ). P t (slice_index_or xs m d) n) on new),
      )

-- where each element and its number decide the other one, they decide the other list
AllZipFrom-unique : {X Y : Type 0} (Q : ℕ → X → Y → Type 0) → ((k : ℕ) (x : X) (y z : Y) → Q k x y → Q k x z → y ≡ z) → (i : ℕ) (xs : List X) (ys zs : List Y) →
    AllZipFrom Q i xs ys → AllZipFrom Q i xs zs → ys ≡ zs
AllZipFrom-unique Q one i [] [] [] is_ys is_zs = refl
AllZipFrom-unique Q one i [] [] (z ∷ zs) is_ys is_zs = absurd is_zs
AllZipFrom-unique Q one i [] (y ∷ ys) zs is_ys is_zs = absurd is_ys
AllZipFrom-unique Q one i (x ∷ xs) [] zs is_ys is_zs = absurd is_ys
AllZipFrom-unique Q one i (x ∷ xs) (y ∷ ys) [] is_ys is_zs = absurd is_zs
AllZipFrom-unique {X} {Y} Q one i (x ∷ xs) (y ∷ ys) (z ∷ zs) is_ys is_zs =
    ap₂ (λ (w : Y) (ws : List Y). w ∷ ws) (one i x y z is_ys.0 is_zs.0) (AllZipFrom-unique Q one (i + 1) xs ys zs is_ys.1 is_zs.1)

-- a span takes one number off
charges-unique : (p : Problem) (allowed : ℕ → Leg → Bool) (chains : List (List Leg)) (spans : List ClassSpan) (A B : List ℕ) →
    AllZip (IsChargeOf p allowed chains) spans A → AllZip (IsChargeOf p allowed chains) spans B → A ≡ B
charges-unique p allowed chains [] [] [] is_a is_b = refl
charges-unique p allowed chains [] [] (b ∷ B) is_a is_b = absurd is_b
charges-unique p allowed chains [] (a ∷ A) B is_a is_b = absurd is_a
charges-unique p allowed chains (span ∷ spans) [] B is_a is_b = absurd is_a
charges-unique p allowed chains (span ∷ spans) (a ∷ A) [] is_a is_b = absurd is_b
charges-unique p allowed chains (span ∷ spans) (a ∷ A) (b ∷ B) is_a is_b =
    ap₂ (λ (n : ℕ) (ns : List ℕ). n ∷ ns) same (charges-unique p allowed chains spans A B is_a.1 is_b.1)
  where
    same : a ≡ b
    same =
        ⊎_elim
        (λ (yes : IsCharged p allowed chains span × (a ≡ span.charge)).
        ⊎_elim
        (λ (too : IsCharged p allowed chains span × (b ≡ span.charge)). yes.1 ∙ sym too.1)
        (λ (no : (IsCharged p allowed chains span → ⊥) × (b ≡ 0)). absurd (no.0 yes.0))
        is_b.0)
        (λ (no : (IsCharged p allowed chains span → ⊥) × (a ≡ 0)).
        ⊎_elim
        (λ (yes : IsCharged p allowed chains span × (b ≡ span.charge)). absurd (no.0 yes.0))
        (λ (neither : (IsCharged p allowed chains span → ⊥) × (b ≡ 0)). no.1 ∙ sym neither.1)
        is_b.0)
        is_a.0

module _ (p : Problem) (windows : ℕ → ℕ → Option Window) (points : ℕ → List ℕ) (sides : List Side) (tables : List (List ClassShare)) (spans : List ClassSpan) (kind : Kind) (forced : Bool) (k : ℕ) (class : Leg) where
  abbrev allowed : ℕ → Leg → Bool
  allowed = is_allowed p windows points sides

  abbrev heads : ℕ → Leg → ℕ
  heads = leaf_heads p windows points spans

  abbrev price : List (List Leg) → ℕ → Shipment → Leg → ℕ
  price chains j s = leaf_span_price p tables spans allowed kind chains j s.size

  abbrev IsLeast : List (List Leg) → ℕ → Shipment → ℕ → Type 0
  IsLeast chains j s n = IsLeastCostVia p (heads j) (leaf_ways p sides spans j) (allowed j) s (price chains j s) n

  abbrev IsThrough : List (List Leg) → ℕ → Shipment → ℕ → Type 0
  IsThrough chains j s n = IsLeastCostThrough p (heads j) (allowed j) s (price chains j s) class n

  -- the value with the cost through the class in the place of the shipment's own
  pub through-value : (chains : List (List Leg)) (costs charges : List ℕ) (cost : ℕ) → k < length p.shipments → AllZipFrom (λ j. IsChain p (allowed j) forced) 0 p.shipments chains → AllZipFrom (IsLeast chains) 0 p.shipments costs →
      AllZip (IsChargeOf p allowed chains) spans charges → IsThrough chains k (shipment_at p k) cost →
      IsSpanValueThrough p windows points sides tables spans kind forced k class (p.scale * departures_cost p chains (all_legs chains) + sum_by (λ (n : ℕ). n) (replaced costs k cost) - sum_by (λ (n : ℕ). n) charges)
  through-value chains costs charges cost exists are_chains least are_charges through = record {
    chains = chains;
    costs = replaced costs k cost;
    charges = charges;
    are_chains = are_chains;
    are_least = subst (λ (t : ℕ). AllZipFrom (λ j s n. MatchBool (nat_eq j t) (IsThrough chains j s n) (IsLeast chains j s n)) 0 p.shipments (replaced costs k cost)) here
        (replaced-all (IsThrough chains) (IsLeast chains) 0 k cost p.shipments costs no_shipment exists least (subst (λ (t : ℕ). IsThrough chains t (shipment_at p k) cost) (sym here) through));
    are_charges = are_charges;
    value_is = refl;
  }
    where
      here : 0 + k ≡ k
      here = omega arith

  -- one of both kinds of least costs is one number
  cost-unique : (chains : List (List Leg)) (j : ℕ) (s : Shipment) (a b : ℕ) (t : Bool) → MatchBool t (IsThrough chains j s a) (IsLeast chains j s a) → MatchBool t (IsThrough chains j s b) (IsLeast chains j s b) → a ≡ b
  cost-unique chains j s a b true is_a is_b = omega (arith, is_a.least is_b.walk is_b.is is_b.has, is_a.cost, is_b.least is_a.walk is_a.is is_a.has, is_b.cost)
  cost-unique chains j s a b false is_a is_b = omega (arith, is_a.least is_b.walk is_b.is, is_a.cost, is_b.least is_a.walk is_a.is, is_b.cost)

  -- so there is one such value
  pub through-unique : (v w : ℕ) → IsSpanValueThrough p windows points sides tables spans kind forced k class v → IsSpanValueThrough p windows points sides tables spans kind forced k class w → v ≡ w
  through-unique v w is_v is_w =
      let Both : List (List Leg) → ℕ → Shipment → ℕ → Type 0 = λ chains j s n. MatchBool (nat_eq j k) (IsThrough chains j s n) (IsLeast chains j s n) in
      let chains : is_v.chains ≡ is_w.chains = chains-unique p allowed forced 0 p.shipments is_v.chains is_w.chains is_v.are_chains is_w.are_chains in
      let costs : is_v.costs ≡ is_w.costs =
      AllZipFrom-unique (Both is_v.chains) (λ j s a b. cost-unique is_v.chains j s a b (nat_eq j k)) 0 p.shipments is_v.costs is_w.costs is_v.are_least
      (subst (λ (R : List (List Leg)). AllZipFrom (Both R) 0 p.shipments is_w.costs) (sym chains) is_w.are_least) in
      let charges : is_v.charges ≡ is_w.charges =
      charges-unique p allowed is_v.chains spans is_v.charges is_w.charges is_v.are_charges
      (subst (λ (R : List (List Leg)). AllZip (IsChargeOf p allowed R) spans is_w.charges) (sym chains) is_w.are_charges) in
      let whole : List (List Leg) → List ℕ → ℕ = λ R ns. p.scale * departures_cost p R (all_legs R) + sum_by (λ (n : ℕ). n) ns in
      let before : whole is_v.chains is_v.costs ≡ whole is_w.chains is_w.costs = ap₂ whole chains costs in
      let off : sum_by (λ (n : ℕ). n) is_v.charges ≡ sum_by (λ (n : ℕ). n) is_w.charges = ap (sum_by (λ (n : ℕ). n)) charges in
      omega (arith, is_v.value_is, is_w.value_is, before, off)
