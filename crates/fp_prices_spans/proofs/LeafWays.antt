-- The walks of a leaf go by its ways: those of its plans do, without ways all walks do, and over other lists of the same points the same
-- walks do.
use Rattle.std.proofs.Common.{◌≡◌, ℕ, ◌+◌, ◌^◌, ◌<◌, ◌≤◌, Bool, true, false, List, [], ◌∷◌, ◌++◌, length, map, take, zero, suc, ⊎_elim, inl, inr, refl, sym, ap, ◌∙◌, subst, arith}
use Rattle.std.specs.Prelude.{Option, None, Some, nat_eq, slice_index_or}
use Rattle.std.specs.List.{AllByRecursion, cons_option}
use Rattle.std.proofs.lemmas.Bool.{cases_Bool, cond-false, cond-true, eqb-true}
use Rattle.std.proofs.Math.Pow.{pow_mono}
use Rattle.std.proofs.lemmas.List.{length-take}
use Rattle.std.proofs.lemmas.List.Elements.{filter_map-append}
use Rattle.fp_base_lists.specs.Elements.{AnyByRecursion}
use Rattle.fp_base_lists.specs.Numbered.{AllZipFrom}
use Rattle.fp_base_lists.proofs.Elements.{AllByRecursion-weaker}
use Rattle.fp_base_lists.proofs.Maps.{get_or-map_default}
use Rattle.fp_base_lists.proofs.Numbered.{AllZipFrom-weaker}
use Rattle.fp_model.specs.declared.parts.Leg.{Leg}
use Rattle.fp_model.specs.declared.parts.Shipment.{Shipment}
use Rattle.fp_model.specs.Numbered.{route_at, shipment_at}
use Rattle.fp_model.specs.Problem.{IsValid, Problem}
use Rattle.fp_flatnet.specs.declared.window_tables.Window.{Window}
use Rattle.fp_longestarcs.specs.Classes.{class_of}
use Rattle.fp_tree.specs.declared.sides.Side.{Side}
use Rattle.fp_tree.specs.declared.sides.Side.TheVariants.{Without, Only, Before, From, AtMost, MoreThan, Through, Outside}
use Rattle.fp_tree.specs.Sides.{Exit, HasWays, way_of, ways_of}
use Rattle.fp_allowed.specs.Allowed.{exit_of, is_allowed}
use Rattle.fp_allowed.specs.SamePoints.{AgreeOnPoints}
use Rattle.fp_allowed.specs.Walks.{IsWalkBy}
use Rattle.fp_prices.specs.ClassCosts.{IsLeastBy}
use Rattle.fp_prices.specs.Leaves.{IsLeastCostBy, IsPlanOfLeaf}
use Rattle.fp_prices_spans.specs.SpanCosts.{most_layers}
use Rattle.fp_prices_spans.specs.SpanLeaves.{leaf_heads}
use Rattle.fp_prices_spans.specs.declared.ways.TheConstants.{MOST_WAYS}
use Rattle.fp_prices_spans.specs.Spans.{ClassSpan}
use Rattle.fp_prices_spans.specs.Ways.{GoesBy, IsLeastCostVia, IsLeastVia, IsWalkVia, leaf_ways, ways_fit}
use Rattle.fp_prices_spans.proofs.LeafHeads.{leaf_plan-walks, leaf_route-walk, leaf_walk-same}

-- a walk that goes by no arc in particular
pub via-none : (p : Problem) (heads : Leg → ℕ) (allowed : Leg → Bool) (s : Shipment) (walk : List Leg) → IsWalkBy p heads allowed s walk → IsWalkVia p heads [] allowed s walk
via-none p heads allowed s walk goes = record { by_heads = goes; goes_by = tt }

-- so the least cost by heads is the least without arcs to go by
pub least-none : (p : Problem) (heads : Leg → ℕ) (allowed : Leg → Bool) (s : Shipment) (price : Leg → ℕ) (o : Option ℕ) → IsLeastBy p heads allowed s price o → IsLeastVia p heads [] allowed s price o
least-none p heads allowed s price None none = λ walk is. none walk is.by_heads
least-none p heads allowed s price (Some n) least = record {
  walk = least.walk;
  is = via-none p heads allowed s least.walk least.timed;
  cost = least.cost;
  least = λ other is. least.least other is.by_heads;
}

-- and the other way round
pub least-by : (p : Problem) (heads : Leg → ℕ) (allowed : Leg → Bool) (s : Shipment) (price : Leg → ℕ) (n : ℕ) → IsLeastCostVia p heads [] allowed s price n → IsLeastCostBy p heads allowed s price n
least-by p heads allowed s price n least = record {
  walk = least.walk;
  timed = least.is.by_heads;
  cost = least.cost;
  least = λ other goes. least.least other (via-none p heads allowed s other goes);
}

-- the arcs that sides ask for are among those of the legs
ways-met : (routes : List (List Exit)) (k : ℕ) (sides : List Side) → HasWays routes sides → AllByRecursion (λ arc. AnyByRecursion (λ (e : Exit). e.arc ≡ arc) (slice_index_or routes k [])) (ways_of k sides)
ways-met routes k [] has = tt
ways-met routes k (Without shipment arc ∷ sides) has = ways-met routes k sides has.1
ways-met routes k (Only shipment arc tail ∷ sides) has = ways-met routes k sides has.1
ways-met routes k (Before shipment terminal at ∷ sides) has = ways-met routes k sides has.1
ways-met routes k (From shipment terminal at ∷ sides) has = ways-met routes k sides has.1
ways-met routes k (AtMost arc point until trucks ∷ sides) has = ways-met routes k sides has.1
ways-met routes k (MoreThan arc point until trucks ∷ sides) has = ways-met routes k sides has.1
ways-met routes k (Outside shipment arc point until ∷ sides) has = ways-met routes k sides has.1
ways-met routes k (Through shipment arc ∷ sides) has =
    ⊎_elim
    (λ (own : nat_eq shipment k ≡ true).
    subst (AllByRecursion Met) (sym (ap (λ (o : Option ℕ). cons_option o (ways_of k sides)) (cond-true (nat_eq shipment k) (Some arc) None own)))
    (subst (λ (j : ℕ). AnyByRecursion (λ (e : Exit). e.arc ≡ arc) (slice_index_or routes j [])) (eqb-true shipment k own) has.0, ways-met routes k sides has.1))
    (λ (other : nat_eq shipment k ≡ false).
    subst (AllByRecursion Met) (sym (ap (λ (o : Option ℕ). cons_option o (ways_of k sides)) (cond-false (nat_eq shipment k) (Some arc) None other))) (ways-met routes k sides has.1))
    (cases_Bool (nat_eq shipment k))
  where
    Met : ℕ → Type 0
    Met a = AnyByRecursion (λ (e : Exit). e.arc ≡ a) (slice_index_or routes k [])

-- what holds of all holds of the first ones
first-ones : {X : Type 0} (P : X → Type 0) (n : ℕ) (xs : List X) → AllByRecursion P xs → AllByRecursion P (take n xs)
first-ones P zero xs all = tt
first-ones P (suc n) [] all = tt
first-ones P (suc n) (x ∷ xs) all = (all.0, first-ones P n xs all.1)

-- an arc that some mapped leg goes by
any-mapped : (f : Leg → Exit) (g : Leg → Leg) (arc : ℕ) → ((l : Leg) → (f l).arc ≡ (g l).arc) → (legs : List Leg) → AnyByRecursion (λ (e : Exit). e.arc ≡ arc) (map f legs) → AnyByRecursion (λ (c : Leg). c.arc ≡ arc) (map g legs)
any-mapped f g arc same [] any = absurd any
any-mapped f g arc same (l ∷ legs) any = ⊎_elim (λ (here : (f l).arc ≡ arc). inl (sym (same l) ∙ here)) (λ later. inr (any-mapped f g arc same legs later)) any

-- the classes of a plan's route go by the ways of a leaf whose sides it obeys
pub route-goes_by : (p : Problem) (points : ℕ → List ℕ) (sides : List Side) (spans : List ClassSpan) (d k : ℕ) (plan : List (List Leg)) → HasWays (map (map (exit_of p)) plan) sides →
    GoesBy (leaf_ways p sides spans k) (map (class_of p points d) (route_at plan k))
route-goes_by p points sides [] d k plan has = tt
route-goes_by p points sides (span ∷ spans) d k plan has =
    ⊎_elim
    (λ (yes : ways_fit p ≡ true). subst (λ (ways : List ℕ). GoesBy ways walk) (sym (cond-true (ways_fit p) (take MOST_WAYS (ways_of k sides)) [] yes)) (first-ones Met MOST_WAYS (ways_of k sides) all))
    (λ (no : ways_fit p ≡ false). subst (λ (ways : List ℕ). GoesBy ways walk) (sym (cond-false (ways_fit p) (take MOST_WAYS (ways_of k sides)) [] no)) tt)
    (cases_Bool (ways_fit p))
  where
    walk : List Leg
    walk = map (class_of p points d) (route_at plan k)

    Met : ℕ → Type 0
    Met arc = AnyByRecursion (λ (c : Leg). c.arc ≡ arc) walk

    all : AllByRecursion Met (ways_of k sides)
    all =
        AllByRecursion-weaker (λ arc. AnyByRecursion (λ (e : Exit). e.arc ≡ arc) (slice_index_or (map (map (exit_of p)) plan) k [])) Met
        (λ arc any. any-mapped (exit_of p) (class_of p points d) arc (λ l. refl) (route_at plan k)
        (subst (λ (exits : List Exit). AnyByRecursion (λ (e : Exit). e.arc ≡ arc) exits) (get_or-map_default (map (exit_of p)) plan k []) any)) (ways_of k sides) (ways-met (map (map (exit_of p)) plan) k sides has)

-- so they are an allowed walk of the shipment by the leaf's heads and ways
pub leaf_route-via : (p : Problem) (windows : ℕ → ℕ → Option Window) (points : ℕ → List ℕ) (sides : List Side) (spans : List ClassSpan) (d k : ℕ) (plan : List (List Leg)) → k < length p.shipments →
    IsPlanOfLeaf p windows sides d plan →
    IsWalkVia p (leaf_heads p windows points spans k) (leaf_ways p sides spans k) (is_allowed p windows points sides k) (shipment_at p k) (map (class_of p points d) (route_at plan k))
leaf_route-via p windows points sides spans d k plan exists of_leaf = record {
  by_heads = leaf_route-walk p windows points sides spans d k plan exists of_leaf;
  goes_by = route-goes_by p points sides spans d k plan of_leaf.obeys.ways;
}

-- what holds of two lists element by element, and something more of each element of the second
pub both-at : {X Y : Type 0} (P : ℕ → X → Y → Type 0) (Q : ℕ → Y → Type 0) (d : Y) (i : ℕ) (xs : List X) (ys : List Y) → AllZipFrom P i xs ys → ((j : ℕ) → j < length ys → Q (i + j) (slice_index_or ys j d)) →
    AllZipFrom (λ k x y. P k x y × Q k y) i xs ys
both-at P Q d i [] [] all more = tt
both-at P Q d i [] (y ∷ ys) all more = absurd all
both-at P Q d i (x ∷ xs) [] all more = absurd all
both-at P Q d i (x ∷ xs) (y ∷ ys) all more = (
  (all.0, subst (λ (n : ℕ). Q n y) (let e : i + 0 ≡ i = omega arith in e) (more 0 (omega arith))),
  both-at P Q d (i + 1) xs ys all.1 (λ j h. subst (λ (n : ℕ). Q n (slice_index_or ys j d)) (let e : i + suc j ≡ i + 1 + j = omega arith in e) (more (suc j) (omega (arith, h)))),
)

-- so those of a plan are such walks of all shipments
pub leaf_plan-via : (p : Problem) (windows : ℕ → ℕ → Option Window) (points : ℕ → List ℕ) (sides : List Side) (spans : List ClassSpan) (d : ℕ) (plan : List (List Leg)) → IsPlanOfLeaf p windows sides d plan →
    AllZipFrom (λ k (s : Shipment) r. IsWalkVia p (leaf_heads p windows points spans k) (leaf_ways p sides spans k) (is_allowed p windows points sides k) s r) 0 p.shipments (map (map (class_of p points d)) plan)
leaf_plan-via p windows points sides spans d plan of_leaf =
    let of : List Leg → List Leg = map (class_of p points d) in
    let Goes : ℕ → Shipment → List Leg → Type 0 = λ k s r. IsWalkBy p (leaf_heads p windows points spans k) (is_allowed p windows points sides k) s r in
    let By : ℕ → List Leg → Type 0 = λ k r. GoesBy (leaf_ways p sides spans k) r in
    AllZipFrom-weaker (λ k (s : Shipment) r. Goes k s r × By k r)
    (λ k (s : Shipment) r. IsWalkVia p (leaf_heads p windows points spans k) (leaf_ways p sides spans k) (is_allowed p windows points sides k) s r) (λ k s r both. record { by_heads = both.0; goes_by = both.1 }) 0 p.shipments (map of plan)
    (both-at Goes By [] 0 p.shipments (map of plan) (leaf_plan-walks p windows points sides spans d plan of_leaf)
    (λ j h. subst (By (0 + j)) (sym (get_or-map_default of plan j [])) (subst (λ (k : ℕ). By k (of (route_at plan j))) (let e : j ≡ 0 + j = omega arith in e) (route-goes_by p points sides spans d j plan of_leaf.obeys.ways))))

-- without sides a leaf has no ways
pub ways-without_sides : (p : Problem) (spans : List ClassSpan) (k : ℕ) → leaf_ways p [] spans k ≡ []
ways-without_sides p [] k = refl
ways-without_sides p (span ∷ spans) k =
    ⊎_elim (λ (yes : ways_fit p ≡ true). cond-true (ways_fit p) [] [] yes) (λ (no : ways_fit p ≡ false). cond-false (ways_fit p) [] [] no) (cases_Bool (ways_fit p))

-- so there the least cost by heads is the least one
pub least-without_sides : (p : Problem) (spans : List ClassSpan) (k : ℕ) (heads : Leg → ℕ) (allowed : Leg → Bool) (s : Shipment) (price : Leg → ℕ) (n : ℕ) → IsLeastCostBy p heads allowed s price n →
    IsLeastCostVia p heads (leaf_ways p [] spans k) allowed s price n
least-without_sides p spans k heads allowed s price n least =
    subst (λ (ways : List ℕ). IsLeastCostVia p heads ways allowed s price n) (sym (ways-without_sides p spans k)) (least-none p heads allowed s price (Some n) least)

-- over other lists of the same points a walk is one there
pub leaf_via-same : (p : Problem) (valid : IsValid p) (points others : ℕ → List ℕ) (same : AgreeOnPoints p points others) (windows : ℕ → ℕ → Option Window) (sides : List Side) (spans : List ClassSpan)
    (k : ℕ) (s : Shipment) (walk : List Leg) → IsWalkVia p (leaf_heads p windows points spans k) (leaf_ways p sides spans k) (is_allowed p windows points sides k) s walk →
    IsWalkVia p (leaf_heads p windows others spans k) (leaf_ways p sides spans k) (is_allowed p windows others sides k) s walk
leaf_via-same p valid points others same windows sides spans k s walk is = record {
  by_heads = leaf_walk-same p valid points others same windows sides spans k s walk is.by_heads;
  goes_by = is.goes_by;
}

-- what holds of the first ones of a longer list holds of those of a shorter one with which it begins
fewer-ones : {X : Type 0} (P : X → Type 0) (n : ℕ) (xs more : List X) → AllByRecursion P (take n (xs ++ more)) → AllByRecursion P (take n xs)
fewer-ones P zero xs more all = tt
fewer-ones P (suc n) [] more all = tt
fewer-ones P (suc n) (x ∷ xs) more all = (all.0, fewer-ones P n xs more all.1)

-- a walk that goes by the ways under sides goes by those under the first of them
pub ways-fewer : (p : Problem) (sides more : List Side) (spans : List ClassSpan) (k : ℕ) (walk : List Leg) → GoesBy (leaf_ways p (sides ++ more) spans k) walk → GoesBy (leaf_ways p sides spans k) walk
ways-fewer p sides more [] k walk goes = tt
ways-fewer p sides more (span ∷ spans) k walk goes =
    ⊎_elim
    (λ (yes : ways_fit p ≡ true).
    subst (λ (ways : List ℕ). GoesBy ways walk) (sym (cond-true (ways_fit p) (take MOST_WAYS (ways_of k sides)) [] yes))
    (fewer-ones (λ arc. AnyByRecursion (λ (c : Leg). c.arc ≡ arc) walk) MOST_WAYS (ways_of k sides) (ways_of k more)
    (subst (λ (ways : List ℕ). GoesBy (take MOST_WAYS ways) walk) (filter_map-append (way_of k) sides more)
    (subst (λ (ways : List ℕ). GoesBy ways walk) (cond-true (ways_fit p) (take MOST_WAYS (ways_of k (sides ++ more))) [] yes) goes))))
    (λ (no : ways_fit p ≡ false). subst (λ (ways : List ℕ). GoesBy ways walk) (sym (cond-false (ways_fit p) (take MOST_WAYS (ways_of k sides)) [] no)) tt)
    (cases_Bool (ways_fit p))

-- so many ways make at most sixteen layers
pub layers-at_most : (n : ℕ) → n ≤ MOST_WAYS → 2 ^ n ≤ 16
layers-at_most n few =
    let four : n ≤ 4 = omega (arith, few) in
    omega (arith, pow_mono four)

-- a leaf has few ways
pub ways-few : (p : Problem) (sides : List Side) (spans : List ClassSpan) (k : ℕ) → length (leaf_ways p sides spans k) ≤ MOST_WAYS
ways-few p sides [] k = omega arith
ways-few p sides (span ∷ spans) k =
    ⊎_elim
    (λ (yes : ways_fit p ≡ true). omega (arith, ap (λ (ways : List ℕ). length ways) (cond-true (ways_fit p) (take MOST_WAYS (ways_of k sides)) [] yes), length-take MOST_WAYS (ways_of k sides)))
    (λ (no : ways_fit p ≡ false). omega (arith, ap (λ (ways : List ℕ). length ways) (cond-false (ways_fit p) (take MOST_WAYS (ways_of k sides)) [] no)))
    (cases_Bool (ways_fit p))

-- and its ways make at most so many layers as fit
pub layers-most : (p : Problem) (sides : List Side) (spans : List ClassSpan) (k : ℕ) → 2 ^ length (leaf_ways p sides spans k) ≤ most_layers p
layers-most p sides spans k =
    ⊎_elim
    (λ (yes : ways_fit p ≡ true). omega (arith, layers-at_most (length (leaf_ways p sides spans k)) (ways-few p sides spans k), cond-true {A = ℕ} (ways_fit p) 16 1 yes))
    (λ (no : ways_fit p ≡ false).
    let one : 2 ^ length (leaf_ways p sides spans k) ≡ 1 = ap (λ (ways : List ℕ). 2 ^ length ways) (nothing spans no) in
    omega (arith, one, cond-false {A = ℕ} (ways_fit p) 16 1 no))
    (cases_Bool (ways_fit p))
  where
    nothing : (all : List ClassSpan) → ways_fit p ≡ false → leaf_ways p sides all k ≡ []
    nothing [] unfit = refl
    nothing (span ∷ others) unfit = cond-false (ways_fit p) (take MOST_WAYS (ways_of k sides)) [] unfit
