-- The greatest weights of sets by their loads: no set of a load weighs more, and the best places weigh so much.
use Rattle.std.proofs.Common.{◌≡◌, ℕ, zero, suc, ◌+◌, ◌-◌, ◌<◌, ◌≤◌, Bool, true, false, ◌||◌, cond, List, [], ◌∷◌, ◌++◌, length, ltb, ⊎_elim, refl, sym, ap, ◌∙◌, subst, arith}
use Rattle.std.specs.Prelude.{◌/◌, All, AllPairs, nat_eq}
use Rattle.std.proofs.Math.Bool.{or-false}
use Rattle.std.proofs.lemmas.Bool.{cases_Bool, cond-true, cond-false, cond_both, ltb-true, ltb-false, le-ltb, false≢true, ne_eqb, or_right}
use Rattle.std.proofs.lemmas.List.Elements.{All-push, All-nil, All-weaker}
use Rattle.std.proofs.lemmas.List.Folds.{list_any_none}
use Rattle.std.proofs.lemmas.List.Quantifiers.{all_pairs_push}
use Rattle.fp_base_lists.specs.Membership.{list_has}
use Rattle.fp_base_lists.proofs.Membership.{list_has-append, list_has-first}
use Rattle.fp_base_lists.proofs.Pairs.{AllPairs-nil}
use Rattle.fp_base_lists.proofs.SumsBelow.{sum_below-same, sum_below-places}
use Rattle.fp_prices_knapsack.specs.declared.items.Item.{Item}
use Rattle.fp_prices_knapsack.specs.Sets.{no_item, item_at, sum_over}
use Rattle.fp_prices_knapsack.specs.Charges.{total_weight}
use Rattle.fp_prices_knapsack.proofs.SetSums.{sum_over-le, sum_below-room}
use Rattle.fp_prices_knapsack.specs.Loads.{takes, best_with, best_weight, takes_place, best_places}

-- a load that takes an item has room for it, and gains
takes-yes : (best : ℕ → ℕ) (grains weight load : ℕ) → takes best grains weight load ≡ true → (grains ≤ load) × (best load < best (load - grains) + weight)
takes-yes best grains weight load is =
    ⊎_elim
    (λ (short : ltb load grains ≡ true). absurd (false≢true (sym (cond-true (ltb load grains) false (ltb (best load) (best (load - grains) + weight)) short) ∙ is)))
    (λ (room : ltb load grains ≡ false).
    (ltb-false load grains room, ltb-true (best load) (best (load - grains) + weight) (sym (cond-false (ltb load grains) false (ltb (best load) (best (load - grains) + weight)) room) ∙ is)))
    (cases_Bool (ltb load grains))

-- one that has room and doesn't take it would gain nothing
takes-no : (best : ℕ → ℕ) (grains weight load : ℕ) → takes best grains weight load ≡ false → grains ≤ load → best (load - grains) + weight ≤ best load
takes-no best grains weight load is room =
    ltb-false (best load) (best (load - grains) + weight)
    (sym (cond-false (ltb load grains) false (ltb (best load) (best (load - grains) + weight)) (le-ltb load grains room)) ∙ is)

-- the best with one item more is no less than either way
best_with-without : (best : ℕ → ℕ) (grains weight load : ℕ) → best load ≤ best_with best grains weight load
best_with-without best grains weight load =
    cond_both (takes best grains weight load) (best (load - grains) + weight) (best load) (λ (n : ℕ). best load ≤ n)
    (λ is. (let gains = takes-yes best grains weight load is in omega (arith, gains.1))) (λ is. omega arith)

best_with-item : (best : ℕ → ℕ) (grains weight load : ℕ) → grains ≤ load → best (load - grains) + weight ≤ best_with best grains weight load
best_with-item best grains weight load room =
    cond_both (takes best grains weight load) (best (load - grains) + weight) (best load) (λ (n : ℕ). best (load - grains) + weight ≤ n)
    (λ is. omega arith) (λ is. takes-no best grains weight load is room)

-- it looks only at loads up to its own
pub takes-same : (f g : ℕ → ℕ) (grains weight load : ℕ) → ((l : ℕ) → l ≤ load → f l ≡ g l) → takes f grains weight load ≡ takes g grains weight load
takes-same f g grains weight load same =
    ap (λ (n : ℕ). cond (ltb load grains) false (ltb n (f (load - grains) + weight))) (same load (omega arith)) ∙
    ap (λ (n : ℕ). cond (ltb load grains) false (ltb (g load) (n + weight))) (same (load - grains) (omega arith))

pub best_with-same : (f g : ℕ → ℕ) (grains weight load : ℕ) → ((l : ℕ) → l ≤ load → f l ≡ g l) → best_with f grains weight load ≡ best_with g grains weight load
best_with-same f g grains weight load same =
    ap (λ (b : Bool). cond b (f (load - grains) + weight) (f load)) (takes-same f g grains weight load same) ∙
    ap (λ (n : ℕ). cond (takes g grains weight load) (n + weight) (f load)) (same (load - grains) (omega arith)) ∙
    ap (λ (n : ℕ). cond (takes g grains weight load) (g (load - grains) + weight) n) (same load (omega arith))

-- the last place of a set
sum_over-yes : (n : ℕ) (set : ℕ → Bool) (f : ℕ → ℕ) → set n ≡ true → sum_over (suc n) set f ≡ f n + sum_over n set f
sum_over-yes n set f is = ap (λ (b : Bool). cond b (f n) 0 + sum_over n set f) is

sum_over-no : (n : ℕ) (set : ℕ → Bool) (f : ℕ → ℕ) → set n ≡ false → sum_over (suc n) set f ≡ sum_over n set f
sum_over-no n set f is = let none : cond (set n) (f n) 0 ≡ 0 = ap (λ (b : Bool). cond b (f n) 0) is in omega (arith, none)

-- sets that agree below a bound
sum_over-same : (n : ℕ) (s t : ℕ → Bool) (f : ℕ → ℕ) → ((k : ℕ) → k < n → s k ≡ t k) → sum_over n s f ≡ sum_over n t f
sum_over-same n s t f same = sum_below-same n (λ k. cond (s k) (f k) 0) (λ k. cond (t k) (f k) 0) (λ k h. ap (λ (b : Bool). cond b (f k) 0) (same k h))

-- one place more than those below it
list_has-last : (places : List ℕ) (n : ℕ) → list_has (places ++ n ∷ []) n ≡ true
list_has-last places n = list_has-append places (n ∷ []) n ∙ or_right (list_has places n) (list_has (n ∷ []) n) (list_has-first n [])

list_has-below : (places : List ℕ) (n k : ℕ) → k < n → list_has (places ++ n ∷ []) k ≡ list_has places k
list_has-below places n k below =
    list_has-append places (n ∷ []) k ∙
    ap (λ (b : Bool). list_has places k || (b || false)) (ne_eqb n k (λ e. omega arith)) ∙ or-false (list_has places k)

list_has-none : (places : List ℕ) (n : ℕ) → All (λ place. place < n) places → list_has places n ≡ false
list_has-none places n all = list_any_none (λ place. nat_eq place n) places (All-weaker (λ place. place < n) (λ place. nat_eq place n ≡ false) (λ place h. ne_eqb place n (λ e. omega arith)) places all)

-- the grains and the weight of the item at a place
abbrev grains_at : List Item → (grain place : ℕ) → ℕ
grains_at items grain place = (item_at items place).size / grain

abbrev weight_at : List Item → ℕ → ℕ
weight_at items place = (item_at items place).weight

-- no set of at most so many grains weighs more
pub best_weight-most : (items : List Item) (grain n : ℕ) (set : ℕ → Bool) (load : ℕ) → sum_over n set (grains_at items grain) ≤ load →
    sum_over n set (weight_at items) ≤ best_weight items grain n load
best_weight-most items grain zero set load fits = omega arith
best_weight-most items grain (suc n) set load fits =
    ⊎_elim
    (λ (is : set n ≡ true).
    let grains : sum_over (suc n) set (grains_at items grain) ≡ grains_at items grain n + sum_over n set (grains_at items grain) = sum_over-yes n set (grains_at items grain) is in
    let weight : sum_over (suc n) set (weight_at items) ≡ weight_at items n + sum_over n set (weight_at items) = sum_over-yes n set (weight_at items) is in
    let rest : sum_over n set (weight_at items) ≤ best_weight items grain n (load - grains_at items grain n) =
    best_weight-most items grain n set (load - grains_at items grain n) (omega (arith, fits, grains)) in
    omega (arith, weight, rest, best_with-item (best_weight items grain n) (grains_at items grain n) (weight_at items n) load (omega (arith, fits, grains))))
    (λ (is : set n ≡ false).
    let grains : sum_over (suc n) set (grains_at items grain) ≡ sum_over n set (grains_at items grain) = sum_over-no n set (grains_at items grain) is in
    let weight : sum_over (suc n) set (weight_at items) ≡ sum_over n set (weight_at items) = sum_over-no n set (weight_at items) is in
    let rest : sum_over n set (weight_at items) ≤ best_weight items grain n load = best_weight-most items grain n set load (omega (arith, fits, grains)) in
    omega (arith, weight, rest, best_with-without (best_weight items grain n) (grains_at items grain n) (weight_at items n) load))
    (cases_Bool (set n))

-- places below a count that ascend, have at most so many grains, and weigh the most
pub record IsBest (items : List Item) (grain count load : ℕ) (places : List ℕ) : Type 0 where
  pub inside : All (λ place. place < count) places
  pub ascend : AllPairs (λ earlier later. earlier < later) places
  pub fits : sum_over count (list_has places) (grains_at items grain) ≤ load
  pub weighs : sum_over count (list_has places) (weight_at items) ≡ best_weight items grain count load

-- the sum over places with the last one
sum_over-last : (n : ℕ) (places : List ℕ) (f : ℕ → ℕ) → sum_over (suc n) (list_has (places ++ n ∷ [])) f ≡ f n + sum_over n (list_has places) f
sum_over-last n places f =
    sum_over-yes n (list_has (places ++ n ∷ [])) f (list_has-last places n) ∙
    ap (λ (m : ℕ). f n + m) (sum_over-same n (list_has (places ++ n ∷ [])) (list_has places) f (λ k below. list_has-below places n k below))

-- with an item that is taken, and without it
best-taken : (items : List Item) (grain n load : ℕ) (places : List ℕ) → takes_place items grain n load ≡ true →
    IsBest items grain n (load - grains_at items grain n) places → IsBest items grain (suc n) load (places ++ n ∷ [])
best-taken items grain n load places is best =
    let gains = takes-yes (best_weight items grain n) (grains_at items grain n) (weight_at items n) load is in
    record {
      inside = All-push (λ place. place < suc n) places n (All-weaker (λ place. place < n) (λ place. place < suc n) (λ place h. omega arith) places best.inside) (omega arith);
      ascend = all_pairs_push (λ earlier later. earlier < later) places n best.ascend (λ k d h. best.inside k d h);
      fits = omega (arith, sum_over-last n places (grains_at items grain), best.fits, gains.0);
      weighs =
          sum_over-last n places (weight_at items)
          ∙ (let e : weight_at items n + sum_over n (list_has places) (weight_at items) ≡ best_weight items grain n (load - grains_at items grain n) + weight_at items n = omega (arith, best.weighs) in e)
          ∙ sym (cond-true (takes_place items grain n load) (best_weight items grain n (load - grains_at items grain n) + weight_at items n) (best_weight items grain n load) is);
    }

best-left : (items : List Item) (grain n load : ℕ) (places : List ℕ) → takes_place items grain n load ≡ false →
    IsBest items grain n load places → IsBest items grain (suc n) load places
best-left items grain n load places is best =
    let none : list_has places n ≡ false = list_has-none places n best.inside in
    record {
      inside = All-weaker (λ place. place < n) (λ place. place < suc n) (λ place h. omega arith) places best.inside;
      ascend = best.ascend;
      fits = omega (arith, sum_over-no n (list_has places) (grains_at items grain) none, best.fits);
      weighs =
          sum_over-no n (list_has places) (weight_at items) none ∙ best.weighs
          ∙ sym (cond-false (takes_place items grain n load) (best_weight items grain n (load - grains_at items grain n) + weight_at items n) (best_weight items grain n load) is);
    }

-- the best places are so
pub best_places-best : (items : List Item) (grain count load : ℕ) → IsBest items grain count load (best_places items grain count load)
best_places-best items grain zero load = record {
  inside = All-nil (λ place. place < 0);
  ascend = AllPairs-nil (λ earlier later. earlier < later);
  fits = omega arith;
  weighs = refl;
}
best_places-best items grain (suc n) load =
    ⊎_elim
    (λ (is : takes_place items grain n load ≡ true).
    subst (λ (places : List ℕ). IsBest items grain (suc n) load places)
    (sym (cond-true (takes_place items grain n load) (best_places items grain n (load - grains_at items grain n) ++ n ∷ []) (best_places items grain n load) is))
    (best-taken items grain n load (best_places items grain n (load - grains_at items grain n)) is (best_places-best items grain n (load - grains_at items grain n))))
    (λ (is : takes_place items grain n load ≡ false).
    subst (λ (places : List ℕ). IsBest items grain (suc n) load places)
    (sym (cond-false (takes_place items grain n load) (best_places items grain n (load - grains_at items grain n) ++ n ∷ []) (best_places items grain n load) is))
    (best-left items grain n load (best_places items grain n load) is (best_places-best items grain n load)))
    (cases_Bool (takes_place items grain n load))

-- a best weight and the next item's are no more than all items weigh
pub best_weight-room : (items : List Item) (grain n load : ℕ) → n < length items → best_weight items grain n load + weight_at items n ≤ total_weight items
best_weight-room items grain n load below =
    let best : IsBest items grain n load (best_places items grain n load) = best_places-best items grain n load in
    omega (
      arith,
      best.weighs,
      sum_over-le n (list_has (best_places items grain n load)) (weight_at items) (weight_at items) (λ k. omega arith),
      sum_below-room (length items) n (weight_at items) below,
      sum_below-places (λ (item : Item). item.weight) no_item items,
    )
