-- The best places, read back from the last one.
use Rattle.std.proofs.Common.{◌≡◌, ℕ, suc, ◌-◌, ◌<◌, true, false, List, [], ◌∷◌, ◌++◌, reverse, sym, ap, ◌∙◌, arith}
use Rattle.std.specs.Prelude.{◌/◌}
use Rattle.std.proofs.lemmas.Bool.{cond-true, cond-false}
use Rattle.std.proofs.lemmas.List.{append_assoc, reverse-append}
use Rattle.fp_prices_knapsack.specs.declared.items.Item.{Item}
use Rattle.fp_prices_knapsack.specs.Sets.{item_at}
use Rattle.fp_prices_knapsack.specs.Loads.{takes_place, best_places}

-- the last item is taken
pub best_places-taken : (items : List Item) (grain count left grains : ℕ) (later : List ℕ) → 0 < count → grains ≡ (item_at items (count - 1)).size / grain →
    takes_place items grain (count - 1) left ≡ true →
    best_places items grain count left ++ reverse later ≡ best_places items grain (count - 1) (left - grains) ++ reverse (later ++ (count - 1) ∷ [])
best_places-taken items grain count left grains later some grains_is is =
    let place : ℕ = count - 1 in
    let next : count ≡ suc place = omega arith in
    let own : ℕ = (item_at items place).size / grain in
    ap (λ (n : ℕ). best_places items grain n left ++ reverse later) next
    ∙ ap (λ (places : List ℕ). places ++ reverse later)
    (cond-true (takes_place items grain place left) (best_places items grain place (left - own) ++ place ∷ []) (best_places items grain place left) is)
    ∙ append_assoc (best_places items grain place (left - own)) (place ∷ []) (reverse later)
    ∙ ap (λ (g : ℕ). best_places items grain place (left - g) ++ (place ∷ [] ++ reverse later)) (sym grains_is)
    ∙ ap (λ (places : List ℕ). best_places items grain place (left - grains) ++ places) (sym (reverse-append later (place ∷ [])))

-- it isn't
pub best_places-left : (items : List Item) (grain count left : ℕ) → 0 < count → takes_place items grain (count - 1) left ≡ false →
    best_places items grain count left ≡ best_places items grain (count - 1) left
best_places-left items grain count left some is =
    let place : ℕ = count - 1 in
    let next : count ≡ suc place = omega arith in
    ap (λ (n : ℕ). best_places items grain n left) next
    ∙ cond-false (takes_place items grain place left) (best_places items grain place (left - (item_at items place).size / grain) ++ place ∷ []) (best_places items grain place left) is
