use Rattle.std.proofs.Common.{◌≡◌, ℕ, ◌≤◌, ◌<◌, List, sym, ap, ◌∙◌, subst}
use Rattle.std.specs.Prelude.{◌/◌, sum}
use Rattle.std.specs.Int.{div_ceil}
use Rattle.fp_prices_knapsack.specs.declared.grains.TheConstants.{MOST_GRAINS}
use Rattle.fp_prices_knapsack.specs.Sets.{sizes_of}
use Rattle.fp_prices_knapsack.specs.Grains.{common_divisor}
use Rattle.fp_prices_knapsack.proofs.GrainLimits.{grain_of-divisor, grain_of-quotient}
use Rattle.fp_prices_knapsack.proofs.grains.grain.Goals as goal

pub returns-then-total-divisor-le-MOST_GRAINS-clause-same : goal.returns-then-total-divisor-le-MOST_GRAINS-clause-same
returns-then-total-divisor-le-MOST_GRAINS-clause-same c =
    let sizes : List ℕ = sizes_of c.args.items.now in
    let divisor_is : c.divisor_of_all-divisor.result ≡ common_divisor c.args.capacity sizes = c.divisor_of_all-divisor.ensures.same in
    let few : sum sizes / common_divisor c.args.capacity sizes ≤ MOST_GRAINS =
    subst (λ (d : ℕ). sum sizes / d ≤ MOST_GRAINS) divisor_is
    (subst (λ (total : ℕ). total / c.divisor_of_all-divisor.result ≤ MOST_GRAINS) c.total_size-total.ensures c.if-total-divisor-le-MOST_GRAINS.true) in
    divisor_is ∙ sym (grain_of-divisor c.args.capacity sizes few)

pub returns-else-total-divisor-le-MOST_GRAINS-clause-same : goal.returns-else-total-divisor-le-MOST_GRAINS-clause-same
returns-else-total-divisor-le-MOST_GRAINS-clause-same c =
    let sizes : List ℕ = sizes_of c.args.items.now in
    let divisor_is : c.divisor_of_all-divisor.result ≡ common_divisor c.args.capacity sizes = c.divisor_of_all-divisor.ensures.same in
    let many : MOST_GRAINS < sum sizes / common_divisor c.args.capacity sizes =
    subst (λ (d : ℕ). MOST_GRAINS < sum sizes / d) divisor_is
    (subst (λ (total : ℕ). MOST_GRAINS < total / c.divisor_of_all-divisor.result) c.total_size-total.ensures c.if-total-divisor-le-MOST_GRAINS.false) in
    c.div_ceil.ensures ∙ ap (λ (total : ℕ). div_ceil total MOST_GRAINS) c.total_size-total.ensures ∙ sym (grain_of-quotient c.args.capacity sizes many)
