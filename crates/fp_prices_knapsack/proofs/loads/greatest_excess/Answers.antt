use Rattle.std.proofs.Common.{◌≡◌, ℕ, ◌+◌, ◌-◌, ◌*◌, ◌<◌, ◌^◌, List, slice_index, take, sym, ap, subst, arith}
use Rattle.fp_prices_knapsack.specs.Charges.{trucks_for}
use Rattle.fp_prices_knapsack.specs.Loads.{IsExcess}
use Rattle.fp_prices_knapsack.proofs.Excesses.{IsExcess-kept, IsExcess-more}
use Rattle.fp_prices_knapsack.specs.declared.loads.Excess.{Excess}
use Rattle.fp_prices_knapsack.proofs.loads.greatest_excess.Goals as goal
use Rattle.fp_prices_knapsack.proofs.loads.greatest_excess.Goals.{then-most-amount, else-most-amount}

pub loop-load-preserved : goal.loop-load-preserved
loop-load-preserved c =
    let best : List ℕ = c.args.best.now in
    let load : ℕ = c.loop-load.load in
    let paid : ℕ → ℕ = λ l. c.args.money * trucks_for c.args.capacity (c.args.grain * l) in
    let paid_is : c.args.money * c.fewest_trucks-trucks.result ≡ paid load = ap (λ (n : ℕ). c.args.money * n) c.fewest_trucks-trucks.ensures in
    let small : slice_index best load < 2 ^ 128 = (c.type_inv.best load).fits in
    let excess : c.saturating_sub-amount.result ≡ slice_index best load - paid load = omega (arith, c.saturating_sub-amount.ensures, c.saturating_mul.ensures, paid_is, small) in
    let inside = c.loop-load-test.true in
    let before = c.loop-load.invariant in
    elim c.if-most-amount.branch [
      | then-most-amount w ↦
          subst (λ (e : Excess). IsExcess (take (load + 1) best) paid e.amount e.load) (sym w.most-is)
          (subst (λ (amount : ℕ). IsExcess (take (load + 1) best) paid amount load) (sym excess)
          (IsExcess-more best paid _ _ load inside before (omega (arith, w.if-most-amount.true, excess))))
      | else-most-amount w ↦
          subst (λ (e : Excess). IsExcess (take (load + 1) best) paid e.amount e.load) (sym w.most-is)
          (IsExcess-kept best paid _ _ load inside before (omega (arith, w.if-most-amount.false, excess)))
    ]
