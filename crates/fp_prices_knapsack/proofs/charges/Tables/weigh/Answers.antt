use Rattle.std.proofs.Common.{◌≡◌, ℕ, ◌*◌, ◌^◌, ◌<◌, List, length, subst, arith}
use Rattle.fp_prices_knapsack.specs.declared.items.Item.{Item}
use Rattle.fp_prices_knapsack.specs.Sets.{sizes_of}
use Rattle.fp_prices_knapsack.specs.Grains.{grain_of}
use Rattle.fp_prices_knapsack.specs.Charges.{trucks_for, total_weight}
use Rattle.fp_prices_knapsack.specs.Loads.{AreBest, AreTaken, IsExcess}
use Rattle.fp_prices_knapsack.proofs.LeastCharges.{IsLeastCharge-none, IsLeastCharge-excess, IsDearest-places}
use Rattle.fp_prices_knapsack.proofs.charges.Tables.weigh.Goals as goal

pub returns-then-weight-money-clause-least : goal.returns-then-weight-money-clause-least
returns-then-weight-money-clause-least c =
    let small : total_weight c.args.items.now < 2 ^ 128 = omega (arith, c.in-Some.ensures) in
    IsLeastCharge-none c.args.items.now c.args.capacity c.args.money small (omega (arith, c.in-Some.ensures, c.if-weight-money.true))

-- the tables in the grain of the items
are_best : (items : List Item) (capacity grain : ℕ) (best : List ℕ) → grain ≡ grain_of capacity (sizes_of items) → AreBest items grain (length items) best →
    AreBest items (grain_of capacity (sizes_of items)) (length items) best
are_best items capacity grain best same are = subst (λ (g : ℕ). AreBest items g (length items) best) same are

is_excess : (items : List Item) (capacity money grain : ℕ) (best slice : List ℕ) (amount load : ℕ) → grain ≡ grain_of capacity (sizes_of items) → slice ≡ best →
    IsExcess slice (λ l. money * trucks_for capacity (grain * l)) amount load →
    IsExcess best (λ l. money * trucks_for capacity (grain_of capacity (sizes_of items) * l)) amount load
is_excess items capacity money grain best slice amount load same slice_is is =
    subst (λ (g : ℕ). IsExcess best (λ l. money * trucks_for capacity (g * l)) amount load) same
    (subst (λ (b : List ℕ). IsExcess b (λ l. money * trucks_for capacity (grain * l)) amount load) slice_is is)

pub returns-clause-least : goal.returns-clause-least
returns-clause-least c =
    let items : List Item = c.args.items.now in
    let grain_is = c.grain-grain.ensures.same in
    let some : 0 < grain_of c.args.capacity (sizes_of items) = subst (λ (g : ℕ). 0 < g) grain_is c.grain-grain.ensures.some in
    let small : total_weight items < 2 ^ 128 = omega (arith, c.in-Some.ensures) in
    IsLeastCharge-excess items c.args.capacity c.args.money c.fill.new.best.items c.greatest_excess.result.amount c.greatest_excess.result.load some small
    (are_best items c.args.capacity c.grain-grain.result c.fill.new.best.items grain_is c.in_ok-fill.ensures.best)
    (is_excess items c.args.capacity c.args.money c.grain-grain.result c.fill.new.best.items c.deref.result.now c.greatest_excess.result.amount c.greatest_excess.result.load
    grain_is c.deref.ensures.value c.greatest_excess.ensures)

pub returns-clause-dearest : goal.returns-clause-dearest
returns-clause-dearest c = λ positive.
    (let items : List Item = c.args.items.now in
    let grain_is = c.grain-grain.ensures.same in
    let some : 0 < grain_of c.args.capacity (sizes_of items) = subst (λ (g : ℕ). 0 < g) grain_is c.grain-grain.ensures.some in
    let small : total_weight items < 2 ^ 128 = omega (arith, c.in-Some.ensures) in
    let reached = c.greatest_excess.ensures.attained positive in
    record {
      inside = omega (arith, reached.0, c.deref.ensures.len);
      are = subst (λ (g : ℕ). AreTaken items g (length items) c.fill.new.best.len c.fill.new.taken.items) grain_is c.in_ok-fill.ensures.taken;
      dearest =
          IsDearest-places items c.args.capacity c.args.money c.fill.new.best.items c.greatest_excess.result.amount c.greatest_excess.result.load some small
          (are_best items c.args.capacity c.grain-grain.result c.fill.new.best.items grain_is c.in_ok-fill.ensures.best)
          (is_excess items c.args.capacity c.args.money c.grain-grain.result c.fill.new.best.items c.deref.result.now c.greatest_excess.result.amount c.greatest_excess.result.load
          grain_is c.deref.ensures.value c.greatest_excess.ensures) positive;
    })
