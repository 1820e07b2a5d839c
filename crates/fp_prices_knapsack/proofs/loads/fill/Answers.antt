use Rattle.std.proofs.Common.{◌≡◌, ℕ, ◌+◌, ◌++◌, Bool, List, length, take, drop, sym, ap, ◌∙◌, subst, arith, rules}
use Rattle.std.specs.Prelude.{◌/◌}
use Rattle.std.proofs.lemmas.List.{take_at}
use Rattle.fp_prices_knapsack.specs.declared.items.Item.{Item}
use Rattle.fp_prices_knapsack.specs.Sets.{item_at}
use Rattle.fp_prices_knapsack.specs.Loads.{AreBest, AreTaken}
use Rattle.fp_prices_knapsack.proofs.BestWeights.{best_weight-room}
use Rattle.fp_prices_knapsack.proofs.TakenRows.{AreBest-more, AreTaken-more, row-written}
use Rattle.fp_prices_knapsack.proofs.loads.fill.Goals as goal

pub add_item-requires-clause-room : goal.add_item-requires-clause-room
add_item-requires-clause-room c =
    rw c.deref_mut.ensures.value (λ load h.
    omega (arith, c.loop-item.invariant.best.are load h, best_weight-room c.args.items.now c.args.grain c.loop-item.item-index load c.loop-item-test.true, c.requires.small))

pub loop-item-preserved : goal.loop-item-preserved
loop-item-preserved c =
    let items : List Item = c.args.items.now in
    let i : ℕ = c.loop-item.item-index in
    let old : List ℕ = c.loop-item.best.items in
    let rows : List Bool = c.loop-item.taken.items in
    let loads : ℕ = c.total_size.result / c.args.grain + 1 in
    let new : List ℕ = c.add_item.new.best in
    let row : List Bool = c.add_item.new.taken in
    let grains : c.from.result / c.args.grain ≡ (item_at items i).size / c.args.grain = ap (λ (n : ℕ). n / c.args.grain) c.from.ensures in
    let len : length new ≡ length old = search rules in
    let made = rw c.deref_mut.ensures.value at c.add_item.ensures.best in
    let told = rw c.deref_mut.ensures.value at c.add_item.ensures.taken in
    let whole : take c.loop-item.best.len (new ++ drop (length new) old) ≡ new = take_at new _ _ (search rules) in
    let loads_is : length old ≡ loads = c.loop-item.invariant.best.len ∙ ap (λ (n : ℕ). n / c.args.grain + 1) (sym c.total_size.ensures) in
    let start_is : c.len-start.result ≡ length rows = search rules in
    let row_len : length row ≡ loads = search rules in
    let written =
    row-written rows row c.deref_mut-in-loop-item.result.now c.resize-in-loop-item.new.self.items c.len-start.result loads c.resize-in-loop-item.new.self.len c.loop-item.taken.len
    start_is c.loop-item.taken.ok.0 c.in_ok-resize-2.ensures.items c.deref_mut-in-loop-item.ensures.value row_len c.resize-in-loop-item.new.self.ok.0 in
    record {
      best = subst (λ (l : List ℕ). AreBest items c.args.grain (i + 1) l) (sym whole) (AreBest-more items c.args.grain i _ old new c.loop-item.invariant.best len grains made);
      taken = subst (λ (l : List Bool). AreTaken items c.args.grain (i + 1) loads l) (sym written)
          (AreTaken-more items c.args.grain i _ loads old rows row c.loop-item.invariant.best loads_is c.loop-item.invariant.taken row_len grains told);
    }
