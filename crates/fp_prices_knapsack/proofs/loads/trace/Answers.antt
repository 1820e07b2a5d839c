use Rattle.std.proofs.Common.{◌≡◌, ℕ, ◌-◌, ◌++◌, List, true, false, reverse, sym, ap, ◌∙◌, arith}
use Rattle.std.specs.Prelude.{◌/◌}
use Rattle.fp_prices_knapsack.specs.declared.items.Item.{Item}
use Rattle.fp_prices_knapsack.specs.Sets.{item_at}
use Rattle.fp_prices_knapsack.specs.Loads.{takes_place}
use Rattle.fp_prices_knapsack.proofs.BestPlaces.{best_places-taken, best_places-left}
use Rattle.fp_prices_knapsack.proofs.loads.trace.Goals as goal

pub loop-place-preserved-then-taken-place : goal.loop-place-preserved-then-taken-place
loop-place-preserved-then-taken-place c =
    let items : List Item = c.args.items.now in
    let l = c.loop-place in
    let is : takes_place items c.args.grain (l.place - 1) l.left ≡ true = sym (c.requires.are.are (l.place - 1) l.left (omega arith) l.invariant.within) ∙ c.if-taken-place.true in
    let grains : c.from.result / c.args.grain ≡ (item_at items (l.place - 1)).size / c.args.grain = ap (λ (n : ℕ). n / c.args.grain) c.from.ensures in
    let traced = l.invariant.traced ∙ best_places-taken items c.args.grain l.place l.left (c.from.result / c.args.grain) l.places.items c.loop-place-test.true grains is in
    record { traced = rw c.in_ok-push.ensures.items traced; within = omega (arith, l.invariant.within) }

pub loop-place-preserved : goal.loop-place-preserved
loop-place-preserved c =
    let items : List Item = c.args.items.now in
    let l = c.loop-place in
    let is : takes_place items c.args.grain (l.place - 1) l.left ≡ false = sym (c.requires.are.are (l.place - 1) l.left (omega arith) l.invariant.within) ∙ c.if-taken-place.false in
    record {
      traced = l.invariant.traced ∙ ap (λ (places : List ℕ). places ++ reverse l.places.items) (best_places-left items c.args.grain l.place l.left c.loop-place-test.true is);
      within = l.invariant.within;
    }
