use Rattle.std.proofs.Common.{ℕ, ◌<◌, false, length, slice_index_or, arith}
use Rattle.fp_prices_gifts.specs.declared.gifts.Gift.{Gift}
use Rattle.fp_prices_gifts.proofs.TruckSums.{least-more, least-part, least-within}
use Rattle.fp_prices_gifts.proofs.truck_sums.least_given.Goals as goal

pub overflow_add-sum : goal.overflow_add-sum
overflow_add-sum c =
    let none : Gift = record { arc = 0; point = 0; until = 0; least = false; amount = 0 } in
    let i : ℕ = c.loop-gift.gift-index in
    let gift : Gift = slice_index_or c.args.gifts.now i none in
    let inside : i < length c.args.gifts.now = omega arith in
    omega (arith, c.least_of-sum.ensures, least-part gift c.args.class, least-more c.args.gifts.now c.args.class i none inside, c.loop-gift.invariant, c.requires)

pub returns-clause-light : goal.returns-clause-light
returns-clause-light c = omega (arith, least-within c.args.gifts.now c.args.class c.loop-gift.gift-index, c.loop-gift.invariant, c.requires)
