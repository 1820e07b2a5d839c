use Rattle.std.proofs.Common.{◌≡◌, ◌*◌, ◌+◌, ◌-◌, ◌<◌, false, length, drop, slice_index_or, sym, ◌∙◌, arith}
use Rattle.std.specs.Prelude.{None}
use Rattle.fp_longestarcs.specs.Networks.{points_in}
use Rattle.fp_prices_gifts.specs.declared.gifts.Gift.{Gift}
use Rattle.fp_prices_gifts.specs.GiftNumbers.{gift_number}
use Rattle.fp_prices_gifts.proofs.GivenSums.{IsGivenFrom, given-least, given-most, number-all, total-within}
use Rattle.fp_prices_gifts.proofs.values.gift_totals.Goals as goal

abbrev none : Gift
none = record { arc = 0; point = 0; until = 0; least = false; amount = 0 }

pub returns-in_err-gift_number-clause-exact : goal.returns-in_err-gift_number-clause-exact
returns-in_err-gift_number-clause-exact c =
    let inside : c.loop-place.place - 1 < length c.args.gifts.now = omega arith in
    let told : gift_number c.args.sides.now (slice_index_or c.args.gifts.now (c.loop-place.place - 1) none) ≡ None = sym c.gift_number.ensures.exact ∙ c.in_err-gift_number.was in
    rw c.from_residual.ensures (λ least most totals. number-all c.args.instance.now (points_in c.args.network.now) c.args.sides.now c.args.gifts.now least most (c.loop-place.place - 1) none inside totals told)

pub overflow_add-least : goal.overflow_add-least
overflow_add-least c =
    let now : IsGivenFrom c.args.instance.now (points_in c.args.network.now) c.args.sides.now (drop (c.loop-place.place - 1) c.args.gifts.now) (c.loop-place.least + (slice_index_or c.args.gifts.now (c.loop-place.place - 1) none).amount * c.from.result) c.loop-place.most =
    given-least c.args.instance.now (points_in c.args.network.now) c.args.sides.now c.args.gifts.now c.loop-place.place none (omega arith) (omega arith) c.loop-place.least c.loop-place.most
    c.in_ok-gift_number.field-0 c.from.result (c.ends_at_points.ensures.0 c.if-not-ends_at_points.false) (sym c.gift_number.ensures.exact ∙ c.in_ok-gift_number.was) c.in_ok-gift_number.ensures.small
    c.from.ensures c.loop-place.invariant c.if-gift.true in
    omega (arith, now.small, total-within c.args.instance.now (points_in c.args.network.now) c.args.sides.now c.args.gifts.now c.loop-place.place none (omega arith) (omega arith), c.requires.light)

pub loop-place-preserved-then-gift : goal.loop-place-preserved-then-gift
loop-place-preserved-then-gift c =
    given-least c.args.instance.now (points_in c.args.network.now) c.args.sides.now c.args.gifts.now c.loop-place.place none (omega arith) (omega arith) c.loop-place.least c.loop-place.most
    c.in_ok-gift_number.field-0 c.from.result (c.ends_at_points.ensures.0 c.if-not-ends_at_points.false) (sym c.gift_number.ensures.exact ∙ c.in_ok-gift_number.was) c.in_ok-gift_number.ensures.small
    c.from.ensures c.loop-place.invariant c.if-gift.true

pub overflow_add-most : goal.overflow_add-most
overflow_add-most c =
    let now : IsGivenFrom c.args.instance.now (points_in c.args.network.now) c.args.sides.now (drop (c.loop-place.place - 1) c.args.gifts.now) c.loop-place.least (c.loop-place.most + (slice_index_or c.args.gifts.now (c.loop-place.place - 1) none).amount * c.from.result) =
    given-most c.args.instance.now (points_in c.args.network.now) c.args.sides.now c.args.gifts.now c.loop-place.place none (omega arith) (omega arith) c.loop-place.least c.loop-place.most
    c.in_ok-gift_number.field-0 c.from.result (c.ends_at_points.ensures.0 c.if-not-ends_at_points.false) (sym c.gift_number.ensures.exact ∙ c.in_ok-gift_number.was) c.in_ok-gift_number.ensures.small
    c.from.ensures c.loop-place.invariant c.if-gift.false in
    omega (arith, now.small, total-within c.args.instance.now (points_in c.args.network.now) c.args.sides.now c.args.gifts.now c.loop-place.place none (omega arith) (omega arith), c.requires.light)

pub loop-place-preserved : goal.loop-place-preserved
loop-place-preserved c =
    given-most c.args.instance.now (points_in c.args.network.now) c.args.sides.now c.args.gifts.now c.loop-place.place none (omega arith) (omega arith) c.loop-place.least c.loop-place.most
    c.in_ok-gift_number.field-0 c.from.result (c.ends_at_points.ensures.0 c.if-not-ends_at_points.false) (sym c.gift_number.ensures.exact ∙ c.in_ok-gift_number.was) c.in_ok-gift_number.ensures.small
    c.from.ensures c.loop-place.invariant c.if-gift.false
