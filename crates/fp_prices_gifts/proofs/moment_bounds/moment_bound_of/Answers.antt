use Rattle.std.proofs.Common.{ℕ, List, ap, ◌∙◌}
use Rattle.std.specs.Prelude.{None, Some}
use Rattle.fp_flatnet.specs.Tables.{windows_in}
use Rattle.fp_timenodes.specs.Points.{points_at}
use Rattle.fp_prices.specs.declared.values.bounds.LeafBound.{LeafBound}
use Rattle.fp_prices.specs.declared.values.bounds.LeafBound.TheVariants.{Empty, Value}
use Rattle.fp_prices.proofs.LeafBounds.{leaf-is}
use Rattle.fp_prices_gifts.proofs.MomentBounds.{found-as_of, none-over, tells-as_of, value-paid, value-unpaid}
use Rattle.fp_prices_gifts.proofs.moment_bounds.moment_bound_of.Goals as goal

pub returns-then-pay-clause-exact : goal.returns-then-pay-clause-exact
returns-then-pay-clause-exact c =
    let p = c.args.instance.now in
    let own : ℕ → List ℕ = λ terminal. points_at c.args.points.now terminal c.args.price.round in
    let table = c.in_ok-narrower.narrower in
    let under = c.in_ok-narrower.ensures.rows in
    let is = leaf-is p table c.args.sides.now c.in_ok-network.network c.in_ok-leaf.leaf c.in_ok-network.ensures.instance c.in_ok-leaf.ensures.setting c.in_ok-leaf.ensures.sides in
    let found = found-as_of p c.requires.fits.valid table c.args.points.now c.args.price.round c.in_ok-network.network.network c.in_ok-network.ensures.network c.args.sides.now c.args.tables.now c.args.spans.now c.args.gifts.now
    c.requires.gifts c.args.price.kind c.args.price.forced c.in_ok-leaf.leaf is c.in_ok-value.field-0 (Some (Value c.in-Some-Value.value)) (c.in-Some-Value.is ∙ ap (λ (b : LeafBound). Some b) c.in-Some-Value.field-0-is) c.in_ok-value.ensures.exact in
    let tells = tells-as_of p c.requires.fits.valid table c.args.points.now c.args.price.round c.in_ok-network.network.network c.in_ok-network.ensures.network c.args.sides.now c.args.spans.now c.args.price.forced
    c.in_ok-leaf.leaf is c.charged_pay.result c.charged_pay.ensures in
    value-paid p (windows_in c.args.windows.now) own c.args.sides.now table under c.args.tables.now c.args.spans.now c.args.gifts.now c.args.price.kind c.args.price.forced c.in-Some-Value.value found
    c.charged_pay.result c.in_ok-pay-in-Some-Value.pay c.in_ok-pay-in-Some-Value.was tells c.if-pay.true

pub returns-in-Some-Value-clause-exact : goal.returns-in-Some-Value-clause-exact
returns-in-Some-Value-clause-exact c =
    let p = c.args.instance.now in
    let own : ℕ → List ℕ = λ terminal. points_at c.args.points.now terminal c.args.price.round in
    let table = c.in_ok-narrower.narrower in
    let under = c.in_ok-narrower.ensures.rows in
    let is = leaf-is p table c.args.sides.now c.in_ok-network.network c.in_ok-leaf.leaf c.in_ok-network.ensures.instance c.in_ok-leaf.ensures.setting c.in_ok-leaf.ensures.sides in
    let found = found-as_of p c.requires.fits.valid table c.args.points.now c.args.price.round c.in_ok-network.network.network c.in_ok-network.ensures.network c.args.sides.now c.args.tables.now c.args.spans.now c.args.gifts.now
    c.requires.gifts c.args.price.kind c.args.price.forced c.in_ok-leaf.leaf is c.in_ok-value.field-0 (Some (Value c.in-Some-Value.value)) (c.in-Some-Value.is ∙ ap (λ (b : LeafBound). Some b) c.in-Some-Value.field-0-is) c.in_ok-value.ensures.exact in
    let tells = tells-as_of p c.requires.fits.valid table c.args.points.now c.args.price.round c.in_ok-network.network.network c.in_ok-network.ensures.network c.args.sides.now c.args.spans.now c.args.price.forced
    c.in_ok-leaf.leaf is c.charged_pay.result c.charged_pay.ensures in
    value-unpaid p (windows_in c.args.windows.now) own c.args.sides.now table under c.args.tables.now c.args.spans.now c.args.gifts.now c.args.price.kind c.args.price.forced c.in-Some-Value.value found
    c.charged_pay.result c.in_ok-pay-in-Some-Value.pay c.in_ok-pay-in-Some-Value.was tells c.if-pay.false

pub returns-in-Some-Empty-clause-exact : goal.returns-in-Some-Empty-clause-exact
returns-in-Some-Empty-clause-exact c =
    let p = c.args.instance.now in
    let own : ℕ → List ℕ = λ terminal. points_at c.args.points.now terminal c.args.price.round in
    let table = c.in_ok-narrower.narrower in
    let under = c.in_ok-narrower.ensures.rows in
    let is = leaf-is p table c.args.sides.now c.in_ok-network.network c.in_ok-leaf.leaf c.in_ok-network.ensures.instance c.in_ok-leaf.ensures.setting c.in_ok-leaf.ensures.sides in
    let found = found-as_of p c.requires.fits.valid table c.args.points.now c.args.price.round c.in_ok-network.network.network c.in_ok-network.ensures.network c.args.sides.now c.args.tables.now c.args.spans.now c.args.gifts.now
    c.requires.gifts c.args.price.kind c.args.price.forced c.in_ok-leaf.leaf is c.in_ok-value.field-0 (Some (Empty c.in-Some-Empty.shipment)) (c.in-Some-Empty.is ∙ ap (λ (b : LeafBound). Some b) c.in-Some-Empty.field-0-is) c.in_ok-value.ensures.exact in
    record { narrower = table; under = under; first = found }

pub returns-clause-exact : goal.returns-clause-exact
returns-clause-exact c =
    let p = c.args.instance.now in
    let own : ℕ → List ℕ = λ terminal. points_at c.args.points.now terminal c.args.price.round in
    let table = c.in_ok-narrower.narrower in
    let under = c.in_ok-narrower.ensures.rows in
    let is = leaf-is p table c.args.sides.now c.in_ok-network.network c.in_ok-leaf.leaf c.in_ok-network.ensures.instance c.in_ok-leaf.ensures.setting c.in_ok-leaf.ensures.sides in
    let found = found-as_of p c.requires.fits.valid table c.args.points.now c.args.price.round c.in_ok-network.network.network c.in_ok-network.ensures.network c.args.sides.now c.args.tables.now c.args.spans.now c.args.gifts.now
    c.requires.gifts c.args.price.kind c.args.price.forced c.in_ok-leaf.leaf is c.in_ok-value.field-0 None c.in-None.is c.in_ok-value.ensures.exact in
    none-over p (windows_in c.args.windows.now) own c.args.sides.now table under c.args.tables.now c.args.spans.now c.args.gifts.now c.args.price.kind c.args.price.forced found
