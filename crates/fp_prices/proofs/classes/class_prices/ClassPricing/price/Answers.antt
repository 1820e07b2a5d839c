use Rattle.std.proofs.Common.{◌≡◌, true, false, sym, ap, ◌∙◌, arith}
use Rattle.std.proofs.lemmas.Bool.{cond-true, cond-false}
use Rattle.fp_model.specs.declared.parts.Leg.{Leg}
use Rattle.fp_model.specs.Costs.{all_legs, has_leg}
use Rattle.fp_longestarcs.proofs.ClassNumbers.{number-within}
use Rattle.fp_allowed.specs.Bits.{bit_of}
use Rattle.fp_allowed.specs.Listing.{class_at}
use Rattle.fp_allowed.proofs.ListedClasses.{class_at-number}
use Rattle.fp_prices.specs.Leaves.{leaf_price}
use Rattle.fp_prices.specs.Prices.{truck_price}
use Rattle.fp_prices.proofs.PricedClasses.{bit-read}
use Rattle.fp_prices.proofs.classes.class_prices.ClassPricing.price.Goals as goal

pub get-requires : goal.get-requires
get-requires c =
    let priced = c.requires.priced in
    omega (
      arith,
      c.requires.number,
      number-within c.args.self.now.network.now (record { arc = c.args.arc; depart = c.args.point }) priced.is.whole.valid c.requires.class,
      priced.is.forced.long,
    )

pub returns-then-get : goal.returns-then-get
returns-then-get c = λ tables allowed kind chains is.
    let pricing = c.args.self.now in
    let net = pricing.network.now in
    let here : Leg = record { arc = c.args.arc; depart = c.args.point } in
    let at : class_at net c.args.class ≡ here = ap (class_at net) c.requires.number ∙ class_at-number net here is.whole.valid c.requires.class in
    let told : has_leg here (all_legs chains) ≡ true =
    sym (is.forced.exact here c.requires.class) ∙ ap (bit_of pricing.forced.row) (sym c.requires.number) ∙ bit-read pricing.forced.row c.args.class c.get.result c.get.ensures ∙ c.if-get.true in
    sym (cond-true (has_leg here (all_legs chains)) 0 (truck_price pricing.instance.now tables allowed kind here c.args.shipment c.args.size) told)
    ∙ ap (leaf_price pricing.instance.now tables allowed kind chains c.args.shipment c.args.size) (sym at)

pub returns : goal.returns
returns c = λ tables allowed kind chains is.
    let pricing = c.args.self.now in
    let p = pricing.instance.now in
    let net = pricing.network.now in
    let here : Leg = record { arc = c.args.arc; depart = c.args.point } in
    let at : class_at net c.args.class ≡ here = ap (class_at net) c.requires.number ∙ class_at-number net here is.whole.valid c.requires.class in
    let told : has_leg here (all_legs chains) ≡ false =
    sym (is.forced.exact here c.requires.class) ∙ ap (bit_of pricing.forced.row) (sym c.requires.number) ∙ bit-read pricing.forced.row c.args.class c.get.result c.get.ensures ∙ c.if-get.false in
    c.truck_price.ensures tables allowed kind chains is
    ∙ sym (cond-false (has_leg here (all_legs chains)) 0 (truck_price p tables allowed kind here c.args.shipment c.args.size) told)
    ∙ ap (leaf_price p tables allowed kind chains c.args.shipment c.args.size) (sym at)
