use Rattle.std.proofs.Common.{◌≡◌, ℕ, ◌<◌, Bool, true, false, List, length, ⊎_elim, refl, sym, ap, ◌∙◌, subst, arith}
use Rattle.std.specs.Prelude.{Some, slice_get}
use Rattle.std.proofs.lemmas.Bool.{both_ways, cases_eq, false≢true}
use Rattle.fp_model.specs.declared.parts.Shipment.{Shipment}
use Rattle.fp_model.specs.Problem.{Problem}
use Rattle.fp_longestarcs.specs.Networks.{IsNetwork, class_count}
use Rattle.fp_allowed.specs.Bits.{IsRowUnder, bit_of}
use Rattle.fp_allowed.specs.Listing.{class_at}
use Rattle.fp_prices.specs.LeafPricings.{allowed_at}
use Rattle.fp_prices.specs.Rounds.{LeafModel}
use Rattle.fp_prices.proofs.NumberedClasses.{number-class}
use Rattle.fp_prices.proofs.PricedClasses.{bit-read}
use Rattle.fp_prices_spans.specs.SpanCosts.{IsUsable}
use Rattle.fp_prices_spans.proofs.values.leaf_charges.is_usable.Goals as goal

-- what is read of a shipment's row tells whether the class is allowed for it
row-read : (leaf : LeafModel) (k class : ℕ) (row : List Bool) (b : Bool) → IsNetwork leaf.setting.network → class < class_count leaf.setting.network → IsRowUnder leaf.setting leaf.sides k row → slice_get row class ≡ Some b →
    allowed_at leaf k (class_at leaf.setting.network class) ≡ b
row-read leaf k class row b valid within under read =
    let number = number-class leaf.setting.network class valid within in
    sym (under.exact (class_at leaf.setting.network class) number.0) ∙ ap (bit_of row) number.1 ∙ bit-read row class b read

pub loop-shipment-init : goal.loop-shipment-init
loop-shipment-init c k below = absurd (omega (arith, below))

pub returns-then-get : goal.returns-then-get
returns-then-get c =
    let all : length c.shipments.result.now ≡ length c.args.leaf.now.setting.problem.shipments =
    ap (λ (l : List Shipment). length l) (c.shipments.ensures.same ∙ ap (λ (p : Problem). p.shipments) (c.instance.ensures.same ∙ c.round.ensures.problem)) in (
      λ _. record {
        shipment = c.loop-shipment.shipment;
        exists = omega (arith, all);
        allows = row-read c.args.leaf.now c.loop-shipment.shipment c.args.class c.row.result.now true c.requires.network c.requires.class c.row.ensures c.if-get.ensures;
      },
      λ _. refl,
    )

pub loop-shipment-preserved : goal.loop-shipment-preserved
loop-shipment-preserved c k below =
    ⊎_elim
    (λ (last : k ≡ c.loop-shipment.shipment).
    subst (λ (j : ℕ). allowed_at c.args.leaf.now j (class_at c.args.leaf.now.setting.network c.args.class) ≡ false) (sym last)
    (row-read c.args.leaf.now c.loop-shipment.shipment c.args.class c.row.result.now false c.requires.network c.requires.class c.row.ensures c.if-get.ensures))
    (λ (other : k ≡ c.loop-shipment.shipment → ⊥). c.loop-shipment.invariant k (let less : k < c.loop-shipment.shipment = omega (arith, below, other) in less))
    (cases_eq k c.loop-shipment.shipment)

pub returns : goal.returns
returns c = (
  λ no. absurd (false≢true no),
  λ (is : IsUsable c.args.leaf.now (class_at c.args.leaf.now.setting.network c.args.class)).
      let all : length c.shipments.result.now ≡ length c.args.leaf.now.setting.problem.shipments =
      ap (λ (l : List Shipment). length l) (c.shipments.ensures.same ∙ ap (λ (p : Problem). p.shipments) (c.instance.ensures.same ∙ c.round.ensures.problem)) in
      absurd (both_ways (allowed_at c.args.leaf.now is.shipment (class_at c.args.leaf.now.setting.network c.args.class)) (c.loop-shipment.invariant is.shipment (omega (arith, is.exists, all))) is.allows),
)
