use Rattle.std.proofs.Common.{◌≡◌, ℕ, ◌<◌, true, false, length, get_or, sym, ap, ◌∙◌, arith}
use Rattle.std.proofs.lemmas.List.{get_or_read}
use Rattle.fp_model.specs.declared.parts.Arc.{Arc}
use Rattle.fp_model.specs.declared.parts.Leg.{Leg}
use Rattle.fp_model.specs.Numbered.{shipment_at}
use Rattle.fp_model.specs.Problem.{arc_at, no_arc}
use Rattle.fp_longestarcs.specs.Networks.{IsClass}
use Rattle.fp_longestarcs.proofs.ClassNumbers.{number-within}
use Rattle.fp_longestarcs.proofs.HeadLists.{arc-count}
use Rattle.fp_allowed.specs.Allowed.{IsOnly}
use Rattle.fp_allowed.specs.Bits.{row_allows}
use Rattle.fp_allowed.specs.Chains.{NoneLeaves, SeveralLeave}
use Rattle.fp_allowed.specs.Listing.{class_at}
use Rattle.fp_allowed.proofs.ForcedSteps.{chain_alone, chain_met, chain_more, chain_reached, chain_several}
use Rattle.fp_allowed.proofs.ListedClasses.{class_at-number}
use Rattle.fp_allowed.proofs.RowClasses.{is_class_parts}
use Rattle.fp_allowed.proofs.forced_chains.forced_chain.Goals as goal

pub returns-then-index : goal.returns-then-index
returns-then-index c =
    let p = c.args.instance.now in
    let so_far = c.loop-here.invariant.0 in
    let away = λ (at : c.loop-here.here ≡ (shipment_at p c.args.shipment).to). c.loop-here-test.true (at ∙ sym c.loop-here.invariant.1) in
    let inside : c.loop-here.here < length c.loop-here.met.items = omega (arith, so_far.place, so_far.long) in
    let was : get_or c.loop-here.met.items c.loop-here.here false ≡ true = sym (get_or_read c.loop-here.met.items c.loop-here.here c.index.result.now inside c.index.ensures false) ∙ c.if-index.true in
    chain_met p c.args.network.now (row_allows c.args.network.now c.args.row.now) (shipment_at p c.args.shipment) c.loop-here.classes.items c.loop-here.met.items c.loop-here.here so_far away was

pub returns-in-Nothing : goal.returns-in-Nothing
returns-in-Nothing c =
    let p = c.args.instance.now in
    let away = λ (at : c.loop-here.here ≡ (shipment_at p c.args.shipment).to). c.loop-here-test.true (at ∙ sym c.loop-here.invariant.1) in
    let none : NoneLeaves p (row_allows c.args.network.now c.args.row.now) c.loop-here.here = λ k is leaves. c.in-Nothing.ensures k (record { allowed_it = is; leaves = leaves }) in
    chain_alone p c.args.network.now (row_allows c.args.network.now c.args.row.now) (shipment_at p c.args.shipment) c.loop-here.classes.items c.loop-here.met.items c.loop-here.here
    c.loop-here.invariant.0 away none

pub returns-in-Several : goal.returns-in-Several
returns-in-Several c =
    let p = c.args.instance.now in
    let so_far = c.loop-here.invariant.0 in
    let away = λ (at : c.loop-here.here ≡ (shipment_at p c.args.shipment).to). c.loop-here-test.true (at ∙ sym c.loop-here.invariant.1) in
    let inside : c.loop-here.here < length c.loop-here.met.items = omega (arith, so_far.place, so_far.long) in
    let unmet : get_or c.loop-here.met.items c.loop-here.here false ≡ false = sym (get_or_read c.loop-here.met.items c.loop-here.here c.index.result.now inside c.index.ensures false) ∙ c.if-index.false in
    let tells = c.in-Several.ensures in
    let several : SeveralLeave p (row_allows c.args.network.now c.args.row.now) c.loop-here.here = record {
      one = tells.0;
      two = tells.1;
      one_allowed = tells.2.allowed_it;
      two_allowed = tells.3.allowed_it;
      one_leaves = tells.2.leaves;
      two_leaves = tells.3.leaves;
      differ = tells.4;
    } in
    chain_several p c.args.network.now (row_allows c.args.network.now c.args.row.now) (shipment_at p c.args.shipment) c.loop-here.classes.items c.loop-here.met.items c.loop-here.here so_far away unmet several

pub loop-here-preserved : goal.loop-here-preserved
loop-here-preserved c =
    let p = c.args.instance.now in
    let net = c.args.network.now in
    let allowed = row_allows net c.args.row.now in
    let so_far = c.loop-here.invariant.0 in
    let away = λ (at : c.loop-here.here ≡ (shipment_at p c.args.shipment).to). c.loop-here-test.true (at ∙ sym c.loop-here.invariant.1) in
    let inside : c.loop-here.here < length c.loop-here.met.items = omega (arith, so_far.place, so_far.long) in
    let unmet : get_or c.loop-here.met.items c.loop-here.here false ≡ false = sym (get_or_read c.loop-here.met.items c.loop-here.here c.index.result.now inside c.index.ensures false) ∙ c.if-index.false in
    let tells = c.in-One.ensures in
    let k : Leg = tells.0 in
    let is : IsClass net k = (is_class_parts net c.args.row.now k tells.1.allowed_it).0 in
    let only : IsOnly p allowed c.loop-here.here k = record {
      is_allowed = tells.1.allowed_it;
      leaves = tells.1.leaves;
      alone = λ other h leaves. tells.4 other (record { allowed_it = h; leaves = leaves });
    } in
    let exists : k.arc < length p.arcs = omega (arith, is.0, arc-count p net c.requires.whole.arcs) in
    let to_is : c.arc-here.result.to ≡ (arc_at p k.arc).to = ap (λ (a : Arc). a.to) c.arc-here.ensures.same ∙ ap (λ (a : ℕ). (arc_at p a).to) (sym tells.3) in
    let to_place : c.arc-here.result.to < length p.terminals = omega (arith, to_is, (c.arc-here.ensures.valid.parts.arcs k.arc no_arc exists).to) in (
      rw c.in_ok-push-in-One.ensures.items
          (chain_more p net allowed (shipment_at p c.args.shipment) c.loop-here.classes.items c.loop-here.met.items c.loop-here.here c.in-One.class c.arc-here.result.to k so_far away unmet only
          (ap (class_at net) (sym tells.2) ∙ class_at-number net k c.requires.whole.valid is) (omega (arith, tells.2, number-within net k c.requires.whole.valid is)) to_is to_place),
      c.loop-here.invariant.1,
    )

pub returns : goal.returns
returns c =
    let p = c.args.instance.now in
    chain_reached p c.args.network.now (row_allows c.args.network.now c.args.row.now) (shipment_at p c.args.shipment) c.loop-here.classes.items c.loop-here.met.items c.loop-here.here
    c.loop-here.invariant.0 (c.loop-here-test.false ∙ c.loop-here.invariant.1)
