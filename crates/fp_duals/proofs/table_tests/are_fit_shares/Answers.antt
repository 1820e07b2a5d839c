use Rattle.std.proofs.Common.{◌<◌, ◌≤◌, subst, arith}
use Rattle.std.specs.Prelude.{All, AllPairs}
use Rattle.std.proofs.lemmas.List.{take_all}
use Rattle.std.proofs.lemmas.List.Elements.{All-more}
use Rattle.fp_model.specs.declared.limits.TheConstants.{LATEST}
use Rattle.fp_prices.specs.declared.tables.Weight.{Weight}
use Rattle.fp_prices.specs.Shares.{ClassShare}
use Rattle.fp_duals.specs.PriceTables.{IsShareOf}
use Rattle.fp_duals.proofs.table_tests.are_fit_shares.Goals as goal

abbrev IsEarly : ClassShare → Type 0
IsEarly s = s.point ≤ LATEST

abbrev IsSorted : ClassShare → Type 0
IsSorted s = AllPairs (λ (v w : Weight). v.shipment < w.shipment) s.weights

pub loop-share-preserved : goal.loop-share-preserved
loop-share-preserved c =
    let shares = c.args.shares.now in
    let at = c.loop-share.share-index in
    let share = c.share-item.result in
    record {
      of = All-more (IsShareOf c.args.instance.now) shares at share (omega arith) c.loop-share.invariant.of (subst (IsShareOf c.args.instance.now) c.share-item.is c.if-not-is_fit_share.ensures.of);
      points = All-more IsEarly shares at share (omega arith) c.loop-share.invariant.points (subst IsEarly c.share-item.is c.if-not-is_fit_share.ensures.point);
      weights = All-more IsSorted shares at share (omega arith) c.loop-share.invariant.weights (subst IsSorted c.share-item.is c.if-not-is_fit_share.ensures.weights);
    }

pub returns-clause-of : goal.returns-clause-of
returns-clause-of c = subst (All (IsShareOf c.args.instance.now)) (take_all c.loop-share.share-index c.args.shares.now (omega arith)) c.loop-share.invariant.of

pub returns-clause-points : goal.returns-clause-points
returns-clause-points c = subst (All IsEarly) (take_all c.loop-share.share-index c.args.shares.now (omega arith)) c.loop-share.invariant.points

pub returns-clause-weights : goal.returns-clause-weights
returns-clause-weights c = subst (All IsSorted) (take_all c.loop-share.share-index c.args.shares.now (omega arith)) c.loop-share.invariant.weights
